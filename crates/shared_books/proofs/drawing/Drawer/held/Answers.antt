use Rattle.std.proofs.Common.{◌≤◌, subst}
use Rattle.shared_books.specs.Drawing.{DrawerView, NoneTwice, AllBelow}
use Rattle.shared_books.proofs.drawing.Drawer.held.Goals as goal

pub returns-clause-distinct : goal.returns-clause-distinct
returns-clause-distinct c =
    subst (λ (d : DrawerView). NoneTwice d.drawn) c.self.view_is c.self.invariant.none_twice

pub returns-clause-below : goal.returns-clause-below
returns-clause-below c =
    subst (λ (d : DrawerView). AllBelow d.seen d.drawn × (d.seen ≤ d.drawn_from.numbers))
    c.self.view_is (c.self.invariant.below, c.self.invariant.within)
