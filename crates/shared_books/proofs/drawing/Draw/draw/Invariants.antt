use Rattle.std.proofs.Common.{◌≡◌, ◌-◌, ◌≤◌}
use Rattle.shared_books.specs.inside.DrawerStates.{IsHeld}
use Rattle.shared_books.proofs.drawing.Draw.draw.Given as goal

abbrev pub invariant-loop-drawer : goal.invariant-loop-drawer
invariant-loop-drawer l = record {
  held : IsHeld l.drawer-inside.held l.drawer-inside.seen l.drawer-inside.seat.me;
  home : l.drawer-inside.seat.table_id ≡ l.fn.drawer.drawn_from.home;
  claims : l.drawer-inside.seat.me.0.claims ≡ l.fn.drawer.claims;
  numbers : l.drawer-inside.seat.me.0.numbers ≡ l.fn.drawer.drawn_from.numbers;
  drawn : l.drawer-inside.seat.me.0.drawn ≡ l.fn.drawer.drawn;
  later : l.fn.drawer.seen ≤ l.drawer-inside.seen;
}

abbrev pub decreases-loop-drawer : goal.decreases-loop-drawer
decreases-loop-drawer l = l.self.numbers - l.drawer-inside.seen
