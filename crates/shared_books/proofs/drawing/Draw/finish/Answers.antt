use Rattle.std.proofs.Common.{◌≡◌, ◌<◌, ◌≤◌, length, subst, arith, lt_of_not-le}
use Rattle.shared_books.proofs.{DrawSteps.ends, Numbers.few, Numbers.full}
use Rattle.shared_books.specs.Claims.{all_claims}
use Rattle.shared_books.specs.Drawing.{DrawerView, HasAll, IsCount}
use Rattle.shared_books.proofs.drawing.Draw.finish.Goals as goal

pub returns-then-held-drawn-clause-err : goal.returns-then-held-drawn-clause-err
returns-then-held-drawn-clause-err c =
    let e = ends _ _ _ _ _ _ c.close_with-closed.ensures.values.2 c.word-drawn.ensures
    c.drawer.invariant.unjoined in
    let P : DrawerView → Type 0 =
    λ d. (c.drawer.inside.held ≡ length d.drawn) × (c.drawer.inside.held < c.word-drawn.result)
    × IsCount c.word-drawn.result d in
    subst P c.drawer.view_is (
      c.drawer.invariant.held_is,
      c.if-held-drawn.true,
      record { later = e.0; within = omega (arith, e.1, e.2); below = e.3 },
    )

pub returns-else-held-drawn-clause-ok : goal.returns-else-held-drawn-clause-ok
returns-else-held-drawn-clause-ok c =
    let e = ends _ _ _ _ _ _ c.close_with-closed.ensures.values.2 c.word-drawn.ensures
    c.drawer.invariant.unjoined in
    let h = c.drawer.invariant.held_is in
    let most : length c.drawer.inside.seat.me.0.drawn ≤ c.word-drawn.result = few _ _ e.3 e.4 in
    let P : DrawerView → Type 0 =
    λ d. HasAll c.word-drawn.result d.drawn × (c.word-drawn.result ≡ length d.drawn)
    × IsCount c.word-drawn.result d in
    let many : c.word-drawn.result ≤ length c.drawer.inside.seat.me.0.drawn =
    omega (arith, c.if-held-drawn.false) in
    subst P c.drawer.view_is (
      full _ _ e.3 e.4 many,
      omega (arith, c.if-held-drawn.false),
      record { later = e.0; within = omega (arith, e.1, e.2); below = e.3 },
    )

pub returns-then-held-drawn-clause-claims : goal.returns-then-held-drawn-clause-claims
returns-then-held-drawn-clause-claims c =
    let e = ends _ _ _ _ _ _ c.close_with-closed.ensures.values.2 c.word-drawn.ensures
    c.drawer.invariant.unjoined in
    let h = c.drawer.invariant.held_is in
    let few = c.if-held-drawn.true in
    subst (λ (d : DrawerView). d.claims < all_claims) c.drawer.view_is
    (lt_of_not-le (λ whole. let many = e.6 whole in absurd (omega arith)))
