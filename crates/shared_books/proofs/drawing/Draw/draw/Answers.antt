use Rattle.std.proofs.Common.{◌≡◌, ◌<◌, ◌≤◌, ◌+◌, ◌++◌, ◌∷◌, [], ap, sym, ◌∙◌, arith}
use Rattle.shared_books.proofs.{DrawSteps.draws, Held.held_few, Held.held_won, Held.held_lost}
use Rattle.shared_books.specs.{Drawing.Drawing, inside.DrawerStates.drawer_state}
use Rattle.shared_books.proofs.drawing.Draw.draw.Goals as goal

pub compare_exchange-found-requires : goal.compare_exchange-found-requires
compare_exchange-found-requires c =
    let i = c.loop-drawer.invariant in
    let home : c.loop-drawer.drawer-inside.seat.table_id ≡ c.self.inside.table.shared.table_id =
    i.home ∙ (ap (λ d. d.home) c.requires.belongs ∙ sym (ap (λ d. d.home) c.self.view_is)) in
    let word : 0 < c.self.inside.table.shared.table_id.words = omega (arith, c.self.invariant.1) in
    let numbers : c.loop-drawer.drawer-inside.seat.me.0.numbers ≡ c.args.self.now.numbers =
    i.numbers ∙ ap (λ d. d.numbers) c.requires.belongs in
    let same : c.self.inside.numbers ≡ c.args.self.now.numbers =
    ap (λ (d : Drawing). d.numbers) c.self.view_is in (
      home,
      word,
      draws _ _ _ _ _ i.held.unjoined (sym i.held.seen_is)
          (omega (arith, c.loop-drawer-test.true)),
    )

pub overflow_add-held : goal.overflow_add-held
overflow_add-held c =
    let i = c.loop-drawer.invariant in
    let f = held_few _ _ _ i.held in
    let numbers : c.loop-drawer.drawer-inside.seat.me.0.numbers ≡ c.args.self.now.numbers =
    i.numbers ∙ ap (λ d. d.numbers) c.requires.belongs in
    let same : c.self.inside.numbers ≡ c.args.self.now.numbers =
    ap (λ (d : Drawing). d.numbers) c.self.view_is in
    omega (arith, c.loop-drawer-test.true)

pub invariant_of-drawer-then-found-number : goal.invariant_of-drawer-then-found-number
invariant_of-drawer-then-found-number c =
    let i = c.loop-drawer.invariant in
    let tried = c.compare_exchange-found.ensures.2 in
    let numbers : c.loop-drawer.drawer-inside.seat.me.0.numbers ≡ c.args.self.now.numbers =
    i.numbers ∙ ap (λ d. d.numbers) c.requires.belongs in
    let same : c.self.inside.numbers ≡ c.args.self.now.numbers =
    ap (λ (d : Drawing). d.numbers) c.self.view_is in
    let me = c.loop-drawer.drawer-inside.seat.me in
    let won : c.compare_exchange-found.new.seat.me.0
    ≡ drawer_state me.0.claims me.0.numbers (c.loop-drawer.drawer-inside.seen + 1)
    (me.0.drawn ++ c.loop-drawer.drawer-inside.seen ∷ []) =
    tried.won c.if-found-number.true
    ∙ ap (λ n. drawer_state me.0.claims me.0.numbers (n + 1) (me.0.drawn ++ n ∷ []))
    c.if-found-number.true in
    held_won _ _ me _ i.held (omega (arith, c.loop-drawer-test.true))
    (λ k. (won k, tried.carries k))

pub loop-drawer-preserved : goal.loop-drawer-preserved
loop-drawer-preserved c =
    let i = c.loop-drawer.invariant in
    let tried = c.compare_exchange-found.ensures.2 in
    let lost = tried.lost c.if-found-number.false in
    let later : c.loop-drawer.drawer-inside.seen ≤ c.compare_exchange-found.result =
    omega (arith, tried.later, i.held.seen_is) in
    record {
      held = held_lost _ _ _ _ _ i.held later tried.within (λ k. (lost k, tried.carries k));
      home = c.compare_exchange-found.ensures.0 ∙ i.home;
      claims = ap (λ v. v.claims) lost ∙ i.claims;
      numbers = ap (λ v. v.numbers) lost ∙ i.numbers;
      drawn = ap (λ v. v.drawn) lost ∙ i.drawn;
      later = omega (arith, i.later);
    }
