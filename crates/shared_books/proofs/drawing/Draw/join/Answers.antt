use Rattle.std.proofs.Common.{◌≡◌, ◌<◌, ◌+◌, ◌++◌, ap, sym, ◌∙◌, subst, arith}
use Rattle.shared_books.proofs.{DrawSteps.meets, DrawSteps.looks, Held.held_few, Held.held_met}
use Rattle.shared_books.specs.Drawing.{DrawerView, NoneTwice}
use Rattle.shared_books.proofs.drawing.Draw.join.Goals as goal

pub join_seat-requires : goal.join_seat-requires
join_seat-requires c =
    let home : c.drawer.inside.seat.table_id ≡ c.self.inside.table.shared.table_id =
    ap (λ d. d.drawn_from.home) c.drawer.view_is
    ∙ (ap (λ d. d.home) c.requires.belongs ∙ sym (ap (λ d. d.home) c.self.view_is)) in
    let other : c.other.inside.seat.table_id ≡ c.self.inside.table.shared.table_id =
    ap (λ d. d.drawn_from.home) c.other.view_is
    ∙ (ap (λ d. d.home) c.requires.other ∙ sym (ap (λ d. d.home) c.self.view_is)) in
    let word : 0 < c.self.inside.table.shared.table_id.words =
    omega (arith, c.self.invariant.1) in (
      home,
      other,
      c.other.invariant.carries,
      word,
      meets _ _ _ _ _ c.drawer.invariant.unjoined c.other.invariant.unjoined,
    )

pub load-requires : goal.load-requires
load-requires c =
    let home : c.drawer.inside.seat.table_id ≡ c.self.inside.table.shared.table_id =
    ap (λ d. d.drawn_from.home) c.drawer.view_is
    ∙ (ap (λ d. d.home) c.requires.belongs ∙ sym (ap (λ d. d.home) c.self.view_is)) in
    let word : 0 < c.self.inside.table.shared.table_id.words =
    omega (arith, c.self.invariant.1) in (
      c.join_seat.ensures.0
          ∙ home,
      word,
      looks _ _ _ _ (ap (λ m. m.0.unjoined) c.join_seat.ensures.2),
    )

pub overflow_add-held : goal.overflow_add-held
overflow_add-held c =
    let h = held_met _ _ _ _ _ _ _ _ _ _ c.drawer.invariant c.other.invariant c.join_seat.ensures.2
    c.load.ensures.2 in
    let f = held_few _ _ _ h in
    omega arith

pub invariant_of-drawer : goal.invariant_of-drawer
invariant_of-drawer c =
    held_met _ _ _ _ _ _ _ _ _ _ c.drawer.invariant c.other.invariant c.join_seat.ensures.2
    c.load.ensures.2

pub returns : goal.returns
returns c =
    let looked = c.load.ensures.2 in
    let met = c.join_seat.ensures.2 in
    let numbers : c.load.new.seat.me.0.numbers ≡ c.drawer.inside.seat.me.0.numbers =
    ap (λ v. v.numbers) looked.seen ∙ ap (λ m. m.0.numbers) met in
    let home : c.load.new.seat.table_id ≡ c.drawer.inside.seat.table_id =
    c.load.ensures.0 ∙ c.join_seat.ensures.0 in
    record {
      met = record {
        drawn_from = (λ k. record { home = home k; numbers = numbers k })
            ∙ ap (λ d. d.drawn_from) c.drawer.view_is;
        claims = ap (λ v. v.claims) looked.seen
            ∙ (ap (λ m. m.0.claims) met
            ∙ (ap (λ (d : DrawerView). d.claims + c.other.inside.seat.me.0.claims) c.drawer.view_is
            ∙ ap (λ (d : DrawerView). c.args.drawer.now.claims + d.claims) c.other.view_is));
        drawn = ap (λ v. v.drawn) looked.seen
            ∙ (ap (λ m. m.0.drawn) met
            ∙ (ap (λ (d : DrawerView). d.drawn ++ c.other.inside.seat.me.0.drawn) c.drawer.view_is
            ∙ ap (λ (d : DrawerView). c.args.drawer.now.drawn ++ d.drawn) c.other.view_is));
        apart = subst (λ xs. NoneTwice xs) (ap (λ v. v.drawn) (sym looked.seen)) looked.none_twice;
        later = (let a = ap (λ (d : DrawerView). d.seen) c.drawer.view_is in let b =
            ap (λ m. m.0.seen) met in let l = looked.later in let s =
            ap (λ v. v.seen) looked.seen in omega arith);
        later_too =
            (let a = ap (λ (d : DrawerView). d.seen) c.other.view_is in let b =
            ap (λ m. m.0.seen) met in let l = looked.later in let s =
            ap (λ v. v.seen) looked.seen in omega arith);
      };
    }
