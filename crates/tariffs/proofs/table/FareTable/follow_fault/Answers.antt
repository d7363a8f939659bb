use Rattle.std.proofs.Common.{◌≡◌, ◌<◌, Bool, true, false, List, [], ◌∷◌, refl, sym, ◌∙◌, length}
use Rattle.std.proofs.Common.{map, ◌==◌, arith}
use Rattle.std.proofs.lemmas.Bool.{eqb-true, true≢false}
use Rattle.tariffs.proofs.DatedLemmas.{names-other, names-same, zones-same}
use Rattle.tariffs.specs.{Following.last_from, declared.table.DatedTariff.DatedTariff}
use Rattle.tariffs.specs.inside.Table.{dated_meaning, same_names, same_zone}
use Rattle.tariffs.proofs.table.FareTable.follow_fault.Goals as goal

-- a list of tariffs is empty exactly if that of what they say is
no_tariff : (later : List DatedTariff) (empty : Bool) → empty ≡ (length later == 0)
    → empty ≡ true → map dated_meaning later ≡ []
no_tariff [] empty is so = refl
no_tariff (one ∷ later) empty is so =
    let none = eqb-true (length (one ∷ later)) 0 (sym is ∙ so) in absurd (omega arith)

a_tariff : (later : List DatedTariff) (empty : Bool) → map dated_meaning later ≡ []
    → empty ≡ (length later == 0) → empty ≡ false → ⊥
a_tariff [] empty none is so = true≢false (sym is ∙ so)
a_tariff (one ∷ later) empty none is so = cc

pub returns-then-not-same_names-clause-fault : goal.returns-then-not-same_names-clause-fault
returns-then-not-same_names-clause-fault c =
    let date : last_from 0 c.args.self.now.later < c.args.from =
    rw (← c.self.view_is, ← c.deref.ensures.value, ← c.last_from.ensures) c.if-from-last_from.false
    in
    let zone : same_zone c.args.self.now.meaning.zone c.args.next.now.meaning.zone ≡ true =
    sym (rw (c.zone_text.ensures, c.zone_text-2.ensures) at c.same_zone.ensures)
    ∙ c.if-not-same_zone.false in
    let names : same_names c.args.self.now.meaning.modes c.args.next.now.meaning.modes ≡ false =
    sym (rw (c.mode_names.ensures.names, c.mode_names-2.ensures.names) at c.same_names.ensures)
    ∙ c.if-not-same_names.true in
    (date, zones-same _ _ zone, names-other _ _ names)

pub returns-then-not-same_names-2-clause-fault : goal.returns-then-not-same_names-2-clause-fault
returns-then-not-same_names-2-clause-fault c =
    let date : last_from 0 c.args.self.now.later < c.args.from =
    rw (← c.self.view_is, ← c.deref.ensures.value, ← c.last_from.ensures) c.if-from-last_from.false
    in
    let zone : same_zone c.args.self.now.meaning.zone c.args.next.now.meaning.zone ≡ true =
    sym (rw (c.zone_text.ensures, c.zone_text-2.ensures) at c.same_zone.ensures)
    ∙ c.if-not-same_zone.false in
    let names : same_names c.args.self.now.meaning.modes c.args.next.now.meaning.modes ≡ true =
    sym (rw (c.mode_names.ensures.names, c.mode_names-2.ensures.names) at c.same_names.ensures)
    ∙ c.if-not-same_names.false in
    let caps : same_names c.args.self.now.meaning.cap_names c.args.next.now.meaning.cap_names
    ≡ false =
    sym (rw (c.cap_names.ensures.names, c.cap_names-2.ensures.names) at c.same_names-2.ensures)
    ∙ c.if-not-same_names-2.true in
    (date, zones-same _ _ zone, names-same _ _ names, names-other _ _ caps)

pub returns-then-not-is_empty-clause-fault : goal.returns-then-not-is_empty-clause-fault
returns-then-not-is_empty-clause-fault c =
    let date : last_from 0 c.args.self.now.later < c.args.from =
    rw (← c.self.view_is, ← c.deref.ensures.value, ← c.last_from.ensures) c.if-from-last_from.false
    in
    let zone : same_zone c.args.self.now.meaning.zone c.args.next.now.meaning.zone ≡ true =
    sym (rw (c.zone_text.ensures, c.zone_text-2.ensures) at c.same_zone.ensures)
    ∙ c.if-not-same_zone.false in
    let names : same_names c.args.self.now.meaning.modes c.args.next.now.meaning.modes ≡ true =
    sym (rw (c.mode_names.ensures.names, c.mode_names-2.ensures.names) at c.same_names.ensures)
    ∙ c.if-not-same_names.false in
    let caps : same_names c.args.self.now.meaning.cap_names c.args.next.now.meaning.cap_names
    ≡ true =
    sym (rw (c.cap_names.ensures.names, c.cap_names-2.ensures.names) at c.same_names-2.ensures)
    ∙ c.if-not-same_names-2.false in (
      date,
      zones-same _ _ zone,
      names-same _ _ names,
      names-same _ _ caps,
      λ none. a_tariff c.next.inside.later.items
          c.is_empty.result (rw (← c.next.view_is) at none)
          (rw c.as_slice.ensures.value at c.is_empty.ensures) c.if-not-is_empty.true,
    )

pub returns-clause-none : goal.returns-clause-none
returns-clause-none c = λ _.
    let date : last_from 0 c.args.self.now.later < c.args.from =
    rw (← c.self.view_is, ← c.deref.ensures.value, ← c.last_from.ensures) c.if-from-last_from.false
    in
    let zone : same_zone c.args.self.now.meaning.zone c.args.next.now.meaning.zone ≡ true =
    sym (rw (c.zone_text.ensures, c.zone_text-2.ensures) at c.same_zone.ensures)
    ∙ c.if-not-same_zone.false in
    let names : same_names c.args.self.now.meaning.modes c.args.next.now.meaning.modes ≡ true =
    sym (rw (c.mode_names.ensures.names, c.mode_names-2.ensures.names) at c.same_names.ensures)
    ∙ c.if-not-same_names.false in
    let caps : same_names c.args.self.now.meaning.cap_names c.args.next.now.meaning.cap_names
    ≡ true =
    sym (rw (c.cap_names.ensures.names, c.cap_names-2.ensures.names) at c.same_names-2.ensures)
    ∙ c.if-not-same_names-2.false in
    record {
      date = date;
      zone = zones-same _ _ zone;
      modes = names-same _ _ names;
      caps = names-same _ _ caps;
      alone = rw (← c.next.view_is)
          (no_tariff c.next.inside.later.items c.is_empty.result
          (rw c.as_slice.ensures.value at c.is_empty.ensures)
          c.if-not-is_empty.false);
    }
