use Rattle.std.proofs.Common.{◌≡◌, ℕ, true, Option, Some, None, IfSome, option_map, subst, sym}
use Rattle.std.proofs.{Common.length, Common.leb-true, lemmas.List.length-map}
use Rattle.std.specs.Prelude.{nat_lt}
use Rattle.tariffs.proofs.ApartLemmas.{find-all}
use Rattle.tariffs.specs.{Fares.has_number, declared.validators.RangeRest.RangeRest}
use Rattle.tariffs.proofs.tariff.Tariff.mode_of.Goals as goal

rest-below : (count : ℕ) (range : Option (ℕ × RangeRest))
    → IfSome range (λ r. nat_lt r.1.mode count ≡ true)
    → IfSome (option_map (λ (r : ℕ × RangeRest). r.1) range) (λ rest. nat_lt rest.mode count ≡ true)
rest-below count None below = tt
rest-below count (Some range) below = below

pub returns-clause-within : goal.returns-clause-within
returns-clause-within c =
    let parts = c.self.inside.parts in
    let count = length parts.modes.items in
    let P : Option RangeRest → Type 0 = λ o. IfSome o (λ rest. nat_lt rest.mode count ≡ true) in
    let ranges = c.self.inside.parts.ranges in
    let below : nat_lt c.in_ok-rest.rest.mode count ≡ true =
    subst P (sym c.in_ok-rest.ensures)
    (rest-below count _ (find-all (λ range. nat_lt range.1.mode count)
    (has_number c.args.validator) ranges c.self.invariant.known)) in
    rw (← c.self.view_is, length-map) (leb-true _ _ below)
