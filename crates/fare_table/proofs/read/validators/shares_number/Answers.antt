use Rattle.std.proofs.Common.{◌≡◌, ◌∙◌, ℕ, false, Option, Some, None, option_map, refl, sym}
use Rattle.fare_table.proofs.OverlapLemmas.{reaches, shares-last_started}
use Rattle.std.specs.Prelude.{nat_le}
use Rattle.tariffs.specs.{Validators.last_started, declared.validators.RangeRest.RangeRest}
use Rattle.fare_table.proofs.read.validators.shares_number.Goals as goal

reaches-Some : (first last : ℕ) (range : Option (ℕ × RangeRest))
    → Some last ≡ option_map (λ r. r.1.last) range → nat_le first last ≡ reaches first range
reaches-Some first last None found = cc
reaches-Some first last (Some range) found = let same : last ≡ range.1.last = cc in rw same

reaches-None : (first : ℕ) (range : Option (ℕ × RangeRest))
    → None ≡ option_map (λ (r : ℕ × RangeRest). r.1.last) range → false ≡ reaches first range
reaches-None first None found = refl
reaches-None first (Some range) found = cc

pub returns-in-Some : goal.returns-in-Some
returns-in-Some c =
    reaches-Some c.args.first c.in-Some.last
    (last_started c.args.rest.last c.args.ranges.now.entries)
    c.in-Some.ensures
    ∙ sym (shares-last_started (c.args.first, c.args.rest) c.args.ranges.now.entries
    c.requires.order
    c.requires.apart)

pub returns-in-None : goal.returns-in-None
returns-in-None c =
    reaches-None c.args.first (last_started c.args.rest.last c.args.ranges.now.entries)
    c.in-None.ensures
    ∙ sym (shares-last_started (c.args.first, c.args.rest) c.args.ranges.now.entries
    c.requires.order
    c.requires.apart)
