use Rattle.std.proofs.Common.{◌≡◌, ℕ, ◌==◌, Some, sym, ap, ◌∙◌, arith}
use Rattle.histories.specs.inside.Keys.{same_number}
use Rattle.std.specs.HashMap.{get}
use Rattle.histories.proofs.sums.validator_tallies.is_at.Goals as goal

pub returns-in-Some : goal.returns-in-Some
returns-in-Some c = λ is.
    let same : c.in-Some.there.now ≡ c.args.validator =
    same_number c.in-Some.there.now c.args.validator (grind arith) in (
      c.in-Some.field-0-1.now,
      sym c.in-Some.ensures.entry ∙ ap (λ (key : ℕ). Some (key, c.in-Some.field-0-1.now)) same,
      ap (λ (key : ℕ). get ◌==◌ c.args.small.now key) (sym same) ∙ c.in-Some.ensures.value,
    )
