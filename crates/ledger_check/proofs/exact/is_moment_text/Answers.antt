use Rattle.std.proofs.Common.{◌≡◌, ◌++◌, ◌∙◌, ℕ, List, sym, ap, subst}
use Rattle.fare_texts.specs.Moments.{IsMomentText}
use Rattle.ledger_check.proofs.SameLines.{moment_same}
use Rattle.ledger_check.proofs.exact.is_moment_text.Goals as goal

pub returns : goal.returns
returns c =
    let written = c.in_ok-write_moment.ensures in
    let again : c.as_bytes.result.now ≡ written.0 =
    c.as_bytes.ensures.value ∙ written.2
    ∙ ap (λ (t : List ℕ). t ++ written.0) c.clear.ensures.bytes in (
      λ same. subst (IsMomentText c.args.moment) (sym again ∙ c.same_bytes.ensures.0 same)
          written.1,
      λ is. c.same_bytes.ensures.1
          (again ∙ moment_same c.args.moment written.0 c.args.text.now written.1 is),
    )
