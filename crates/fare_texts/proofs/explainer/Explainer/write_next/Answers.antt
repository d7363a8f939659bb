-- The line has the number and the reason of the next entry.
use Rattle.std.proofs.Common.{ℕ, ◌+◌, ap, subst, ◌∙◌}
use Rattle.fare_caps.specs.declared.capped_reason.CappedReason.{CappedReason}
use Rattle.tap_views.specs.declared.token.Token.{Token}
use Rattle.fare_texts.specs.LedgerLines.{IsLedgerLine, reason_after}
use Rattle.fare_texts.proofs.explainer.Explainer.write_next.Goals as goal

pub returns-clause-line : goal.returns-clause-line
returns-clause-line c = λ earlier explained.
    let fares = c.args.table.now in
    let token = c.args.self.now.token in
    let entry = c.args.entry.now in
    let next = c.in_ok-reason.ensures in
    let line = c.in_ok-write_line.ensures in
    let why = reason_after fares token earlier entry in (
      line.0,
      subst (λ (n : ℕ). IsLedgerLine fares token n entry why line.0)
          (next.number ∙ ap (λ n. n + 1) explained.counted)
          (subst (λ (t : Token). IsLedgerLine fares t c.explain_next.new.self.number entry why
          line.0)
          next.token
          (subst (λ (w : CappedReason). IsLedgerLine fares c.explain_next.new.self.token
          c.explain_next.new.self.number entry w line.0) (next.reason earlier explained) line.1)),
      line.2,
    )
