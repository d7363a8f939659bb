-- The line has the number and the reason of the tap's entry.
use Rattle.std.proofs.Common.{ℕ, ◌+◌, [], ◌∷◌, ◌++◌, ap, subst, ◌∙◌}
use Rattle.fare_caps.specs.declared.capped_reason.CappedReason.{CappedReason}
use Rattle.tap_views.specs.declared.token.Token.{Token}
use Rattle.histories.specs.declared.entry.Entry.{Entry}
use Rattle.fare_texts.specs.LedgerLines.{IsLedgerLine, IsLedgerLineAfter, reason_after}
use Rattle.fare_texts.specs.Explainers.{HasExplained}
use Rattle.fare_texts.proofs.explainer.Explainer.write_posted.Goals as goal

pub returns-clause-line : goal.returns-clause-line
returns-clause-line c = λ earlier explained.
    let fares = c.args.table.now in
    let token = c.args.self.now.token in
    let posted = c.post_next-posted.result in
    let next = c.post_next-posted.ensures in
    let line = c.in_ok-write_line_by.ensures in
    let why = reason_after fares token earlier posted.0 in (
      line.0,
      subst (λ (e : Entry). IsLedgerLineAfter fares token earlier e line.0)
          (next.entry earlier explained)
          (subst (λ (n : ℕ). IsLedgerLine fares token n posted.0 why line.0)
          (next.number ∙ ap (λ n. n + 1) explained.counted)
          (subst (λ (t : Token). IsLedgerLine fares t c.post_next-posted.new.self.number posted.0
          why line.0)
          next.token
          (subst (λ (w : CappedReason). IsLedgerLine fares c.post_next-posted.new.self.token
          c.post_next-posted.new.self.number posted.0 w line.0) (next.reason earlier explained)
          line.1))),
      line.2,
    )

pub returns-clause-explained : goal.returns-clause-explained
returns-clause-explained c = λ earlier explained.
    subst (λ (e : Entry). HasExplained c.args.table.now c.post_next-posted.new.self
    (earlier ++ e ∷ []))
    (c.post_next-posted.ensures.entry earlier explained)
    (c.post_next-posted.ensures.explained earlier explained)

pub write_line_by-requires : goal.write_line_by-requires
write_line_by-requires c =
    let earlier = c.requires.explained.0 in
    (c.post_next-posted.ensures.explained earlier c.requires.explained.1).digits
