use Rattle.std.proofs.Common.{◌≡◌, ℕ, ◌+◌, ◌++◌, List, length, sym, ap, subst, ◌∙◌, arith}
use Rattle.fare_caps.specs.declared.capped_reason.CappedReason.{CappedReason}
use Rattle.fare_texts.specs.Explainers.{next_entry}
use Rattle.fare_texts.specs.LedgerLines.{IsLedgerLine, reason_after}
use Rattle.histories.specs.{Entry.own, declared.entry.Entry.Entry}
use Rattle.ledger_check.proofs.{TokenOrder.own-few, WalkLemmas.holds_more}
use Rattle.tap_views.specs.declared.token.Token.{Token}
use Rattle.ledger_check.proofs.walk.write_next_tap.Goals as goal

pub post_next-reason-requires-clause-explained : goal.post_next-reason-requires-clause-explained
post_next-reason-requires-clause-explained c =
    let run = c.requires.run in (
      own c.args.tap.token run.0,
      c.explainer_after-is_decrease.ensures.explained c.args.table.now run.0 run.1,
    )

pub post_next-reason-requires-clause-room : goal.post_next-reason-requires-clause-room
post_next-reason-requires-clause-room c =
    let run = c.requires.run in
    let explained = c.explainer_after-is_decrease.ensures.explained c.args.table.now run.0 run.1 in
    omega (arith, explained.counted, own-few c.args.tap.token run.0, run.2)

pub returns : goal.returns
returns c = λ run holds.
    let fares = c.args.table.now in
    let tap = c.args.tap in
    let before = own tap.token run in
    let explained = c.explainer_after-is_decrease.ensures.explained fares run holds in
    let posted = c.post_next-reason.ensures in
    let entry = c.post_next-reason.result.0 in
    let after = c.post_next-reason.new.self in
    let why = reason_after fares tap.token before entry in
    let line = c.in_ok-write_line.ensures in
    let written = line.2 ∙ ap (λ (t : List ℕ). t ++ line.0) c.clear.ensures.bytes in
    let token = c.explainer_after-is_decrease.ensures.token in
    let is = subst (λ (t : Token). entry ≡ next_entry fares t before tap.validator tap.moment) token
    (posted.entry before explained) in
    record {
      ruled = is;
      shown = subst (λ (t : List ℕ). IsLedgerLine fares tap.token (length before + 1) entry why t)
          (sym written)
          (subst (λ (n : ℕ). IsLedgerLine fares tap.token n entry why line.0)
          (posted.number ∙ ap (λ n. n + 1) explained.counted)
          (subst (λ (w : CappedReason). IsLedgerLine fares tap.token after.number entry w line.0)
          (posted.reason before explained
          ∙ ap (λ (t : Token). reason_after fares t before entry) token)
          line.1));
      decreasing = c.explainer_after-is_decrease.ensures.is_decrease fares run holds;
      explainer = holds_more fares after run tap.token entry c.requires.fits (posted.token ∙ token)
          (ap (λ (e : Entry). e.token) is)
          (posted.explained before explained);
    }
