-- The lines of the taps stand behind the head line, and no token falls.
use Rattle.std.proofs.Common.{ℕ, List, [], ◌++◌, string_bytes, subst, ◌∙◌, arith}
use Rattle.fare_texts.proofs.Beginnings.{goes_last, goes_then}
use Rattle.fare_texts.proofs.PieceWriting.{consumed_first}
use Rattle.fare_texts.specs.WrittenOut.{Begins, GoesOut}
use Rattle.settled_bills.proofs.{Joined.joined, Rows.ledger_of, TapsExplained.explained_lines}
use Rattle.settlement.proofs.Nondecreasing.{canonical_nondecreasing}
use Rattle.std.proofs.lemmas.Result.{err_from_is_err_and}
use Rattle.std.specs.Io.KnownBytes.{Appends}
use Rattle.settled_bills.proofs.ledger.write_settled_ledger.Goals as goal

pub write_lists-requires-clause-may : goal.write_lists-requires-clause-may
write_lists-requires-clause-may g c κs within =
    let explainer = c.of-explainer.result in
    let none = c.of-explainer.ensures.none in
    let count = c.in_ok-_count.ensures.count in
    record {
      early = c.requires.early;
      nondecreasing = canonical_nondecreasing explainer.token (joined c.args.lists.now)
          (c.of-explainer.ensures.token ∙ c.least_token.ensures) c.requires.named
          c.requires.sorted;
      earlier = [];
      consumed = consumed_first c.args.table.now explainer
          (c.of-explainer.ensures.explained c.args.table.now);
      room = omega (arith, none, count);
    }

pub returns-clause-ok : goal.returns-clause-ok
returns-clause-ok g c =
    let fares = c.args.table.now in
    let explainer = c.of-explainer.result in
    let taps = joined c.args.lists.now in
    let begin = g.W.Write.contents c.args.out.now in
    let out = g.W.Write.contents c.write_lists.new.out in
    let after = g.W.Write.contents c.pass_on.new.out in
    let head = string_bytes c.in_ok-text.text in
    let waits = string_bytes c.write_lists.new.text in
    ledger_of fares explainer taps (GoesOut begin head out waits) (Appends begin after)
    (c.of-explainer.ensures.token ∙ c.least_token.ensures)
    (c.of-explainer.ensures.explained fares) c.requires.named c.requires.sorted
    (explained_lines fares explainer c.write_lists.new.explainer taps
    (GoesOut begin head out waits) c.in_ok-write_lists.ensures.explained)
    (λ l gone. subst (λ (h : List ℕ). Appends begin after (h ++ l)) c.in_ok-text.ensures
    (goes_last begin out after head waits l gone c.in_ok-pass_on.ensures.whole))

-- ---- what a write that failed left
pub returns-in_err-write_lists-clause-started : goal.returns-in_err-write_lists-clause-started
returns-in_err-write_lists-clause-started g c =
    let fares = c.args.table.now in
    let begin = g.W.Write.contents c.args.out.now in
    let out = g.W.Write.contents c.write_lists.new.out in
    let head = string_bytes c.in_ok-text.text in
    let p = err_from_is_err_and c.from_residual-in_err-write_lists.result
    c.from_residual-in_err-write_lists.ensures.1 in
    rw p.1 (λ write. ledger_of fares c.of-explainer.result (joined c.args.lists.now)
    (λ l. Begins begin out (head ++ l)) (Begins begin out)
    (c.of-explainer.ensures.token ∙ c.least_token.ensures)
    (c.of-explainer.ensures.explained fares) c.requires.named c.requires.sorted
    c.in_err-write_lists.ensures.started
    (λ l. subst (λ (h : List ℕ). Begins begin out (h ++ l)) c.in_ok-text.ensures))

pub returns-in_err-pass_on-clause-started : goal.returns-in_err-pass_on-clause-started
returns-in_err-pass_on-clause-started g c =
    let fares = c.args.table.now in
    let explainer = c.of-explainer.result in
    let taps = joined c.args.lists.now in
    let begin = g.W.Write.contents c.args.out.now in
    let out = g.W.Write.contents c.write_lists.new.out in
    let after = g.W.Write.contents c.pass_on.new.out in
    let head = string_bytes c.in_ok-text.text in
    let waits = string_bytes c.write_lists.new.text in
    let p = err_from_is_err_and c.from_residual-in_err-pass_on.result
    c.from_residual-in_err-pass_on.ensures.1 in
    rw p.1 (λ write. ledger_of fares explainer taps (GoesOut begin head out waits)
    (Begins begin after) (c.of-explainer.ensures.token ∙ c.least_token.ensures)
    (c.of-explainer.ensures.explained fares) c.requires.named c.requires.sorted
    (explained_lines fares explainer c.write_lists.new.explainer taps
    (GoesOut begin head out waits) c.in_ok-write_lists.ensures.explained)
    (λ l gone. subst (λ (h : List ℕ). Begins begin after (h ++ l)) c.in_ok-text.ensures
    (goes_then begin out after head waits l gone c.in_err-pass_on.ensures.started)))
