-- The head line has its columns, and behind it are the lines with theirs.
use Rattle.std.proofs.Common.{◌∙◌, [], arith, subst}
use Rattle.fare_texts.proofs.PieceWriting.{consumed_first}
use Rattle.fare_texts.specs.WrittenOut.{Begins}
use Rattle.settled_bills.proofs.Rows.{ledger_of}
use Rattle.settled_bills.specs.{Traces.taps_of_trace, declared.trace.TracedTap.TracedTap}
use Rattle.settlement.proofs.Nondecreasing.{canonical_nondecreasing}
use Rattle.std.proofs.lemmas.{List.length-map, Result.err_from_is_err_and}
use Rattle.std.specs.Io.KnownBytes.{Appends}
use Rattle.settled_bills.proofs.traced_ledger.write_trace.Goals as goal

pub write_lines-requires-clause-may : goal.write_lines-requires-clause-may
write_lines-requires-clause-may g c =
    let explainer = c.of-explainer.result in
    let none = c.of-explainer.ensures.none in
    let long = length-map c.args.trace.now (λ (traced : TracedTap). traced.tap) in
    record {
      early = c.requires.1.early;
      nondecreasing = canonical_nondecreasing explainer.token (taps_of_trace c.args.trace.now)
          (c.of-explainer.ensures.token ∙ c.least_token.ensures) c.requires.1.named
          c.requires.1.canonical.sorted;
      earlier = [];
      consumed = consumed_first c.args.table.now explainer
          (c.of-explainer.ensures.explained c.args.table.now);
      room = omega (arith, none, long);
    }

pub returns-clause-ok : goal.returns-clause-ok
returns-clause-ok g c =
    ledger_of c.args.table.now c.of-explainer.result (taps_of_trace c.args.trace.now) _ _
    (c.of-explainer.ensures.token ∙ c.least_token.ensures)
    (c.of-explainer.ensures.explained c.args.table.now) c.requires.1.named
    c.requires.1.canonical.sorted c.in_ok-write_lines.ensures.ok
    (λ l. subst (Appends (g.W.Write.contents c.args.out.now)
    (g.W.Write.contents c.write_lines.new.out)) (c.in_ok-room.ensures l _))

pub returns-in_err-write_lines-clause-started : goal.returns-in_err-write_lines-clause-started
returns-in_err-write_lines-clause-started g c =
    let p = err_from_is_err_and c.from_residual-in_err-write_lines.result
    c.from_residual-in_err-write_lines.ensures.1 in
    rw p.1 (λ write. ledger_of c.args.table.now c.of-explainer.result
    (taps_of_trace c.args.trace.now) _ _ (c.of-explainer.ensures.token ∙ c.least_token.ensures)
    (c.of-explainer.ensures.explained c.args.table.now) c.requires.1.named
    c.requires.1.canonical.sorted c.in_err-write_lines.ensures.started
    (λ l. subst (Begins (g.W.Write.contents c.args.out.now)
    (g.W.Write.contents c.write_lines.new.out)) (c.in_ok-room.ensures l _)))
