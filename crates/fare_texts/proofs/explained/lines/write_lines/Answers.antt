-- Each round explains one entry more, and writes its line.
use Rattle.std.proofs.Common.{List, [], ◌++◌, take, refl, sym, ap, subst, ◌∙◌, string_bytes}
use Rattle.std.proofs.Common.{append_assoc, append-nil, arith}
use Rattle.fare_texts.proofs.{ExplainedLines.next_explained, LineLists.taken}
use Rattle.fare_texts.specs.Explainers.{HasExplained}
use Rattle.histories.specs.declared.entry.Entry.{Entry}
use Rattle.std.proofs.lemmas.List.{length-take-le}
use Rattle.fare_texts.proofs.explained.lines.write_lines.Goals as goal

pub loop-entry-init : goal.loop-entry-init
loop-entry-init c = record {
  explained = c.of-explainer.ensures.explained c.args.table.now;
  of = c.of-explainer.ensures.token;
  written = [];
  are = refl;
  whole = sym (append-nil (string_bytes c.args.text.now));
}

pub no_transfer-none-requires : goal.no_transfer-none-requires
no_transfer-none-requires c = record {
  explained = (take c.loop-entry.entry-index c.args.entries.now, c.loop-entry.invariant.explained);
}

pub explain_next-requires-clause-explained : goal.explain_next-requires-clause-explained
explain_next-requires-clause-explained c =
    (take c.loop-entry.entry-index c.args.entries.now, c.loop-entry.invariant.explained)

pub explain_next-requires-clause-room : goal.explain_next-requires-clause-room
explain_next-requires-clause-room c =
    omega (
      arith,
      c.loop-entry.invariant.explained.counted,
      length-take-le c.loop-entry.entry-index c.args.entries.now (omega arith),
    )

pub loop-entry-preserved : goal.loop-entry-preserved
loop-entry-preserved c =
    let fares = c.args.table.now in
    let entries = c.args.entries.now in
    let position = c.loop-entry.entry-index in
    let within = c.loop-entry-test.true in
    let so_far = c.loop-entry.invariant in
    let done = take position entries in
    let line = c.in_ok-write_line.ensures in
    let lack = rw so_far.of at (c.no_transfer-none.ensures.lacks done so_far.explained) in
    let why = rw so_far.of at (c.in_ok-reason.ensures.reason done so_far.explained) in
    record {
      explained = subst (λ (es : List Entry). HasExplained fares c.explain_next.new.self es)
          (sym (taken entries position _ within))
          (c.in_ok-reason.ensures.explained done so_far.explained);
      of = c.in_ok-reason.ensures.token ∙ so_far.of;
      written = so_far.written ++ line.0;
      are = next_explained fares c.args.token entries position _ within so_far.written line.0 _ _
          why
          lack so_far.are line.1;
      whole = line.2 ∙ ap (λ t. t ++ line.0) so_far.whole
          ∙ append_assoc (string_bytes c.args.text.now) so_far.written line.0;
    }
