use Rattle.std.proofs.Common.{◌≡◌, ◌<◌, List, ℕ, ◌==◌, sym, ◌∙◌, arith, length, false}
use Rattle.sorted_taps.proofs.Putting.{written_more, written_whole}
use Rattle.sorted_taps.specs.inside.Waiting.{HasPut, IsBatchWritten}
use Rattle.std.proofs.lemmas.Bool.{eqb-true, Decides.nat_tests}
use Rattle.std.proofs.lemmas.{List.nil_from_length, Result.on_ok_weaker}
use Rattle.std.specs.Prelude.{Option}
use Rattle.tap_views.specs.declared.encoder.TapFields.{TapFields}
use Rattle.sorted_taps.proofs.writer.put_rest.Goals as goal

pub returns-then-is_empty-clause-written : goal.returns-then-is_empty-clause-written
returns-then-is_empty-clause-written g c = λ begin taps put.
    written_whole begin (g.W.Write.contents c.args.out.now) taps c.args.waiting.now put
    (nil_from_length c.args.waiting.now
    (eqb-true _ 0 (sym c.is_empty.ensures ∙ c.if-is_empty.true)))

pub returns-clause-written : goal.returns-clause-written
returns-clause-written g c =
    let waiting = c.args.waiting.now in
    let here = g.W.Write.contents c.args.out.now in
    let there = g.W.Write.contents c.write_batch.new.out in
    let test : (length waiting == 0) ≡ false = sym c.is_empty.ensures ∙ c.if-is_empty.false in
    let some : 0 < length waiting = grind (arith, nat_tests, test) in
    on_ok_weaker c.write_batch.result
    (λ (written : IsBatchWritten here there waiting) (begin : Option (List ℕ))
    (taps : List TapFields) (put : HasPut begin here taps waiting).
    written_more begin here there taps waiting put some c.requires.most written)
    c.write_batch.ensures.written
