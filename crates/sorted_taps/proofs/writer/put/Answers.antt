use Rattle.std.proofs.Common.{◌≡◌, List, ℕ, [], ap, ◌∙◌, subst, arith, length, vec_items}
use Rattle.std.specs.Prelude.{Option}
use Rattle.std.proofs.lemmas.Bool.Decides.{nat_tests}
use Rattle.tap_views.specs.declared.encoder.TapFields.{TapFields}
use Rattle.sorted_taps.specs.inside.Waiting.{HasPut, IsBatchWritten}
use Rattle.sorted_taps.proofs.Putting.{put_batch, put_same, put_tap}
use Rattle.sorted_taps.proofs.writer.put.Goals.{then-len-eq-BATCH_TAPS+in_ok-write_batch}
use Rattle.sorted_taps.proofs.writer.put.Goals.{else-len-eq-BATCH_TAPS}
use Rattle.sorted_taps.proofs.writer.put.Goals as goal

pub returns-clause-put : goal.returns-clause-put
returns-clause-put g c =
    let here = g.W.Write.contents c.args.out.now in
    let out = g.W.Write.contents c.if-len-eq-BATCH_TAPS.out in
    let waiting = c.args.waiting.now.items in
    let pending = c.if-len-eq-BATCH_TAPS.waiting.items in
    let ready : (begin : Option (List ℕ)) (taps : List TapFields)
    → HasPut begin here taps waiting → HasPut begin out taps pending =
    elim c.if-len-eq-BATCH_TAPS.branch [
      | then-len-eq-BATCH_TAPS+in_ok-write_batch w ↦ λ begin taps put.
          let there = g.W.Write.contents w.write_batch.new.out in
          let test = w.if-len-eq-BATCH_TAPS.true in
          let is = c.len.ensures in
          let full : length waiting ≡ 512 = grind (arith, nat_tests, test, is) in
          let written = subst (λ l. IsBatchWritten here there l) w.deref.ensures.value
          w.in_ok-write_batch.ensures.written in
          put_same begin there out taps [] pending (ap g.W.Write.contents w.out-is)
          (ap vec_items w.waiting-is ∙ w.clear.ensures.items)
          (put_batch begin here there taps waiting put full written)
      | else-len-eq-BATCH_TAPS w ↦ λ begin taps put.
          put_same begin here out taps waiting pending (ap g.W.Write.contents w.out-is)
          (ap vec_items w.waiting-is) put
    ] in
    λ begin taps put. put_tap begin out taps pending c.push.new.self.items c.args.tap.now
    (ready begin taps put) c.in_ok-push.ensures.items
