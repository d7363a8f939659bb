use Rattle.std.proofs.Common.{◌≡◌, ◌⊎◌, ◌∙◌, ◌≤◌, [], ap, length, length-append, map, sym, subst}
use Rattle.std.proofs.Common.{arith, inl, inr}
use Rattle.std.proofs.lemmas.List.{nil_from_length}
use Rattle.tap_views.specs.Encoding.{fields_of}
use Rattle.sorted_taps.specs.Reading.{AreFrontTaps}
use Rattle.sorted_taps.proofs.Batches.{front_append, front_batch, front_none, end_of}
use Rattle.sorted_taps.proofs.decoded_taps.decode.Goals.{then-loop-taps-test+else-len-lt-ENOUGH_TAPS}
use Rattle.sorted_taps.proofs.decoded_taps.decode.Goals.{else-loop-taps-test}
use Rattle.sorted_taps.proofs.decoded_taps.decode.Goals as goal

pub loop-taps-init : goal.loop-taps-init
loop-taps-init c =
    let bytes = c.args.bytes.now in
    record {
      front = subst (λ taps. AreFrontTaps bytes bytes taps) (sym c.clear.ensures.items)
          (front_none bytes);
      size = omega arith;
    }

pub loop-taps-preserved : goal.loop-taps-preserved
loop-taps-preserved c =
    let inv = c.loop-taps.invariant in
    let bytes = c.args.bytes.now in
    let left = c.loop-taps.left.now in
    let rest = c.in-Ok.rest.now in
    let (front, batch, is) = c.in-Ok.ensures.found in
    let long = ap length is ∙ length-append front rest in
    let size = inv.size in
    record {
      front = subst (λ taps. AreFrontTaps bytes rest taps) (sym c.in_ok-push_taps-in-Ok.ensures)
          (front_append bytes left rest c.loop-taps.taps.items (map fields_of c.in-Ok.batch)
          inv.front (front_batch left front rest c.in-Ok.batch batch is));
      size = omega (arith, long, size);
    }

pub returns : goal.returns
returns c =
    let inv = c.loop-taps.invariant in
    let bytes = c.args.bytes.now in
    let left = c.loop-taps.left.now in
    let size = inv.size in
    let done : (left ≡ []) ⊎ (512 ≤ length c.loop-taps.taps.items) =
    elim c.loop-taps-test.branch [
      | then-loop-taps-test+else-len-lt-ENOUGH_TAPS w ↦ let h = w.if-len-lt-ENOUGH_TAPS.false in
          let e = w.len.ensures in inr (omega (arith, h, e))
      | else-loop-taps-test w ↦ inl
          (nil_from_length left
          (let e = c.is_empty.ensures in let t = w.loop-taps-test.false in grind arith))
    ] in
    record {
      rest = left;
      front_taps = inv.front;
      size = omega (arith, size);
      fault = tt;
      some = λ used none. end_of bytes left c.loop-taps.taps.items inv.front done used;
    }
