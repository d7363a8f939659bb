use Rattle.std.proofs.Common.{◌≡◌, ◌++◌, ◌∷◌, [], take, length, flat_map}
use Rattle.std.specs.Prelude.{All}
use Rattle.byteorder.specs.Endian.{big_bytes}
use Rattle.tap_views.specs.Layout.{magic, Tap1, spelling}
use Rattle.tap_views.specs.inside.Encoding.{IsFields, written}
use Rattle.tap_views.proofs.encoder.put_batch.Given as goal

abbrev pub invariant-loop-tap : goal.invariant-loop-tap
invariant-loop-tap l = record {
  bytes : l.bytes.items
      ≡ (l.fn.bytes.items ++ (magic Tap1 ++ big_bytes 2 (length l.taps) ++ 0 ∷ 0 ∷ []))
      ++ flat_map (λ tap. spelling Tap1 (written tap)) (take l.tap-index l.taps);
  fields : All IsFields (take l.tap-index l.taps);
}
