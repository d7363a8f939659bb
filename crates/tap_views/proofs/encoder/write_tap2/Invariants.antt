use Rattle.std.proofs.Common.{◌≡◌, ◌++◌, ◌∷◌, [], take, length, flat_map}
use Rattle.std.specs.Prelude.{All}
use Rattle.byteorder.specs.Endian.{big_bytes}
use Rattle.tap_views.specs.Layout.{magic, Tap2, spelling}
use Rattle.tap_views.specs.inside.Encoding.{IsFields2, written_2}
use Rattle.tap_views.proofs.encoder.write_tap2.Given as goal

abbrev pub invariant-loop-tap : goal.invariant-loop-tap
invariant-loop-tap l = record {
  bytes : l.bytes.items
      ≡ (magic (Tap2 []) ++ big_bytes 2 (length l.taps) ++ 0 ∷ 0 ∷ [] ++ big_bytes 4 l.validator)
      ++ flat_map (λ tap. spelling (Tap2 []) (written_2 l.validator tap)) (take l.tap-index l.taps);
  fields : All IsFields2 (take l.tap-index l.taps);
}
