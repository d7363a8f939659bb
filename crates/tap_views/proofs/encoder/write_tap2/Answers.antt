use Rattle.std.proofs.Common.{◌++◌, ◌∷◌, [], length}
use Rattle.std.proofs.lemmas.List.Elements.{All-more}
use Rattle.byteorder.specs.Endian.{big_bytes}
use Rattle.tap_views.specs.Layout.{magic, Tap2, spelling}
use Rattle.tap_views.specs.inside.Encoding.{IsFields2, written_2}
use Rattle.tap_views.proofs.Encodings.{put_more}
use Rattle.tap_views.proofs.encoder.write_tap2.Goals as goal

pub loop-tap-preserved : goal.loop-tap-preserved
loop-tap-preserved c = record {
  bytes = put_more (λ tap. spelling (Tap2 []) (written_2 c.args.validator tap)) (magic (Tap2 [])
      ++ big_bytes 2 (length c.args.taps.now) ++ 0 ∷ 0 ∷ [] ++ big_bytes 4 c.args.validator)
      c.loop-tap.bytes.items _ c.args.taps.now c.loop-tap.tap-index _ c.loop-tap-test.true
      c.loop-tap.invariant.bytes (c.in_ok-put_tap2.ensures.bytes c.args.validator);
  fields = All-more IsFields2 c.args.taps.now c.loop-tap.tap-index _ c.loop-tap-test.true
      c.loop-tap.invariant.fields c.in_ok-put_tap2.ensures.fields;
}
