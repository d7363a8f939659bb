use Rattle.std.proofs.Common.{ℕ, List, ◌++◌, ◌∷◌, [], length, flat_map, take_all, ap, subst}
use Rattle.std.proofs.Common.{◌∙◌, append_assoc, refl}
use Rattle.std.specs.Prelude.{All}
use Rattle.std.proofs.lemmas.List.Elements.{All-more}
use Rattle.byteorder.specs.Endian.{big_bytes}
use Rattle.tap_views.specs.Layout.{magic, Tap1, spelling}
use Rattle.tap_views.specs.inside.Encoding.{IsFields, written}
use Rattle.tap_views.specs.declared.encoder.TapFields.{TapFields}
use Rattle.tap_views.proofs.Encodings.{encodes, put_more}
use Rattle.tap_views.proofs.encoder.put_batch.Goals as goal

abbrev header : List TapFields → List ℕ
header taps = magic Tap1 ++ big_bytes 2 (length taps) ++ 0 ∷ 0 ∷ []

abbrev spelled : TapFields → List ℕ
spelled tap = spelling Tap1 (written tap)

pub loop-tap-preserved : goal.loop-tap-preserved
loop-tap-preserved c = record {
  bytes = put_more (λ tap. spelling Tap1 (written tap)) (c.args.bytes.now.items
      ++ header c.args.taps.now) c.loop-tap.bytes.items _
      c.args.taps.now c.loop-tap.tap-index _ c.loop-tap-test.true c.loop-tap.invariant.bytes
      c.in_ok-put_tap.ensures.bytes;
  fields = All-more IsFields c.args.taps.now c.loop-tap.tap-index _ c.loop-tap-test.true
      c.loop-tap.invariant.fields c.in_ok-put_tap.ensures.fields;
}

pub returns : goal.returns
returns c =
    let taps = c.args.taps.now in
    let all = take_all c.loop-tap.tap-index taps c.loop-tap-test.false in
    let F : List TapFields → Type 0 = All IsFields in
    let batch = header taps ++ flat_map spelled taps in
    let text = c.loop-tap.invariant.bytes
    ∙ ap (λ ts. (c.args.bytes.now.items ++ header taps) ++ flat_map spelled ts) all
    ∙ append_assoc c.args.bytes.now.items (header taps) (flat_map spelled taps) in (
      batch,
      text,
      encodes taps batch c.requires.most c.requires.early
          (subst F all c.loop-tap.invariant.fields) refl,
    )
