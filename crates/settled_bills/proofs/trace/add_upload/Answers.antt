-- The only part has all taps.
use Rattle.std.proofs.Common.{◌∙◌, ◌++◌, ◌<◌, [], List, ap, arith, get_or, is_some, length, map, sym}
use Rattle.std.proofs.lemmas.List.{get_or-map, length-map}
use Rattle.tap_views.specs.Encoding.{fields_of}
use Rattle.tap_views.specs.Files.{taps_of_batches}
use Rattle.tap_views.specs.declared.encoder.TapFields.{TapFields}
use Rattle.tap_parts.specs.Parts.{taps_at}
use Rattle.settlement.proofs.Files.{taps_in}
use Rattle.settled_bills.specs.Traces.{numbered}
use Rattle.settled_bills.proofs.Numbering.{all_at, not_back}
use Rattle.settled_bills.proofs.trace.add_upload.Goals as goal

pub returns : goal.returns
returns c =
    let one = c.in_ok-added.ensures in
    let taps = taps_of_batches one.batches in
    let lists = c.in_ok-lists.lists.items in
    let long = ap length c.in_ok-lists.ensures in
    let all = length-map lists taps_in in
    let number = c.in_ok-parts.ensures.number in
    let same = one.added.number in
    let within : 0 < length lists = omega (arith, long, all, number, same) in (
      record { batches = one.batches; fault = c.in_ok-added.added.fault },
      one.read,
      c.in_ok-add_numbered.ensures
          ∙ ap (λ (ts : List TapFields). c.args.taps.now.items ++ numbered c.args.upload 1 ts)
          (c.deref.ensures.value ∙ ap taps_in c.index.ensures
          ∙ sym (get_or-map taps_in lists 0 _ [] within)
          ∙ ap (λ (ls : List (List TapFields)). get_or ls 0 []) c.in_ok-lists.ensures
          ∙ one.added.each 0 (omega (arith, number))
          ∙ ap (λ (ts : List TapFields). ts ++ map fields_of (taps_at (λ _. 0) 0 taps))
          (c.in_ok-parts.ensures.empty 0 (omega arith))
          ∙ ap (map fields_of) (all_at taps)),
      not_back (is_some c.in_ok-added.added.fault) c.is_none.result c.is_none.ensures,
    )
