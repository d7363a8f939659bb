use Rattle.std.proofs.Common.{◌++◌, ◌<◌, List, ap, sym, subst, ◌∙◌, arith, map, refl}
use Rattle.tap_parts.proofs.{Adding.fields-append, RangeLemmas.range_below}
use Rattle.tap_parts.specs.{Parts.taps_at, Ranges.range_of_token}
use Rattle.tap_views.specs.{Encoding.fields_of, Files.taps_of_batches, UploadEnds.end_by}
use Rattle.tap_views.specs.declared.encoder.TapFields.{TapFields}
use Rattle.settlement.proofs.split_taps.TokenRangesChoiceParts.add.Goals as goal

pub add_upload-requires : goal.add_upload-requires
add_upload-requires c = λ token.
    let below = range_below c.args.self.now token in
    let number = c.requires.1.number in omega (arith, below, number)

pub returns : goal.returns
returns c =
    let one = c.in_ok-added.ensures in
    let added = c.in_ok-added.added in
    let part_of = range_of_token c.args.self.now in
    let taps = taps_of_batches one.batches in
    record {
      taps = taps;
      of_upload = record {
        batches = one.batches;
        rest = one.read.rest;
        is_file = one.read.is_file;
        all = refl;
      };
      ended = record {
        batches = one.batches;
        rest = one.read.rest;
        fault = added.fault;
        is_file = one.read.is_file;
        is_fault = one.read.is_end;
        ended = c.by_fault.ensures ∙ ap (λ n. end_by n added.fault) one.number;
      };
      added = λ before is. record {
        number = one.added.number ∙ is.number;
        each = λ part within.
            one.added.each part (subst (λ n. part < n) (sym is.number) within)
            ∙ ap (λ (ts : List TapFields). ts ++ map fields_of (taps_at part_of part taps))
            (is.each part within)
            ∙ sym (fields-append part_of part before taps);
      };
    }
