use Rattle.std.proofs.Common.{◌≡◌, ◌*ℤ◌, FitsSigned, ap, pos, sym, w64, ◌∙◌}
use Rattle.jiff.specs.{Words.picked_instant, ZoneView.plain_zone}
use Rattle.std.proofs.lemmas.Int.{to_z-of_z}
use Rattle.std.specs.Prelude.{int_div}
use Rattle.tariffs.proofs.UntilLemmas.{fits_word, in_millis, is_instant, whole_of_year}
use Rattle.tariffs.proofs.clock.midnight_millis.Goals as goal

pub unwrap-instant-requires : goal.unwrap-instant-requires
unwrap-instant-requires c =
    let whole = whole_of_year (plain_zone c.args.zone.now) c.args.date c.from-midnight.result
    c.requires.low c.requires.high c.from-midnight.ensures in
    c.to_timestamp.ensures.succeeds.1 (is_instant _ _ whole)

pub returns-clause-at : goal.returns-clause-at
returns-clause-at c =
    let whole = whole_of_year (plain_zone c.args.zone.now) c.args.date c.from-midnight.result
    c.requires.low c.requires.high c.from-midnight.ensures in
    let at = rw c.unwrap-instant.ensures at c.to_timestamp.ensures.value in
    let millis = in_millis _ _ c.as_millisecond.result whole (c.as_millisecond.ensures
    ∙ ap (λ n. int_div n (pos 1_000_000)) at) in
    let fits : FitsSigned w64 c.as_millisecond.result = fits_word _ _ c.as_millisecond.result whole
    millis in
    let at_whole : c.as_millisecond.result *ℤ pos 1_000_000
    ≡ picked_instant (plain_zone c.args.zone.now) c.from-midnight.result =
    ap (λ n. n *ℤ pos 1_000_000) millis ∙ sym whole.whole in
    record {
      midnight = c.from-midnight.result;
      is_date = c.from-midnight.ensures.0;
      time = c.from-midnight.ensures.1;
      at = simp to_z-of_z at_whole;
    }

pub returns-clause-low : goal.returns-clause-low
returns-clause-low c =
    let whole = whole_of_year (plain_zone c.args.zone.now) c.args.date c.from-midnight.result
    c.requires.low c.requires.high c.from-midnight.ensures in
    let at = rw c.unwrap-instant.ensures at c.to_timestamp.ensures.value in
    let millis = in_millis _ _ c.as_millisecond.result whole (c.as_millisecond.ensures
    ∙ ap (λ n. int_div n (pos 1_000_000)) at) in
    let fits : FitsSigned w64 c.as_millisecond.result = fits_word _ _ c.as_millisecond.result whole
    millis in
    simp to_z-of_z (rw millis whole.low)

pub returns-clause-high : goal.returns-clause-high
returns-clause-high c =
    let whole = whole_of_year (plain_zone c.args.zone.now) c.args.date c.from-midnight.result
    c.requires.low c.requires.high c.from-midnight.ensures in
    let at = rw c.unwrap-instant.ensures at c.to_timestamp.ensures.value in
    let millis = in_millis _ _ c.as_millisecond.result whole (c.as_millisecond.ensures
    ∙ ap (λ n. int_div n (pos 1_000_000)) at) in
    let fits : FitsSigned w64 c.as_millisecond.result = fits_word _ _ c.as_millisecond.result whole
    millis in
    simp to_z-of_z (rw millis whole.high)
