-- The taps of a trace are the settled taps of the files.
use Rattle.std.proofs.Common.{◌≡◌, ◌∙◌, ℕ, ◌+◌, ◌<◌, Bool, false, List, [], ◌∷◌, ◌++◌, All, Less}
use Rattle.std.proofs.Common.{Equal, Greater, Ordering, arith, length, map, refl, sym, ap, subst}
use Rattle.histories.specs.{Entry.AreEntriesOf, Plain.IsPlain, declared.entry.Entry.Entry}
use Rattle.settled_bills.specs.Traces.{AreReadAs, IsTrace, valid_fields, numbered, taps_of_trace}
use Rattle.settled_bills.specs.Traces.{traced_cmp, traced_from}
use Rattle.settled_bills.specs.declared.trace.TracedTap.{TracedTap}
use Rattle.settlement.proofs.{SettledOrders.settled_order, ValidTokens.valid_tokens}
use Rattle.settlement.specs.SettledTaps.{AreSettledTaps}
use Rattle.std.proofs.lemmas.List.{get_or-map, length-map, map-append, Sorted.IsPermutation-map}
use Rattle.std.specs.{List.Sorted.IsPermutation, List.Sorted.IsSorted, Ordering.is_lt}
use Rattle.std.specs.{Ordering.nat_cmp, Ordering.ordering_then, Prelude.slice_index_or}
use Rattle.tap_parts.specs.Parts.{taps_of_uploads}
use Rattle.tap_views.proofs.ParseLemmas.{valid_taps}
use Rattle.tap_views.specs.{Encoding.fields_of, Files.AreValidTapsOfEach}
use Rattle.tap_views.specs.Files.{ValidBatchesView, HasUniqueParse, taps_of_batches}
use Rattle.tap_views.specs.{Layout.Tap, TapOrder.tap_cmp, declared.encoder.TapFields.TapFields}
use Rattle.tariffs.specs.Fares.{Fares}

abbrev tap_in : TracedTap → TapFields
tap_in traced = traced.tap

abbrev taps_in : ValidBatchesView → List Tap
taps_in reading = taps_of_batches reading.batches

taps_sorted : (trace : List TracedTap) → IsSorted traced_cmp trace
    → IsSorted tap_cmp (taps_of_trace trace)
taps_sorted trace sorted = λ k d low within.
    let long = length-map trace tap_in in
    let e : TracedTap = record { tap = d; upload = 0; position = 0 } in
    let here : k < length trace = omega (arith, within, long) in
    let next : k + 1 < length trace = omega (arith, within, long) in
    let not = sorted k e low next in
    let a = slice_index_or trace (k + 1) e in
    let b = slice_index_or trace k e in
    let first : is_lt (tap_cmp a.tap b.tap) ≡ false =
    by_first (tap_cmp a.tap b.tap)
    (ordering_then (nat_cmp a.upload b.upload) (nat_cmp a.position b.position)) not in
    subst (λ (x : TapFields). is_lt (tap_cmp x (slice_index_or (taps_of_trace trace) k d)) ≡ false)
    (sym (get_or-map tap_in trace (k + 1) e d next))
    (subst (λ (x : TapFields). is_lt (tap_cmp a.tap x) ≡ false)
    (sym (get_or-map tap_in trace k e d here)) first)
  where
    by_first : (order rest : Ordering) → is_lt (ordering_then order rest) ≡ false
        → is_lt order ≡ false
    by_first Less rest is = is
    by_first Equal rest is = refl
    by_first Greater rest is = refl

numbers_left : (upload position : ℕ) (taps : List TapFields)
    → taps_of_trace (numbered upload position taps) ≡ taps
numbers_left upload position [] = refl
numbers_left upload position (tap ∷ taps) =
    ap (λ (ts : List TapFields). tap ∷ ts) (numbers_left upload (position + 1) taps)

traced_taps : (upload : ℕ) (readings : List ValidBatchesView)
    → taps_of_trace (traced_from upload readings)
    ≡ map fields_of (taps_of_uploads (map taps_in readings))
traced_taps upload [] = refl
traced_taps upload (reading ∷ readings) =
    map-append tap_in (numbered upload 1 (valid_fields reading)) (traced_from (upload + 1) readings)
    ∙ ap (λ (ts : List TapFields). ts ++ taps_of_trace (traced_from (upload + 1) readings))
    (numbers_left upload 1 (valid_fields reading))
    ∙ ap (λ (ts : List TapFields). valid_fields reading ++ ts) (traced_taps (upload + 1) readings)
    ∙ sym (map-append fields_of (taps_in reading) (taps_of_uploads (map taps_in readings)))

each_valid : (files : List (List ℕ)) (readings : List ValidBatchesView) → AreReadAs files readings
    → AreValidTapsOfEach files (map taps_in readings)
each_valid [] [] each = tt
each_valid [] (r ∷ readings) each = absurd each
each_valid (f ∷ files) [] each = absurd each
each_valid (f ∷ files) (r ∷ readings) each =
    (valid_taps f r.batches r.fault each.0, each_valid files readings each.1)

pub trace_settled : (files : List (List ℕ)) (trace : List TracedTap) (whole : Bool)
    → IsTrace files trace whole → All HasUniqueParse files
    → ((fares : Fares) → (history : List Entry) × IsPlain fares files history)
    → ((fares : Fares) (history : List Entry) (plain : IsPlain fares files history)
    → AreEntriesOf (taps_of_uploads plain.taps) history)
    → AreSettledTaps files (taps_of_trace trace)
trace_settled files trace whole is unique_parse some fields =
    let taps = map taps_in is.readings in
    let each = each_valid files is.readings is.read in
    settled_order files taps (taps_of_trace trace) each
    (valid_tokens files taps unique_parse each some fields) (record {
      moved = subst (λ (ts : List TapFields). IsPermutation ts (taps_of_trace trace))
          (traced_taps 0 is.readings)
          (IsPermutation-map tap_in (traced_from 0 is.readings) trace is.moved);
      sorted = taps_sorted trace is.sorted;
    })
