-- The valid taps of uploads, each with its upload and its place there.
use Rattle.settled_bills.specs.declared.trace.TracedTap.{TracedTap}
use Rattle.std.specs.List.{AllZip, list_all, Sorted.IsPermutation, Sorted.IsSorted}
use Rattle.std.specs.Ordering.{nat_cmp, ordering_then}
use Rattle.std.specs.Prelude.{◌≡◌, ℕ, ◌+◌, Bool, List, [], ◌∷◌, ◌++◌, map, not, is_some}
use Rattle.std.specs.declared.cmp.Ordering.{Ordering}
use Rattle.tap_views.specs.Encoding.{fields_of}
use Rattle.tap_views.specs.Files.{ValidBatchesView, IsReadAs, taps_of_batches}
use Rattle.tap_views.specs.{TapOrder.tap_cmp, declared.encoder.TapFields.TapFields}

-- taps of this upload, in their order, of which the first has this place
abbrev pub numbered : ℕ → ℕ → List TapFields → List TracedTap
numbered upload position [] = []
numbered upload position (tap ∷ taps) =
    record { tap = tap; upload = upload; position = position } ∷ numbered upload (position + 1) taps

-- the valid taps of an upload, by its reading
abbrev pub valid_fields : ValidBatchesView → List TapFields
valid_fields reading = map fields_of (taps_of_batches reading.batches)

-- the valid taps of uploads, of which the first has this number: each upload's are numbered from 1
abbrev pub traced_from : ℕ → List ValidBatchesView → List TracedTap
traced_from upload [] = []
traced_from upload (reading ∷ readings) =
    numbered upload 1 (valid_fields reading) ++ traced_from (upload + 1) readings

-- each file is read as these batches and this fault
abbrev pub AreReadAs : List (List ℕ) → List ValidBatchesView → Type 0
AreReadAs files readings =
    AllZip (λ file reading. IsReadAs file reading.batches reading.fault) files readings

-- no layout fault ends the upload
abbrev pub is_whole : ValidBatchesView → Bool
is_whole reading = not (is_some reading.fault)

-- by the tap in canonical order, then by upload, then by place
abbrev pub traced_cmp : TracedTap → TracedTap → Ordering
traced_cmp a b =
    ordering_then (tap_cmp a.tap b.tap)
    (ordering_then (nat_cmp a.upload b.upload) (nat_cmp a.position b.position))

-- The trace of files, whose numbers are from 0: each valid tap of each file is there once, with
-- its file's number and its place in that file. The taps are in canonical order.
pub record IsTrace (files : List (List ℕ)) (trace : List TracedTap) (whole : Bool) : Type 0 where
  pub readings : List ValidBatchesView
  pub read : AreReadAs files readings
  pub moved : IsPermutation (traced_from 0 readings) trace
  pub sorted : IsSorted traced_cmp trace
  pub are_whole : whole ≡ list_all is_whole readings

-- the taps of a trace, in their order
abbrev pub taps_of_trace : List TracedTap → List TapFields
taps_of_trace trace = map (λ traced. traced.tap) trace
