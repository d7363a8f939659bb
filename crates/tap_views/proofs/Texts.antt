-- Files that grow by a batch.
use Rattle.std.proofs.Common.{ℕ, List, [], ◌∷◌, ◌++◌, map, flat_map, refl, sym, ap, ◌∙◌, append-nil}
use Rattle.std.proofs.Common.{append_assoc, ◌+◌}
use Rattle.std.proofs.lemmas.List.{map-append, Concat.flat_map-append}
use Rattle.tap_views.proofs.ParseLemmas.{no_bytes}
use Rattle.tap_views.specs.{Encoding.fields_of, Encoding.Encodes, Files.IsFile, Files.IsFileOf}
use Rattle.tap_views.specs.Layout.{Tap, Tap1, IsBatch}
use Rattle.tap_views.specs.declared.encoder.TapFields.{TapFields}

file_more : (text more : List ℕ) (batches : List (List Tap)) (taps : List Tap)
    → IsFile text batches [] → IsBatch more taps → IsFile (text ++ more) (batches ++ taps ∷ []) []
file_more text more [] taps file batch =
    (more, [], batch, ap (λ t. t ++ more) file.0 ∙ sym (append-nil more), (refl, file.1))
file_more text more (first ∷ batches) taps file batch =
    let (front, back, is, spelled, rest) = file in (
      front,
      back ++ more,
      is,
      ap (λ t. t ++ more) spelled ∙ append_assoc front back more,
      file_more back more batches taps rest batch,
    )

-- no bytes are a file of no taps
pub no_text : IsFileOf [] []
no_text = record { batches = []; is_file = (refl, no_bytes); read = refl }

-- a batch more
pub more_text : (text more : List ℕ) (fields new : List TapFields) → IsFileOf text fields
    → Encodes more new → IsFileOf (text ++ more) (fields ++ new)
more_text text more fields new file encoded =
    let id : List Tap → List Tap = λ batch. batch in
    record {
      batches = file.batches ++ encoded.taps ∷ [];
      is_file = file_more text more file.batches encoded.taps file.is_file (Tap1, encoded.batch);
      read = ap (map fields_of) (flat_map-append id file.batches (encoded.taps ∷ [])
          ∙ ap (λ taps. flat_map id file.batches ++ taps) (append-nil encoded.taps))
          ∙ map-append fields_of (flat_map id file.batches) encoded.taps
          ∙ ap (λ xs. xs ++ map fields_of encoded.taps) file.read
          ∙ ap (λ xs. fields ++ xs) encoded.read;
    }
