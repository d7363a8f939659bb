-- The taps of sorted files are settled taps.
use Rattle.std.proofs.Common.{◌≡◌, ℕ, zero, suc, ◌<◌, List, [], ◌∷◌, ◌++◌, map, All, refl, sym, ap}
use Rattle.std.proofs.Common.{subst, ◌∙◌, arith, get_or, length}
use Rattle.settlement.proofs.Early.{uploads_early}
use Rattle.settlement.specs.{Posted.HasName, SettledTaps.AreSettledTaps}
use Rattle.sorted_taps.specs.{Merges.AreSortedFiles, Sorted.IsSortedFile}
use Rattle.std.proofs.lemmas.List.{map-append, Elements.All-map, Sorted.All-permutation}
use Rattle.std.specs.Prelude.{flat_map}
use Rattle.tap_parts.specs.{Canonical.IsCanonical, Parts.taps_of_uploads}
use Rattle.tap_views.specs.{Encoding.fields_of, Files.AreValidTapsOfEach, Files.taps_of_batches}
use Rattle.tap_views.specs.{Layout.Tap, Layout.moment_limit, declared.encoder.TapFields.TapFields}

-- a file more in front
pub files_more : (file : List ℕ) (files : List (List ℕ)) (list : List TapFields)
    (lists : List (List TapFields)) → IsSortedFile file list → AreSortedFiles files lists
    → AreSortedFiles (file ∷ files) (list ∷ lists)
files_more file files list lists first rest = record { number = ap suc rest.number; each = at }
  where
    at : (k : ℕ) → k < length (file ∷ files)
        → IsSortedFile (get_or (file ∷ files) k []) (get_or (list ∷ lists) k [])
    at zero inside = first
    at (suc k) inside = rest.each k (omega (arith, inside))

-- the good taps of sorted files, file by file
pub record AreFileTaps (files : List (List ℕ)) (lists : List (List TapFields)) : Type 0 where
  pub taps : List (List Tap)
  pub each : AreValidTapsOfEach files taps
  pub fields : map fields_of (taps_of_uploads taps) ≡ flat_map (λ list. list) lists

pub file_taps : (files : List (List ℕ)) (lists : List (List TapFields)) → AreSortedFiles files lists
    → AreFileTaps files lists
file_taps [] [] sorted = record { taps = []; each = tt; fields = refl }
file_taps [] (list ∷ lists) sorted =
    absurd (let number = sorted.number in omega (arith, number))
file_taps (file ∷ files) [] sorted =
    absurd (let number = sorted.number in omega (arith, number))
file_taps (file ∷ files) (list ∷ lists) sorted =
    let number = sorted.number in
    let first = (sorted.each zero (omega arith)).read in
    let rest = file_taps files lists (record {
      number = omega (arith, number);
      each = λ k inside. sorted.each (suc k) (omega (arith, inside));
    }) in
    record {
      taps = taps_of_batches first.batches ∷ rest.taps;
      each = (
        record { batches = first.batches; rest = []; is_file = first.is_file; all = refl },
        rest.each,
      );
      fields = map-append fields_of (taps_of_batches first.batches) (taps_of_uploads rest.taps)
          ∙ ap (λ (ts : List TapFields). ts ++ map fields_of (taps_of_uploads rest.taps)) first.read
          ∙ ap (λ (ts : List TapFields). list ++ ts) rest.fields;
    }

-- the canonical list of all taps of sorted files
pub settled_list : (files : List (List ℕ)) (lists : List (List TapFields)) (taps : List TapFields)
    → AreSortedFiles files lists → IsCanonical (flat_map (λ list. list) lists) taps
    → All HasName taps → AreSettledTaps files taps
settled_list files lists taps sorted canonical named =
    let of = file_taps files lists sorted in
    let valid = taps_of_uploads of.taps in
    let ordered : IsCanonical (map fields_of valid) taps =
    subst (λ (ts : List TapFields). IsCanonical ts taps) (sym of.fields) canonical in
    record {
      taps = of.taps;
      of_uploads = of.each;
      canonical = ordered;
      early = All-permutation (λ (tap : TapFields). tap.moment < moment_limit) (map fields_of valid)
          taps
          ordered.moved
          (All-map (λ (tap : TapFields). tap.moment < moment_limit) fields_of valid
          (uploads_early files of.taps of.each));
      named = named;
    }
