-- Uploads whose taps are split into parts by ranges of tokens.
use Rattle.std.proofs.Common.{◌≡◌, ℕ, zero, suc, ◌+◌, ◌<◌, ◌≤◌, ◌==◌, List, [], ◌∷◌, ◌++◌, All}
use Rattle.std.proofs.Common.{Bool, arith, length, map, take, get_or, refl, sym, ap, subst, ◌∙◌}
use Rattle.settlement.proofs.{Early.uploads_early, PartBills.flat, PartBills.flat_more}
use Rattle.settlement.proofs.Same.{part_fields}
use Rattle.settlement.specs.inside.{Billing.IsSoundTap, SplitUploads.AreSplit}
use Rattle.settlement.specs.inside.Taken.{ArePartsOf, in_part}
use Rattle.std.proofs.lemmas.{Bool.eqb-true, Bool.lt-ltb, List.take_all, List.Elements.All-cons}
use Rattle.std.proofs.lemmas.List.Elements.{All-filter, All-head, All-map, All-nil, All-tail}
use Rattle.std.proofs.lemmas.List.{Elements.filter_passes, Sorted.IsPermutation-append}
use Rattle.std.proofs.lemmas.List.Sorted.{IsPermutation-refl, IsPermutation-trans}
use Rattle.std.specs.List.{AllZip, Sorted.IsPermutation}
use Rattle.tap_parts.proofs.{Adding.fields-append, Positions.none_before, Positions.one_position}
use Rattle.tap_parts.proofs.RangeLemmas.{range_below}
use Rattle.tap_parts.specs.{Canonical.HasTokenBytes, Parts.taps_at, Parts.taps_of_uploads}
use Rattle.tap_parts.specs.Ranges.{range_of_token}
use Rattle.tap_parts.specs.inside.Positions.{at_position, before_position}
use Rattle.tap_views.specs.{Encoding.fields_of, Files.AreValidTapsOfEach, Layout.Tap}
use Rattle.tap_views.specs.{Layout.moment_limit, UploadEnds.ArePlainEnds}
use Rattle.tap_views.specs.declared.{encoder.TapFields.TapFields, upload_end.UploadEnd.UploadEnd}

all_before : (position_of : TapFields → ℕ) (n : ℕ) (taps : List TapFields)
    → All (λ tap. position_of tap < n) taps → before_position position_of n taps ≡ taps
all_before position_of n [] below = refl
all_before position_of n (tap ∷ taps) below =
    rw (lt-ltb (position_of tap) n (All-head (λ t. position_of t < n) tap taps below))
    (ap (λ ts. tap ∷ ts)
    (all_before position_of n taps (All-tail (λ t. position_of t < n) tap taps below)))

-- the parts have the taps, each at its place
parts_moved : (position_of : TapFields → ℕ) (taps : List TapFields) (parts : List (List TapFields))
    → ((part : ℕ) → part < length parts → get_or parts part [] ≡ at_position position_of part taps)
    → (n : ℕ) → n ≤ length parts
    → IsPermutation (before_position position_of n taps) (flat (take n parts))
parts_moved position_of taps parts each zero within =
    subst (λ ts. IsPermutation ts []) (sym (none_before position_of taps)) (IsPermutation-refl [])
parts_moved position_of taps parts each (suc n) within =
    let before = before_position position_of n taps in
    let here = at_position position_of n taps in
    let inside : n < length parts = omega (arith, within) in
    let next : n + 1 ≡ suc n = omega arith in
    subst (λ m. IsPermutation (before_position position_of m taps) (flat (take m parts))) next
    (subst (IsPermutation (before_position position_of (n + 1) taps))
    (sym (flat_more parts n inside ∙ ap (λ ts. flat (take n parts) ++ ts) (each n inside)))
    (IsPermutation-trans (before_position position_of (n + 1) taps) (before ++ here)
    (flat (take n parts) ++ here) (one_position position_of n taps)
    (IsPermutation-append before (flat (take n parts)) here here
    (parts_moved position_of taps parts each n (omega (arith, within))) (IsPermutation-refl here))))

-- the taps of each part in what was kept of runs of taps
pub parts_runs : (bounds : List ℕ) (runs : List (List Tap)) (lists : List (List (List TapFields)))
    → AllZip (ArePartsOf bounds) runs lists → (parts : ℕ) → parts ≡ length bounds + 1
    → All (λ list. length list ≡ parts) lists
    × ((part : ℕ) → part < parts → in_part part lists
    ≡ map fields_of (taps_at (range_of_token bounds) part (taps_of_uploads runs)))
parts_runs bounds [] [] zip parts is = (All-nil (λ list. length list ≡ parts), λ part within. refl)
parts_runs bounds [] (l ∷ lists) zip parts is = absurd zip
parts_runs bounds (r ∷ runs) [] zip parts is = absurd zip
parts_runs bounds (r ∷ runs) (l ∷ lists) zip parts is =
    let rest = parts_runs bounds runs lists zip.1 parts is in (
      All-cons (λ list. length list ≡ parts) l lists (zip.0.number ∙ sym is) rest.0,
      λ part within.
          ap (λ ts. ts ++ in_part part lists) (zip.0.each part (subst (λ n. part < n) is within))
          ∙ ap (λ ts. map fields_of (taps_at (range_of_token bounds) part r) ++ ts)
          (rest.1 part within)
          ∙ sym (fields-append (range_of_token bounds) part r (taps_of_uploads runs)),
    )

pub are_split : (uploads : List (List ℕ)) (ends : List UploadEnd) (parts : List (List TapFields))
    (taps : List (List Tap)) (bounds : List ℕ) → ArePlainEnds uploads ends
    → AreValidTapsOfEach uploads taps → All HasTokenBytes (map fields_of (taps_of_uploads taps))
    → length parts ≡ length bounds + 1
    → ((part : ℕ) → part < length parts → get_or parts part []
    ≡ map fields_of (taps_at (range_of_token bounds) part (taps_of_uploads taps)))
    → AreSplit uploads ends parts
are_split uploads ends parts taps bounds ended each tokens number split =
    let all = map fields_of (taps_of_uploads taps) in
    let position_of : TapFields → ℕ = λ tap. range_of_token bounds tap.token in
    let at : (part : ℕ) → part < length parts
    → get_or parts part [] ≡ at_position position_of part all =
    λ part inside. split part inside
    ∙ part_fields (range_of_token bounds) part (taps_of_uploads taps) in
    record {
      ended = ended;
      taps = taps;
      of_uploads = each;
      moved = subst (IsPermutation all) (ap flat (take_all (length parts) parts (omega arith)))
          (subst (λ ts. IsPermutation ts (flat (take (length parts) parts)))
          (all_before position_of (length parts) all (λ i d inside.
          let most = range_below bounds (get_or all i d).token in omega (arith, most, number)))
          (parts_moved position_of all parts at (length parts) (omega arith)));
      bounds = bounds;
      ranges = λ part inside.
          let p : TapFields → Bool = λ tap. position_of tap == part in
          subst (All (IsSoundTap bounds (0 + part) (0 + part + 1))) (sym (at part inside))
          (λ i d there.
          let is = eqb-true (position_of (get_or (at_position position_of part all) i d)) part
          (filter_passes p all i d there) in
          record {
            early = All-filter p (λ tap. tap.moment < moment_limit) all
                (All-map (λ tap. tap.moment < moment_limit) fields_of (taps_of_uploads taps)
                (uploads_early uploads taps each)) i d there;
            token = All-filter p HasTokenBytes all tokens i d there;
            least = omega (arith, is);
            most = omega (arith, is);
          });
    }
