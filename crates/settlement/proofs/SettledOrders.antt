-- The good taps of uploads in canonical order: their history, and the taps of one token among them.
use Rattle.std.proofs.Common.{◌≡◌, ℕ, ◌<◌, ◌≤◌, ◌^◌, List, ◌∷◌, ◌++◌, All, cond, length, map}
use Rattle.std.proofs.Common.{flat_map, arith, refl, sym, ap, true, ◌∙◌, subst, Vec, Global, []}
use Rattle.histories.specs.Plain.{answered, plain_after, unanswered}
use Rattle.histories.specs.declared.entry.Entry.{Entry}
use Rattle.settlement.proofs.{Early.uploads_early, Files.taps_in, OnlyTaps.is_its}
use Rattle.settlement.proofs.PartBills.{flat, lists_joined, sound_flat}
use Rattle.settlement.proofs.{Ranges.has_name, Same.sum_filter, Sorting.canonical_order}
use Rattle.settlement.proofs.{Sorting.unmoved, TokenRuns.posted_length, Unique.same_sorted}
use Rattle.settlement.specs.Bills.{IsBillOf}
use Rattle.settlement.specs.Posted.{HasName, only, posted, posted_after, token_of_tap}
use Rattle.settlement.specs.{Settled.IsSettledHistory, SettledTaps.AreSettledTaps}
use Rattle.settlement.specs.{SettledTaps.AreSettledTapsOf, declared.bill.Bill.Bill}
use Rattle.settlement.specs.inside.{Billing.IsBillOfTaps, SplitUploads.AreSplit}
use Rattle.std.proofs.lemmas.List.Elements.{All-filter, All-map, filter_passes, All-weaker}
use Rattle.std.proofs.lemmas.List.{Folds.flat_map-map, Kept.IsSortedBy-filter}
use Rattle.std.proofs.lemmas.List.Sorted.{All-permutation, IsPermutation-sym, IsPermutation-trans}
use Rattle.std.proofs.lemmas.List.Sorted.{ranks_by, sum_by-IsPermutation}
use Rattle.std.specs.{List.AllZip, List.sum_by, Ordering.is_lt}
use Rattle.tap_parts.proofs.Total.{tap_cmp_exact, tap_cmp_total}
use Rattle.tap_parts.specs.Canonical.{HasTokenBytes, IsCanonical, tap_cmp}
use Rattle.tap_parts.specs.Parts.{taps_of_uploads}
use Rattle.tap_views.proofs.TokenLemmas.{same_token}
use Rattle.tap_views.specs.{Encoding.AreEarly, Encoding.fields_of, Files.AreValidTapsOfEach}
use Rattle.tap_views.specs.{Layout.Tap, Layout.moment_limit, declared.encoder.TapFields.TapFields}
use Rattle.tap_views.specs.declared.{token.Token.Token, upload_end.UploadEnd.UploadEnd}
use Rattle.tariffs.specs.Fares.{Fares}

-- taps in canonical order, with their tokens' names, are a settled order
pub settled_order : (uploads : List (List ℕ)) (taps : List (List Tap)) (order : List TapFields)
    → AreValidTapsOfEach uploads taps → All HasTokenBytes (map fields_of (taps_of_uploads taps))
    → IsCanonical (map fields_of (taps_of_uploads taps)) order → AreSettledTaps uploads order
settled_order uploads taps order each tokens canonical =
    let valid = taps_of_uploads taps in
    record {
      taps = taps;
      of_uploads = each;
      canonical = canonical;
      early = All-permutation (λ (tap : TapFields). tap.moment < moment_limit) (map fields_of valid)
          order
          canonical.moved
          (All-map (λ (tap : TapFields). tap.moment < moment_limit) fields_of valid
          (uploads_early uploads taps each));
      named = All-weaker HasTokenBytes HasName has_name order
          (All-permutation HasTokenBytes (map fields_of valid) order canonical.moved tokens);
    }

-- the taps of parts in canonical order
pub split_settled : (uploads : List (List ℕ)) (ends : List UploadEnd)
    (parts : List (List TapFields)) (order : List TapFields) → AreSplit uploads ends parts
    → IsCanonical (flat parts) order → AreSettledTaps uploads order
split_settled uploads ends parts order split canonical =
    let valid = map fields_of (taps_of_uploads split.taps) in
    settled_order uploads split.taps order split.of_uploads
    (All-permutation HasTokenBytes (flat parts) valid
    (IsPermutation-sym valid (flat parts) split.moved)
    (λ i d inside. (sound_flat split.bounds 0 parts split.ranges i d inside).token)) (record {
      moved = IsPermutation-trans valid (flat parts) order split.moved canonical.moved;
      sorted = canonical.sorted;
    })

-- the lists of parts, one behind the other
pub lists_settled : (uploads : List (List ℕ)) (ends : List UploadEnd)
    (parts : List (List TapFields)) (lists : List (Vec TapFields Global))
    → AreSplit uploads ends parts → AllZip IsCanonical parts (map taps_in lists)
    → AreSettledTaps uploads (flat_map taps_in lists)
lists_settled uploads ends parts lists split zip =
    subst (AreSettledTaps uploads) (flat_map-map (λ (list : List TapFields). list) taps_in lists)
    (split_settled uploads ends parts (flat (map taps_in lists)) split
    (lists_joined split.bounds 0 parts (map taps_in lists) split.ranges zip))

-- taps posted by their fields are the plain history
posted_of : (fares : Fares) (earlier : List Entry) (taps : List Tap)
    → plain_after fares earlier taps ≡ posted_after fares earlier (map fields_of taps)
unfolding plain_after posted_after
posted_of fares earlier [] = refl
posted_of fares earlier (tap ∷ taps) =
    let entry = answered fares earlier (unanswered tap) in
    ap (λ (es : List Entry). entry ∷ es) (posted_of fares (earlier ++ entry ∷ []) taps)

-- the history of settled taps
pub posted_history : (fares : Fares) (uploads : List (List ℕ)) (order : List TapFields)
    → AreSettledTaps uploads order → IsSettledHistory fares uploads (posted fares order)
posted_history fares uploads order is =
    let valid = map fields_of (taps_of_uploads is.taps) in
    let (list, same) = unmoved (taps_of_uploads is.taps) order is.canonical.moved in
    record {
      taps = is.taps;
      of_uploads = is.of_uploads;
      order = list;
      canonical = subst (IsCanonical valid) same is.canonical;
      entries = ap (posted fares) same ∙ sym (posted_of fares [] list);
    }

-- the bill of parts
pub bill_settled : (uploads : List (List ℕ)) (ends : List UploadEnd)
    (parts : List (List TapFields)) → AreSplit uploads ends parts → (fares : Fares) (bill : Bill)
    → IsBillOfTaps fares (flat parts) bill
    → (history : List Entry) × IsSettledHistory fares uploads history × IsBillOf history bill
    × (length history ≤ 2 ^ 95)
bill_settled uploads ends parts split fares bill billed =
    let few = billed.few in
    let long = posted_length fares [] billed.order in (
      posted fares billed.order,
      posted_history fares uploads billed.order
          (split_settled uploads ends parts billed.order split billed.canonical),
      billed.billed,
      omega (arith, few, long),
    )

-- the taps of one token
pub own_settled : (uploads : List (List ℕ)) (token : Token) (own list : List TapFields)
    (taps : List (List Tap)) → AreValidTapsOfEach uploads taps
    → own ≡ only token (map fields_of (taps_of_uploads taps))
    → All HasTokenBytes (map fields_of (taps_of_uploads taps)) → IsCanonical own list
    → AreSettledTapsOf uploads token list
own_settled uploads token own list taps each are tokens canonical =
    let p = is_its token in
    let order = canonical_order (taps_of_uploads taps) in
    let ordered = map fields_of order.0 in
    record {
      order = ordered;
      settled = settled_order uploads taps ordered each tokens order.1;
      own = same_sorted tap_cmp tap_cmp_total tap_cmp_exact list (only token ordered)
          canonical.sorted
          (IsSortedBy-filter (λ a b. is_lt (tap_cmp a b))
          (ranks_by tap_cmp_total (λ (t : TapFields). t))
          p ordered order.1.sorted)
          (λ f. sum_by-IsPermutation f own list canonical.moved
          ∙ ap (sum_by f) are
          ∙ sum_filter p f (map fields_of (taps_of_uploads taps))
          ∙ sym (sum_by-IsPermutation (λ x. cond (p x) (f x) 0) _ ordered order.1.moved)
          ∙ sym (sum_filter p f ordered));
    }

-- such taps are of the token, and have moments before 2100
module _ (uploads : List (List ℕ)) (token : Token) (taps : List TapFields)
    (is : AreSettledTapsOf uploads token taps) where
  pub own_early : AreEarly (λ (tap : TapFields). tap.moment) taps
  own_early = subst (AreEarly (λ (tap : TapFields). tap.moment)) (sym is.own)
      (All-filter (is_its token) (λ (tap : TapFields). tap.moment < moment_limit) is.order
      is.settled.early)

  pub own_its : All (λ tap. token_of_tap tap ≡ token) taps
  own_its = subst (All (λ tap. token_of_tap tap ≡ token)) (sym is.own)
      (All-weaker (λ tap. is_its token tap ≡ true) (λ tap. token_of_tap tap ≡ token)
      (λ tap same. same_token (token_of_tap tap) token same) (only token is.order)
      (filter_passes (is_its token) is.order))
