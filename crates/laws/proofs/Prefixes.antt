-- What a token is charged before a moment depends on its taps before the moment alone.
use Rattle.std.proofs.Common.{◌≡◌, ℕ, Bool, true, false, ◌&&◌, cond, List, [], ◌∷◌, ◌++◌, map}
use Rattle.std.proofs.Common.{filter, refl, sym, ap, subst, ◌∙◌, arith, All, nat_lt}
use Rattle.fare_service.proofs.OwnVisits.{filter_none}
use Rattle.histories.specs.{Entry.is_of, Entry.own, Entry.taps_of, Keys.same_token, Plain.answered}
use Rattle.histories.specs.{Plain.token_of_bytes, declared.entry.Entry.Entry}
use Rattle.laws.proofs.{BillLemmas.live_filter, Once.Among}
use Rattle.laws.proofs.OwnTaps.{answered_alike, push_mine, push_other}
use Rattle.laws.proofs.{Posts.after, Posts.plain_is_after, Sets.same_bill}
use Rattle.laws.specs.Bills.{bill_before, live_entries}
use Rattle.laws.specs.TapSets.{HaveSameTapsBefore, fields_of_uploads, is_before}
use Rattle.settlement.proofs.Contained.{kept_there, was_there}
use Rattle.settlement.proofs.{Histories.entry_of, Own.IsNamedBy, Own.one_token}
use Rattle.settlement.proofs.Placed.{NotLess, Pairs, no_earlier, sorted_pairs}
use Rattle.settlement.specs.Settled.{IsSettledHistory}
use Rattle.std.proofs.lemmas.Bool.{le-ltb, ltb-false}
use Rattle.std.proofs.lemmas.List.Elements.{All-head, All-tail, All-contains, filter_passes}
use Rattle.std.proofs.lemmas.List.Kept.{IsSortedBy-filter}
use Rattle.std.proofs.lemmas.List.Sorted.{Contains-permutation, IsPermutation-sym, ranks_by}
use Rattle.std.specs.{List.Sorted.IsPermutation, Ordering.is_lt}
use Rattle.std.specs.Prelude.{Contains, slice_index_or}
use Rattle.tap_parts.proofs.Total.{tap_cmp_total}
use Rattle.tap_parts.specs.Canonical.{tap_cmp}
use Rattle.tap_views.proofs.ParseLemmas.{one_list}
use Rattle.tap_views.specs.{Encoding.fields_of, Files.HasUniqueParse, Layout.Tap, Token.token_eq}
use Rattle.tap_views.specs.declared.{encoder.TapFields.TapFields, token.Token.Token}
use Rattle.tariffs.specs.Fares.{Fares}

module _ (fares : Fares) (token : Token) (moment : ℕ) where
  -- whether the entry is the token's, and before the moment
  pub is_entry_before : Entry → Bool
  is_entry_before entry = is_of token entry && nat_lt entry.moment moment

  -- none of these taps is of the token and before the moment
  abbrev NoneBefore : List TapFields → Type 0
  NoneBefore fs = All (λ f. is_before token moment f ≡ false) fs

  none_entered : (earlier : List Entry) (fs : List TapFields) → NoneBefore fs
      → filter is_entry_before (after fares earlier fs) ≡ []
  unfolding is_entry_before after answered entry_of
  none_entered earlier [] none = refl
  none_entered earlier (f ∷ fs) none =
      let entry = answered fares earlier (entry_of f) in
      let rest = after fares (earlier ++ entry ∷ []) fs in
      ap (λ b. cond b (entry ∷ filter is_entry_before rest) (filter is_entry_before rest))
      (All-head (λ g. is_before token moment g ≡ false) f fs none)
      ∙ none_entered (earlier ++ entry ∷ []) fs
      (All-tail (λ g. is_before token moment g ≡ false) f fs none)

  -- behind a tap of the token that is not before the moment, none is
  none_after : (f : TapFields) (fs : List TapFields) → IsNamedBy f → All IsNamedBy fs
      → All (NotLess f) fs → token_eq (token_of_bytes f.token) token ≡ true
      → nat_lt f.moment moment ≡ false → NoneBefore fs
  none_after f fs named names above is late = λ k d within. of_one (get fs k d)
      (names k d within) (above k d within)
    where
      get : List TapFields → ℕ → TapFields → TapFields
      get xs k d = slice_index_or xs k d

      of_one : (g : TapFields) → IsNamedBy g → NotLess f g → is_before token moment g ≡ false
      of_one g other not = by_token (token_eq (token_of_bytes g.token) token) refl
        where
          by_token : (b : Bool) → token_eq (token_of_bytes g.token) token ≡ b
              → (b && nat_lt g.moment moment) ≡ false
          by_token false e = refl
          by_token true e =
              let increases = no_earlier f g not (one_token token f g named other is e) in
              let low = ltb-false f.moment moment late in
              le-ltb g.moment moment (omega (arith, increases, low))

  -- the entries of the token before the moment are those of its taps before the moment
  pub picked : (one other : List Entry) (fs : List TapFields) → All IsNamedBy fs
      → Pairs NotLess fs → taps_of fares token one ≡ taps_of fares token other
      → filter is_entry_before (after fares one fs)
      ≡ after fares other (filter (is_before token moment) fs)
  unfolding after is_entry_before answered entry_of
  picked one other [] names up same = refl
  picked one other (f ∷ fs) names up same =
      by_tests (token_eq (token_of_bytes f.token) token) (nat_lt f.moment moment) refl refl
      (λ o p s. picked o p fs (All-tail IsNamedBy f fs names) up.1 s)
    where
      entry : Entry
      entry = answered fares one (entry_of f)

      by_tests : (b c : Bool) → token_eq (token_of_bytes f.token) token ≡ b
          → nat_lt f.moment moment ≡ c
          → ((o p : List Entry) → taps_of fares token o ≡ taps_of fares token p
          → filter is_entry_before (after fares o fs)
          ≡ after fares p (filter (is_before token moment) fs))
          → cond (b && c) (answered fares one (entry_of f)
          ∷ filter is_entry_before (after fares (one ++ answered fares one (entry_of f) ∷ []) fs))
          (filter is_entry_before (after fares (one ++ answered fares one (entry_of f) ∷ []) fs))
          ≡ after fares other (cond (b && c) (f ∷ filter (is_before token moment) fs)
          (filter (is_before token moment) fs))
      by_tests true true eb ec more =
          let entry = answered fares one (entry_of f) in
          let alike = answered_alike fares token one other (entry_of f)
          (same_token (token_of_bytes f.token) token eb) same in
          ap (λ es. entry ∷ es) (more (one ++ entry ∷ []) (other ++ entry ∷ [])
          (push_mine fares token one other entry same))
          ∙ ap (λ (e : Entry). e ∷ after fares (other ++ e ∷ [])
          (filter (is_before token moment) fs)) alike
      by_tests true false eb ec more =
          let entry = answered fares one (entry_of f) in
          let none = none_after f fs (All-head IsNamedBy f fs names)
          (All-tail IsNamedBy f fs names) up.0 eb ec in
          none_entered (one ++ entry ∷ []) fs none
          ∙ sym (ap (after fares other) (filter_none (is_before token moment) fs none))
      by_tests false c eb ec more =
          let entry = answered fares one (entry_of f) in
          more (one ++ entry ∷ []) other (push_other fares token one entry eb ∙ same)

-- ---- the law
filter_both : {X : Type 0} (p q : X → Bool) (xs : List X)
    → filter p (filter q xs) ≡ filter (λ x. q x && p x) xs
filter_both p q [] = refl
filter_both p q (x ∷ xs) = by_test (q x) refl (filter_both p q xs)
  where
    by_test : (b : Bool) → q x ≡ b → filter p (filter q xs) ≡ filter (λ x. q x && p x) xs
        → filter p (cond b (x ∷ filter q xs) (filter q xs))
        ≡ cond (b && p x) (x ∷ filter (λ x. q x && p x) xs) (filter (λ x. q x && p x) xs)
    by_test true e rest = ap (λ l. cond (p x) (x ∷ l) l) rest
    by_test false e rest = rest

before_is : (fares : Fares) (token : Token) (moment : ℕ) (es : List Entry)
    → bill_before token moment es ≡ live_entries (filter (is_entry_before fares token moment) es)
unfolding own is_entry_before
before_is fares token moment es =
    let late = λ (entry : Entry). nat_lt entry.moment moment in
    sym (live_filter late (own token es))
    ∙ ap live_entries (filter_both late (is_of token) es)

-- what is picked of one canonical list is among what is picked of the other
among_picked : (q : TapFields → Bool) (mine yours xs ys : List TapFields) → IsPermutation mine xs
    → IsPermutation yours ys → All (Contains yours) (filter q mine)
    → Among (filter q xs) (filter q ys)
among_picked q mine yours xs ys moved moved_too all = λ z there.
    let passes : q z ≡ true =
    All-contains (λ x. q x ≡ true) (filter q xs) z (filter_passes q xs) there in
    let of_xs : Contains xs z = was_there q xs z there in
    let of_mine = Contains-permutation xs mine z (IsPermutation-sym mine xs moved) of_xs in
    let of_yours = All-contains (Contains yours) (filter q mine) z all
    (kept_there q mine z passes of_mine) in
    kept_there q ys z passes (Contains-permutation yours ys z moved_too of_yours)

pub late : (fares : Fares) (token : Token) (moment : ℕ) (uploads others : List (List ℕ))
    (history again : List Entry) → All HasUniqueParse uploads → All HasUniqueParse others
    → HaveSameTapsBefore token moment uploads others
    → (one : IsSettledHistory fares uploads history) (other : IsSettledHistory fares others again)
    → All IsNamedBy (map fields_of one.order) → All IsNamedBy (map fields_of other.order)
    → bill_before token moment history ≡ bill_before token moment again
late fares token moment uploads others history again cuts other_cuts same one other names more =
    let here = one_list uploads same.taps one.taps cuts same.of_uploads one.of_uploads in
    let there = one_list others same.other_taps other.taps other_cuts same.of_others
    other.of_uploads in
    let q = is_before token moment in
    let e = is_entry_before fares token moment in
    let mine = fields_of_uploads one.taps in
    let yours = fields_of_uploads other.taps in
    let xs = map fields_of one.order in
    let ys = map fields_of other.order in
    let A : List (List Tap) → Type 0 =
    λ ts. All (Contains (fields_of_uploads same.other_taps)) (filter q (fields_of_uploads ts)) in
    let B : List (List Tap) → Type 0 =
    λ ts. All (Contains (fields_of_uploads ts)) (filter q mine) in
    let C : List (List Tap) → Type 0 =
    λ ts. All (Contains (fields_of_uploads ts)) (filter q (fields_of_uploads same.other_taps)) in
    let D : List (List Tap) → Type 0 =
    λ ts. All (Contains mine) (filter q (fields_of_uploads ts)) in
    let sent : All (Contains yours) (filter q mine) = subst B there (subst A here same.there) in
    let back : All (Contains mine) (filter q yours) = subst D there (subst C here same.back) in
    let lt = λ (a : TapFields) (b : TapFields). is_lt (tap_cmp a b) in
    let rank = ranks_by tap_cmp_total (λ (t : TapFields). t) in
    let bill = same_bill fares (filter q xs) (filter q ys)
    (IsSortedBy-filter (λ a b. is_lt (tap_cmp a b)) rank q xs one.canonical.sorted)
    (IsSortedBy-filter (λ a b. is_lt (tap_cmp a b)) rank q ys other.canonical.sorted)
    (among_picked q mine yours xs ys one.canonical.moved other.canonical.moved sent)
    (among_picked q yours mine ys xs other.canonical.moved one.canonical.moved back) in
    let first : history ≡ after fares [] xs = one.entries ∙ plain_is_after fares [] one.order in
    let second : again ≡ after fares [] ys = other.entries ∙ plain_is_after fares [] other.order in
    before_is fares token moment history
    ∙ ap (λ es. live_entries (filter e es)) first
    ∙ ap live_entries (picked fares token moment [] [] xs names
    (sorted_pairs xs one.canonical.sorted) refl)
    ∙ bill.lines
    ∙ sym (ap live_entries (picked fares token moment [] [] ys more
    (sorted_pairs ys other.canonical.sorted) refl))
    ∙ sym (ap (λ es. live_entries (filter e es)) second)
    ∙ sym (before_is fares token moment again)
