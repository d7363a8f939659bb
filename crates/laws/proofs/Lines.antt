-- The lines before a moment depend on the taps before it alone.
use Rattle.std.proofs.Common.{◌≡◌, ℕ, Bool, true, false, cond, List, [], ◌∷◌, ◌++◌, map, filter}
use Rattle.std.proofs.Common.{refl, sym, ap, subst, ◌∙◌, arith, All, nat_lt}
use Rattle.histories.specs.{Entry.taps_of, Keys.same_token, Plain.answered, Plain.token_of_bytes}
use Rattle.histories.specs.declared.entry.Entry.{Entry}
use Rattle.laws.proofs.{Alike.alike-filter, Alike.permuted_alike, OwnTaps.answered_alike}
use Rattle.laws.proofs.{OwnTaps.push_mine, OwnTaps.push_other, Posts.after, Posts.plain_is_after}
use Rattle.laws.specs.Bills.{lines_before}
use Rattle.laws.specs.TapSets.{HaveTapsAlikeBefore, fields_of_uploads, is_tap_before}
use Rattle.settlement.proofs.{Histories.entry_of, Own.IsNamedBy}
use Rattle.settlement.proofs.Placed.{Pairs, Ascends, all_ascending, no_earlier}
use Rattle.settlement.proofs.Unique.{AreAlike, same_sorted}
use Rattle.settlement.specs.Settled.{IsSettledHistory}
use Rattle.std.proofs.lemmas.{Bool.ltb-false, Bool.ltb-true, List.Elements.All-head}
use Rattle.std.proofs.lemmas.List.{Elements.All-tail, Elements.All-weaker, Kept.IsSortedBy-filter}
use Rattle.std.proofs.lemmas.List.Sorted.{IsPermutation-sym, ranks_by}
use Rattle.std.specs.{List.Sorted.IsPermutation, Ordering.is_lt, Prelude.slice_index_or}
use Rattle.tap_parts.proofs.Total.{tap_cmp_exact, tap_cmp_total}
use Rattle.tap_parts.specs.Canonical.{tap_cmp}
use Rattle.tap_views.proofs.ParseLemmas.{one_list}
use Rattle.tap_views.specs.{Encoding.fields_of, Files.HasUniqueParse, Layout.Tap, Token.bytes_of}
use Rattle.tap_views.specs.{Token.token_eq, declared.encoder.TapFields.TapFields}
use Rattle.tariffs.specs.Fares.{Fares}

module _ (fares : Fares) (moment : ℕ) where
  -- if the tap is before the moment, its token has the same taps in both
  abbrev SameFor : List Entry → List Entry → TapFields → Type 0
  SameFor one other f = nat_lt f.moment moment ≡ true
      → taps_of fares (token_of_bytes f.token) one ≡ taps_of fares (token_of_bytes f.token) other

  -- an entry that is not before the moment is none of a token with a later tap before it
  still_same : (one other : List Entry) (f g : TapFields) → nat_lt f.moment moment ≡ false
      → IsNamedBy f → IsNamedBy g → Ascends f g → SameFor one other g
      → SameFor (one ++ answered fares one (entry_of f) ∷ []) other g
  unfolding answered entry_of
  still_same one other f g late named named_too increases same = λ before.
      push_other fares (token_of_bytes g.token) one (answered fares one (entry_of f))
      (by_token before (token_eq (token_of_bytes f.token) (token_of_bytes g.token)) refl)
      ∙ same before
    where
      by_token : nat_lt g.moment moment ≡ true → (b : Bool)
          → token_eq (token_of_bytes f.token) (token_of_bytes g.token) ≡ b
          → token_eq (token_of_bytes f.token) (token_of_bytes g.token) ≡ false
      by_token before false e = e
      by_token before true e =
          let is : f.token ≡ g.token =
          sym named
          ∙ ap bytes_of (same_token (token_of_bytes f.token) (token_of_bytes g.token) e)
          ∙ named_too in
          let up = no_earlier f g (increases is) is in
          let low = ltb-true g.moment moment before in
          let high = ltb-false f.moment moment late in
          absurd (omega (arith, up, low, high))

  lines_after : (one other : List Entry) (fs : List TapFields) → All IsNamedBy fs
      → Pairs Ascends fs → All (SameFor one other) fs
      → lines_before moment (after fares one fs)
      ≡ after fares other (filter (is_tap_before moment) fs)
  unfolding after answered entry_of
  lines_after one other [] names up same = refl
  lines_after one other (f ∷ fs) names up same =
      by_test (nat_lt f.moment moment) refl
      (λ o p s. lines_after o p fs (All-tail IsNamedBy f fs names) up.1 s)
    where
      get : List TapFields → ℕ → TapFields → TapFields
      get xs k d = slice_index_or xs k d

      by_test : (b : Bool) → nat_lt f.moment moment ≡ b
          → ((o p : List Entry) → All (SameFor o p) fs
          → lines_before moment (after fares o fs)
          ≡ after fares p (filter (is_tap_before moment) fs))
          → cond b (answered fares one (entry_of f)
          ∷ lines_before moment (after fares (one ++ answered fares one (entry_of f) ∷ []) fs))
          (lines_before moment (after fares (one ++ answered fares one (entry_of f) ∷ []) fs))
          ≡ after fares other (cond b (f ∷ filter (is_tap_before moment) fs)
          (filter (is_tap_before moment) fs))
      by_test true e more =
          let entry = answered fares one (entry_of f) in
          let alike = answered_alike fares (token_of_bytes f.token) one other (entry_of f) refl
          (All-head (SameFor one other) f fs same e) in
          ap (λ es. entry ∷ es) (more (one ++ entry ∷ []) (other ++ entry ∷ [])
          (All-weaker (SameFor one other) (SameFor (one ++ entry ∷ []) (other ++ entry ∷ []))
          (λ g here before. push_mine fares (token_of_bytes g.token) one other entry (here before))
          fs
          (All-tail (SameFor one other) f fs same)))
          ∙ ap (λ (g : Entry). g ∷ after fares (other ++ g ∷ [])
          (filter (is_tap_before moment) fs)) alike
      by_test false e more =
          let entry = answered fares one (entry_of f) in
          let names_after = All-tail IsNamedBy f fs names in
          let same_after = All-tail (SameFor one other) f fs same in
          more (one ++ entry ∷ []) other (λ k d within.
          still_same one other f (get fs k d) e (All-head IsNamedBy f fs names)
          (names_after k d within) (up.0 k d within) (same_after k d within))

pub lines : (fares : Fares) (moment : ℕ) (uploads others : List (List ℕ))
    (history again : List Entry) → All HasUniqueParse uploads → All HasUniqueParse others
    → HaveTapsAlikeBefore moment uploads others
    → (one : IsSettledHistory fares uploads history) (other : IsSettledHistory fares others again)
    → All IsNamedBy (map fields_of one.order) → All IsNamedBy (map fields_of other.order)
    → lines_before moment history ≡ lines_before moment again
lines fares moment uploads others history again cuts other_cuts same one other names more =
    let here = one_list uploads same.taps one.taps cuts same.of_uploads one.of_uploads in
    let there = one_list others same.other_taps other.taps other_cuts same.of_others
    other.of_uploads in
    let q = is_tap_before moment in
    let mine = fields_of_uploads one.taps in
    let yours = fields_of_uploads other.taps in
    let xs = map fields_of one.order in
    let ys = map fields_of other.order in
    let A : List (List Tap) → Type 0 = λ ts.
    IsPermutation (filter q (fields_of_uploads ts))
    (filter q (fields_of_uploads same.other_taps)) in
    let B : List (List Tap) → Type 0 = λ ts.
    IsPermutation (filter q mine) (filter q (fields_of_uploads ts)) in
    let between : IsPermutation (filter q mine) (filter q yours) =
    subst B there (subst A here same.alike) in
    let alike : AreAlike (filter q xs) (filter q ys) = λ f.
    alike-filter q xs mine
    (permuted_alike xs mine (IsPermutation-sym mine xs one.canonical.moved)) f
    ∙ permuted_alike (filter q mine) (filter q yours) between f
    ∙ alike-filter q yours ys (permuted_alike yours ys other.canonical.moved) f in
    let lt = λ (a : TapFields) (b : TapFields). is_lt (tap_cmp a b) in
    let rank = ranks_by tap_cmp_total (λ (t : TapFields). t) in
    let list : filter q xs ≡ filter q ys =
    same_sorted tap_cmp tap_cmp_total tap_cmp_exact (filter q xs) (filter q ys)
    (IsSortedBy-filter (λ a b. is_lt (tap_cmp a b)) rank q xs one.canonical.sorted)
    (IsSortedBy-filter (λ a b. is_lt (tap_cmp a b)) rank q ys other.canonical.sorted) alike in
    let first : history ≡ after fares [] xs = one.entries ∙ plain_is_after fares [] one.order in
    let second : again ≡ after fares [] ys = other.entries ∙ plain_is_after fares [] other.order in
    ap (lines_before moment) first
    ∙ lines_after fares moment [] [] xs names (all_ascending xs one.canonical.sorted)
    (λ k d within before. refl)
    ∙ ap (after fares []) list
    ∙ sym (lines_after fares moment [] [] ys more (all_ascending ys other.canonical.sorted)
    (λ k d within before. refl))
    ∙ sym (ap (lines_before moment) second)
