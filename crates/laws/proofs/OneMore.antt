-- One more tap of a token in settled uploads makes no fewer rides.
use Rattle.std.proofs.Common.{◌≡◌, ◌≢◌, ℕ, ◌+◌, ◌≤◌, ◌<◌, true, false, List, [], ◌∷◌, ◌++◌, map}
use Rattle.std.proofs.Common.{filter, Option, Some, None, refl, sym, ap, subst, ◌∙◌, arith, All}
use Rattle.std.proofs.Common.{count_by, inl, inr, is_some, option_map}
use Rattle.account_rule.specs.{Laws.is_ride, Replies.replies}
use Rattle.account_rule.specs.TokenRules.{rules_of, token_class, transfers_of}
use Rattle.account_rule.specs.declared.tap.TapIn.{TapIn}
use Rattle.fare_caps.proofs.AnswerLemmas.{same-rides}
use Rattle.fare_caps.specs.CapMeanings.{capped_rules_of}
use Rattle.histories.specs.Entry.{mode_of_position, tap_of, taps_of}
use Rattle.histories.specs.declared.entry.Entry.{Entry}
use Rattle.laws.proofs.Alike.{alike-filter, alike-without, moved_all, moved_kept, pairs_after}
use Rattle.laws.proofs.Alike.{pairs_without, permuted_alike, split_at}
use Rattle.laws.proofs.OwnTaps.{own_after, tap_in, taps_after}
use Rattle.laws.proofs.Posts.{after, plain_is_after}
use Rattle.laws.proofs.Rides.{GiveOneAtMost, IsAfter, no_fewer_rides}
use Rattle.laws.specs.Bills.{GivesOneAtMost, rides_of}
use Rattle.laws.specs.TapSets.{HaveOneMoreTap, fields_of_uploads, is_known_tap, is_tap_of, own_taps}
use Rattle.settlement.proofs.{Contained.first_there, Histories.entry_of, Own.IsNamedBy}
use Rattle.settlement.proofs.{Own.one_token, Placed.NotLess, Placed.Pairs, Placed.no_earlier}
use Rattle.settlement.proofs.{Placed.sorted_pairs, Settlings.legal_history, Sorting.sorted_by_pairs}
use Rattle.settlement.proofs.Unique.{AreAlike, same_sorted}
use Rattle.settlement.specs.Settled.{IsSettledHistory}
use Rattle.shard_book.proofs.WindowsLemmas.{replies-own}
use Rattle.std.proofs.lemmas.{Bool.cases_lt, List.map-append, List.Elements.All-cons}
use Rattle.std.proofs.lemmas.List.Elements.{All-filter, All-head, All-nil, All-tail, filter_passes}
use Rattle.std.proofs.lemmas.List.{Kept.IsSortedBy-filter, Sorted.Contains-permutation}
use Rattle.std.proofs.lemmas.List.{Sorted.IsPermutation-sym, Sorted.ranks_by, Sums.sum_by-cons}
use Rattle.std.specs.{List.Sorted.IsPermutation, Ordering.is_lt, Prelude.◌⊎◌, Prelude.Contains}
use Rattle.tap_parts.proofs.Total.{tap_cmp_exact, tap_cmp_total}
use Rattle.tap_parts.specs.Canonical.{tap_cmp}
use Rattle.tap_views.proofs.{Lists.All-split, ParseLemmas.one_list}
use Rattle.tap_views.specs.{Encoding.fields_of, Files.HasUniqueParse, Layout.Tap, Token.bytes_of}
use Rattle.tap_views.specs.declared.{encoder.TapFields.TapFields, token.Token.Token}
use Rattle.tariffs.specs.Fares.{Fares, mode_at}

-- what the class gives is what the rules of the token give
gives_one : (fares : Fares) (token : Token) → GivesOneAtMost fares token
    → GiveOneAtMost (rules_of fares (bytes_of token)).transfers
unfolding rules_of transfers_of token_class
gives_one fares token few tap = few tap.moment

-- the number of rides of a token, by the fields of its taps
rides_by : Fares → Token → List TapFields → ℕ
rides_by fares token fs =
    count_by is_ride (replies (rules_of fares (bytes_of token)) (map (tap_in fares) fs))

rides_by_taps : (fares : Fares) (token : Token) (uploads : List (List ℕ)) (history : List Entry)
    → (is : IsSettledHistory fares uploads history)
    → rides_of token history
    ≡ rides_by fares token (filter (is_tap_of token) (map fields_of is.order))
unfolding taps_of rides_by capped_rules_of
rides_by_taps fares token uploads history is =
    let xs = map fields_of is.order in
    let rules = rules_of fares (bytes_of token) in
    let whole : history ≡ after fares [] xs = is.entries ∙ plain_is_after fares [] is.order in
    let taps : taps_of fares token history ≡ map (tap_in fares) (filter (is_tap_of token) xs) =
    ap (taps_of fares token) whole
    ∙ ap (map (tap_of fares)) (own_after fares token [] [] xs refl)
    ∙ taps_after fares [] (filter (is_tap_of token) xs) in
    ap (count_by is_ride) (replies-own fares token history (legal_history fares uploads history is))
    ∙ same-rides (capped_rules_of fares (bytes_of token)) (taps_of fares token history)
    ∙ ap (λ (ts : List TapIn). count_by is_ride (replies rules ts)) taps

mapped_is_some : {X : Type 0} (f : ℕ → X) (found : Option ℕ)
    → is_some (option_map f found) ≡ is_some found
mapped_is_some f None = refl
mapped_is_some f (Some position) = refl

module _ (fares : Fares) (token : Token) (x : TapFields) where
  -- a known tap is at another moment than the one that is added
  abbrev Apart : TapFields → Type 0
  Apart f = is_known_tap fares f ≡ true → f.moment ≢ x.moment

  after_one : (f : TapFields) → IsNamedBy x → IsNamedBy f → is_tap_of token x ≡ true
      → is_tap_of token f ≡ true → NotLess x f → Apart f
      → IsAfter (tap_in fares x) (tap_in fares f)
  unfolding tap_in tap_of entry_of
  after_one f named named_too is is_too up apart = λ seen.
      by_order (apart
      (sym (mapped_is_some mode_of_position (mode_at fares f.moment f.validator)) ∙ seen))
      (no_earlier x f up (one_token token x f named named_too is is_too))
      (cases_lt x.moment f.moment)
    where
      by_order : f.moment ≢ x.moment → x.moment ≤ f.moment
          → (x.moment < f.moment) ⊎ (f.moment ≤ x.moment)
          → (is_some (tap_in fares x).mode ≡ false) ⊎ (x.moment < f.moment)
      by_order differs least (inl below) = inr below
      by_order differs least (inr above) = absurd (differs (omega (arith, least, above)))

  after_all : (fs : List TapFields) → IsNamedBy x → All IsNamedBy fs → is_tap_of token x ≡ true
      → All (λ f. is_tap_of token f ≡ true) fs → All (NotLess x) fs → All Apart fs
      → All (IsAfter (tap_in fares x)) (map (tap_in fares) fs)
  after_all [] named names is are up apart = All-nil (IsAfter (tap_in fares x))
  after_all (f ∷ fs) named names is are up apart =
      let P : TapFields → Type 0 = λ g. is_tap_of token g ≡ true in
      All-cons (IsAfter (tap_in fares x)) (tap_in fares f) (map (tap_in fares) fs)
      (after_one f named (All-head IsNamedBy f fs names) is (All-head P f fs are)
      (All-head (NotLess x) f fs up) (All-head Apart f fs apart))
      (after_all fs named (All-tail IsNamedBy f fs names) is (All-tail P f fs are)
      (All-tail (NotLess x) f fs up) (All-tail Apart f fs apart))

  -- the sorted taps of a token, and one more among them
  more_rides : (xs ys : List TapFields) → AreAlike (x ∷ xs) ys → Pairs NotLess xs
      → Pairs NotLess ys → All IsNamedBy ys → All (λ f. is_tap_of token f ≡ true) ys → Contains ys x
      → All Apart xs → GivesOneAtMost fares token
      → rides_by fares token xs ≤ rides_by fares token ys
  unfolding rides_by
  more_rides xs ys alike up again names are there apart few =
      let P : TapFields → Type 0 = λ g. is_tap_of token g ≡ true in
      let (front, back, is) = split_at x ys there in
      let Ups : List TapFields → Type 0 = λ fs. Pairs NotLess fs in
      let pairs : Pairs NotLess (front ++ x ∷ back) = subst Ups is again in
      let list : xs ≡ front ++ back =
      same_sorted tap_cmp tap_cmp_total tap_cmp_exact xs (front ++ back) (sorted_by_pairs xs up)
      (sorted_by_pairs (front ++ back) (pairs_without NotLess x front back pairs))
      (alike-without x xs front back (subst (λ zs. AreAlike (x ∷ xs) zs) is alike)) in
      let named = (All-split IsNamedBy front (x ∷ back) (subst (All IsNamedBy) is names)).1 in
      let mine = (All-split P front (x ∷ back) (subst (All P) is are)).1 in
      let apart_after = (All-split Apart front back (subst (All Apart) list apart)).1 in
      let trailing = after_all back (All-head IsNamedBy x back named)
      (All-tail IsNamedBy x back named) (All-head P x back mine) (All-tail P x back mine)
      (pairs_after NotLess x front back pairs) apart_after in
      let rules = rules_of fares (bytes_of token) in
      let t = map (tap_in fares) in
      let rides : List TapIn → ℕ = λ ts. count_by is_ride (replies rules ts) in
      let least = no_fewer_rides rules (gives_one fares token few) (tap_in fares x) (t front)
      (t back) trailing in
      let fewer : rides (t xs) ≡ rides (t front ++ t back) =
      ap (λ fs. rides (t fs)) list ∙ ap rides (map-append (tap_in fares) front back) in
      let rest : rides (t ys) ≡ rides (t front ++ tap_in fares x ∷ t back) =
      ap (λ fs. rides (t fs)) is ∙ ap rides (map-append (tap_in fares) front (x ∷ back)) in
      omega (arith, least, fewer, rest)

-- ---- the law
pub one_more : (fares : Fares) (token : Token) (uploads others : List (List ℕ))
    (history again : List Entry) → All HasUniqueParse uploads → All HasUniqueParse others
    → GivesOneAtMost fares token → HaveOneMoreTap fares token uploads others
    → (one : IsSettledHistory fares uploads history) (two : IsSettledHistory fares others again)
    → All IsNamedBy (map fields_of two.order)
    → rides_of token history ≤ rides_of token again
one_more fares token uploads others history again cuts other_cuts few same one two names =
    let here = one_list uploads same.taps one.taps cuts same.of_uploads one.of_uploads in
    let there = one_list others same.other_taps two.taps other_cuts same.of_others two.of_uploads in
    let x = same.added in
    let p = is_tap_of token in
    let mine = fields_of_uploads one.taps in
    let yours = fields_of_uploads two.taps in
    let xs = map fields_of one.order in
    let ys = map fields_of two.order in
    let A : List (List Tap) → Type 0 = λ ts.
    IsPermutation (x ∷ own_taps token ts) (own_taps token same.other_taps) in
    let B : List (List Tap) → Type 0 = λ ts. IsPermutation (x ∷ filter p mine) (own_taps token ts)
    in
    let between : IsPermutation (x ∷ filter p mine) (filter p yours) =
    subst B there (subst A here same.alike) in
    let C : List (List Tap) → Type 0 = λ ts. All (Apart fares token x) (own_taps token ts) in
    let apart : All (Apart fares token x) (filter p mine) = subst C here same.apart in
    let alike : AreAlike (x ∷ filter p xs) (filter p ys) = λ f.
    sum_by-cons f x (filter p xs)
    ∙ ap (λ n. f x + n) (alike-filter p xs mine
    (permuted_alike xs mine (IsPermutation-sym mine xs one.canonical.moved)) f)
    ∙ sym (sum_by-cons f x (filter p mine))
    ∙ permuted_alike (x ∷ filter p mine) (filter p yours) between f
    ∙ alike-filter p yours ys (permuted_alike yours ys two.canonical.moved) f in
    let is_there : Contains (filter p ys) x =
    moved_kept p yours ys x two.canonical.moved
    (Contains-permutation (x ∷ filter p mine) (filter p yours) x between
    (first_there x (filter p mine))) in
    let rank = ranks_by tap_cmp_total (λ (t : TapFields). t) in
    let least = more_rides fares token x (filter p xs) (filter p ys) alike
    (sorted_pairs (filter p xs)
    (IsSortedBy-filter (λ a b. is_lt (tap_cmp a b)) rank p xs one.canonical.sorted))
    (sorted_pairs (filter p ys)
    (IsSortedBy-filter (λ a b. is_lt (tap_cmp a b)) rank p ys two.canonical.sorted))
    (All-filter p IsNamedBy ys names) (filter_passes p ys) is_there
    (moved_all p (Apart fares token x) mine xs one.canonical.moved apart) few in
    let fewer = rides_by_taps fares token uploads history one in
    let rest = rides_by_taps fares token others again two in
    omega (arith, least, fewer, rest)
