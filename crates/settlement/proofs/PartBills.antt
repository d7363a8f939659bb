-- Bills of parts that are ranges of tokens, and of runs of such parts.
use Rattle.std.proofs.Common.{◌≡◌, ℕ, suc, ◌+◌, ◌<◌, ◌≤◌, List, ◌∷◌, ◌++◌, [], All, length, map}
use Rattle.std.proofs.Common.{flat_map, take, drop, get_or, sym, ap, subst, ◌∙◌, arith}
use Rattle.std.proofs.Common.{length-append}
use Rattle.histories.specs.{SumsByKey.token_of, declared.entry.Entry.Entry}
use Rattle.settlement.proofs.Nondecreasing.{canonical_nondecreasing, nondecreasing_append}
use Rattle.settlement.proofs.Placed.{NotLess, pairs_append, sorted_pairs}
use Rattle.settlement.proofs.Ranges.{AreTapsBelow, has_name, later_range, posted_below, to_tokens}
use Rattle.settlement.proofs.Sorting.{sorted_by_pairs}
use Rattle.settlement.proofs.TokenRuns.{posted_length, tokens_posted}
use Rattle.settlement.specs.Bills.{HaveBillRoom, IsBillOf}
use Rattle.settlement.specs.Nondecreasing.{TapsNondecreasingFrom, last_token}
use Rattle.settlement.specs.Posted.{HasName, posted, token_of_tap}
use Rattle.settlement.specs.declared.bill.Bill.{Bill}
use Rattle.settlement.specs.inside.Billing.{AreFewInRanges, AreRangesFrom, IsBillOfTaps, IsSoundTap}
use Rattle.std.proofs.lemmas.List.{get_or_default, get_or-take, get_or-drop, flat_map_more}
use Rattle.std.proofs.lemmas.List.{length-take, length-drop, take-append-drop, take_more}
use Rattle.std.proofs.lemmas.List.Concat.{flat_map-append}
use Rattle.std.proofs.lemmas.List.Elements.{All-append, All-nil, All-weaker}
use Rattle.std.proofs.lemmas.List.Sorted.{All-permutation, IsPermutation-append, length_permutation}
use Rattle.std.proofs.lemmas.List.Sorted.{IsPermutation-refl}
use Rattle.std.specs.List.{AllZip}
use Rattle.tap_parts.proofs.RangeLemmas.{ranges_in_order}
use Rattle.tap_parts.specs.Canonical.{IsCanonical}
use Rattle.tap_views.specs.TokenOrder.{AreBelow}
use Rattle.tap_views.specs.declared.{encoder.TapFields.TapFields, token.Token.Token}
use Rattle.tariffs.specs.Fares.{Fares}

-- the taps of parts, one part after the other
abbrev pub flat : List (List TapFields) → List TapFields
flat parts = flat_map (λ part. part) parts

pub flat_more : (parts : List (List TapFields)) (i : ℕ) → i < length parts
    → flat (take (i + 1) parts) ≡ flat (take i parts) ++ get_or parts i []
flat_more parts i inside =
    ap flat (take_more parts i [] inside)
    ∙ sym (flat_map_more (λ (part : List TapFields). part) [] (take i parts) (get_or parts i []))

-- some of the parts have no more taps than all
pub flat_take : (n : ℕ) (parts : List (List TapFields))
    → length (flat (take n parts)) ≤ length (flat parts)
flat_take n parts =
    let whole = ap length (ap flat (sym (take-append-drop n parts))
    ∙ flat_map-append (λ (part : List TapFields). part) (take n parts) (drop n parts)) in
    let both = length-append (flat (take n parts)) (flat (drop n parts)) in
    omega (arith, whole, both)

-- ---- ranges of tokens
module _ (bounds : List ℕ) where
  wider : (low high least most : ℕ) (taps : List TapFields) → least ≤ low → high ≤ most
      → All (IsSoundTap bounds low high) taps → All (IsSoundTap bounds least most) taps
  wider low high least most taps down up =
      All-weaker (IsSoundTap bounds low high) (IsSoundTap bounds least most) (λ tap is. record {
        early = is.early;
        token = is.token;
        least = let l = is.least in omega (arith, down, l);
        most = let m = is.most in omega (arith, up, m);
      }) taps

  pub ranges_take : (start n : ℕ) (parts : List (List TapFields)) → AreRangesFrom bounds start parts
      → AreRangesFrom bounds start (take n parts)
  ranges_take start n parts are part inside =
      let short = length-take n parts in
      subst (All (IsSoundTap bounds (start + part) (start + part + 1)))
      (sym (get_or-take n parts part [] (omega (arith, inside, short))))
      (are part (omega (arith, inside, short)))

  pub ranges_drop : (start n : ℕ) (parts : List (List TapFields)) → AreRangesFrom bounds start parts
      → AreRangesFrom bounds (start + n) (drop n parts)
  ranges_drop start n parts are part inside =
      let short = length-drop n parts in
      wider (start + (n + part)) (start + (n + part) + 1) (start + n + part) (start + n + part + 1)
      (get_or (drop n parts) part []) (omega arith) (omega arith)
      (subst (All (IsSoundTap bounds (start + (n + part)) (start + (n + part) + 1)))
      (sym (get_or-drop n parts part [])) (are (n + part) (omega (arith, inside, short))))

  -- all taps of parts are in their ranges
  pub sound_flat : (start : ℕ) (parts : List (List TapFields)) → AreRangesFrom bounds start parts
      → All (IsSoundTap bounds start (start + length parts)) (flat parts)
  sound_flat start [] are = All-nil (IsSoundTap bounds start (start + 0))
  sound_flat start (part ∷ parts) are =
      All-append (IsSoundTap bounds start (start + suc (length parts))) part (flat parts)
      (wider (start + 0) (start + 0 + 1) start (start + suc (length parts)) part (omega arith)
      (omega arith) (are 0 (omega arith)))
      (wider (start + 1) (start + 1 + length parts) start (start + suc (length parts)) (flat parts)
      (omega arith) (omega arith)
      (sound_flat (start + 1) parts (ranges_drop start 1 (part ∷ parts) are)))

  -- the taps of the first parts, and those of the next
  pub sound_before : (start n : ℕ) (parts : List (List TapFields)) → AreRangesFrom bounds start parts
      → All (IsSoundTap bounds start (start + n)) (flat (take n parts))
  sound_before start n parts are =
      let few = length-take n parts in
      wider start (start + length (take n parts)) start (start + n) (flat (take n parts))
      (omega arith) (omega (arith, few))
      (sound_flat start (take n parts) (ranges_take start n parts are))

  pub sound_here : (start n : ℕ) (parts : List (List TapFields)) (part : List TapFields)
      → AreRangesFrom bounds start parts → n < length parts → part ≡ get_or parts n part
      → All (IsSoundTap bounds (start + n) (start + n + 1)) part
  sound_here start n parts part are inside is =
      subst (All (IsSoundTap bounds (start + n) (start + n + 1)))
      (get_or_default parts n [] part inside ∙ sym is) (are n inside)

  -- taps in canonical order, and more of higher ranges
  module _ (low middle high : ℕ) (xs ys order more : List TapFields)
      (below : All (IsSoundTap bounds low middle) xs)
      (above : All (IsSoundTap bounds middle high) ys) (one : IsCanonical xs order)
      (other : IsCanonical ys more) where
    first : All (IsSoundTap bounds low middle) order
    first = All-permutation (IsSoundTap bounds low middle) xs order one.moved below

    second : All (IsSoundTap bounds middle high) more
    second = All-permutation (IsSoundTap bounds middle high) ys more other.moved above

    pub ranges_apart : AreTapsBelow order more
    ranges_apart = λ i d inside. λ j e within.
        let a = first i d inside in
        let b = second j e within in
        let under = a.most in
        let over = b.least in
        later_range bounds (get_or order i d) (get_or more j e) a.token b.token
        (omega (arith, under, over))

    pub ranges_joined : IsCanonical (xs ++ ys) (order ++ more)
    ranges_joined = record {
      moved = IsPermutation-append xs order ys more one.moved other.moved;
      sorted = sorted_by_pairs (order ++ more)
          (pairs_append NotLess order more (sorted_pairs order one.sorted)
          (sorted_pairs more other.sorted) (λ i d inside. λ j e within.
          let a = first i d inside in
          let b = second j e within in
          let under = a.most in
          let over = b.least in
          ranges_in_order bounds (get_or order i d) (get_or more j e) a.token b.token
          (omega (arith, under, over))));
    }

    -- the tokens do not fall
    pub next_up : (least token : Token) → least ≡ record { high = 0; low = 0 }
        → token ≡ last_token least order → TapsNondecreasingFrom token more
    next_up least token is last =
        subst (λ (t : Token). TapsNondecreasingFrom t more) (sym last)
        (nondecreasing_append least order more
        (canonical_nondecreasing least (order ++ more) is
        (All-append HasName order more (λ i d inside. has_name _ (first i d inside).token)
        (λ i d inside. has_name _ (second i d inside).token)) ranges_joined.sorted)).1

pub no_order : IsCanonical [] []
no_order = record {
  moved = IsPermutation-refl [];
  sorted = λ k d low high. absurd (omega (arith, high));
}

-- the lists of parts, one after the other, are those of all taps
pub lists_joined : (bounds : List ℕ) (start : ℕ) (parts lists : List (List TapFields))
    → AreRangesFrom bounds start parts → AllZip IsCanonical parts lists
    → IsCanonical (flat parts) (flat lists)
lists_joined bounds start [] [] are zip = no_order
lists_joined bounds start [] (l ∷ lists) are zip = absurd zip
lists_joined bounds start (p ∷ parts) [] are zip = absurd zip
lists_joined bounds start (p ∷ parts) (l ∷ lists) are zip =
    let rest = ranges_drop bounds start 1 (p ∷ parts) are in
    ranges_joined bounds start (start + 1) (start + 1 + length parts) p (flat parts) l (flat lists)
    (wider bounds (start + 0) (start + 0 + 1) start (start + 1) p (omega arith) (omega arith)
    (are 0 (omega arith)))
    (sound_flat bounds (start + 1) parts rest) zip.0
    (lists_joined bounds (start + 1) parts lists rest zip.1)

-- ---- runs of parts
module _ (parts : List (List TapFields)) (n : ℕ) (few : AreFewInRanges parts) where
  pub few_before : AreFewInRanges (take n parts)
  few_before =
      let (bounds, start, are, fit) = few in
      let short = flat_take n parts in
      (bounds, start, ranges_take bounds start n parts are, omega (arith, fit, short))

  whole : flat (take n parts) ++ flat (drop n parts) ≡ flat parts
  whole =
      sym (flat_map-append (λ (part : List TapFields). part) (take n parts) (drop n parts))
      ∙ ap flat (take-append-drop n parts)

  pub few_after : AreFewInRanges (drop n parts)
  few_after =
      let (bounds, start, are, fit) = few in
      let long = length-append (flat (take n parts)) (flat (drop n parts)) in
      let all = ap length whole in
      (bounds, start + n, ranges_drop bounds start n parts are, omega (arith, fit, long, all))

  -- the bills of two runs
  module _ (fares : Fares) (bill more new : Bill) (one : IsBillOfTaps fares (flat (take n parts)) bill)
      (other : IsBillOfTaps fares (flat (drop n parts)) more) where
    pub bills_room : HaveBillRoom bill more
    bills_room =
        let few = one.few in
        let less = other.few in
        let long = posted_length fares [] one.order in
        let short = posted_length fares [] other.order in (
          posted fares one.order,
          posted fares other.order,
          one.billed.counts,
          other.billed.counts,
          omega (arith, few, less, long, short),
        )

    pub bills_joined : ((entries others : List Entry) → IsBillOf entries bill
        → IsBillOf others more → AreBelow (map token_of entries) (map token_of others)
        → IsBillOf (entries ++ others) new) → IsBillOfTaps fares (flat parts) new
    bills_joined adds =
        let (bounds, start, are, fit) = few in
        let below = sound_before bounds start n parts are in
        let above = sound_flat bounds (start + n) (drop n parts)
        (ranges_drop bounds start n parts are) in
        let apart = to_tokens one.order other.order
        (ranges_apart bounds start (start + n) _ _ _ one.order other.order below above one.canonical
        other.canonical) in
        let both = ranges_joined bounds start (start + n) _ _ _ one.order other.order below above
        one.canonical other.canonical in
        let all = subst (λ (ts : List TapFields). IsCanonical ts (one.order ++ other.order)) whole
        both in
        let long = length_permutation (flat parts) (one.order ++ other.order) all.moved in
        record {
          order = one.order ++ other.order;
          canonical = all;
          billed = subst (λ (es : List Entry). IsBillOf es new)
              (sym (posted_below fares one.order other.order apart))
              (adds (posted fares one.order) (posted fares other.order) one.billed other.billed
              (subst (λ (ts : List Token). AreBelow ts (map token_of (posted fares other.order)))
              (sym (tokens_posted fares [] one.order))
              (subst (λ (ts : List Token). AreBelow (map token_of_tap one.order) ts)
              (sym (tokens_posted fares [] other.order)) apart)));
          few = omega (arith, fit, long);
        }
