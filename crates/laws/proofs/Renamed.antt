-- A token that has another's taps has its lines.
use Rattle.std.proofs.Common.{◌≡◌, ℕ, true, cond, List, [], ◌∷◌, ◌++◌, map, filter, refl, sym, ap}
use Rattle.std.proofs.Common.{subst, ◌∙◌, All, is_some, Option, Some, None}
use Rattle.account_rule.specs.Blocks.{last_block}
use Rattle.account_rule.specs.Reasons.{given_by, latest, live_reason, reason, ride_of}
use Rattle.account_rule.specs.{Taps.LiveTap, Taps.is_later, Taps.live_at, TokenRules.TokenRules}
use Rattle.account_rule.specs.TokenRules.{permits_of, rules_of, token_class, transfers_of}
use Rattle.account_rule.specs.Trips.{ends_in_transfer, last_trip, rides, trips}
use Rattle.account_rule.specs.{Windows.windows, declared.reason.Reason.Reason}
use Rattle.account_rule.specs.declared.reason.Reason.TheVariants.{Ride, Stale, Transfer, Unknown}
use Rattle.account_rule.specs.declared.{reply.Reply.Reply, tap.TapIn.TapIn}
use Rattle.fare_caps.proofs.PriceLemmas.{ArePriced, extra-same, same-dues}
use Rattle.fare_caps.specs.CapMeanings.{cap_positions, cap_rules, capped_rules_of, pays_of}
use Rattle.fare_caps.specs.CapStates.{CapStates, after_due, after_dues, after_ride, at_ride}
use Rattle.fare_caps.specs.CapStates.{charge_at, extra_charge, no_rides, ride_charge, states}
use Rattle.fare_caps.specs.CapStates.{with_charge, with_extra, with_some_extra}
use Rattle.fare_caps.specs.CappedReplies.{capped_reason, capped_reply, replied_by, transfer_charge}
use Rattle.fare_caps.specs.CappedReplies.{under_caps}
use Rattle.fare_caps.specs.Caps.{CapRules, CappedRules, window_cap}
use Rattle.fare_caps.specs.Prices.{Due, dues, extra, of_ride, of_transfer}
use Rattle.histories.proofs.Histories.{taps-push}
use Rattle.histories.specs.{Entry.is_of, Entry.own, Entry.tap_of, Entry.taps_of, Keys.same_token}
use Rattle.histories.specs.{Plain.answered, Plain.token_of_bytes, declared.entry.Entry.Entry}
use Rattle.laws.proofs.Alike.{alike-filter, alike-map, permuted_alike}
use Rattle.laws.proofs.{OwnTaps.own_after, Posts.after, Posts.plain_is_after}
use Rattle.laws.specs.Bills.{ChargedAlike, HaveSameTerms, entry_for}
use Rattle.laws.specs.TapSets.{HaveTapsAlike, fields_of_uploads, is_tap_of, own_taps, with_token}
use Rattle.settlement.proofs.{Histories.entry_of, Own.IsNamedBy}
use Rattle.settlement.proofs.Placed.{NotLess, Pairs, sorted_pairs}
use Rattle.settlement.proofs.{Sorting.sorted_by_pairs, Unique.AreAlike, Unique.same_sorted}
use Rattle.settlement.specs.Settled.{IsSettledHistory}
use Rattle.std.proofs.lemmas.Cmp.{nat_list_cmp_total}
use Rattle.std.proofs.lemmas.List.Elements.{All-cons, All-filter, All-head, All-nil, All-tail}
use Rattle.std.proofs.lemmas.List.{Elements.filter_passes, Kept.IsSortedBy-filter}
use Rattle.std.proofs.lemmas.List.Sorted.{IsPermutation-sym, ranks_by}
use Rattle.std.specs.Cmp.{tied_itself, Lexicographic.slice_cmp}
use Rattle.std.specs.List.Sorted.{IsPermutation, IsSorted}
use Rattle.std.specs.Ordering.{is_lt, nat_cmp, ordering_then}
use Rattle.std.specs.{Prelude.if◌then◌else◌, Prelude.slice_index_or, declared.cmp.Ordering.Ordering}
use Rattle.tap_parts.proofs.Total.{tap_cmp_exact, tap_cmp_total}
use Rattle.tap_parts.specs.Canonical.{tap_cmp}
use Rattle.tap_views.proofs.ParseLemmas.{one_list}
use Rattle.tap_views.specs.{Encoding.fields_of, Files.HasUniqueParse, Layout.Tap}
use Rattle.tap_views.specs.Token.{bytes_of, token_eq}
use Rattle.tap_views.specs.declared.{encoder.TapFields.TapFields, token.Token.Token}
use Rattle.tariffs.specs.Fares.{Fares, class_of, has_prices, meaning_at, terms_on}
use Rattle.tariffs.specs.declared.{class.Class.Class, mode.Mode.Mode}

-- ---- taps of one token stay in order under another token
-- the taps' token has these bytes
abbrev HasBytes : List ℕ → TapFields → Type 0
HasBytes bytes f = f.token ≡ bytes

same_order : (bytes : List ℕ) (own : List ℕ) (f g : TapFields) → HasBytes own f → HasBytes own g
    → NotLess f g → NotLess (with_token bytes f) (with_token bytes g)
same_order bytes own f g is is_too not_less =
    let rest = ordering_then (nat_cmp g.moment f.moment) (nat_cmp g.validator f.validator) in
    let renamed : tap_cmp (with_token bytes g) (with_token bytes f) ≡ rest =
    ap (λ (r : Ordering). ordering_then r rest) (tied_itself nat_list_cmp_total bytes) in
    let before : tap_cmp g f ≡ rest =
    ap (λ t. ordering_then (slice_cmp nat_cmp t f.token) rest) is_too
    ∙ ap (λ t. ordering_then (slice_cmp nat_cmp own t) rest) is
    ∙ ap (λ (r : Ordering). ordering_then r rest) (tied_itself nat_list_cmp_total own) in
    ap is_lt (renamed ∙ sym before) ∙ not_less

pairs_renamed : (bytes own : List ℕ) (fs : List TapFields) → All (HasBytes own) fs
    → Pairs NotLess fs → Pairs NotLess (map (with_token bytes) fs)
pairs_renamed bytes own [] all pairs = tt
pairs_renamed bytes own (f ∷ fs) all pairs = (
  trailing fs (All-tail (HasBytes own) f fs all) pairs.0,
  pairs_renamed bytes own fs (All-tail (HasBytes own) f fs all) pairs.1,
)
  where
    trailing : (gs : List TapFields) → All (HasBytes own) gs → All (NotLess f) gs
        → All (NotLess (with_token bytes f)) (map (with_token bytes) gs)
    trailing [] rest up = All-nil (NotLess (with_token bytes f))
    trailing (g ∷ gs) rest up =
        All-cons (NotLess (with_token bytes f)) (with_token bytes g) (map (with_token bytes) gs)
        (same_order bytes own f g (All-head (HasBytes own) f fs all)
        (All-head (HasBytes own) g gs rest) (All-head (NotLess f) g gs up))
        (trailing gs (All-tail (HasBytes own) g gs rest) (All-tail (NotLess f) g gs up))

-- the taps of a token have its bytes
have_bytes : (token : Token) (fs : List TapFields) → All IsNamedBy fs
    → All (λ f. is_tap_of token f ≡ true) fs → All (HasBytes (bytes_of token)) fs
have_bytes token [] names are = All-nil (HasBytes (bytes_of token))
have_bytes token (f ∷ fs) names are =
    All-cons (HasBytes (bytes_of token)) f fs
    (sym (All-head IsNamedBy f fs names)
    ∙ ap bytes_of (same_token (token_of_bytes f.token) token
    (All-head (λ g. is_tap_of token g ≡ true) f fs are)))
    (have_bytes token fs (All-tail IsNamedBy f fs names)
    (All-tail (λ g. is_tap_of token g ≡ true) f fs are))

-- ---- the same terms, the same rules
-- the second rules answer and explain each tap, and divide each list into windows, as the first do
record AnswerAlike (one other : CappedRules) : Type 0 where
  replies : (earlier : List TapIn) (tap : TapIn)
      → capped_reply other earlier tap ≡ capped_reply one earlier tap
  reasons : (earlier : List TapIn) (tap : TapIn)
      → capped_reason other earlier tap ≡ capped_reason one earlier tap
  windows : (taps : List TapIn) → windows other.rules taps ≡ windows one.rules taps

-- the place of a class matters to what is kept alone
of_class : TokenRules → (ℕ → ℕ) → TokenRules
of_class rules position = record rules { class = position }

same_ride_of : (rules : TokenRules) (position : ℕ → ℕ) (window : List LiveTap)
    → ride_of (of_class rules position) window ≡ ride_of rules window
unfolding ride_of of_class
same_ride_of rules position [] = refl
same_ride_of rules position (first ∷ window) = refl

same_reason : (rules : TokenRules) (position : ℕ → ℕ) (earlier : List TapIn) (tap : TapIn)
    → reason (of_class rules position) earlier tap ≡ reason rules earlier tap
unfolding reason live_reason ends_in_transfer last_trip trips windows rides of_class
same_reason rules position earlier tap =
    ap (λ (r : Reason). cond (is_some tap.mode)
    (cond (is_later earlier tap.moment) (cond (ends_in_transfer rules (earlier ++ tap ∷ []))
    (given_by (last_trip rules earlier)) r) (Stale (latest earlier))) Unknown)
    (same_ride_of rules position (last_block (windows rules (earlier ++ tap ∷ []))))

-- under the same caps
capped_by : CappedRules → (ℕ → ℕ) → CappedRules
capped_by rules position = record rules { rules = of_class rules.rules position }

-- they have the same prices
same_priced : (rules : CappedRules) (position : ℕ → ℕ)
    → ArePriced rules (capped_by rules position)
unfolding capped_by of_class
same_priced rules position = record { fares = λ tap. refl; pays = refl }

same_after : (rules : CappedRules) (position : ℕ → ℕ) (before : CapStates) (dues : List Due)
    → after_dues (capped_by rules position) before dues ≡ after_dues rules before dues
unfolding after_dues after_due after_ride ride_charge charge_at at_ride with_charge window_cap
    extra_charge with_extra capped_by of_class
same_after rules position before [] = refl
same_after rules position before (of_ride ride ∷ more) =
    same_after rules position (after_ride rules before ride) more
same_after rules position before (of_transfer tap cents ∷ more) =
    same_after rules position
    (with_some_extra rules tap (extra_charge rules before tap cents) before) more

same_trips : (rules : CappedRules) (position : ℕ → ℕ) (taps : List TapIn)
    → trips (capped_by rules position).rules taps ≡ trips rules.rules taps
unfolding trips capped_by of_class
same_trips rules position taps = refl

same_first : (rules : CappedRules) (position : ℕ → ℕ)
    → no_rides (capped_by rules position) ≡ no_rides rules
unfolding no_rides capped_by of_class
same_first rules position = refl

same_states : (rules : CappedRules) (position : ℕ → ℕ) (taps : List TapIn)
    → states (capped_by rules position) taps ≡ states rules taps
unfolding states
same_states rules position taps =
    rw (
      same-dues rules (capped_by rules position) taps (same_priced rules position)
          (same_trips rules position taps),
      same_first rules position,
    ) (same_after rules position (no_rides rules) (dues rules taps))

same_extra : (rules : CappedRules) (position : ℕ → ℕ) (before : CapStates) (tap : LiveTap)
    (cents : ℕ)
    → extra_charge (capped_by rules position) before tap cents
    ≡ extra_charge rules before tap cents
unfolding extra_charge capped_by of_class
same_extra rules position before tap cents = refl

same_transfer : (rules : CappedRules) (position : ℕ → ℕ) (before : CapStates)
    (trip : List LiveTap) (tap : LiveTap)
    → transfer_charge (capped_by rules position) before trip tap
    ≡ transfer_charge rules before trip tap
same_transfer rules position before trip tap =
    rw (
      extra-same rules (capped_by rules position) trip tap (same_priced rules position),
      same_extra rules position before tap (extra rules trip tap),
    ) refl

same_under : (rules : CappedRules) (position : ℕ → ℕ) (before : CapStates) (trip : List LiveTap)
    (tap : TapIn) (mode : Option Mode) (one : Reason) → tap.mode ≡ mode
    → under_caps (capped_by rules position) before trip tap one
    ≡ under_caps rules before trip tap one
unfolding ride_charge charge_at at_ride window_cap capped_by of_class
same_under rules position before trip tap mode Unknown is = refl
same_under rules position before trip tap mode (Stale latest) is = refl
same_under rules position before trip tap None (Transfer moment given) is = rw is refl
same_under rules position before trip tap (Some mode) (Transfer moment given) is =
    rw (is, same_transfer rules position before trip (live_at tap.moment mode)) refl
same_under rules position before trip tap None (Ride start until charge) is = rw is refl
same_under rules position before trip tap (Some mode) (Ride start until charge) is = rw is refl

same_reason_by : (rules : CappedRules) (position : ℕ → ℕ) (earlier : List TapIn) (tap : TapIn)
    → reason (capped_by rules position).rules earlier tap ≡ reason rules.rules earlier tap
unfolding capped_by
same_reason_by rules position earlier tap = same_reason rules.rules position earlier tap

same_capped : (rules : CappedRules) (position : ℕ → ℕ) (earlier : List TapIn) (tap : TapIn)
    → capped_reason (capped_by rules position) earlier tap ≡ capped_reason rules earlier tap
unfolding capped_reason
same_capped rules position earlier tap =
    rw (
      same_states rules position earlier,
      same_trips rules position earlier,
      same_reason_by rules position earlier tap,
    )
    (same_under rules position (states rules earlier) (last_block (trips rules.rules earlier)) tap
    tap.mode (reason rules.rules earlier tap) refl)

answer_alike : (rules : CappedRules) (position : ℕ → ℕ)
    → AnswerAlike rules (capped_by rules position)
unfolding capped_reply trips windows rides capped_by of_class
answer_alike rules position = record {
  replies = λ earlier tap. ap replied_by (same_capped rules position earlier tap);
  reasons = same_capped rules position;
  windows = λ taps. refl;
}

-- the rules of the class of each moment, at its place
rules_by : Fares → (ℕ → ℕ) → (ℕ → Class) → TokenRules
rules_by fares position class = record (rules_of fares []) {
  class = position;
  terms = λ ride. terms_on (class ride.moment) ride.mode.position;
  transfers = record {
    count = λ tap. (class tap.moment).transfers.taps;
    time = λ tap. (class tap.moment).transfers.time;
    permits = permits_of fares;
  };
}

-- the caps of the class of each moment
caps_by : Fares → (ℕ → Class) → List CapRules
caps_by fares class = map (λ index. record (cap_rules fares [] index) {
  ceiling = λ ride. slice_index_or (class ride.moment).caps index 100_000_000;
}) (cap_positions fares.meaning.caps)

same_rules : (fares : Fares) (token other : Token) → HaveSameTerms fares token other
    → AnswerAlike (capped_rules_of fares (bytes_of token)) (capped_rules_of fares (bytes_of other))
unfolding rules_of transfers_of token_class rules_by of_class capped_rules_of cap_rules caps_by
    capped_by
same_rules fares token other same =
    let position = λ (moment : ℕ). class_of (meaning_at fares moment) (bytes_of other) in
    let back = λ (moment : ℕ). sym (same moment) in
    let is : capped_rules_of fares (bytes_of other)
    ≡ capped_by (capped_rules_of fares (bytes_of token)) position =
    λ i. record {
      rules = rules_by fares position (λ moment. back moment i);
      caps = caps_by fares (λ moment. back moment i);
      pays = if has_prices fares then Some (pays_of fares) else None;
    } in
    subst (λ (rules : CappedRules). AnswerAlike (capped_rules_of fares (bytes_of token)) rules)
    (sym is) (answer_alike (capped_rules_of fares (bytes_of token)) position)

module _ (fares : Fares) (token other : Token) (bytes : List ℕ)
    (rules : AnswerAlike (capped_rules_of fares (bytes_of token))
    (capped_rules_of fares (bytes_of other))) where
  -- the entry of a tap, by its token and its reply
  entry_by : TapFields → Token → Reply → Entry
  entry_by f t replied = record {
    token = t;
    validator = f.validator;
    moment = f.moment;
    answer = replied.answer;
    cents = replied.cents;
  }

  renamed_entry : (one two : List Entry) (f : TapFields) → token_of_bytes f.token ≡ token
      → token_of_bytes bytes ≡ other → taps_of fares token one ≡ taps_of fares other two
      → answered fares two (entry_of (with_token bytes f))
      ≡ entry_for other (answered fares one (entry_of f))
  unfolding answered entry_of tap_of entry_by
  renamed_entry one two f mine yours same =
      let tap = tap_of fares (entry_of f) in
      ap (λ t. entry_by f t
      (capped_reply (capped_rules_of fares (bytes_of t)) (taps_of fares t two) tap)) yours
      ∙ ap (entry_by f other) (rules.replies (taps_of fares other two) tap
      ∙ ap (λ ts. capped_reply (capped_rules_of fares (bytes_of token)) ts tap) (sym same)
      ∙ ap (λ t. capped_reply (capped_rules_of fares (bytes_of t)) (taps_of fares t one) tap)
      (sym mine))

  push_renamed : (one two : List Entry) (entry : Entry) → is_of token entry ≡ true
      → is_of other (entry_for other entry) ≡ true
      → taps_of fares token one ≡ taps_of fares other two
      → taps_of fares token (one ++ entry ∷ [])
      ≡ taps_of fares other (two ++ entry_for other entry ∷ [])
  unfolding tap_of
  push_renamed one two entry is is_too same =
      let tap = tap_of fares entry in
      taps-push fares token one entry
      ∙ ap (λ b. cond b (taps_of fares token one ++ tap ∷ []) (taps_of fares token one)) is
      ∙ ap (λ ts. ts ++ tap ∷ []) same
      ∙ sym (ap (λ b. cond b (taps_of fares other two ++ tap ∷ []) (taps_of fares other two))
      is_too)
      ∙ sym (taps-push fares other two (entry_for other entry))

  renamed_after : (fs : List TapFields) (one two : List Entry)
      → All (λ f. is_tap_of token f ≡ true) fs
      → All (λ f. is_tap_of other f ≡ true) (map (with_token bytes) fs)
      → taps_of fares token one ≡ taps_of fares other two
      → after fares two (map (with_token bytes) fs) ≡ map (entry_for other) (after fares one fs)
  unfolding after answered entry_of
  renamed_after [] one two are are_too same = refl
  renamed_after (f ∷ fs) one two are are_too same =
      let P : TapFields → Type 0 = λ g. is_tap_of token g ≡ true in
      let Q : TapFields → Type 0 = λ g. is_tap_of other g ≡ true in
      let is = All-head P f fs are in
      let is_too : token_eq (token_of_bytes bytes) other ≡ true =
      All-head Q (with_token bytes f) (map (with_token bytes) fs) are_too in
      let yours : token_of_bytes bytes ≡ other = same_token (token_of_bytes bytes) other is_too in
      let entry = answered fares one (entry_of f) in
      let first = renamed_entry one two f (same_token (token_of_bytes f.token) token is) yours same
      in
      let itself : token_eq other other ≡ true =
      subst (λ t. token_eq t other ≡ true) yours is_too in
      let rest = renamed_after fs (one ++ entry ∷ []) (two ++ entry_for other entry ∷ [])
      (All-tail P f fs are) (All-tail Q (with_token bytes f) (map (with_token bytes) fs) are_too)
      (push_renamed one two entry is itself same) in
      ap (λ (e : Entry). e ∷ after fares (two ++ e ∷ []) (map (with_token bytes) fs)) first
      ∙ ap (λ es. entry_for other entry ∷ es) rest

taps_for : (fares : Fares) (token : Token) (entries : List Entry)
    → map (tap_of fares) (map (entry_for token) entries) ≡ map (tap_of fares) entries
unfolding tap_of
taps_for fares token [] = refl
taps_for fares token (entry ∷ entries) =
    ap (λ ts. tap_of fares entry ∷ ts) (taps_for fares token entries)

charged : (fares : Fares) (token other : Token) (history again : List Entry)
    → AnswerAlike (capped_rules_of fares (bytes_of token))
    (capped_rules_of fares (bytes_of other))
    → own other again ≡ map (entry_for other) (own token history)
    → ChargedAlike fares token other history again
unfolding taps_of capped_rules_of
charged fares token other history again rules lines =
    let taps : taps_of fares other again ≡ taps_of fares token history =
    ap (map (tap_of fares)) lines ∙ taps_for fares other (own token history) in
    record {
      lines = lines;
      taps = taps;
      reasons = rules.reasons;
      windows = rules.windows (taps_of fares other again)
          ∙ ap (windows (rules_of fares (bytes_of token))) taps;
    }

-- ---- the law
pub renamed : (fares : Fares) (token other : Token) (uploads others : List (List ℕ))
    (history again : List Entry) → All HasUniqueParse uploads → All HasUniqueParse others
    → HaveSameTerms fares token other → HaveTapsAlike token other uploads others
    → (one : IsSettledHistory fares uploads history) (two : IsSettledHistory fares others again)
    → All IsNamedBy (map fields_of one.order) → All IsNamedBy (map fields_of two.order)
    → ChargedAlike fares token other history again
unfolding taps_of own
renamed fares token other uploads others history again cuts other_cuts terms same one two names
    more =
    let here = one_list uploads same.taps one.taps cuts same.of_uploads one.of_uploads in
    let there = one_list others same.other_taps two.taps other_cuts same.of_others two.of_uploads in
    let bytes = bytes_of other in
    let rules = same_rules fares token other terms in
    let p = is_tap_of token in
    let q = is_tap_of other in
    let r = with_token bytes in
    let mine = fields_of_uploads one.taps in
    let yours = fields_of_uploads two.taps in
    let xs = map fields_of one.order in
    let ys = map fields_of two.order in
    let A : List (List Tap) → Type 0 = λ ts.
    IsPermutation (map r (own_taps token ts)) (own_taps other same.other_taps) in
    let B : List (List Tap) → Type 0 = λ ts.
    IsPermutation (map r (filter p mine)) (own_taps other ts) in
    let between : IsPermutation (map r (filter p mine)) (filter q yours) =
    subst B there (subst A here same.alike) in
    let alike : AreAlike (map r (filter p xs)) (filter q ys) = λ f.
    alike-map r (filter p xs) (filter p mine)
    (alike-filter p xs mine
    (permuted_alike xs mine (IsPermutation-sym mine xs one.canonical.moved))) f
    ∙ permuted_alike (map r (filter p mine)) (filter q yours) between f
    ∙ alike-filter q yours ys (permuted_alike yours ys two.canonical.moved) f in
    let rank = ranks_by tap_cmp_total (λ (t : TapFields). t) in
    let up : IsSorted tap_cmp (filter p xs) =
    IsSortedBy-filter (λ a b. is_lt (tap_cmp a b)) rank p xs one.canonical.sorted in
    let have = have_bytes token (filter p xs) (All-filter p IsNamedBy xs names) (filter_passes p xs)
    in
    let list : map r (filter p xs) ≡ filter q ys =
    same_sorted tap_cmp tap_cmp_total tap_cmp_exact (map r (filter p xs)) (filter q ys)
    (sorted_by_pairs (map r (filter p xs))
    (pairs_renamed bytes (bytes_of token) (filter p xs) have (sorted_pairs (filter p xs) up)))
    (IsSortedBy-filter (λ a b. is_lt (tap_cmp a b)) rank q ys two.canonical.sorted) alike in
    let first : history ≡ after fares [] xs = one.entries ∙ plain_is_after fares [] one.order in
    let second : again ≡ after fares [] ys = two.entries ∙ plain_is_after fares [] two.order in
    let Passes : List TapFields → Type 0 = λ fs. All (λ f. is_tap_of other f ≡ true) fs in
    charged fares token other history again rules
    (ap (own other) second
    ∙ own_after fares other [] [] ys refl
    ∙ ap (after fares []) (sym list)
    ∙ renamed_after fares token other bytes rules (filter p xs) [] [] (filter_passes p xs)
    (subst Passes (sym list) (filter_passes q ys)) refl
    ∙ ap (map (entry_for other)) (sym (own_after fares token [] [] xs refl))
    ∙ ap (λ es. map (entry_for other) (own token es)) (sym first))
