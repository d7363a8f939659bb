-- What an account keeps decides the rule's reason, and the reply follows from the reason.
use Rattle.std.proofs.Common.{◌≡◌, ℕ, Bool, ◌-◌, ◌<◌, ◌≤◌, true, false, cond, List, [], ◌∷◌, ◌++◌}
use Rattle.std.proofs.Common.{max, ltb, Option, Some, None, refl, sym, ap, ◌∙◌, inl, inr, arith}
use Rattle.std.proofs.Common.{append_assoc, append-nil, is_some, option_map, filter}
use Rattle.account_rule.proofs.LimitLemmas.{last_charge-push}
use Rattle.account_rule.proofs.StepLemmas.{GivesNone, is_live, reply_live, reply_ride, reply_stale}
use Rattle.account_rule.proofs.StepLemmas.{reply_transfer, reply_unknown}
use Rattle.account_rule.proofs.TapLemmas.{ends_in_transfer-push, last_window-ride}
use Rattle.account_rule.proofs.WindowLemmas.{after_ride, charge-after, numbers}
use Rattle.account_rule.specs.{Blocks.blocks_by, Blocks.blocks_from, Blocks.last_block, Kept.Kept}
use Rattle.account_rule.specs.{Kept.is_after, Kept.kept_trip, Kept.kept_window, Reasons.given_by}
use Rattle.account_rule.specs.Reasons.{latest, live_reason, reason, replied_by, ride_by, ride_of}
use Rattle.account_rule.specs.Replies.{live_reply, reply, reply_with, ride_reply}
use Rattle.account_rule.specs.Represents.{KeepsOf, window_of}
use Rattle.account_rule.specs.Taps.{LiveTap, is_later, live, live_at, live_tap}
use Rattle.account_rule.specs.TokenRules.{TokenRules, TransferRules}
use Rattle.account_rule.specs.Trips.{TripEnd, continues, ends_in_transfer, last_tap, last_trip}
use Rattle.account_rule.specs.Trips.{trip_of, trips}
use Rattle.account_rule.specs.Windows.{charge, charges, is_within, paid_by, windows}
use Rattle.account_rule.specs.declared.reason.{Charge.Charge, Reason.Reason}
use Rattle.account_rule.specs.declared.reason.Reason.TheVariants.{Unknown, Stale, Transfer, Ride}
use Rattle.account_rule.specs.declared.{tap.TapIn.TapIn, window.Window.Window}
use Rattle.account_rule.specs.inside.Kept.{gives, next_reason, open_window, window_at}
use Rattle.std.proofs.lemmas.Bool.{cases_Bool, cases_lt, ltb-false, ltb-true, lt-ltb, le-ltb}
use Rattle.std.specs.{List.last_or, List.list_all, Option.option_and_then}
use Rattle.tariffs.specs.Terms.{AreBoundedTerms}
use Rattle.tariffs.specs.declared.{mode.Mode.Mode, terms.Terms.Terms}
use Rattle.account_rule.specs.declared.reply.Answer.TheVariants as answer

-- the reason by the kind of the tap

pub reason_unknown : (rules : TokenRules) (taps : List TapIn) (tap : TapIn) → tap.mode ≡ None
    → reason rules taps tap ≡ Unknown
unfolding reason
reason_unknown rules taps tap none = let no_mode : is_some tap.mode ≡ false =
    ap (λ o. is_some o) none in rw no_mode refl

pub reason_stale : (rules : TokenRules) (taps : List TapIn) (tap : TapIn) (mode : Mode)
    → tap.mode ≡ Some mode → is_later taps tap.moment ≡ false
    → reason rules taps tap ≡ Stale (latest taps)
unfolding reason
reason_stale rules taps tap mode known not_after =
    let known_mode : is_some tap.mode ≡ true = ap (λ o. is_some o) known in
    rw (known_mode, not_after) refl

pub reason_live : (rules : TokenRules) (taps : List TapIn) (tap : TapIn) (mode : Mode)
    → tap.mode ≡ Some mode
    → is_later taps tap.moment ≡ true
    → reason rules taps tap ≡ live_reason rules taps (taps ++ tap ∷ [])
unfolding reason
reason_live rules taps tap mode known later =
    let known_mode : is_some tap.mode ≡ true = ap (λ o. is_some o) known in
    rw (known_mode, later) refl

pub reason_transfer : (rules : TokenRules) (earlier taps : List TapIn)
    → ends_in_transfer rules taps ≡ true
    → live_reason rules earlier taps ≡ given_by (last_trip rules earlier)
unfolding live_reason
reason_transfer rules earlier taps ends = rw ends refl

reason_ride : (rules : TokenRules) (earlier taps : List TapIn) → ends_in_transfer rules taps ≡ false
    → live_reason rules earlier taps ≡ ride_of rules (last_block (windows rules taps))
unfolding live_reason
reason_ride rules earlier taps ends = rw ends refl

-- the latest moment of the known taps is the last moment that is kept

pub later-false : (taps : List TapIn) (moment : ℕ) → is_later taps moment ≡ false
    → moment ≤ latest taps
unfolding is_later latest
later-false [] moment h = cc
later-false (tap ∷ taps) moment h =
    elim (is_some tap.mode) as (λ v.
    list_all (λ (t : TapIn). ltb t.moment moment)
    (cond v (tap ∷ filter (λ (t : TapIn). is_some t.mode) taps)
    (filter (λ (t : TapIn). is_some t.mode) taps)) ≡ false
    → moment ≤ cond v (max tap.moment (latest taps)) (latest taps)) [
      | true ↦ λ not_all. elim (cases_Bool (ltb tap.moment moment)) [
        | inl before ↦ omega (arith, later-false taps moment (rw before at not_all))
        | inr not_before ↦ omega (arith, ltb-false tap.moment moment not_before)
      ]
      | false ↦ λ not_all. later-false taps moment not_all
    ] h

pub later-true : (taps : List TapIn) (moment : ℕ) → is_later taps moment ≡ true
    → latest taps ≤ moment - 1
unfolding is_later latest
later-true [] moment h = omega arith
later-true (tap ∷ taps) moment h =
    elim (is_some tap.mode) as (λ v.
    list_all (λ (t : TapIn). ltb t.moment moment)
    (cond v (tap ∷ filter (λ (t : TapIn). is_some t.mode) taps)
    (filter (λ (t : TapIn). is_some t.mode) taps)) ≡ true
    → cond v (max tap.moment (latest taps)) (latest taps) ≤ moment - 1) [
      | true ↦ λ all. elim (cases_Bool (ltb tap.moment moment)) [
        | inl before ↦ omega
            (arith, later-true taps moment (rw before at all), ltb-true tap.moment moment before)
        | inr not_before ↦ let no : false ≡ true = rw not_before at all in cc
      ]
      | false ↦ λ all. later-true taps moment all
    ] h

pub last-latest : (state : Kept) (taps : List TapIn)
    → ((moment : ℕ) → is_after (Some state) moment ≡ is_later taps moment)
    → state.last.moment ≡ latest taps
unfolding is_after
last-latest state taps last =
    let at_most : state.last.moment ≤ latest taps =
    later-false taps state.last.moment (sym (last state.last.moment)
    ∙ le-ltb state.last.moment state.last.moment (omega arith)) in
    elim (cases_lt state.last.moment (latest taps)) [
      | inl below ↦ let no : latest taps ≤ latest taps - 1 =
          later-true taps (latest taps) (sym (last (latest taps))
          ∙ lt-ltb state.last.moment (latest taps) below) in omega arith
      | inr at_least ↦ omega arith
    ]

-- the last live tap is the last one of the last trip

last_or-cons : {A : Type 0} (before : Option A) (xs : List A) (x : A) (ys : List A)
    → last_or before (xs ++ x ∷ ys) ≡ last_or (Some x) ys
last_or-cons before [] x ys = refl
last_or-cons before (first ∷ xs) x ys = last_or-cons (Some first) xs x ys

last_block-from : {A : Type 0} (joins : List A → A → Bool) (first block xs : List A)
    → last_block (first ∷ blocks_from joins block xs) ≡ last_block (blocks_from joins block xs)
unfolding last_block blocks_from
last_block-from joins first block [] = refl
last_block-from joins first block (x ∷ xs) =
    elim (joins block x) as (λ v.
    last_block (first ∷ cond v (blocks_from joins (block ++ x ∷ []) xs) (block
    ∷ blocks_from joins (x ∷ []) xs))
    ≡ last_block (cond v (blocks_from joins (block ++ x ∷ []) xs) (block
    ∷ blocks_from joins (x ∷ []) xs)))
    [ true ↦ last_block-from joins first (block ++ x ∷ []) xs | false ↦ refl ]

last-blocks_from : {A : Type 0} (joins : List A → A → Bool) (block xs : List A)
    → last_or None (last_block (blocks_from joins block xs)) ≡ last_or None (block ++ xs)
unfolding last_block blocks_from
last-blocks_from joins block [] = rw append-nil refl
last-blocks_from joins block (x ∷ xs) =
    elim (joins block x) as (λ v.
    last_or None (last_block
    (cond v (blocks_from joins (block ++ x ∷ []) xs) (block ∷ blocks_from joins (x ∷ []) xs)))
    ≡ last_or None (block ++ x ∷ xs)) [
      | true ↦ last-blocks_from joins (block ++ x ∷ []) xs
          ∙ rw (append_assoc block (x ∷ []) xs) refl
      | false ↦ rw (last_block-from joins block (x ∷ []) xs) (last-blocks_from joins (x ∷ []) xs)
          ∙ sym (last_or-cons None block x xs)
    ]

pub last-blocks_by : {A : Type 0} (joins : List A → A → Bool) (xs : List A)
    → last_or None (last_block (blocks_by joins xs)) ≡ last_or None xs
unfolding blocks_by last_block
last-blocks_by joins [] = refl
last-blocks_by joins (x ∷ xs) = last-blocks_from joins (x ∷ []) xs

last_or-tap : (first : LiveTap) (taps : List LiveTap)
    → last_or (Some first) taps ≡ Some (last_tap first taps)
unfolding last_tap
last_or-tap first [] = refl
last_or-tap first (next ∷ taps) = last_or-tap next taps

trip-last : (trip : List LiveTap) → option_map (λ t. t.last) (trip_of trip) ≡ last_or None trip
unfolding trip_of
trip-last [] = refl
trip-last (ride ∷ given) = sym (last_or-tap ride given)

pub last_trip-live : (rules : TokenRules) (taps : List TapIn)
    → option_map (λ t. t.last) (last_trip rules taps) ≡ last_or None (live taps)
unfolding last_trip trips
last_trip-live rules taps =
    trip-last (last_block (blocks_by (continues rules.transfers) (live taps)))
    ∙ last-blocks_by (continues rules.transfers) (live taps)

-- what decides a ride's cents

ride_by-some : (start until : ℕ) (found : Option Charge) (one : Charge) → found ≡ Some one
    → ride_by start until found ≡ Ride start until one
ride_by-some start until found one is = ap (ride_by start until) is

ride_of-after : (rules : TokenRules) (window : List LiveTap) (ride : LiveTap) (terms : Terms)
    → rules.terms ride ≡ terms → AreBoundedTerms terms
    → ride_of rules (after_ride rules window ride)
    ≡ next_reason terms
    (window_at (window_of rules window) ride.moment (rules.until ride.moment))
unfolding ride_of next_reason window_of window_at open_window is_within
ride_of-after rules [] ride terms same bounds =
    ride_by-some ride.moment (rules.until ride.moment) _ _
    (charge-after rules [] ride terms same bounds)
ride_of-after rules (first ∷ window) ride terms same bounds =
    elim (ltb ride.moment (rules.until first.moment)) as (λ v.
    last_or None (charges rules.terms (cond v (first ∷ (window ++ ride ∷ [])) (ride ∷ [])))
    ≡ Some (charge terms (cond v (numbers rules first.moment (first ∷ window))
    (open_window ride.moment (rules.until ride.moment))).rides
    (cond v (numbers rules first.moment (first ∷ window))
    (open_window ride.moment (rules.until ride.moment))).cents)
    → ride_of rules (cond v (first ∷ (window ++ ride ∷ [])) (ride ∷ []))
    ≡ next_reason terms (cond v (numbers rules first.moment (first ∷ window))
    (open_window ride.moment (rules.until ride.moment)))) [
      | true ↦ λ after. ride_by-some first.moment (rules.until first.moment) _ _ after
      | false ↦ λ after. ride_by-some ride.moment (rules.until ride.moment) _ _ after
    ] (charge-after rules (first ∷ window) ride terms same bounds)

-- what the account keeps determines the reason

pub why_stale : (rules : TokenRules) (account : Option Kept) (state : Kept) (taps : List TapIn)
    (tap : TapIn) (mode : Mode)
    → account ≡ Some state → KeepsOf rules account taps → tap.mode ≡ Some mode
    → tap.moment ≤ state.last.moment
    → Stale state.last.moment ≡ reason rules taps tap
unfolding is_after
why_stale rules account state taps tap mode same holds known before =
    let kept : KeepsOf rules (Some state) taps = rw same at holds in
    let not_after : is_later taps tap.moment ≡ false =
    sym (kept.last tap.moment) ∙ le-ltb state.last.moment tap.moment before in
    ap (λ moment. Stale moment) (last-latest state taps kept.last)
    ∙ sym (reason_stale rules taps tap mode known not_after)

pub why_transfer : (rules : TokenRules) (account : Option Kept) (state : Kept) (taps : List TapIn)
    (tap : TapIn) (mode : Mode)
    → account ≡ Some state → KeepsOf rules account taps → tap.mode ≡ Some mode
    → state.last.moment < tap.moment
    → gives rules.transfers (kept_trip (Some state)) (live_at tap.moment mode) ≡ true
    → given_by (kept_trip (Some state)) ≡ reason rules taps tap
unfolding is_after
why_transfer rules account state taps tap mode same holds known after given =
    let kept : KeepsOf rules (Some state) taps = rw same at holds in
    let later : is_later taps tap.moment ≡ true =
    sym (kept.last tap.moment) ∙ lt-ltb state.last.moment tap.moment after in
    let gives_it : gives rules.transfers (last_trip rules taps) (live_at tap.moment mode) ≡ true =
    rw (← kept.trip) given in
    let ends : ends_in_transfer rules (taps ++ tap ∷ []) ≡ true =
    ends_in_transfer-push rules taps tap _ (is_live taps tap mode known later) ∙ gives_it in
    ap given_by kept.trip
    ∙ sym (reason_live rules taps tap mode known later
    ∙ reason_transfer rules taps (taps ++ tap ∷ []) ends)

pub why_ride : (rules : TokenRules) (account : Option Kept) (taps : List TapIn) (tap : TapIn)
    (mode : Mode) (until : ℕ) (terms : Terms) (window : Window)
    → KeepsOf rules account taps → tap.mode ≡ Some mode → until ≡ rules.until tap.moment
    → GivesNone rules.transfers account tap mode
    → rules.terms (live_at tap.moment mode) ≡ terms → AreBoundedTerms terms
    → window ≡ window_at (kept_window account) tap.moment until
    → next_reason terms window ≡ reason rules taps tap
unfolding live_at
why_ride rules account taps tap mode until terms window holds known limit none same bounds at =
    let later : is_later taps tap.moment ≡ true = sym (holds.last tap.moment) ∙ none.after in
    let shown : live_tap taps tap ≡ Some (live_at tap.moment mode) =
    is_live taps tap mode known later in
    let gives_none : gives rules.transfers (last_trip rules taps) (live_at tap.moment mode)
    ≡ false =
    rw (← holds.trip) none.none in
    let ends : ends_in_transfer rules (taps ++ tap ∷ []) ≡ false =
    ends_in_transfer-push rules taps tap _ shown ∙ gives_none in
    let same_window : window
    ≡ window_at (window_of rules (last_block (windows rules taps))) tap.moment
    (rules.until tap.moment) =
    at ∙ rw (holds.window, limit) refl in
    rw same_window
    (sym (reason_live rules taps tap mode known later
    ∙ reason_ride rules taps (taps ++ tap ∷ []) ends
    ∙ rw (last_window-ride rules taps tap _ shown ends)
    (ride_of-after rules (last_block (windows rules taps)) (live_at tap.moment mode) terms
    same bounds)))

-- the reply follows from the reason

replied-ride : (start until : ℕ) (found : Option Charge) (one : Charge) → found ≡ Some one
    → ride_reply (option_and_then paid_by found) ≡ replied_by (ride_by start until found)
replied-ride start until found one is = rw is refl

ride-follows : (rules : TokenRules) (window : List LiveTap) (ride : LiveTap)
    → ride_reply (option_and_then paid_by
    (last_or None (charges rules.terms (after_ride rules window ride))))
    ≡ replied_by (ride_of rules (after_ride rules window ride))
unfolding ride_of is_within
ride-follows rules [] ride = replied-ride _ _ _ _ (last_charge-push rules.terms [] ride)
ride-follows rules (first ∷ window) ride =
    elim (ltb ride.moment (rules.until first.moment)) as (λ v.
    ride_reply (option_and_then paid_by
    (last_or None (charges rules.terms (cond v (first ∷ (window ++ ride ∷ [])) (ride ∷ [])))))
    ≡ replied_by (ride_of rules (cond v (first ∷ (window ++ ride ∷ [])) (ride ∷ [])))) [
      | true ↦ replied-ride _ _ _ _ (last_charge-push rules.terms (first ∷ window) ride)
      | false ↦ replied-ride _ _ _ _ (last_charge-push rules.terms [] ride)
    ]

transfer-follows : (rules : TransferRules) (trip : Option TripEnd) (tap : LiveTap)
    → gives rules trip tap ≡ true
    → reply_with answer.Transfer 0 ≡ replied_by (given_by trip)
unfolding gives given_by
transfer-follows rules None tap given = cc
transfer-follows rules (Some trip) tap given = refl

live-follows : (rules : TokenRules) (taps : List TapIn) (tap : TapIn) (shown : LiveTap)
    → live_tap taps tap ≡ Some shown
    → live_reply rules (taps ++ tap ∷ []) ≡ replied_by (live_reason rules taps (taps ++ tap ∷ []))
live-follows rules taps tap shown some =
    elim (cases_Bool (ends_in_transfer rules (taps ++ tap ∷ []))) [
      | inl ends ↦ reply_transfer rules (taps ++ tap ∷ []) ends
          ∙ transfer-follows rules.transfers (last_trip rules taps) shown
          (sym (ends_in_transfer-push rules taps tap shown some) ∙ ends)
          ∙ ap (λ r. replied_by r) (sym (reason_transfer rules taps (taps ++ tap ∷ []) ends))
      | inr ride ↦ reply_ride rules (taps ++ tap ∷ []) ride
          ∙ rw (
            reason_ride rules taps (taps ++ tap ∷ []) ride,
            last_window-ride rules taps tap shown some ride,
          )
          (ride-follows rules (last_block (windows rules taps)) shown)
    ]

known-follows : (rules : TokenRules) (taps : List TapIn) (tap : TapIn) (mode : Mode)
    → tap.mode ≡ Some mode → reply rules taps tap ≡ replied_by (reason rules taps tap)
known-follows rules taps tap mode known = elim (cases_Bool (is_later taps tap.moment)) [
  | inl later ↦ reply_live rules taps tap mode known later
      ∙ live-follows rules taps tap (live_at tap.moment mode) (is_live taps tap mode known later)
      ∙ ap (λ r. replied_by r) (sym (reason_live rules taps tap mode known later))
  | inr not_after ↦ reply_stale rules taps tap mode known not_after
      ∙ ap (λ r. replied_by r) (sym (reason_stale rules taps tap mode known not_after))
]

-- the reply is the one that the reason gives
pub reply-follows : (rules : TokenRules) (taps : List TapIn) (tap : TapIn)
    → reply rules taps tap ≡ replied_by (reason rules taps tap)
reply-follows rules taps tap =
    elim tap.mode as (λ mode. tap.mode ≡ mode
    → reply rules taps tap ≡ replied_by (reason rules taps tap)) [
      | None ↦ λ none. reply_unknown rules taps tap none
          ∙ ap (λ r. replied_by r) (sym (reason_unknown rules taps tap none))
      | Some mode ↦ λ known. known-follows rules taps tap mode known
    ] refl

-- what gives a transfer is the ride of the last trip

abbrev given_in : Reason → Option LiveTap
given_in Unknown = None
given_in (Stale latest) = None
given_in (Transfer moment mode) = Some (live_at moment mode)
given_in (Ride start until charge) = None

given_in-by : (trip : Option TripEnd) → given_in (given_by trip) ≡ option_map (λ t. t.ride) trip
unfolding given_by live_at
given_in-by None = refl
given_in-by (Some trip) = refl

given_in-found : (start until : ℕ) (found : Option Charge)
    → given_in (ride_by start until found) ≡ None
given_in-found start until None = refl
given_in-found start until (Some charge) = refl

given_in-ride : (rules : TokenRules) (window : List LiveTap)
    → given_in (ride_of rules window) ≡ None
unfolding ride_of
given_in-ride rules [] = refl
given_in-ride rules (first ∷ window) = given_in-found _ _ _

ride-of : (trip : Option TripEnd) (given : LiveTap) → option_map (λ t. t.ride) trip ≡ Some given
    → (end : TripEnd) × (trip ≡ Some end) × (end.ride ≡ given)
ride-of None given is = absurd (cc)
ride-of (Some end) given is = (end, refl, same end.ride given is)
  where
    same : (a b : LiveTap) → Some a ≡ Some b → a ≡ b
    same a b both = cc

given-live : (rules : TokenRules) (taps : List TapIn) (tap : TapIn) (given : LiveTap)
    → given_in (live_reason rules taps (taps ++ tap ∷ [])) ≡ Some given
    → (end : TripEnd) × (last_trip rules taps ≡ Some end) × (end.ride ≡ given)
given-live rules taps tap given is =
    elim (cases_Bool (ends_in_transfer rules (taps ++ tap ∷ []))) [
      | inl ends ↦ ride-of (last_trip rules taps) given
          (sym (given_in-by (last_trip rules taps))
          ∙ sym (ap given_in (reason_transfer rules taps (taps ++ tap ∷ []) ends)) ∙ is)
      | inr ride ↦
          let no : None ≡ Some given = sym (given_in-ride rules _)
          ∙ sym (ap given_in (reason_ride rules taps (taps ++ tap ∷ []) ride)) ∙ is in
          absurd (cc (no))
    ]

-- the ride that a transfer's reason names is that of the last trip
pub giver-ride : (rules : TokenRules) (taps : List TapIn) (tap : TapIn) (moment : ℕ) (given : Mode)
    → reason rules taps tap ≡ Transfer moment given
    → (trip : TripEnd) × (last_trip rules taps ≡ Some trip) × (trip.ride ≡ live_at moment given)
giver-ride rules taps tap moment given is =
    elim tap.mode as (λ mode. tap.mode ≡ mode
    → (trip : TripEnd) × (last_trip rules taps ≡ Some trip) × (trip.ride ≡ live_at moment given)) [
      | None ↦ λ none. let no : None ≡ Some (live_at moment given) =
          sym (ap given_in (reason_unknown rules taps tap none)) ∙ ap given_in is in
          absurd (cc (no))
      | Some mode ↦ λ known. elim (cases_Bool (is_later taps tap.moment)) [
        | inl later ↦ given-live rules taps tap (live_at moment given)
            (ap given_in (sym (reason_live rules taps tap mode known later) ∙ is))
        | inr not_after ↦ let no : None ≡ Some (live_at moment given) =
            sym (ap given_in (reason_stale rules taps tap mode known not_after))
            ∙ ap given_in is in absurd (cc (no))
      ]
    ] refl
