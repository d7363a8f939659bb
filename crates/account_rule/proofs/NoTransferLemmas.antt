-- What an account keeps decides why a ride is no transfer, and of each ride what is said is so.
use Rattle.std.proofs.Common.{◌≡◌, ℕ, ◌-◌, ◌<◌, ◌≤◌, true, false, List, [], ◌∷◌, ◌++◌, ltb, leb}
use Rattle.std.proofs.Common.{Option, Some, None, refl, sym, ap, ◌∙◌, inl, inr, arith, option_map}
use Rattle.account_rule.proofs.ReasonLemmas.{last_trip-live, reason_live, reason_stale}
use Rattle.account_rule.proofs.{ReasonLemmas.reason_transfer, StepLemmas.is_live}
use Rattle.account_rule.proofs.TapLemmas.{ends_in_transfer-push}
use Rattle.account_rule.specs.Kept.{Kept, kept_trip}
use Rattle.account_rule.specs.NoTransfers.{Lacks, no_transfer, no_transfer_from, spent_from}
use Rattle.account_rule.specs.{Reasons.given_by, Reasons.latest, Reasons.reason, Represents.KeepsOf}
use Rattle.account_rule.specs.Taps.{LiveTap, is_later, live, live_at}
use Rattle.account_rule.specs.TokenRules.{TokenRules, TransferRules}
use Rattle.account_rule.specs.Trips.{TripEnd, ends_in_transfer, last_trip}
use Rattle.account_rule.specs.declared.no_transfer.NoTransfer.TheVariants.{FirstTap}
use Rattle.account_rule.specs.declared.reason.Charge.{Charge}
use Rattle.account_rule.specs.declared.reason.Reason.TheVariants.{Ride, Stale}
use Rattle.account_rule.specs.{declared.tap.TapIn.TapIn, inside.Kept.gives}
use Rattle.std.proofs.lemmas.Bool.{cases_Bool, le-leb, leb-false, leb-true, lt-ltb, ltb-false}
use Rattle.std.proofs.lemmas.Bool.{eqb-true, ltb-true}
use Rattle.std.specs.{List.last_or, Prelude.nat_eq}
use Rattle.tariffs.specs.declared.mode.Mode.{Mode}

-- the answers of an account

pub none-first : (rules : TokenRules) (kept : Option Kept) (taps : List TapIn) (moment : ℕ)
    (mode : Mode) → kept ≡ None → KeepsOf rules kept taps
    → FirstTap ≡ no_transfer rules taps moment mode
unfolding no_transfer no_transfer_from kept_trip
none-first rules kept taps moment mode fresh keeps =
    let none : None ≡ last_trip rules taps = ap kept_trip (sym fresh) ∙ keeps.trip in
    ap (λ trip. no_transfer_from rules.transfers trip (live_at moment mode)) none

pub none-kept : (rules : TokenRules) (kept : Option Kept) (state : Kept) (taps : List TapIn)
    (moment : ℕ) (mode : Mode) → kept ≡ Some state → KeepsOf rules kept taps
    → no_transfer_from rules.transfers (kept_trip (Some state)) (live_at moment mode)
    ≡ no_transfer rules taps moment mode
unfolding no_transfer
none-kept rules kept state taps moment mode is keeps =
    ap (λ trip. no_transfer_from rules.transfers trip (live_at moment mode))
    (ap kept_trip (sym is) ∙ keeps.trip)

-- of a ride what is said is so

last_or-some : {A : Type 0} (first : A) (xs : List A) → last_or (Some first) xs ≡ None → ⊥
last_or-some first [] none = cc
last_or-some first (x ∷ xs) none = last_or-some x xs none

no-last : (lived : List LiveTap) → last_or None lived ≡ None → lived ≡ []
no-last [] none = refl
no-last (first ∷ more) none = absurd (last_or-some first more none)

-- a trip that could give one more in time, and does not, has no permitted pair of modes
refused : (rules : TransferRules) (trip : TripEnd) (tap : LiveTap)
    → gives rules (Some trip) tap ≡ false → trip.given < rules.count tap
    → tap.moment - trip.ride.moment ≤ rules.time tap → rules.permits trip.last.mode tap ≡ false
unfolding gives
refused rules trip tap none few soon =
    elim (cases_Bool (rules.permits trip.last.mode tap)) [
      | inl permitted ↦
          let no : false ≡ true = sym none
          ∙ rw (
            lt-ltb trip.given (rules.count tap) few,
            le-leb (tap.moment - trip.ride.moment) (rules.time tap) soon,
            permitted,
          ) refl in absurd (cc (no))
      | inr not_permitted ↦ not_permitted
    ]

-- a trip that gave all its transfers
spent-lacks : (rules : TokenRules) (taps : List TapIn) (tap : LiveTap) (trip : TripEnd)
    → last_trip rules taps ≡ Some trip → rules.transfers.count tap ≤ trip.given
    → Lacks rules taps tap (spent_from trip)
spent-lacks rules taps tap trip is all =
    elim (cases_Bool (nat_eq trip.given 0)) [
      | inl zero ↦ rw zero (omega (arith, all, eqb-true trip.given 0 zero))
      | inr some ↦ rw some (trip, is, refl, all)
    ]

trip-lacks : (rules : TokenRules) (taps : List TapIn) (tap : LiveTap) (trip : TripEnd)
    → last_trip rules taps ≡ Some trip → gives rules.transfers (Some trip) tap ≡ false
    → Lacks rules taps tap (no_transfer_from rules.transfers (Some trip) tap)
unfolding no_transfer_from
trip-lacks rules taps tap trip is none =
    elim (cases_Bool (ltb (rules.transfers.time tap) (tap.moment - trip.last.moment))) [
      | inl late ↦ rw late (
        trip,
        is,
        refl,
        ltb-true (rules.transfers.time tap) (tap.moment - trip.last.moment) late,
      )
      | inr soon ↦ rw soon (elim (cases_Bool (leb (rules.transfers.count tap) trip.given)) [
        | inl spent ↦ rw spent (spent-lacks rules taps tap trip is
            (leb-true (rules.transfers.count tap) trip.given spent))
        | inr one_more ↦ rw one_more (elim (cases_Bool
            (ltb (rules.transfers.time tap) (tap.moment - trip.ride.moment))) [
              | inl late ↦ rw late (
                trip,
                is,
                refl,
                ltb-true (rules.transfers.time tap) (tap.moment - trip.ride.moment) late,
              )
              | inr in_time ↦ rw in_time (
                trip,
                is,
                refl,
                refl,
                refused rules.transfers trip tap none
                    (leb-false (rules.transfers.count tap) trip.given one_more)
                    (ltb-false (rules.transfers.time tap) (tap.moment - trip.ride.moment) in_time),
              )
            ])
      ])
    ]

first-lacks : (rules : TokenRules) (taps : List TapIn) (tap : LiveTap)
    → last_trip rules taps ≡ None → Lacks rules taps tap (no_transfer_from rules.transfers None tap)
unfolding no_transfer_from
first-lacks rules taps tap none =
    no-last (live taps)
    (sym (last_trip-live rules taps) ∙ ap (option_map (λ (t : TripEnd). t.last)) none)

lacks-live : (rules : TokenRules) (taps : List TapIn) (tap : TapIn) (mode : Mode)
    → tap.mode ≡ Some mode → is_later taps tap.moment ≡ true
    → ends_in_transfer rules (taps ++ tap ∷ []) ≡ false
    → Lacks rules taps (live_at tap.moment mode) (no_transfer rules taps tap.moment mode)
unfolding no_transfer
lacks-live rules taps tap mode known later ride =
    let shown = live_at tap.moment mode in
    let pushed = ends_in_transfer-push rules taps tap shown (is_live taps tap mode known later) in
    elim (last_trip rules taps) as (λ found. last_trip rules taps ≡ found
    → Lacks rules taps shown (no_transfer_from rules.transfers found shown)) [
      | None ↦ λ none. first-lacks rules taps shown none
      | Some trip ↦ λ is. trip-lacks rules taps shown trip is
          (ap (λ t. gives rules.transfers t shown) (sym is) ∙ sym pushed ∙ ride)
    ] refl

no-giver : (giver : Option TripEnd) (start until : ℕ) (charge : Charge)
    → given_by giver ≡ Ride start until charge → ⊥
unfolding given_by
no-giver None start until charge is = cc
no-giver (Some giver) start until charge is = cc

pub lacks : (rules : TokenRules) (taps : List TapIn) (tap : TapIn) (mode : Mode) (start until : ℕ)
    (charge : Charge) → tap.mode ≡ Some mode → reason rules taps tap ≡ Ride start until charge
    → Lacks rules taps (live_at tap.moment mode) (no_transfer rules taps tap.moment mode)
lacks rules taps tap mode start until charge known is =
    elim (cases_Bool (is_later taps tap.moment)) [
      | inl later ↦ elim (cases_Bool (ends_in_transfer rules (taps ++ tap ∷ []))) [
        | inl ends ↦ absurd (no-giver (last_trip rules taps) start until charge
            (sym (reason_live rules taps tap mode known later
            ∙ reason_transfer rules taps (taps ++ tap ∷ []) ends) ∙ is))
        | inr ride ↦ lacks-live rules taps tap mode known later ride
      ]
      | inr not_after ↦
          let no : Stale (latest taps) ≡ Ride start until charge =
          sym (reason_stale rules taps tap mode known not_after) ∙ is in absurd (cc (no))
    ]
