-- The mode that gives a transfer is one of the table's.
use Rattle.std.proofs.Common.{◌≡◌, ℕ, ◌<◌, List, Option, sym, ap, subst, ◌∙◌}
use Rattle.account_rule.proofs.ReasonLemmas.{giver-ride}
use Rattle.account_rule.specs.{Kept.Kept, Kept.kept_of, Reasons.reason, Represents.KeepsOf}
use Rattle.account_rule.specs.Taps.{LiveTap, live_at}
use Rattle.account_rule.specs.{TokenRules.TokenRules, TokenRules.rules_of, declared.tap.TapIn.TapIn}
use Rattle.fare_caps.proofs.AnswerLemmas.{capped-paid-transfer, capped-transfer}
use Rattle.fare_caps.specs.{CapMeanings.capped_rules_of, CappedReplies.capped_reason}
use Rattle.fare_caps.specs.Represents.{Represents}
use Rattle.fare_caps.specs.declared.capped_account.CappedAccount.{CappedAccount}
use Rattle.fare_caps.specs.declared.capped_reason.CappedReason.{CappedReason}
use Rattle.fare_caps.specs.declared.capped_reason.CappedReason.TheVariants.{PaidTransfer, Ride}
use Rattle.fare_caps.specs.declared.capped_reason.CappedReason.TheVariants.{Stale, Transfer}
use Rattle.fare_caps.specs.declared.capped_reason.CappedReason.TheVariants.{Unknown}
use Rattle.fare_texts.specs.ReasonWords.{HasModeOf}
use Rattle.tariffs.specs.{Fares.Fares, declared.mode.Mode.Mode}
use Rattle.account_rule.specs.Represents as plain
use Rattle.account_rule.specs.declared.reason.Reason.TheVariants as plain_reason

same-mode : (ride : LiveTap) (moment : ℕ) (mode : Mode) → ride ≡ live_at moment mode
    → ride.mode ≡ mode
unfolding live_at
same-mode ride moment mode same = ap (λ (t : LiveTap). t.mode) same

-- the ride of the account's last trip is the ride that gives the transfer
within : (rules : TokenRules) (kept : Option Kept) (taps : List TapIn) (tap : TapIn) (moment : ℕ)
    (mode : Mode)
    → KeepsOf rules kept taps → reason rules taps tap ≡ plain_reason.Transfer moment mode
    → mode.position < rules.modes
within rules kept taps tap moment mode holds is =
    let (trip, found, ride) = giver-ride rules taps tap moment mode is in
    subst (λ (m : Mode). m.position < rules.modes) (same-mode trip.ride moment mode ride)
    (holds.ride_mode trip (holds.trip ∙ found))

-- the reason for a tap has a mode of the table, if it has one
pub has_mode : (fares : Fares) (token : List ℕ) (account : CappedAccount) (taps : List TapIn)
    (tap : TapIn) (why : CappedReason)
    → Represents (capped_rules_of fares token) account taps
    → why ≡ capped_reason (capped_rules_of fares token) taps tap
    → HasModeOf fares why
unfolding plain.Represents rules_of capped_rules_of
has_mode fares token account taps tap Unknown holds is = tt
has_mode fares token account taps tap (Stale latest) holds is = tt
has_mode fares token account taps tap (Transfer moment mode) holds is =
    within (rules_of fares token) (kept_of account.account) taps tap moment mode holds.account
    (capped-transfer (capped_rules_of fares token) taps tap moment mode (sym is))
has_mode fares token account taps tap (PaidTransfer start until moment mode charge) holds is =
    within (rules_of fares token) (kept_of account.account) taps tap moment mode holds.account
    (capped-paid-transfer (capped_rules_of fares token) taps tap start until moment mode charge
    (sym is))
has_mode fares token account taps tap (Ride start until charge) holds is = tt
