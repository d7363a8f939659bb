-- No reply has more cents than the greatest fare of a table.
use Rattle.std.proofs.Common.{◌≡◌, ◌≤◌, Bool, true, false, List, [], ◌∷◌, ◌++◌, Option, Some, None}
use Rattle.std.proofs.Common.{refl, ◌∙◌}
use Rattle.account_rule.proofs.FareLemmas.{free-few, ride-few}
use Rattle.account_rule.proofs.StepLemmas.{is_live, reply_live, reply_ride, reply_stale}
use Rattle.account_rule.proofs.StepLemmas.{reply_transfer, reply_unknown}
use Rattle.account_rule.proofs.{TapLemmas.last_window-ride, WindowLemmas.charge-after}
use Rattle.account_rule.specs.{Blocks.last_block, Replies.reply, Represents.window_of}
use Rattle.account_rule.specs.Taps.{is_later, live_at, live_tap}
use Rattle.account_rule.specs.{TokenRules.TokenRules, Trips.ends_in_transfer, Windows.windows}
use Rattle.account_rule.specs.declared.reply.Answer.TheVariants.{Transfer, Stale, Unknown}
use Rattle.account_rule.specs.declared.{tap.TapIn.TapIn, window.Window.Window}
use Rattle.account_rule.specs.inside.Kept.{window_at}
use Rattle.tariffs.specs.{Terms.AreBoundedTerms, declared.mode.Mode.Mode}

ride_most : (rules : TokenRules) (taps : List TapIn) (tap : TapIn) (mode : Mode)
    → tap.mode ≡ Some mode → is_later taps tap.moment ≡ true
    → ends_in_transfer rules (taps ++ tap ∷ []) ≡ false
    → AreBoundedTerms (rules.terms (live_at tap.moment mode))
    → (reply rules taps tap).cents ≤ 100_000
unfolding live_at
ride_most rules taps tap mode known later ends bounds =
    let terms = rules.terms (live_at tap.moment mode) in
    let shown : live_tap taps tap ≡ Some (live_at tap.moment mode) =
    is_live taps tap mode known later in
    let window : Window =
    window_at (window_of rules (last_block (windows rules taps))) tap.moment
    (rules.until tap.moment) in
    ride-few terms window.rides window.cents (reply rules taps tap) bounds
    (reply_live rules taps tap mode known later
    ∙ reply_ride rules (taps ++ tap ∷ []) ends
    ∙ rw (
      last_window-ride rules taps tap (live_at tap.moment mode) shown ends,
      charge-after rules (last_block (windows rules taps)) (live_at tap.moment mode) terms refl
          bounds,
    ) refl)

live_most : (rules : TokenRules) (taps : List TapIn) (tap : TapIn) (mode : Mode)
    → tap.mode ≡ Some mode → is_later taps tap.moment ≡ true
    → AreBoundedTerms (rules.terms (live_at tap.moment mode))
    → (reply rules taps tap).cents ≤ 100_000
live_most rules taps tap mode known later bounds =
    by (ends_in_transfer rules (taps ++ tap ∷ [])) refl
  where
    by : (b : Bool) → ends_in_transfer rules (taps ++ tap ∷ []) ≡ b
        → (reply rules taps tap).cents ≤ 100_000
    by true ends = free-few (reply rules taps tap) Transfer
        (reply_live rules taps tap mode known later ∙ reply_transfer rules (taps ++ tap ∷ []) ends)
    by false ends = ride_most rules taps tap mode known later ends bounds

known_most : (rules : TokenRules) (taps : List TapIn) (tap : TapIn) (mode : Mode)
    → tap.mode ≡ Some mode → AreBoundedTerms (rules.terms (live_at tap.moment mode))
    → (reply rules taps tap).cents ≤ 100_000
known_most rules taps tap mode known bounds = by (is_later taps tap.moment) refl
  where
    by : (b : Bool) → is_later taps tap.moment ≡ b → (reply rules taps tap).cents ≤ 100_000
    by true later = live_most rules taps tap mode known later bounds
    by false stale = free-few (reply rules taps tap) Stale
        (reply_stale rules taps tap mode known stale)

-- no reply has more cents than the greatest fare
pub reply_most : (rules : TokenRules) (taps : List TapIn) (tap : TapIn)
    → ((mode : Mode) → tap.mode ≡ Some mode → AreBoundedTerms (rules.terms (live_at tap.moment mode)))
    → (reply rules taps tap).cents ≤ 100_000
reply_most rules taps tap bounds = by tap.mode refl
  where
    by : (o : Option Mode) → tap.mode ≡ o → (reply rules taps tap).cents ≤ 100_000
    by None none = free-few (reply rules taps tap) Unknown (reply_unknown rules taps tap none)
    by (Some mode) known = known_most rules taps tap mode known (bounds mode known)
