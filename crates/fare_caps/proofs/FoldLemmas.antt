-- A fold over rides whose steps open and extend blocks says what the last block says.
use Rattle.std.proofs.Common.{◌≡◌, Bool, cond, List, [], ◌∷◌, ◌++◌, map, refl, sym, ap, ◌∙◌}
use Rattle.std.proofs.Common.{append-nil, append_assoc}
use Rattle.account_rule.proofs.BlockLemmas.{blocks_by-push, last_block-extend}
use Rattle.account_rule.specs.{Blocks.blocks_by, Blocks.last_block, Taps.LiveTap}
use Rattle.fare_caps.specs.CapStates.{CapStates, after_due, after_dues, after_ride}
use Rattle.fare_caps.specs.{Caps.CappedRules, Prices.Due, Prices.of_ride}

-- what holds of the empty list and with one more element holds of each list
pub by_pushes : {A : Type 0} (P : List A → Type 0) → P []
    → ((xs : List A) (x : A) → P xs → P (xs ++ x ∷ []))
    → (earlier xs : List A) → P earlier → P (earlier ++ xs)
by_pushes P none more earlier [] all = rw (append-nil earlier) all
by_pushes P none more earlier (x ∷ xs) all =
    rw (← append_assoc earlier (x ∷ []) xs)
    (by_pushes P none more (earlier ++ x ∷ []) xs (more earlier x all))

-- the states after more taps
pub after_dues-append : (capped : CappedRules) (states : CapStates) (dues more : List Due)
    → after_dues capped states (dues ++ more)
    ≡ after_dues capped (after_dues capped states dues) more
unfolding after_dues
after_dues-append capped states [] more = refl
after_dues-append capped states (due ∷ dues) more =
    after_dues-append capped (after_due capped states due) dues more

-- the states after rides alone
unfoldable pub after_rides : CappedRules → CapStates → List LiveTap → CapStates
after_rides capped states [] = states
after_rides capped states (ride ∷ more) =
    after_rides capped (after_ride capped states ride) more

pub rides-alone : (capped : CappedRules) (states : CapStates) (rides : List LiveTap)
    → after_dues capped states (map of_ride rides) ≡ after_rides capped states rides
unfolding after_dues after_due after_rides
rides-alone capped states [] = refl
rides-alone capped states (ride ∷ more) = rides-alone capped (after_ride capped states ride) more

-- the states after one more ride
pub after_rides-push : (capped : CappedRules) (states : CapStates) (rides : List LiveTap)
    (ride : LiveTap)
    → after_rides capped states (rides ++ ride ∷ [])
    ≡ after_ride capped (after_rides capped states rides) ride
unfolding after_rides
after_rides-push capped states [] ride = refl
after_rides-push capped states (first ∷ rides) ride =
    after_rides-push capped (after_ride capped states first) rides ride

-- each ride makes of what a block says what the block with the ride says
abbrev pub Follows : CappedRules → (List LiveTap → LiveTap → Bool) → (List LiveTap → CapStates)
    → Type 0
Follows capped joins said =
    (block : List LiveTap) (ride : LiveTap)
    → after_ride capped (said block) ride
    ≡ said (cond (joins block ride) (block ++ ride ∷ []) (ride ∷ []))

no-rides : (capped : CappedRules) (joins : List LiveTap → LiveTap → Bool)
    (said : List LiveTap → CapStates)
    → after_rides capped (said []) [] ≡ said (last_block (blocks_by joins []))
unfolding after_rides blocks_by last_block
no-rides capped joins said = refl

-- the states after all rides are what the last block says
pub fold-last : (capped : CappedRules) (joins : List LiveTap → LiveTap → Bool)
    (said : List LiveTap → CapStates) (rides : List LiveTap)
    → Follows capped joins said
    → after_rides capped (said []) rides ≡ said (last_block (blocks_by joins rides))
fold-last capped joins said rides follows =
    by_pushes (λ rs. after_rides capped (said []) rs ≡ said (last_block (blocks_by joins rs)))
    (no-rides capped joins said)
    (λ rs ride same. after_rides-push capped (said []) rs ride
    ∙ ap (λ s. after_ride capped s ride) same
    ∙ follows (last_block (blocks_by joins rs)) ride
    ∙ sym (ap said (ap last_block (blocks_by-push joins rs ride)
    ∙ last_block-extend joins (blocks_by joins rs) ride)))
    [] rides (no-rides capped joins said)
