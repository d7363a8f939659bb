-- With one transfer for each ride, trips and rows of linked taps have the same rides.
use Rattle.std.proofs.Common.{◌≡◌, true, false, cond, List, [], ◌∷◌, ◌++◌, refl, sym, ap, ◌∙◌, take}
use Rattle.account_rule.specs.Blocks.{blocks_by, blocks_from}
use Rattle.account_rule.specs.OneTransfer.{evens, goes_on, is_linked, linked_rows}
use Rattle.account_rule.specs.Taps.{LiveTap, live}
use Rattle.account_rule.specs.{TokenRules.TokenRules, TokenRules.TransferRules, Trips.continues}
use Rattle.account_rule.specs.{Trips.last_tap, Trips.rides, Trips.trips, declared.tap.TapIn.TapIn}
use Rattle.std.specs.List.{flat_map}

-- the rides of trips and of rows, of which the first has begun
abbrev of_trips : TransferRules → List LiveTap → List LiveTap → List LiveTap
of_trips rules trip taps =
    flat_map (λ block. take 1 block) (blocks_from (continues rules) trip taps)

abbrev of_rows : TransferRules → List LiveTap → List LiveTap → List LiveTap
of_rows rules row taps = flat_map evens (blocks_from (goes_on rules) row taps)

-- each ride gives one transfer
abbrev GivesOne : TransferRules → Type 0
GivesOne rules = (tap : LiveTap) → rules.count tap ≡ 1

one_more : (rules : TransferRules) (ride tap : LiveTap) → GivesOne rules
    → continues rules (ride ∷ []) tap ≡ is_linked rules ride tap
unfolding continues last_tap is_linked
one_more rules ride tap one = rw (one tap) refl

no_more : (rules : TransferRules) (ride given tap : LiveTap) → GivesOne rules
    → continues rules (ride ∷ given ∷ []) tap ≡ false
unfolding continues last_tap
no_more rules ride given tap one = rw (one tap) refl

-- a row from its third tap on is as good as the row
third : (rules : TransferRules) (a b tap : LiveTap) (row taps : List LiveTap)
    → of_rows rules (a ∷ b ∷ tap ∷ row) taps ≡ a ∷ of_rows rules (tap ∷ row) taps
unfolding blocks_from goes_on evens
third rules a b tap row [] = refl
third rules a b tap row (x ∷ xs) =
    elim (goes_on rules (tap ∷ row) x) as (λ v.
    flat_map evens (cond v (blocks_from (goes_on rules) (a ∷ b ∷ tap ∷ (row ++ x ∷ [])) xs)
    ((a ∷ b ∷ tap ∷ row) ∷ blocks_from (goes_on rules) (x ∷ []) xs))
    ≡ a ∷ flat_map evens (cond v (blocks_from (goes_on rules) (tap ∷ (row ++ x ∷ [])) xs)
    ((tap ∷ row) ∷ blocks_from (goes_on rules) (x ∷ []) xs))) [
      | true ↦ third rules a b tap (row ++ x ∷ []) xs
      | false ↦ refl
    ]

-- behind a ride, and behind a ride and its transfer
record AreSameRides (rules : TransferRules) (taps : List LiveTap) : Type 0 where
  ride : (ride : LiveTap) → of_trips rules (ride ∷ []) taps ≡ of_rows rules (ride ∷ []) taps
  given : (ride given : LiveTap)
      → of_trips rules (ride ∷ given ∷ []) taps ≡ of_rows rules (ride ∷ given ∷ []) taps

ride_after : (rules : TransferRules) (x : LiveTap) (xs : List LiveTap) (ride : LiveTap)
    → GivesOne rules → AreSameRides rules xs
    → of_trips rules (ride ∷ []) (x ∷ xs) ≡ of_rows rules (ride ∷ []) (x ∷ xs)
unfolding blocks_from goes_on evens
ride_after rules x xs ride one rest =
    rw (one_more rules ride x one) (elim (is_linked rules ride x) as (λ v.
    flat_map (λ (block : List LiveTap). take 1 block)
    (cond v (blocks_from (continues rules) (ride ∷ x ∷ []) xs)
    ((ride ∷ []) ∷ blocks_from (continues rules) (x ∷ []) xs))
    ≡ flat_map evens (cond v (blocks_from (goes_on rules) (ride ∷ x ∷ []) xs)
    ((ride ∷ []) ∷ blocks_from (goes_on rules) (x ∷ []) xs))) [
      | true ↦ rest.given ride x
      | false ↦ ap (λ (ts : List LiveTap). ride ∷ ts) (rest.ride x)
    ])

after_given : (rules : TransferRules) (x : LiveTap) (xs : List LiveTap) (ride given : LiveTap)
    → GivesOne rules → AreSameRides rules xs
    → of_trips rules (ride ∷ given ∷ []) (x ∷ xs) ≡ of_rows rules (ride ∷ given ∷ []) (x ∷ xs)
unfolding blocks_from goes_on evens
after_given rules x xs ride given one rest =
    rw (no_more rules ride given x one) (elim (is_linked rules given x) as (λ v.
    ride ∷ of_trips rules (x ∷ []) xs
    ≡ flat_map evens (cond v (blocks_from (goes_on rules) (ride ∷ given ∷ x ∷ []) xs)
    ((ride ∷ given ∷ []) ∷ blocks_from (goes_on rules) (x ∷ []) xs))) [
      | true ↦ ap (λ (ts : List LiveTap). ride ∷ ts) (rest.ride x)
          ∙ sym (third rules ride given x [] xs)
      | false ↦ ap (λ (ts : List LiveTap). ride ∷ ts) (rest.ride x)
    ])

same_rides : (rules : TransferRules) (taps : List LiveTap) → GivesOne rules
    → AreSameRides rules taps
unfolding blocks_from evens
same_rides rules [] one = record { ride = λ ride. refl; given = λ ride given. refl }
same_rides rules (x ∷ xs) one =
    let rest = same_rides rules xs one in
    record {
      ride = λ ride. ride_after rules x xs ride one rest;
      given = λ ride given. after_given rules x xs ride given one rest;
    }

-- the law, of lists of live taps
same_first : (rules : TransferRules) (taps : List LiveTap) → GivesOne rules
    → flat_map (λ block. take 1 block) (blocks_by (continues rules) taps)
    ≡ flat_map evens (blocks_by (goes_on rules) taps)
unfolding blocks_by
same_first rules [] one = refl
same_first rules (x ∷ xs) one = (same_rides rules xs one).ride x

pub one_transfer : (rules : TokenRules) (taps : List TapIn)
    → ((tap : LiveTap) → rules.transfers.count tap ≡ 1)
    → rides rules taps ≡ flat_map evens (linked_rows rules taps)
unfolding rides trips linked_rows
one_transfer rules taps one = same_first rules.transfers (live taps) one
