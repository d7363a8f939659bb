-- If each ride gives one transfer: taps in a row are linked or not, and in each longest row of
-- linked taps every second one is a transfer.
use Rattle.account_rule.specs.{Blocks.blocks_by, Taps.LiveTap, Taps.live, TokenRules.TokenRules}
use Rattle.account_rule.specs.{TokenRules.TransferRules, Trips.rides, declared.tap.TapIn.TapIn}
use Rattle.std.specs.List.{flat_map}
use Rattle.std.specs.Prelude.{◌≡◌, ◌-◌, Bool, false, ◌&&◌, List, [], ◌∷◌, nat_le}

-- whether the next tap is within the time for transfers of the one before it, the limit included,
-- and there is a transfer from the one's mode to the next
unfoldable pub is_linked : TransferRules → LiveTap → LiveTap → Bool
is_linked rules earlier tap =
    nat_le (tap.moment - earlier.moment) (rules.time tap) && rules.permits earlier.mode tap

-- whether the tap is linked to the last one of the row
unfoldable pub goes_on : TransferRules → List LiveTap → LiveTap → Bool
goes_on rules [] tap = false
goes_on rules (last ∷ []) tap = is_linked rules last tap
goes_on rules (_ ∷ next ∷ row) tap = goes_on rules (next ∷ row) tap

-- the live taps, divided into longest rows of linked taps
unfoldable pub linked_rows : TokenRules → List TapIn → List (List LiveTap)
linked_rows rules taps = blocks_by (goes_on rules.transfers) (live taps)

-- the elements at even places, from place 0 on
unfoldable pub evens : {A : Type 0} → List A → List A
evens [] = []
evens (x ∷ []) = x ∷ []
evens (x ∷ _ ∷ xs) = x ∷ evens xs

-- if each ride gives one transfer, the rides are the taps at even places of the rows
abbrev pub TripsOfOneTransfer : Type 0
TripsOfOneTransfer =
    (rules : TokenRules) (taps : List TapIn)
    → ((tap : LiveTap) → rules.transfers.count tap ≡ 1)
    → rides rules taps ≡ flat_map evens (linked_rows rules taps)
