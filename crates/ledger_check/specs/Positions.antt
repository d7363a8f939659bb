-- Where the taps of uploads are: uploads count from 0, and the places of their taps from 1.
use Rattle.ledger_check.specs.{Balances.is_same, declared.positions.PlacedTap.PlacedTap}
use Rattle.ledger_check.specs.declared.positions.PositionFinding.{PositionFinding}
use Rattle.ledger_check.specs.declared.positions.PositionFinding.TheVariants.{Right, Another, Again}
use Rattle.ledger_check.specs.declared.positions.Positions.{Positions}
use Rattle.std.specs.{List.slice_get, Option.option_and_then}
use Rattle.std.specs.Prelude.{◌≡◌, ◌⊎◌, ℕ, ◌<◌, ◌-◌, ◌==◌, ◌&&◌, Bool, true, false, List, map}
use Rattle.std.specs.Prelude.{if◌then◌else◌, is_some, Option, None, Some}
use Rattle.tap_views.specs.declared.encoder.TapFields.{TapFields}

-- what is at a place of a list, if anything is
abbrev pub at_position : {A : Type 0} → List A → ℕ → Option A
at_position xs position = if position == 0 then None else slice_get xs (position - 1)

-- the tap that is at a place of an upload
abbrev pub tap_at : List (List TapFields) → ℕ → ℕ → Option TapFields
tap_at uploads upload position =
    option_and_then (λ taps. at_position taps position) (slice_get uploads upload)

-- whether this is the tap that is there
abbrev pub is_there : TapFields → Option TapFields → Bool
is_there tap None = false
is_there tap (Some there) = is_same there tap

-- What is found of a tap that is said to be where this one is, if one is: it is another, or
-- its place was named before, or it is right.
abbrev pub position_finding : Option TapFields → Bool → TapFields → PositionFinding
position_finding there named tap =
    if is_there tap there then (if named then Again else Right) else Another

-- whether these are the same place of the same upload
abbrev pub is_position : ℕ → ℕ → ℕ → ℕ → Bool
is_position upload position upload' position' = upload == upload' && position == position'

-- the first upload, or a lower place of one upload
abbrev pub IsBefore : ℕ → ℕ → ℕ → ℕ → Type 0
IsBefore upload position upload' position' =
    (upload < upload') ⊎ ((upload ≡ upload') × (position < position'))

-- a tap is at this place, which was not named
pub record IsUnnamed (uploads : List (List TapFields)) (named : ℕ → ℕ → Bool) (upload position : ℕ)
    : Type 0 where
  pub some : is_some (tap_at uploads upload position) ≡ true
  pub not_named : named upload position ≡ false

-- the first such place
pub record IsFirstUnnamed (uploads : List (List TapFields)) (named : ℕ → ℕ → Bool)
    (upload position : ℕ) : Type 0 where
  pub is : IsUnnamed uploads named upload position
  pub first : (upload' position' : ℕ) → IsBefore upload' position' upload position
      → ¬ (IsUnnamed uploads named upload' position')

-- the taps of the uploads
abbrev pub taps_of : List PlacedTap → List TapFields
taps_of placed = map (λ p. p.tap) placed

abbrev pub uploads_of : Positions → List (List TapFields)
uploads_of positions = map (λ upload. taps_of upload.items) positions.uploads.items

-- what is kept of a place of an upload
abbrev pub placed_at : Positions → ℕ → ℕ → Option PlacedTap
placed_at positions upload position =
    option_and_then (λ placed. at_position placed.items position) (slice_get positions.uploads.items upload)

-- whether this was named
abbrev pub named_of : Option PlacedTap → Bool
named_of None = false
named_of (Some placed) = placed.is_named

-- whether the place was named
abbrev pub is_named : Positions → ℕ → ℕ → Bool
is_named positions upload position = named_of (placed_at positions upload position)

-- these are the taps of the uploads, and no place was named
pub record HasUploads (positions : Positions) (uploads : List (List TapFields)) : Type 0 where
  pub taps : uploads_of positions ≡ uploads
  pub none : (upload position : ℕ) → is_named positions upload position ≡ false
