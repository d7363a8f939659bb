-- The batch grammar: which bytes are a batch, and of which taps. It speaks of whole texts: no
-- offset is used here.
use Rattle.std.specs.{List.AllByRecursion, Prelude.◌≡◌, Prelude.ℕ}
use Rattle.std.specs.Prelude.{◌+◌, ◌*◌, ◌^◌, ◌<◌, ◌≤◌, List, [], ◌∷◌, ◌++◌, length, codes, flat_map}

-- the big-endian number of some bytes
abbrev pub num : List ℕ → ℕ
num [] = 0
num (b ∷ bs) = b * 256 ^ length bs + num bs

-- 2100-01-01T00:00Z in milliseconds since 1970-01-01T00:00Z: every moment is below it
abbrev pub moment_limit : ℕ
moment_limit = 4102444800000

-- a tap by its bytes; its two numbers are `num` of validator and moment
pub record Tap : Type 0 where
  pub token : List ℕ
  pub validator : List ℕ
  pub moment : List ℕ

-- what each tap of a batch keeps to
pub record IsTap (tap : Tap) : Type 0 where
  pub token : length tap.token ≡ 16
  pub validator : length tap.validator ≡ 4
  pub moment : length tap.moment ≡ 8
  pub early : num tap.moment < moment_limit

-- how a batch writes its taps: each with its own validator, or one validator for all of them
pub data Layout : Type 0 where
  Tap1 : Layout
  Tap2 : (validator : List ℕ) → Layout

-- the four bytes that a batch in the layout begins with
abbrev pub magic : Layout → List ℕ
magic Tap1 = codes "TAP1"
magic (Tap2 validator) = codes "TAP2"

-- what is in the header for all taps
abbrev pub shared : Layout → List ℕ
shared Tap1 = []
shared (Tap2 validator) = validator

-- the bytes of one tap
abbrev pub spelling : Layout → Tap → List ℕ
spelling Tap1 tap = tap.token ++ (tap.validator ++ tap.moment)
spelling (Tap2 validator) tap = tap.token ++ tap.moment

-- the validator of a header has four bytes
abbrev pub IsLayout : Layout → Type 0
IsLayout Tap1 = Unit {0}
IsLayout (Tap2 validator) = length validator ≡ 4

-- a tap that the layout can write
abbrev pub IsTapOf : Layout → Tap → Type 0
IsTapOf Tap1 tap = IsTap tap
IsTapOf (Tap2 validator) tap = IsTap tap × (tap.validator ≡ validator)

-- the bytes are a batch of these taps in this layout
pub record IsBatchIn (layout : Layout) (bytes : List ℕ) (taps : List Tap) : Type 0 where
  pub count : List ℕ
  pub wide : length count ≡ 2
  pub counts : num count ≡ length taps
  pub most : length taps ≤ 4096
  pub fits : IsLayout layout
  pub each : AllByRecursion (IsTapOf layout) taps
  pub spelled : bytes ≡ magic layout
      ++ (count ++ (0 ∷ 0 ∷ (shared layout ++ flat_map (spelling layout) taps)))

-- the bytes are a batch of these taps, in one of the two layouts
abbrev pub IsBatch : List ℕ → List Tap → Type 0
IsBatch bytes taps = (layout : Layout) × IsBatchIn layout bytes taps
