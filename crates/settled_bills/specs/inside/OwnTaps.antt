-- The taps of one token, collected from sorted files: what private functions alone cite.
use Rattle.settlement.specs.Posted.{HasName, only}
use Rattle.settled_bills.specs.declared.own_by_threads.OwnTaps.{OwnTaps}
use Rattle.sorted_taps.specs.{Merges.AreSortedFiles, Sorted.IsSortedFault, Sorted.IsSortedFile}
use Rattle.sorted_taps.specs.declared.fault.SortedFault.{SortedFault}
use Rattle.std.specs.Prelude.{◌≡◌, ℕ, All, List, Option, None, Some, [], ◌∷◌, ◌++◌, IfErr, IfOk}
use Rattle.std.specs.Prelude.{IfSome, Result, flat_map, length, map, slice_get}
use Rattle.tap_views.specs.declared.{encoder.TapFields.TapFields, token.Token.Token}

-- the taps of the token, and none without one
abbrev pub own_of : Option Token → List TapFields → List TapFields
own_of None taps = []
own_of (Some token) taps = only token taps

-- the tap was added if it is of the token; the 16 bytes of its own token name it
pub record IsOwnPushed (token : Option Token) (tap : TapFields) (old new : List TapFields) : Type 0 where
  pub named : HasName tap
  pub pushed : new ≡ old ++ own_of token (tap ∷ [])

-- the file is sorted; these are the token's taps of it, and the number of all its taps
pub record IsOwnOf (token : Option Token) (file : List ℕ) (own : OwnTaps) : Type 0 where
  pub list : List TapFields
  pub of_file : IsSortedFile file list
  pub named : All HasName list
  pub are : own.taps.items ≡ own_of token list
  pub counted : own.number ≡ length list

-- the files are sorted; these are the token's taps of them, one file after the other, and the
-- numbers of the taps of each
pub record AreOwnOf (token : Option Token) (files : List (List ℕ)) (own : List TapFields)
    (numbers : List ℕ) : Type 0 where
  pub lists : List (List TapFields)
  pub sorted : AreSortedFiles files lists
  pub named : All HasName (flat_map (λ list. list) lists)
  pub are : own ≡ own_of token (flat_map (λ list. list) lists)
  pub counted : numbers ≡ map length lists

-- these are the token's taps of the file, or why it is not sorted
abbrev pub IsOwnResult : Option Token → Result OwnTaps SortedFault → List ℕ → Type 0
IsOwnResult token own all = IfOk own (IsOwnOf token all) × IfErr own (IsSortedFault all)

-- so they are of the file at the place, if its bytes are known
abbrev pub IsOwnAt : Option Token → List (Option (List ℕ)) → ℕ → Result OwnTaps SortedFault → Type 0
IsOwnAt token known position own = (bytes : Option (List ℕ)) → slice_get known position ≡ Some bytes
    → IfSome bytes (IsOwnResult token own)
