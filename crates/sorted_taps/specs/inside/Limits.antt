-- Taps up to a limit, which readers pass in a step of a merge: what private functions alone cite.
use Rattle.sorted_taps.specs.{Merged.BeginsNotBefore, Merged.IsNotBefore, Merges.AreTaken}
use Rattle.sorted_taps.specs.Readers.{IsPassed, ahead}
use Rattle.sorted_taps.specs.declared.{limit.Front.Front, reader.TapReader.TapReader}
use Rattle.std.specs.List.Sorted.{IsSorted}
use Rattle.std.specs.Prelude.{◌≡◌, ℕ, ◌-◌, ◌<◌, ◌≤◌, All, List, [], ◌++◌, flat_map, get_or, length}
use Rattle.std.specs.Prelude.{map, Bool, IfSome, IsTrue, Option, None, Some, take, drop}
use Rattle.tap_parts.specs.{Canonical.IsCanonical, Canonical.tap_cmp, Keys.tap_of_key}
use Rattle.tap_views.specs.declared.encoder.TapFields.{TapFields}

-- what a place past the end of a list is read as
abbrev pub no_tap : TapFields
no_tap = record { token = []; validator = 0; moment = 0 }

-- the list's last tap, if it has one, is not before this tap
abbrev pub EndsNotBefore : TapFields → List TapFields → Type 0
EndsNotBefore tap list =
    (d : TapFields) → 0 < length list → IsNotBefore tap (get_or list (length list - 1) d)

-- no reader's last tap in memory is before the limit
abbrev pub IsLimitOf : List TapReader → TapFields → Type 0
IsLimitOf readers limit = (k : ℕ) (d : TapReader) → k < length readers
    → EndsNotBefore limit (ahead (get_or readers k d))

-- without a front the list has no tap; else its last tap is not before the front's
abbrev pub IsFrontOf : Option Front → List TapFields → Type 0
IsFrontOf None list = list ≡ []
IsFrontOf (Some front) list = EndsNotBefore (tap_of_key front.last) list

-- this many taps in front are in order, and none is after the limit
pub record IsRunIn (limit : TapFields) (list : List TapFields) (number : ℕ) : Type 0 where
  pub within : number ≤ length list
  pub not_after : All (λ tap. IsNotBefore tap limit) (take number list)
  pub sorted : IsSorted tap_cmp (take number list)

-- and the one that follows them is after the limit, or before the last of them
pub record IsRunUpTo (limit : TapFields) (list : List TapFields) (number : ℕ) : Type 0 where
  pub run : IsRunIn limit list number
  pub stop : (d : TapFields) → number < length list
      → (0 < number → IsNotBefore (get_or list (number - 1) d) (get_or list number d))
      → IsNotBefore limit (get_or list number d)

-- the reader has passed a run of taps none of which is after the limit, and is at none that is
-- before it, if the last one that was in memory is not
pub record IsPassedUpTo (all : List ℕ) (limit : TapFields) (old : TapReader)
    (run : List TapFields) (new : TapReader) : Type 0 where
  pub passed : IsPassed all old run new
  pub within : All (λ tap. IsNotBefore tap limit) run
  pub left : EndsNotBefore limit (ahead old) → BeginsNotBefore limit (ahead new)

-- if an index is after the begin, its tap is not before the one in front of it
abbrev pub DoMeet : ℕ → List TapFields → ℕ → Type 0
DoMeet begin taps at = (d : TapFields) → begin < at → at < length taps
    → IsNotBefore (get_or taps (at - 1) d) (get_or taps at d)

-- the list went on with a run that one reader has passed
pub record TakesUpTo (bytes : Option (List ℕ)) (limit : TapFields) (old : TapReader)
    (before after : List TapFields) (new : TapReader) : Type 0 where
  pub run : List TapFields
  pub items : after ≡ before ++ run
  pub sorted : IsSorted tap_cmp run
  pub passed : IfSome bytes (λ all. IsPassedUpTo all limit old run new)

-- the list went on with runs that the readers have passed, one after the other, and whether they are
-- in order so is known
pub record TakeUpTo (known : List (Option (List ℕ))) (limit : TapFields) (old : List TapReader)
    (before after : List TapFields) (new : List TapReader) (in_order : Bool) : Type 0 where
  pub runs : List (List TapFields)
  pub number : length runs ≡ length old
  pub items : after ≡ before ++ flat_map (λ run. run) runs
  pub sorted : IsTrue in_order → IsSorted tap_cmp (flat_map (λ run. run) runs)
  pub each : (files : List (List ℕ)) → known ≡ map Some files → (k : ℕ) (d : TapReader)
      → k < length old → IsPassedUpTo (get_or files k []) limit (get_or old k d) (get_or runs k [])
      (get_or new k d)

-- the list went on with others of the taps from an index on, in canonical order
pub record IsSortedFrom (begin : ℕ) (old new : List TapFields) : Type 0 where
  pub list : List TapFields
  pub items : new ≡ take begin old ++ list
  pub canonical : IsCanonical (drop begin old) list

-- the list went on with taps that were taken, of files whose bytes are these if they are known
pub record TakesTaps (known : List (Option (List ℕ))) (old : List TapReader)
    (before after : List TapFields) (new : List TapReader) : Type 0 where
  pub more : List TapFields
  pub items : after ≡ before ++ more
  pub taken : (files : List (List ℕ)) → known ≡ map Some files → AreTaken files old more new
