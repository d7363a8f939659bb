-- Fare tables that are loaded one after another.
use Rattle.fare_table.specs.Meaning.{Means}
use Rattle.fare_table.specs.declared.fault.TableFault.TheVariants as table
use Rattle.program_manners.specs.TableWords.{IsMidnight, TableNames, file_named, written_date}
use Rattle.program_manners.specs.declared.following.NextFault.{NextFault, TheVariants.Follow}
use Rattle.program_manners.specs.declared.following.NextFault.TheVariants.{Table}
use Rattle.program_manners.specs.declared.table_words.WrittenDate.{WrittenDate}
use Rattle.std.specs.Prelude.{◌≡◌, ◌≢◌, ◌++◌, ℕ, List, [], ◌∷◌, IsUtf8, Some}
use Rattle.tariffs.specs.{Fares.Fares, Following.CanFollow, Following.with_next}
use Rattle.tariffs.specs.declared.follow_fault.FollowFault.TheVariants as follow
use Rattle.world.specs.{Origins.with_loads, Run.Load, Run.Run}

-- The text means a table that follows these fares from the date on, and these are all of them.
pub record FollowsFrom (fares : Fares) (date : WrittenDate) (text : List ℕ) (all : Fares)
    : Type 0 where
  pub from : ℕ
  pub begins : IsMidnight fares.zone date from
  pub next : Fares
  pub utf8 : IsUtf8 text
  pub means : Means text next
  pub can : CanFollow fares from next
  pub all_are : all ≡ with_next fares from next.meaning

-- no table of the text follows so, or an allocation failed
abbrev pub IsNextFault : Fares → WrittenDate → List ℕ → NextFault → Type 0
IsNextFault fares date text (Table fault) =
    fault ≢ table.NoMemory → (all : Fares) → ¬ FollowsFrom fares date text all
IsNextFault fares date text (Follow fault) =
    fault ≢ follow.NoMemory → (all : Fares) → ¬ FollowsFrom fares date text all

-- The text means a table that follows the fares from the date of the word on.
abbrev pub Follows : Fares → List ℕ → List ℕ → Fares → Type 0
Follows fares word text all =
    (date : WrittenDate) × (written_date word ≡ Some date) × FollowsFrom fares date text all

-- these tables, and one more of this word
abbrev pub with_word : TableNames → List ℕ → TableNames
with_word tables word = record tables { later = tables.later ++ word ∷ [] }

-- the file of this name was loaded, with these bytes
abbrev pub load_of : List ℕ → List ℕ → Load
load_of name bytes = record { name = Some name; bytes = bytes }

-- These loads are those of the files of the words, in their order. The text of the first is a table,
-- and that of each other one a table that follows those before it, from the date of its word on.
-- These are their texts, and what all of them mean.
pub data LoadsTables : TableNames → List Load → List (List ℕ) → Fares → Type 0 where
  loads_first : (first text : List ℕ) (fares : Fares) → IsUtf8 text → Means text fares
      → LoadsTables (record { first = first; later = [] }) (load_of first text ∷ []) (text ∷ []) fares
  loads_next : (tables : TableNames) (loads : List Load) (texts : List (List ℕ)) (fares all : Fares)
      (word text : List ℕ) → LoadsTables tables loads texts fares → Follows fares word text all
      → LoadsTables (with_word tables word) (loads ++ load_of (file_named word) text ∷ [])
      (texts ++ text ∷ []) all

-- The files of the words were loaded, their texts mean these fares, and nothing else was done.
pub record HasLoadedTables (old new : Run) (tables : TableNames) (texts : List (List ℕ))
    (fares : Fares) : Type 0 where
  pub loads : List Load
  pub only : new ≡ with_loads old loads
  pub are : LoadsTables tables loads texts fares
