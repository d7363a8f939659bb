-- Why fare tables were not loaded.
use Rattle.fare_table.specs.Meaning.{Means}
use Rattle.frame.specs.{Outsides.LeavesFiles, declared.outside.Outside.Outside}
use Rattle.frame.specs.declared.outside.Outside.TheVariants as outside
use Rattle.program_manners.specs.TableLoads.{Follows, LoadsTables, load_of}
use Rattle.program_manners.specs.TableWords.{TableNames, file_named, table_files}
use Rattle.program_manners.specs.declared.table_loads.TablesFault.{TablesFault, TheVariants.File}
use Rattle.program_manners.specs.declared.table_loads.TablesFault.TheVariants.{Follow, NamedTable}
use Rattle.program_manners.specs.declared.table_loads.TablesFault.TheVariants.{NoMemory, Table}
use Rattle.std.specs.Prelude.{◌≡◌, ◌++◌, ◌∷◌, [], ℕ, IsUtf8, List, Some, map}
use Rattle.tariffs.specs.Fares.{Fares}
use Rattle.world.specs.{Origins.with_loads, Run.Load, Run.Run}

-- The file of the first table was loaded last, or that of a later one after those of the tables
-- before it. Its text is no table, or none that follows them from the date of its word on.
pub data RefusesTable (tables : TableNames) : List Load → Type 0 where
  refuses_first : (text : List ℕ) → ((fares : Fares) → IsUtf8 text → ¬ Means text fares)
      → RefusesTable tables (load_of tables.first text ∷ [])
  refuses_next : (before : TableNames) (word text : List ℕ) (trailing texts : List (List ℕ))
      (loads : List Load) (fares : Fares)
      → tables ≡ record before { later = before.later ++ word ∷ trailing }
      → LoadsTables before loads texts fares → ((all : Fares) → ¬ Follows fares word text all)
      → RefusesTable tables (loads ++ load_of (file_named word) text ∷ [])

-- what stops a run whose tables are not loaded
abbrev pub outside_of : TablesFault → Outside
outside_of (File file) = outside.Unread file.fault
outside_of (Table fault) = outside.Wrong
outside_of (NamedTable line) = outside.Wrong
outside_of (Follow line) = outside.Wrong
outside_of NoMemory = outside.NoMemory

-- After some loads the file of one of the words was refused so, or its text is no table, or none that
-- follows those before it. Only running out of memory may come at any time.
pub record StopsTables (old new : Run) (tables : TableNames) (fault : TablesFault) : Type 0 where
  pub loads : List Load
  pub leaves : LeavesFiles (RefusesTable tables loads) (map Some (table_files tables))
      (outside_of fault) (with_loads old loads) new
