-- What is wrong if a run fails for what files hold.
use Rattle.class_names.specs.ClassFaults.{IsWrongAt}
use Rattle.class_names.specs.declared.names.{ClassFault.TheVariants.Name, WrongNames.WrongNames}
use Rattle.fare_program.specs.{FilesLoaded.names_to_load, Options.Request}
use Rattle.program_manners.specs.{TableLoads.LoadsTables, TableWords.TableNames}
use Rattle.program_manners.specs.{TableWords.table_files, TablesFaults.RefusesTable}
use Rattle.settled_bills.specs.Faults.{HaveTooManyTaps}
use Rattle.sorted_taps.specs.{Checked.IsFirstUnsorted, declared.fault.SortedFault.SortedFault}
use Rattle.std.specs.Prelude.{◌≡◌, ◌<◌, ◌++◌, ◌⊎◌, ℕ, List, [], Option, None, Some, true}
use Rattle.std.specs.Prelude.{MatchOption, length, map}
use Rattle.tariffs.specs.Fares.{Fares}
use Rattle.world.specs.Run.{Load}

-- the names of the files of tables
abbrev pub names_of_tables : Option TableNames → List (List ℕ)
names_of_tables None = []
names_of_tables (Some tables) = table_files tables

-- the names of all files that a run may load
abbrev pub names_read : Request → List (Option (List ℕ))
names_read request = map Some (names_of_tables request.table) ++ names_to_load request.files

-- one of these texts names a class that cannot be in a ledger, and none before it does
pub record HasWrongClass (texts : List (List ℕ)) : Type 0 where
  pub wrong : WrongNames
  pub names : IsWrongAt texts wrong
  pub kind : wrong.fault ≡ Name

-- So it is of all texts of these tables, whose loads these are.
abbrev pub RefusesClass : List Load → TableNames → Type 0
RefusesClass loads tables = (texts : List (List ℕ)) × (fares : Fares)
    × LoadsTables tables loads texts fares × HasWrongClass texts

-- Of sorted files under these names, of which this is known, one is not in order, and each before it
-- is; or all have too many taps.
abbrev pub AreWrongSorted : List (List ℕ) → List (Option (List ℕ)) → Type 0
AreWrongSorted names known =
    ((name : List ℕ) × (fault : SortedFault) × IsFirstUnsorted names known name fault)
    ⊎ ((files : List (List ℕ)) → known ≡ map Some files → HaveTooManyTaps files)

-- What was loaded is wrong, or what sorted files hold: a text is no table, or none that follows those
-- before it; for a traced ledger a class's name is refused; or there are more than 65,535 uploads.
-- What is on the disk under a name is given, if it is known.
abbrev pub IsWrong : Request → (List ℕ → Option (List ℕ)) → List Load → Type 0
IsWrong request under loads =
    MatchOption request.table ⊥ (λ tables. RefusesTable tables loads)
    ⊎ (((request.traced ≡ true) × MatchOption request.table ⊥ (RefusesClass loads))
    ⊎ ((65535 < length request.files)
    ⊎ ((request.sorted ≡ true) × AreWrongSorted request.files (map under request.files))))
