-- Texts that are no fare table, and the files of the words.
use Rattle.std.proofs.Common.{◌≡◌, ℕ, List, [], ◌∷◌, ◌++◌, Contains, Ok, map, refl, subst}
use Rattle.std.proofs.lemmas.List.Elements.{Contains-append_left, Contains-append_right}
use Rattle.std.proofs.lemmas.List.Elements.{Contains-push}
use Rattle.fare_table.specs.{Meaning.Means, TableMeaning.meaning_in}
use Rattle.fare_table.specs.declared.fault.TableFault.{TableFault}
use Rattle.frame.proofs.Outcomes.{loads_more}
use Rattle.frame.specs.declared.outside.Outside.TheVariants.{Wrong}
use Rattle.program_manners.specs.TableLoads.{Follows, FollowsFrom, HasLoadedTables, load_of}
use Rattle.program_manners.specs.TableLoads.{loads_next, with_word}
use Rattle.program_manners.specs.TablesFaults.{StopsTables, outside_of, refuses_next}
use Rattle.program_manners.specs.TableWords.{TableNames, file_named, written_date}
use Rattle.program_manners.specs.declared.loading.FileFault.{FileFault}
use Rattle.program_manners.specs.declared.table_loads.TablesFault.{TablesFault, TheVariants.File}
use Rattle.program_manners.specs.declared.table_loads.TablesFault.TheVariants.{NoMemory}
use Rattle.world.specs.{Loads.IsRefused, Origins.with_loads, Run.Run}
use Rattle.program_manners.specs.declared.table_words.WrittenDate.{WrittenDate}
use Rattle.std.specs.Prelude.{Err, IsUtf8, Result, Some}
use Rattle.tariffs.specs.Fares.{Fares}

two_ways : {A : Type 0} (r : Result A TableFault) (a : A) (fault : TableFault) → r ≡ Ok a
    → r ≡ Err fault → ⊥
two_ways r a fault one other = cc

pub no_table : (text : List ℕ) (fault : TableFault) → (IsUtf8 text → meaning_in text ≡ Err fault)
    → (fares : Fares) → IsUtf8 text → ¬ Means text fares
no_table text fault wrong fares utf8 means =
    two_ways (meaning_in text) fares.meaning fault means.0 (wrong utf8)

-- no table follows from the date of a word, if none does from this one
pub none_follows : (fares : Fares) (word text : List ℕ) (date : WrittenDate)
    → written_date word ≡ Some date → ((all : Fares) → ¬ FollowsFrom fares date text all)
    → (all : Fares) → ¬ Follows fares word text all
none_follows fares word text date dated none all (other, same, follows) =
    let e : other ≡ date = cc in none all (rw e at follows)

-- a word's file is among those of all words
later_file : (before trailing : List (List ℕ)) (word : List ℕ)
    → Contains (map Some (map file_named (before ++ word ∷ trailing))) (Some (file_named word))
later_file [] trailing word = Contains-append_left (Some (file_named word) ∷ [])
    (map Some (map file_named trailing)) _ (Contains-push [] (Some (file_named word)))
later_file (one ∷ before) trailing word = Contains-append_right (Some (file_named one) ∷ []) _ _
    (later_file before trailing word)

-- the tables of the words so far, and those of the words that follow
abbrev pub tables_with : TableNames → List ℕ → List (List ℕ) → TableNames
tables_with words word trailing = record words { later = words.later ++ word ∷ trailing }

-- ---- what stops the load of the next table
module _ (start old new : Run) (words : TableNames) (texts trailing : List (List ℕ))
    (fares : Fares) (word : List ℕ) (has : HasLoadedTables start old words texts fares) where
  pub stops_unread : (file : FileFault) (name : List ℕ) → name ≡ file_named word
      → IsRefused old new (Some name) file.fault
      → StopsTables start new (tables_with words word trailing) (File file)
  stops_unread file name is refused = record {
    loads = has.loads;
    leaves = (
      Some (file_named word),
      Contains-append_right (Some words.first ∷ []) _ _ (later_file words.later trailing word),
      subst (λ r. IsRefused r new (Some (file_named word)) file.fault) has.only
          (rw is at refused),
    );
  }

  module _ (text : List ℕ) (more : new ≡ with_loads old (load_of (file_named word) text ∷ [])) where
    pub stops_memory : StopsTables start new (tables_with words word trailing) NoMemory
    stops_memory = record {
      loads = _;
      leaves = loads_more start old new has.loads _ has.only more;
    }

    pub stops_wrong : (fault : TablesFault) → outside_of fault ≡ Wrong
        → ((all : Fares) → ¬ Follows fares word text all)
        → StopsTables start new (tables_with words word trailing) fault
    stops_wrong fault is none = record {
      loads = has.loads ++ load_of (file_named word) text ∷ [];
      leaves = rw is (
        refuses_next words word text trailing texts has.loads fares refl has.are none,
        loads_more start old new has.loads _ has.only more,
      );
    }

    pub next_loaded : (all : Fares) → Follows fares word text all
        → HasLoadedTables start new (with_word words word) (texts ++ text ∷ []) all
    next_loaded all follows = record {
      loads = _;
      only = loads_more start old new has.loads _ has.only more;
      are = loads_next words has.loads texts fares all word text has.are follows;
    }
