-- What the keys of a table's text mean.
use Rattle.fare_table.specs.{Caps.caps_of, Classes.classes_from, Classes.classes_of}
use Rattle.fare_table.specs.{Classes.default_of, Members.names_in, Modes.modes_of, OrFault.OrFault}
use Rattle.fare_table.specs.{OrFault.◌>>=◌, Riders.riders_of, Transfers.transfers_of}
use Rattle.fare_table.specs.{Validators.ranges_of, Window.window_of, Zone.zone_of}
use Rattle.fare_table.specs.declared.fault.TableFault.TheVariants.{Text}
use Rattle.std.specs.{Option.ok_or, Prelude.ℕ, Prelude.List, Prelude.[], Prelude.Ok}
use Rattle.tariffs.specs.TableMeaning.{TableMeaning}
use Rattle.toml.specs.{Data.Members, Parse.parse_document}

-- the meaning of a table's tree, or the fault of the first key that has one
unfoldable pub meaning_of_tree : Members → OrFault TableMeaning
meaning_of_tree tree = do
  modes ← modes_of tree
  listed ← transfers_of modes tree
  capped ← caps_of modes tree
  table ← classes_of tree
  classes ← classes_from modes capped.names [] table
  standard ← default_of table tree
  ranges ← ranges_of modes tree
  riders ← riders_of table tree
  zone ← zone_of tree
  window ← window_of tree
  Ok (record {
    modes = modes;
    transfers = listed.pairs;
    prices = listed.prices;
    classes = classes;
    names = names_in table;
    caps = capped.caps;
    cap_names = capped.names;
    standard = standard;
    ranges = ranges;
    riders = riders;
    zone = zone;
    window = window;
  })

-- the meaning of a table's text, or the first fault that keeps it from having one
abbrev pub meaning_in : List ℕ → OrFault TableMeaning
meaning_in text = ok_or (parse_document text) Text >>= meaning_of_tree
