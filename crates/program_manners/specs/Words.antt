-- The rules of a command line's options, and what is no mistake in its words.
use Rattle.clap.specs.{Lexer.usize_max, Simple.on_top}
use Rattle.clap.specs.Words.{App, IsAmong, Row, Rule, Text, fault_of, new_app, new_rule, one_of}
use Rattle.clap.specs.declared.builder.action.ArgAction.{ArgAction}
use Rattle.clap.specs.declared.builder.action.ArgAction.TheVariants.{Append, Set, SetTrue}
use Rattle.clap.specs.declared.builder.value_parser.ValueParser.TheVariants.{Signed}
use Rattle.clap.specs.declared.error.kind.ErrorKind.{ErrorKind}
use Rattle.clap.specs.declared.error.kind.ErrorKind.TheVariants.{DisplayHelp, DisplayVersion}
use Rattle.std.specs.Option.{option_map_or}
use Rattle.std.specs.Prelude.{◌≡◌, ◌⊎◌, ℤ, Bool, List, [], ◌∷◌, Some, codes, false, pos, true}
use Rattle.std.specs.Str.{bytes_eq}

-- `--NAME VALUE`
abbrev pub option_rule : Text → Rule
option_rule name = record (new_rule name) {
  long = Some name;
  action = Some Set;
  value_names = 1;
}

-- `--NAME VALUE`, as often as needed
abbrev pub repeated_rule : Text → Rule
repeated_rule name = record (new_rule name) {
  long = Some name;
  action = Some Append;
  value_names = 1;
}

-- an option with a number of 1 to `most`, and its default
abbrev pub number_rule : Text → ℤ → Text → Rule
number_rule name most default = record (option_rule name) {
  parser = Some (Signed (pos 1) most);
  defaults = default ∷ [];
}

-- `--NAME FILE..`, with one or more files, as often as needed
abbrev pub files_rule : Text → Rule
files_rule name = record (new_rule name) {
  long = Some name;
  action = Some Append;
  range = Some (record { start_inclusive = 1; end_inclusive = usize_max });
  value_names = 1;
}

abbrev pub flag_rule : Text → Rule
flag_rule name = record (new_rule name) { long = Some name; action = Some SetTrue }

abbrev pub list_option : Rule
list_option = option_rule (codes "files-from")

abbrev pub null_flag : Rule
null_flag = record (flag_rule (codes "null")) { short = Some 48 }

-- a positional argument `NAME` with this action
abbrev pub positional_rule : Text → ArgAction → Rule
positional_rule name action = record (new_rule name) { action = Some action }

-- a program's name, and that it has a version
abbrev pub named_app : Text → App
named_app name = on_top (λ s. record s { has_version = true }) (new_app name)

-- the kind of what is no mistake: help or the version is asked for
abbrev pub IsRequest : ErrorKind → Type 0
IsRequest kind = (kind ≡ DisplayHelp) ⊎ (kind ≡ DisplayVersion)

-- reading the words ends at a word that asks for help or for the version
abbrev pub AsksForText : App → List Text → Type 0
AsksForText app words =
    IsAmong DisplayHelp (fault_of app words) ⊎ IsAmong DisplayVersion (fault_of app words)

-- whether the flag of this name was given
abbrev pub is_given : Text → List Row → Bool
is_given name rows = option_map_or (λ text. bytes_eq text (codes "true")) (one_of name rows) false
