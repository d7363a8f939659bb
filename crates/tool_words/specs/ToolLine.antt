-- The command line of the tools, as clap reads it: the subcommands, and what each takes.
use Rattle.clap.specs.{Simple.new_shape, Words.App}
use Rattle.clap.specs.Words.{Row, Rule, Shape, Text, all_of, fault_of, first_of}
use Rattle.clap.specs.Words.{subcommand_of}
use Rattle.clap.specs.declared.builder.action.ArgAction.TheVariants.{Append, Set}
use Rattle.clap.specs.declared.builder.value_parser.ValueParser.TheVariants.{Signed}
use Rattle.program_manners.specs.Words.{flag_rule, is_given, list_option, named_app, null_flag}
use Rattle.program_manners.specs.Words.{option_rule, positional_rule, repeated_rule}
use Rattle.std.specs.Prelude.{◌≡◌, ℤ, Bool, ◌&&◌, ◌||◌, if◌then◌else◌, not, true, false, List}
use Rattle.std.specs.Prelude.{[], ◌∷◌, Option, Some, None, codes, is_some, pos, unwrap_or}
use Rattle.std.specs.{List.list_any, Str.bytes_eq}

-- the argument must be there
abbrev pub needed : Rule → Rule
needed rule = record rule { required = true }

-- `--NAME N`, a number from the first to the last one
abbrev pub range_rule : Text → ℤ → ℤ → Rule
range_rule name first last = record (option_rule name) { parser = Some (Signed first last) }

-- a word at its place, which must be there
abbrev pub word_rule : Text → Rule
word_rule name = needed (positional_rule name Set)

-- words at their place
abbrev pub words_rule : Text → Rule
words_rule name = positional_rule name Append

-- `encode [--columns NAMES] [--from EXPORT] [--validators DEVICES] [--validators-make DEVICES]
-- [--only COLUMN=VALUE].. [--drop COLUMN=VALUE].. [--count COLUMN] [--token-hash] [--token-key KEY]
-- [--separator S] [--unit UNIT] [--moment-format FORMAT] [--zone ZONE] [--fold FOLD]
-- [--refused REFUSED] [--out OUT] [FILE]..`
abbrev pub encode_rules : List Rule
encode_rules = option_rule (codes "columns") ∷ option_rule (codes "from")
    ∷ option_rule (codes "validators") ∷ option_rule (codes "validators-make")
    ∷ repeated_rule (codes "only") ∷ repeated_rule (codes "drop")
    ∷ option_rule (codes "count") ∷ flag_rule (codes "token-hash")
    ∷ option_rule (codes "token-key") ∷ option_rule (codes "separator")
    ∷ option_rule (codes "unit") ∷ option_rule (codes "moment-format")
    ∷ option_rule (codes "zone") ∷ option_rule (codes "fold")
    ∷ option_rule (codes "refused") ∷ option_rule (codes "out") ∷ words_rule (codes "FILE") ∷ []

-- words under this name, or in the files that a list names: `[--files-from LIST [-0]] [NAME]..`
abbrev pub listed_words : Text → List Rule
listed_words name = words_rule name ∷ list_option ∷ null_flag ∷ []

-- `uploads [--good-part OUT] [--tokens] [--look] [--within S] [--from MOMENT] [--until MOMENT]
-- [--table F] [--list] [--format FORM] ..`
abbrev pub uploads_rules : List Rule
uploads_rules = option_rule (codes "good-part") ∷ flag_rule (codes "tokens")
    ∷ flag_rule (codes "look") ∷ range_rule (codes "within") (pos 0) (pos 4294967)
    ∷ option_rule (codes "from") ∷ option_rule (codes "until") ∷ option_rule (codes "table")
    ∷ flag_rule (codes "list") ∷ option_rule (codes "format") ∷ listed_words (codes "FILE")

-- `table [--strict] [--riders] [--from MOMENT] [--sql] [--table G@YYYY-MM-DD].. F [UPLOAD]..`
abbrev pub table_rules : List Rule
table_rules = flag_rule (codes "strict") ∷ flag_rule (codes "riders") ∷ option_rule (codes "from")
    ∷ flag_rule (codes "sql") ∷ repeated_rule (codes "table") ∷ word_rule (codes "F")
    ∷ words_rule (codes "UPLOAD") ∷ []

-- `sort [--merge] --out OUT [--ends ENDS] ..`
abbrev pub sort_rules : List Rule
sort_rules = flag_rule (codes "merge") ∷ needed (option_rule (codes "out"))
    ∷ option_rule (codes "ends") ∷ listed_words (codes "UPLOAD")

-- `bounds --parts N ..`
abbrev pub bounds_rules : List Rule
bounds_rules =
    needed (range_rule (codes "parts") (pos 1) (pos 65536)) ∷ listed_words (codes "FILE")

-- `corrections [--tokens] OLD NEW`
abbrev pub corrections_rules : List Rule
corrections_rules =
    flag_rule (codes "tokens") ∷ word_rule (codes "OLD") ∷ word_rule (codes "NEW") ∷ []

-- a subcommand of this name, with these arguments
abbrev pub subcommand : Text → List Rule → Shape
subcommand name rules = record (new_shape name) { rules = rules }

-- the program's name, and that a subcommand is wanted
abbrev pub app_of_name : App
app_of_name = record (named_app (codes "omny_tools")) {
  top = record (named_app (codes "omny_tools")).top {
    subcommand_required = true;
    arg_required_else_help = true;
  };
}

-- all words that the program takes, but for the rules between arguments
unfoldable pub program : App
program = record {
  top = record app_of_name.top { is_leaf = false };
  subs = subcommand (codes "encode") encode_rules
      ∷ subcommand (codes "decode") (listed_words (codes "FILE"))
      ∷ subcommand (codes "uploads") uploads_rules ∷ subcommand (codes "table") table_rules
      ∷ subcommand (codes "sort") sort_rules ∷ subcommand (codes "bounds") bounds_rules
      ∷ subcommand (codes "merge") (listed_words (codes "PART"))
      ∷ subcommand (codes "corrections") corrections_rules ∷ [];
}

-- the words that are given under this name, in order
abbrev pub named : Text → List Row → List Text
named name rows = unwrap_or (all_of name rows) []

-- whether a value is given under this name
abbrev pub has_value : Text → List Row → Bool
has_value name rows = is_some (first_of name rows)

-- the same of one of these names
abbrev pub has_any : List Text → List Row → Bool
has_any names rows = list_any (λ name. has_value name rows) names

-- Files are wanted under this name. Neither they are given nor a list of files.
abbrev pub lacks_files : Text → List Row → Bool
lacks_files name rows = not (has_value name rows) && not (has_value (codes "files-from") rows)

-- an option of `uploads` says what to look for, or that all that is found is listed
abbrev pub looks : List Row → Bool
looks rows = is_given (codes "look") rows || (is_given (codes "list") rows
    || has_any (codes "within" ∷ codes "from" ∷ codes "until" ∷ codes "table" ∷ []) rows)

-- What is given to the subcommand of this name breaks a rule between its arguments: files are
-- missing, or some do not go together.
abbrev pub breaks_rule : Text → List Row → Bool
breaks_rule name rows =
    if bytes_eq name (codes "uploads") then lacks_files (codes "FILE") rows
    || ((has_value (codes "good-part") rows && looks rows) || (is_given (codes "list") rows
    && (is_given (codes "tokens") rows || has_value (codes "format") rows)))
    else (if bytes_eq name (codes "table") then is_given (codes "sql") rows
    && (is_given (codes "riders") rows || has_value (codes "from") rows)
    else (if bytes_eq name (codes "sort") then lacks_files (codes "UPLOAD") rows
    else (if bytes_eq name (codes "merge") then lacks_files (codes "PART") rows
    else (if bytes_eq name (codes "bounds") then lacks_files (codes "FILE") rows
    else (bytes_eq name (codes "encode") && (has_value (codes "validators") rows
    && has_value (codes "validators-make") rows))))))

-- what a parse entered, unless it breaks a rule
abbrev pub unbroken : Option (Text × List Row) → Option (Text × List Row)
unbroken None = None
unbroken (Some found) = if breaks_rule found.0 found.1 then None else Some found

-- the subcommand that the words enter, and what it is given
abbrev pub entered : List Text → Option (Text × List Row)
entered words = unbroken (subcommand_of program words)

-- the words after the program's name are a command line of the program
abbrev pub Parses : List Text → Type 0
Parses words = (fault_of program words ≡ []) × (is_some (entered words) ≡ true)
