-- The table of a subcommand's arguments, as clap's rules.
use Rattle.clap.specs.Words.{App, Rule, Shape, Text, new_app}
use Rattle.program_manners.specs.Words.{flag_rule, list_option, null_flag, option_rule}
use Rattle.program_manners.specs.Words.{repeated_rule}
use Rattle.std.specs.Prelude.{List, [], ◌∷◌, ◌++◌, map}
use Rattle.tool_words.specs.ToolLine.{needed, range_rule, subcommand, word_rule, words_rule}
use Rattle.tool_words.specs.declared.arguments.Files.{Files, TheVariants.Unlisted}
use Rattle.tool_words.specs.declared.arguments.{Row.Row, Subcommand.Subcommand, Takes.Takes}
use Rattle.tool_words.specs.declared.arguments.Takes.TheVariants as takes

-- the rule of an argument of this name
abbrev pub taken_rule : Text → Takes → Rule
taken_rule name takes.Flag = flag_rule name
taken_rule name (takes.Value value) = option_rule name
taken_rule name (takes.Needed value) = needed (option_rule name)
taken_rule name (takes.Values value) = repeated_rule name
taken_rule name (takes.Number value first last) = range_rule name first last
taken_rule name (takes.NeededNumber value first last) = needed (range_rule name first last)
taken_rule name takes.Word = word_rule name
taken_rule name takes.Words = words_rule name

abbrev pub rule_in : Row → Rule
rule_in row = taken_rule row.0.now row.1

-- these rules, and those of a list of files
abbrev pub with_list : Files → List Rule → List Rule
with_list Unlisted rules = rules
with_list _ rules = (rules ++ list_option ∷ []) ++ null_flag ∷ []

abbrev pub shape_of_table : Subcommand → Shape
shape_of_table table =
    subcommand table.name.now (with_list table.files (map rule_in table.rows.now))

-- a command of this name with these arguments, and no subcommand
abbrev pub leaf : Text → List Rule → App
leaf name rules = record (new_app name) { top = subcommand name rules }

abbrev pub leaf_of : Subcommand → App
leaf_of table = leaf table.name.now (with_list table.files (map rule_in table.rows.now))
