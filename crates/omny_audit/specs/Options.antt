-- The command line, and what its words ask for.
use Rattle.std.specs.Prelude.{Bool, List, [], ◌∷◌, ◌++◌, Option, None, Some, codes}
use Rattle.std.specs.Prelude.{length, map, nat_eq, not, option_and_then, true, unwrap_or}
use Rattle.clap.specs.Words.{App, Rule, Text, all_of, first_of, matches_of, with_rule}
use Rattle.clap.specs.declared.builder.action.ArgAction.TheVariants.{Set}
use Rattle.frame.specs.Names.{file_named}
use Rattle.program_manners.specs.Words.{files_rule, flag_rule, is_given, list_option, named_app}
use Rattle.program_manners.specs.TableWords.{TableNames, table_files, tables_in}
use Rattle.program_manners.specs.Words.{null_flag, option_rule, positional_rule, repeated_rule}

-- `--table F`, as often as needed, and at least once
abbrev pub required_table_option : Rule
required_table_option = record (repeated_rule (codes "table")) { required = true }

-- all words that the program takes
unfoldable pub audit_program : App
audit_program =
    with_rule (with_rule (with_rule (with_rule (with_rule (with_rule (with_rule (with_rule (with_rule
    (with_rule (named_app (codes "omny_audit")) required_table_option) (flag_rule (codes "all")))
    (flag_rule (codes "live"))) (files_rule (codes "uploads"))) (option_rule (codes "report")))
    (option_rule (codes "made-by"))) (option_rule (codes "format"))) list_option) null_flag)
    (positional_rule (codes "LEDGER") Set)

-- what a command line asks for
pub record AuditRequest : Type 0 where
  pub table : TableNames
  pub all : Bool
  pub live : Bool
  pub uploads : List Text
  pub report : Option Text
  pub ledger : Option Text

-- What a command line asks for: its tables, without which none is, whether all wrong lines are
-- asked for, and whether a ledger that is not settled is well; its uploads, in order; the file of the
-- report, if one is named; and that of the ledger, if one is named.
abbrev pub audit_request_by : List Text → AuditRequest
audit_request_by words = record {
  table = unwrap_or (tables_in (unwrap_or (all_of (codes "table") (matches_of audit_program words))
      [])) (record { first = []; later = [] });
  all = is_given (codes "all") (matches_of audit_program words);
  live = is_given (codes "live") (matches_of audit_program words);
  uploads = unwrap_or (all_of (codes "uploads") (matches_of audit_program words)) [];
  report = first_of (codes "report") (matches_of audit_program words);
  ledger = option_and_then file_named (first_of (codes "LEDGER") (matches_of audit_program words));
}

-- whether uploads are named
abbrev pub has_uploads : AuditRequest → Bool
has_uploads request = not (nat_eq (length request.uploads) 0)

-- the file that is named, if any
abbrev pub named_file : Option Text → List Text
named_file None = []
named_file (Some name) = name ∷ []

-- the names of the files that are loaded: of the tables, the uploads in order, and the report
abbrev pub files_of : AuditRequest → List (Option Text)
files_of request = map Some (table_files request.table)
    ++ (map Some request.uploads ++ map Some (named_file request.report))
