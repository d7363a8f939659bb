-- The command line, and what its words ask for.
use Rattle.clap.specs.Words.{App, Row, Text, all_of, fault_of, first_of, matches_of}
use Rattle.clap.specs.{Words.with_rule, declared.builder.action.ArgAction.TheVariants.Append}
use Rattle.fare_texts.specs.declared.form.Form.{Form, TheVariants.Text as Words, TheVariants.Json}
use Rattle.program_manners.specs.TableWords.{TableNames, tables_in}
use Rattle.program_manners.specs.Words.{flag_rule, is_given, list_option, named_app, null_flag}
use Rattle.program_manners.specs.Words.{number_rule, option_rule, positional_rule, repeated_rule}
use Rattle.std.specs.Prelude.{◌≡◌, ◌∷◌, ℕ, Bool, false, List, [], Option, None, Some, codes, fold}
use Rattle.std.specs.Prelude.{pos, true, unwrap_or}

-- all words that the program takes: of workers there are 1 to 16, by default 2, and of shards 1 to
-- 64, by default 8
unfoldable pub program : App
program = fold with_rule (named_app (codes "omny_cli")) (repeated_rule (codes "table")
    ∷ flag_rule (codes "settle") ∷ flag_rule (codes "live") ∷ flag_rule (codes "sorted")
    ∷ flag_rule (codes "list") ∷ number_rule (codes "workers") (pos 16) (codes "2")
    ∷ number_rule (codes "shards") (pos 64) (codes "8") ∷ option_rule (codes "token")
    ∷ flag_rule (codes "ledger") ∷ flag_rule (codes "explain") ∷ flag_rule (codes "json")
    ∷ flag_rule (codes "traced") ∷ option_rule (codes "tokens") ∷ option_rule (codes "made-by")
    ∷ option_rule (codes "format") ∷ list_option ∷ null_flag
    ∷ positional_rule (codes "FILE") Append ∷ [])

-- the words after the program's name are a command line of the program
abbrev pub Parses : List Text → Type 0
Parses words = fault_of program words ≡ []

-- what a command line asks for
pub record Request : Type 0 where
  pub table : Option TableNames
  pub list : Bool
  pub workers : ℕ
  pub shards : ℕ
  pub token : Option Text
  pub settle : Bool
  pub live : Bool
  pub sorted : Bool
  pub ledger : Bool
  pub explain : Bool
  pub json : Bool
  pub traced : Bool
  pub tokens : Option Text
  pub files : List Text

-- what is asked for by these rows of a parse, and with how many workers and shards it is done
abbrev pub request_in : ℕ → ℕ → List Row → Request
request_in workers shards rows = record {
  table = tables_in (unwrap_or (all_of (codes "table") rows) []);
  list = is_given (codes "list") rows;
  workers = workers;
  shards = shards;
  token = first_of (codes "token") rows;
  settle = is_given (codes "settle") rows;
  live = is_given (codes "live") rows;
  sorted = is_given (codes "sorted") rows;
  ledger = is_given (codes "ledger") rows;
  explain = is_given (codes "explain") rows;
  json = is_given (codes "json") rows;
  traced = is_given (codes "traced") rows;
  tokens = first_of (codes "tokens") rows;
  files = unwrap_or (all_of (codes "FILE") rows) [];
}

-- what these words ask for
abbrev pub request_by : ℕ → ℕ → List Text → Request
request_by workers shards words = request_in workers shards (matches_of program words)

-- the form of an explained statement, if the statement is explained
abbrev pub form_by : Bool → Bool → Option Form
form_by false json = None
form_by true false = Some Words
form_by true true = Some Json

-- the form in which the statement is explained, if it is
abbrev pub form_of : Request → Option Form
form_of request = form_by request.explain request.json
