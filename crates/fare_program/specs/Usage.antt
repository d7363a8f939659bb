-- Which requests are usage errors.
use Rattle.fare_program.specs.{Options.Request, TokenRanges.range_fault}
use Rattle.hex.specs.Hex.{decode_sized}
use Rattle.program_manners.specs.TableWords.{wrong_word}
use Rattle.std.specs.{List.list_all, Option.option_and_then}
use Rattle.std.specs.Prelude.{ℕ, List, [], ◌∷◌, Bool, true, ◌&&◌, ◌||◌, not, is_none, is_ok}
use Rattle.std.specs.Prelude.{is_some, length, Option, None, Some, ◌==◌}

-- What must hold of what is requested together, given whether a fare table, a token, a file and a
-- range of tokens are named.
abbrev pub rules_by : Bool → Bool → Bool → Bool → Request → List Bool
rules_by table token file range request =
    (not token || table) ∷ (not request.settle || table) ∷ not (request.settle && request.list)
    ∷ not (request.live && request.settle) ∷ (not request.ledger || table)
    ∷ not (request.ledger && request.list) ∷ (not request.json || request.explain)
    ∷ (not request.explain || token) ∷ not (request.explain && request.list)
    ∷ not (request.explain && request.ledger) ∷ (not request.sorted || request.settle)
    ∷ (not request.sorted || file) ∷ (not request.traced || request.ledger)
    ∷ (not request.traced || request.settle) ∷ not (request.traced && token)
    ∷ not (request.traced && request.sorted) ∷ (not range || request.sorted)
    ∷ not (range && token) ∷ []

abbrev pub keeps_rules : Request → Bool
keeps_rules request = list_all (λ kept. kept) (rules_by (is_some request.table)
    (is_some request.token) (not (length request.files == 0)) (is_some request.tokens) request)

-- the token that is requested, if any, has 32 hexadecimal digits
abbrev pub has_digits : Option (List ℕ) → Bool
has_digits None = true
has_digits (Some digits) = is_ok (decode_sized digits 16)

-- The request is no usage error: its token, its range of tokens and the dates of its fare tables
-- can be read, and it keeps the rules.
abbrev pub is_usable : Request → Bool
is_usable request = has_digits request.token && (keeps_rules request
    && (is_none (option_and_then range_fault request.tokens)
    && is_none (option_and_then wrong_word request.table)))
