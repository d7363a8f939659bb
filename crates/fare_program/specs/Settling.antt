-- What a settled run prints.
use Rattle.fare_program.specs.Options.{Request, form_of}
use Rattle.fare_texts.specs.{ExplainedForms.IsExplainedOver, Ledger.IsLedgerOver}
use Rattle.fare_texts.specs.declared.form.Form.{Form}
use Rattle.histories.specs.declared.entry.Entry.{Entry}
use Rattle.report_texts.specs.OverHistory.{IsReportOver, IsStatementOver}
use Rattle.settlement.specs.Settled.{IsSettledHistory}
use Rattle.std.specs.Prelude.{◌≡◌, ℕ, Bool, List, Option, None, Some, MatchBool}
use Rattle.tap_views.specs.UploadEnds.{ArePlainEnds, are_posted}
use Rattle.tap_views.specs.declared.{token.Token.Token, upload_end.UploadEnd.UploadEnd}
use Rattle.tariffs.specs.Fares.{Fares}

-- the text is the statement of the token over this history, explained in this form if there is one
abbrev pub IsStatementIn : Option Form → Fares → List Entry → Token → List ℕ → Type 0
IsStatementIn None fares history token text = IsStatementOver fares history token text
IsStatementIn (Some form) fares history token text = IsExplainedOver form fares history token text

-- the text is the report over this history of the files, or the statement of this token, explained
-- in this form if there is one
abbrev pub IsTextOver : Option Form → Option Token → Fares → List (List ℕ) → List Entry → List ℕ
    → Type 0
IsTextOver form None fares files history text = IsReportOver files history text
IsTextOver form (Some token) fares files history text = IsStatementIn form fares history token text

-- The text is what is asked for of this history of the files: the ledger, or that of this token;
-- else the report, or the statement of this token, explained if that is asked for.
abbrev pub ShowsOver : Request → Option Token → Fares → List (List ℕ) → List Entry → List ℕ → Type 0
ShowsOver request token fares files history text =
    MatchBool request.ledger (IsLedgerOver fares history token text)
    (IsTextOver (form_of request) token fares files history text)

-- The text shows what is asked for of the settled history of the files. It is well if each file
-- ends posted whole.
pub record ShowsSettled (request : Request) (fares : Fares) (files : List (List ℕ))
    (token : Option Token) (text : List ℕ) (success : Bool) : Type 0 where
  pub history : List Entry
  pub is_settled : IsSettledHistory fares files history
  pub shows : ShowsOver request token fares files history text
  pub ends : List UploadEnd
  pub ended : ArePlainEnds files ends
  pub succeeded : success ≡ are_posted ends
