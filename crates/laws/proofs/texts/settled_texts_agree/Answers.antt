use Rattle.std.proofs.Common.{◌≡◌, ℕ, Bool, true, false, List, Option, Some, None, Vec, Global, map}
use Rattle.std.proofs.Common.{refl, sym, subst, ◌∙◌}
use Rattle.fare_program.specs.{Options.form_of, Settling.IsStatementIn, Settling.IsTextOver}
use Rattle.fare_texts.specs.Ledger.{IsLedgerOver}
use Rattle.fare_texts.specs.declared.form.Form.{Form, TheVariants.Text, TheVariants.Json}
use Rattle.histories.specs.{Entry.own, declared.entry.Entry.Entry}
use Rattle.laws.proofs.OneText.{one_explained, one_ledger, one_statement}
use Rattle.laws.specs.Agree.{TextsAgree, DifferInUploads}
use Rattle.settlement.specs.Settled.{IsSettledHistory}
use Rattle.std.specs.Prelude.{MatchBool}
use Rattle.tap_views.specs.declared.token.Token.{Token}
use Rattle.tariffs.specs.Fares.{Fares}
use Rattle.laws.proofs.texts.settled_texts_agree.Goals as goal

abbrev bytes_in : Vec ℕ Global → List ℕ
bytes_in upload = upload.items

-- a text over a history, by what is asked for
abbrev IsRequest : Bool → Option Form → Option Token → Fares → List (List ℕ) → List Entry → List ℕ → Type 0
IsRequest ledger form token fares files history text =
    MatchBool ledger (IsLedgerOver fares history token text)
    (IsTextOver form token fares files history text)

by_statement : (form : Option Form) (token : Token) (fares : Fares) (history : List Entry)
    (a b : List ℕ)
    → IsStatementIn form fares history token a → IsStatementIn form fares history token b → a ≡ b
by_statement (Some Text) token fares history a b is also =
    one_explained fares token (own token history) a b is also
by_statement (Some Json) token fares history a b is also = is ∙ sym also
by_statement None token fares history a b is also = one_statement fares history token a b is also

by_request : (ledger : Bool) (form : Option Form) (token : Option Token) (fares : Fares)
    (files others : List (List ℕ)) (history : List Entry) (a b : List ℕ)
    → (token ≡ None → IsTextOver form None fares files history a
    → IsTextOver form None fares others history b → DifferInUploads files others a b)
    → IsRequest ledger form token fares files history a
    → IsRequest ledger form token fares others history b
    → TextsAgree ledger token files others a b
by_request true form token fares files others history a b reports is also =
    one_ledger fares history token a b is also
by_request false form None fares files others history a b reports is also =
    reports refl is also
by_request false form (Some token) fares files others history a b reports is also =
    by_statement form token fares history a b is also

pub returns : goal.returns
returns c = λ request again fares token text other success ill same ledger form one two.
    let files = map bytes_in c.args.files.now in
    let others = map bytes_in c.args.others.now in
    let histories = c.same_history.ensures fares one.history two.history same
    one.is_settled two.is_settled in
    let shown : IsRequest request.ledger (form_of request) token fares others two.history other =
    subst (λ e. IsRequest request.ledger e token fares others two.history other) (sym form)
    (subst (λ l. IsRequest l (form_of again) token fares others two.history other) (sym ledger)
    two.shows) in
    let moved : IsRequest request.ledger (form_of request) token fares files two.history text =
    subst (λ h. IsRequest request.ledger (form_of request) token fares files h text) histories
    one.shows in
    let one_too = subst (λ h. IsSettledHistory fares files h) histories one.is_settled in
    by_request request.ledger (form_of request) token fares files others two.history text other
    (λ none report again. c.same_reports.ensures fares two.history two.history text other
    same one_too two.is_settled report again) moved shown
