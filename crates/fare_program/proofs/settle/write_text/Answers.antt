use Rattle.std.proofs.Common.{◌≡◌, ◌∙◌, ℕ, List, None, Some, false, sym}
use Rattle.fare_program.specs.Options.{Request, form_of}
use Rattle.fare_program.specs.{Settling.ShowsOver, inside.Options.request_of}
use Rattle.histories.specs.declared.entry.Entry.{Entry}
use Rattle.report_texts.specs.OverHistory.{IsStatementOver}
use Rattle.std.proofs.lemmas.Result.{on_ok_weaker}
use Rattle.tap_views.specs.declared.token.Token.{Token}
use Rattle.tariffs.specs.Fares.{Fares}
use Rattle.fare_program.proofs.settle.write_text.Goals as goal

stated : (request : Request) (token : Token) (fares : Fares) (files : List (List ℕ))
    (history : List Entry) (text : List ℕ) → request.ledger ≡ false → form_of request ≡ None
    → IsStatementOver fares history token text
    → ShowsOver request (Some token) fares files history text
stated request token fares files history text ledger form is = rw (ledger, form) is

pub returns-in-None-clause-ok : goal.returns-in-None-clause-ok
returns-in-None-clause-ok g c =
    on_ok_weaker c.write_token_statement.result
    (λ all.
    let (text, states, written) = all in (
      text,
      (λ files history own.
          stated (request_of c.args.job.now.options) c.args.token c.args.table.now files history text
          c.if-options.false (sym c.form.ensures ∙ c.in-None.is) (states history own)),
      written,
    ))
    c.write_token_statement.ensures.ok
