use Rattle.std.proofs.Common.{◌∙◌, ℕ, List, [], Option, ap, Bor, map}
use Rattle.frame.specs.Names.{file_named}
use Rattle.program_manners.specs.TableWords.{TableNames, tables_in}
use Rattle.std.specs.Prelude.{option_and_then, unwrap_or}
use Rattle.omny_audit.proofs.options.Options.read.Goals as goal

pub returns-clause-request : goal.returns-clause-request
returns-clause-request c =
    let table = ap (λ (t : Option TableNames). unwrap_or t (record { first = []; later = [] }))
    (c.in_ok-tables_of.ensures
    ∙ ap (λ (ws : List (Bor (List ℕ))). tables_in (map (λ w. w.now) ws)) c.deref.ensures.value
    ∙ ap tables_in c.in_ok-tables.ensures) in
    let ledger = c.ledger_in.ensures ∙ ap (option_and_then file_named) c.value_in-2.ensures in
    rw (← c.in_ok-matches.ensures.rows) (λ i. record {
      table = table i;
      all = c.flag_in.ensures i;
      live = c.flag_in-2.ensures i;
      uploads = c.in_ok-names_in.ensures i;
      report = c.value_in.ensures i;
      ledger = ledger i;
    })
