use Rattle.std.proofs.Common.{◌≡◌, rules, tests}
use Rattle.ledger_fields.specs.Fields.{is_word_byte}
use Rattle.std.proofs.lemmas.Iterator.{YieldsList-from_slice, Search.all_from_yields_List}
use Rattle.std.specs.List.{list_all}
use Rattle.ledger_fields.proofs.field.is_word.Goals as goal

pub returns-then-text-most : goal.returns-then-text-most
returns-then-text-most c =
    let all : c.all.result ≡ list_all (is_word_byte c.args.mark) c.args.text.now =
    all_from_yields_List (is_word_byte c.args.mark) _ _ _ c.all.ensures.ran
    (YieldsList-from_slice c.args.text.now cc) (λ x b q k. search (rules, tests)) in
    search (rules, tests, all)
