use Rattle.std.proofs.Common.{◌≡◌, false, ◌∙◌, rules, tests, string_bytes}
use Rattle.std.specs.Prelude.{IsTrue}
use Rattle.ledger_check.proofs.WalkLemmas.{judged_right}
use Rattle.ledger_check.proofs.walk.Walk.right_tap.Goals as goal

pub returns : goal.returns
returns c = λ run holds few.
    let line = c.args.line.now in
    let wanted = string_bytes c.write_next_tap.new.wanted in
    let up : c.in_ok-next.next.is_decrease ≡ false = first_of (cc, search (rules, tests)) in
    let found : IsTrue c.same_bytes.result = first_of (cc, search (rules, tests)) in
    let same : line ≡ wanted = c.same_bytes.ensures.0 found ∙ c.as_bytes.ensures.value in
    let is = judged_right c.args.table.now run line wanted c.in-Some.tap c.in_ok-next.next
    (c.in_ok-next.ensures run holds) same up few c.in-Some.ensures.fits
    c.in-Some.ensures.validator c.in-Some.ensures.moment c.requires.short in
    record { is = is.0; explainer = is.1 }
