-- The slot's lines are those of the list, since no earlier tap has its first token.
use Rattle.std.proofs.Common.{◌≡◌, ◌++◌, string_bytes, sym, subst, ◌∙◌}
use Rattle.std.specs.Io.KnownBytes.{Appends}
use Rattle.std.proofs.lemmas.Result.{err_from_is_err_and}
use Rattle.fare_texts.specs.WrittenOut.{Begins, GoesOut}
use Rattle.fare_texts.proofs.Beginnings.{begins_after, begins_front, goes_through}
use Rattle.settled_bills.proofs.TapsExplained.{explained_lines, explains_as, lines_exist}
use Rattle.settled_bills.proofs.rounds.write_slot.Goals as goal

pub returns-clause-explained : goal.returns-clause-explained
returns-clause-explained g c =
    let slot = c.args.slot.now in
    let old = c.args.explainer.now in
    let out = g.W.Write.contents c.args.out.now in
    let passed = g.W.Write.contents c.pass_on.new.out in
    let after = g.W.Write.contents c.write_out.new.out in
    let whole = c.requires.whole in
    explains_as c.args.table.now old slot.explainer c.args.list.now
    (λ lines. string_bytes slot.text ≡ lines)
    (GoesOut out (string_bytes c.args.text.now) after (string_bytes c.pass_on.new.text))
    (whole.explains old (whole.first old.token c.requires.may.nondecreasing)
    (sym c.eq.ensures ∙ c.if-eq.false))
    (λ lines is. goes_through out passed after (string_bytes c.args.text.now)
    (string_bytes c.pass_on.new.text) lines c.in_ok-pass_on.ensures.whole
    c.in_ok-pass_on.ensures.empty
    (subst (Appends passed after) (c.as_bytes.ensures.value ∙ is) c.in_ok-write_out.ensures.ok))

-- ---- what a write that failed left
pub returns-in_err-pass_on-clause-started : goal.returns-in_err-pass_on-clause-started
returns-in_err-pass_on-clause-started g c =
    let p = err_from_is_err_and c.from_residual.result c.from_residual.ensures.1 in
    rw p.1 (lines_exist c.args.table.now c.args.explainer.now c.args.list.now
    (λ lines. Begins (g.W.Write.contents c.args.out.now) (g.W.Write.contents c.pass_on.new.out)
    (string_bytes c.args.text.now ++ lines))
    (λ lines. begins_front _ _ (string_bytes c.args.text.now) lines
    c.in_err-pass_on.ensures.started))

pub returns-in_err-write_out-clause-started : goal.returns-in_err-write_out-clause-started
returns-in_err-write_out-clause-started g c =
    let slot = c.args.slot.now in
    let fares = c.args.table.now in
    let old = c.args.explainer.now in
    let list = c.args.list.now in
    let text = string_bytes c.args.text.now in
    let out = g.W.Write.contents c.args.out.now in
    let passed = g.W.Write.contents c.pass_on.new.out in
    let after = g.W.Write.contents c.write_out.new.out in
    let whole = c.requires.whole in
    let p = err_from_is_err_and c.from_residual-in_err-write_out.result
    c.from_residual-in_err-write_out.ensures.1 in
    rw p.1 (explained_lines fares old slot.explainer list
    (λ lines. Begins out after (text ++ lines))
    (explains_as fares old slot.explainer list (λ lines. string_bytes slot.text ≡ lines)
    (λ lines. Begins out after (text ++ lines))
    (whole.explains old (whole.first old.token c.requires.may.nondecreasing)
    (sym c.eq.ensures ∙ c.if-eq.false))
    (λ lines is. begins_after out passed after text lines c.in_ok-pass_on.ensures.whole
    (subst (Begins passed after) (c.as_bytes.ensures.value ∙ is)
    c.in_err-write_out.ensures.started))))
