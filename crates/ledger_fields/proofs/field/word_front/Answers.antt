use Rattle.std.proofs.Common.{◌≡◌, ◌∙◌, arith, length, length-take, nat_le, refl, sym, take, true}
use Rattle.std.specs.List.{list_all}
use Rattle.std.proofs.lemmas.Bool.Decides.{nat_tests}
use Rattle.ledger_fields.specs.Fields.{is_word, is_word_byte}
use Rattle.ledger_fields.proofs.Fronts.{front_at, word_plain}
use Rattle.ledger_fields.proofs.field.word_front.Goals as goal

pub returns-then-size-most : goal.returns-then-size-most
returns-then-size-most c =
    let text = c.args.text.now in
    let size = c.loop-byte.size in
    let (same, bytes) = c.loop-byte.invariant in
    let all : list_all (is_word_byte c.args.mark) (take size text) ≡ true = rw same bytes in
    let short : nat_le (length (take size text)) c.args.most ≡ true =
    grind (arith, nat_tests, length-take) in
    front_at (is_word c.args.most c.args.mark) text size (omega (arith, same, c.loop-byte-test.true))
    (rw same (sym c.ends_column.ensures ∙ c.if-ends_column.true))
    (word_plain c.args.mark (take size text) c.requires all) (rw (short, all) refl)
