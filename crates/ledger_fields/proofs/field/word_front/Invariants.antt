use Rattle.std.proofs.Common.{◌≡◌, take, true}
use Rattle.std.specs.List.{list_all}
use Rattle.ledger_fields.specs.Fields.{is_word_byte}
use Rattle.ledger_fields.proofs.field.word_front.Given as goal

abbrev pub invariant-loop-byte : goal.invariant-loop-byte
invariant-loop-byte l =
    (l.size ≡ l.byte-index) × (list_all (is_word_byte l.mark) (take l.byte-index l.text) ≡ true)
