use Rattle.std.proofs.Common.{◌≡◌, ◌&&◌, drop}
use Rattle.std.specs.List.{list_all}
use Rattle.ledger_fields.specs.Fields.{is_token_byte}
use Rattle.ledger_fields.proofs.field.are_token_bytes.Given as goal

abbrev pub invariant-loop-byte : goal.invariant-loop-byte
invariant-loop-byte l =
    (l.are_so && list_all is_token_byte (drop l.byte-index l.text)) ≡ list_all is_token_byte l.text
