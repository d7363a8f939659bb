use Rattle.std.proofs.Common.{◌≡◌, ◌+◌, drop}
use Rattle.line_forms.specs.Numbers.{digits_in}
use Rattle.line_forms.proofs.number.digits_before.Given as goal

abbrev pub invariant-loop-byte : goal.invariant-loop-byte
invariant-loop-byte l =
    (l.size ≡ l.byte-index) × (l.size + digits_in (drop l.byte-index l.text) ≡ digits_in l.text)
