use Rattle.std.proofs.Common.{◌≡◌, ◌<◌, ◌^◌, drop}
use Rattle.std.specs.Str.{all_ascii_digits, Parse.digits_value, Parse.digits_value_after}
use Rattle.line_forms.proofs.number.value_of.Given as goal

abbrev pub invariant-loop-byte : goal.invariant-loop-byte
invariant-loop-byte l =
    (all_ascii_digits (drop l.byte-index l.digits) ≡ all_ascii_digits l.digits)
    × (digits_value_after 10 l.number (drop l.byte-index l.digits) ≡ digits_value 10 l.digits)
    × (l.number < 2 ^ 64)
