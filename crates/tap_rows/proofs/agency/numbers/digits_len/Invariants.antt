use Rattle.std.proofs.Common.{◌≡◌, ◌<◌, ℕ, true}
use Rattle.std.specs.{Char.is_ascii_digit, Prelude.slice_index}
use Rattle.tap_rows.proofs.agency.numbers.digits_len.Given as goal

abbrev pub invariant-loop-index : goal.invariant-loop-index
invariant-loop-index l = (k : ℕ) → k < l.index → is_ascii_digit (slice_index l.fn.text k) ≡ true
