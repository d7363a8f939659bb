use Rattle.std.proofs.Common.{◌≡◌, ◌++◌, ℕ, List, take, string_bytes}
use Rattle.omny_audit.specs.Text.{AreTapLines}
use Rattle.omny_audit.proofs.text.write_tap_lines.Given as goal

-- so far these lines were written
abbrev pub invariant-loop-tap : goal.invariant-loop-tap
invariant-loop-tap l =
    (written : List ℕ) × AreTapLines l.words (take l.tap-index l.taps) written
    × (string_bytes l.text ≡ string_bytes l.fn.text ++ written)
