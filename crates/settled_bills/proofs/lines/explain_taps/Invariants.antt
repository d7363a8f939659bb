use Rattle.std.proofs.Common.{◌≡◌, ◌++◌, take, string_bytes}
use Rattle.settled_bills.specs.inside.ExplainedTaps.{Explains}
use Rattle.settled_bills.proofs.lines.explain_taps.Given as goal

-- the explainer went on by the taps so far
abbrev pub invariant-loop-tap : goal.invariant-loop-tap
invariant-loop-tap l =
    Explains l.table l.fn.explainer (take l.tap-index l.taps) l.explainer
    (λ lines. string_bytes l.text ≡ string_bytes l.fn.text ++ lines)
