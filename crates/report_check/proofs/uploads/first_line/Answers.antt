use Rattle.std.proofs.Common.{◌≡◌, ◌∙◌, ◌<◌, ◌++◌, ◌∷◌, [], ℕ, List, length, length-append, refl}
use Rattle.std.proofs.Common.{sym, ap, arith}
use Rattle.ledger_check.specs.Lines.{IsLine, lines_of}
use Rattle.ledger_check.proofs.LineLemmas.{lines-part}
use Rattle.report_check.proofs.EndLines.{line_first}
use Rattle.report_check.proofs.uploads.first_line.Goals as goal

shorter : (text line trailing : List ℕ) → IsLine line → text ≡ line ++ trailing
    → length trailing < length text
shorter text line trailing is whole =
    omega (
      arith,
      ap (λ (t : List ℕ). length t) whole,
      length-append line trailing,
      ap (λ (t : List ℕ). length t) is.shown,
      length-append is.front (10 ∷ []),
    )

pub returns-in-Some-clause-lines : goal.returns-in-Some-clause-lines
returns-in-Some-clause-lines c = λ some.
    let parts = c.in-Some.ensures.some in
    ap lines_of parts.1 ∙ line_first c.in-Some.parts.0.now c.in-Some.parts.1.now parts.0

pub returns-in-Some-clause-shorter : goal.returns-in-Some-clause-shorter
returns-in-Some-clause-shorter c = λ some.
    let parts = c.in-Some.ensures.some in
    shorter c.args.text.now c.in-Some.parts.0.now c.in-Some.parts.1.now parts.0 parts.1

none_left : lines_of [] ≡ []
unfolding lines_of
none_left = refl

pub returns-in-None-clause-lines : goal.returns-in-None-clause-lines
returns-in-None-clause-lines c = λ some.
    lines-part c.args.text.now c.in-None.ensures.none some
    ∙ ap (λ (ls : List (List ℕ)). c.args.text.now ∷ ls) (sym none_left)
