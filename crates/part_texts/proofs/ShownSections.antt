-- The lines of a part's tokens, as they are printed, are taken.
use Rattle.std.proofs.Common.{◌≡◌, ◌-◌, ℕ, suc, true, List, [], ◌∷◌, length, Option, Some, None}
use Rattle.std.proofs.Common.{arith, refl}
use Rattle.fare_texts.specs.ReportLines.{token_line}
use Rattle.histories.specs.Sums.{Sums}
use Rattle.part_texts.proofs.Leads.{Leads, by_both, by_line, by_nothing}
use Rattle.part_texts.proofs.ShownFronts.{same_sums}
use Rattle.part_texts.specs.FrontSteps.{front_step, is_over, part_end}
use Rattle.part_texts.specs.{Fronts.FrontsView, declared.fronts.Stage.TheVariants.Tokens}
use Rattle.part_texts.specs.inside.Shown.{adds_to, are_tokens_increasing, last_of}
use Rattle.report_texts.proofs.{Lines.token_complete, OneLine.token_line_is_one}
use Rattle.report_texts.specs.{Numbers.IsTokenSum, declared.wrong.Wrong.TheVariants.Form}
use Rattle.std.specs.{List.AllByRecursion, Prelude.flat_map}
use Rattle.tap_views.specs.declared.token.Token.{Token}

abbrev pub tokens_at : FrontsView → ℕ → Option Token → Sums → FrontsView
tokens_at s left last so_far = record s { stage = Tokens left; so_far = so_far; last = last }

pub tokens_taken : (s : FrontsView) (last : Option Token) (so_far all : Sums)
    (tokens : List (Token × Sums)) → AllByRecursion IsTokenSum tokens
    → are_tokens_increasing last tokens → adds_to so_far tokens all
    → Leads (is_over true) Form front_step (tokens_at s (length tokens) last so_far)
    (flat_map token_line tokens) (tokens_at s 0 (last_of last tokens) all)
tokens_taken s last so_far all [] fit increase adds = rw (← adds) by_nothing
tokens_taken s last so_far all (sum ∷ tokens) fit increase (next, one, more) =
    let less : suc (length tokens) - 1 ≡ length tokens = omega arith in
    by_both (by_line (token_line_is_one sum fit.0) refl
    (rw (token_complete sum fit.0, increase.0, one, less)))
    (tokens_taken s (Some sum.0) next all tokens fit.1 increase.1 more)

pub tokens_end : (s : FrontsView) (last : Option Token) → part_end (tokens_at s 0 last s.part) ≡ None
tokens_end s last = rw (same_sums s.part)
