use Rattle.std.proofs.Common.{◌≡◌, ◌++◌, ◌∙◌, ℕ, Bool, List, true, false, refl, sym, ap}
use Rattle.std.proofs.Common.{subst, append_assoc, rules, string_bytes, tests}
use Rattle.std.specs.Prelude.{None, MatchBool}
use Rattle.omny_audit.specs.Text.{AreDifferenceLines, IsDifferenceText, are_none}
use Rattle.omny_audit.proofs.text.write_differences.Goals as goal

pub returns-then-is_none : goal.returns-then-is_none
returns-then-is_none c =
    let missing = c.args.missing.now in
    let surplus = c.args.surplus.now in
    let (text, is, grown) = c.in_ok-write_difference.ensures in
    let yes : are_none missing surplus ≡ true = first_of (cc, search (rules, tests)) in (
      text,
      subst (λ (b : Bool). MatchBool b (IsDifferenceText None text)
          (AreDifferenceLines missing surplus text)) (sym yes) is,
      grown,
    )

pub returns : goal.returns
returns c =
    let missing = c.args.missing.now in
    let surplus = c.args.surplus.now in
    let (first, are, grown) = c.in_ok-write_tap_lines.ensures in
    let (next, are_next, more) = c.in_ok-write_tap_lines-2.ensures in
    let no : are_none missing surplus ≡ false = first_of (cc, search (rules, tests)) in (
      first ++ next,
      subst (λ (b : Bool). MatchBool b (IsDifferenceText None (first ++ next))
          (AreDifferenceLines missing surplus (first ++ next))) (sym no)
          (first, next, are, are_next, refl),
      more ∙ ap (λ (t : List ℕ). t ++ next) grown
          ∙ append_assoc (string_bytes c.args.text.now) first next,
    )
