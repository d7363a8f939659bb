use Rattle.std.proofs.Common.{◌≡◌, ◌∙◌, ◌-◌, ℕ, false, cond, List, None, Some, length, take}
use Rattle.std.proofs.Common.{drop, length-drop, sym, ap, arith}
use Rattle.line_forms.specs.Forms.{with_rest}
use Rattle.report_texts.specs.Forms.{token_in}
use Rattle.std.proofs.lemmas.{Bool.Decides.nat_tests, List.take_all}
use Rattle.std.specs.Prelude.{nat_lt}
use Rattle.report_texts.proofs.forms.TokenDigitsFormOf.read.Goals as goal

pub returns : goal.returns
returns c =
    let text = c.args.text.now in
    let long : nat_lt (length text) 32 ≡ false =
    (let h = c.if-text-lt32.false in grind (arith, nat_tests, h)) in
    let trailing : take (length text - 32) (drop 32 text) ≡ drop 32 text =
    take_all (length text - 32) (drop 32 text) (omega (arith, length-drop 32 text)) in
    ap (λ b. cond b None (with_rest (token_in (take 32 text)) (drop 32 text))) long
    ∙ ap (λ r. with_rest r (drop 32 text)) (sym c.token_in.ensures ∙ c.in_ok-token.was)
    ∙ ap (λ (x : List ℕ). Some (c.in_ok-token.token, x)) (sym trailing)
