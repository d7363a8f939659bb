use Rattle.std.proofs.Common.{◌≡◌, ℕ, Bool, true, false, List, Option, inr, refl, sym, ap, ◌∙◌}
use Rattle.std.proofs.Common.{string_bytes}
use Rattle.ledger_check.proofs.WalkLemmas.{judged}
use Rattle.ledger_check.specs.FullChecks.{remark_for}
use Rattle.std.proofs.lemmas.{Bool.false≢true, Slice.Eq.bytes_eq-Decides}
use Rattle.std.specs.{Option.unwrap_or, Prelude.IsTrue, Prelude.◌↔◌, Str.bytes_eq}
use Rattle.ledger_check.proofs.walk.Walk.judge_exactly.Goals as goal

same_test : (b : Bool) (xs ys : List ℕ) → (IsTrue b ↔ (xs ≡ ys)) → b ≡ bytes_eq xs ys
same_test b xs ys is = by_test b (bytes_eq xs ys) refl refl
  where
    by_test : (t u : Bool) → b ≡ t → bytes_eq xs ys ≡ u → b ≡ bytes_eq xs ys
    by_test true true left right = left ∙ sym right
    by_test false false left right = left ∙ sym right
    by_test true false left right =
        absurd (false≢true (sym right ∙ (bytes_eq-Decides xs ys).1 (is.0 left)))
    by_test false true left right =
        absurd (false≢true (sym left ∙ is.1 ((bytes_eq-Decides xs ys).0 right)))

pub returns : goal.returns
returns c = λ run holds.
    let fares = c.args.table.now in
    let line = c.args.line.now in
    let rest = c.in-Some.rest.now in
    let next = c.in_ok-next.next in
    let remark = c.remark_for.result in
    let is = judged fares run line (string_bytes c.write_next_tap.new.wanted) rest c.in-Some.tap
    next c.unwrap_or-cents.result remark (c.in_ok-next.ensures run holds)
    (rw c.in-Some.is at c.in_ok-tap.ensures)
    (inr (c.unwrap_or-cents.ensures ∙ ap (λ (o : Option ℕ). unwrap_or o 0) c.cents_in.ensures))
    (c.remark_for.ensures ∙ ap (remark_for next.is_decrease)
    (same_test c.same_bytes-is_same.result line c.as_bytes.result.now c.same_bytes-is_same.ensures
    ∙ ap (bytes_eq line) c.as_bytes.ensures.value)) in
    record { is = is.0; explainer = is.1 }
