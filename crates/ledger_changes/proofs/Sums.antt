-- Corrections add up.
use Rattle.std.proofs.Common.{◌≡◌, ℕ, ◌+◌, Bool, true, false, not, cond, List, [], ◌∷◌, filter}
use Rattle.std.proofs.Common.{refl, sym, ap, subst, ◌∙◌, arith, Option, None, Some}
use Rattle.std.specs.List.{sum_by}
use Rattle.std.proofs.lemmas.List.Sums.{sum_by-cons, sum_by-append}
use Rattle.ledger_changes.specs.Changes.{AddUp, AreCorrections, Pair, afters, agree, befores}
use Rattle.ledger_changes.specs.Changes.{is_changed, row_of, weight_of}
use Rattle.ledger_fields.specs.Rows.{Charge, Key, Row}
use Rattle.ledger_changes.proofs.Listed.{same}

module _ (weight : Key → Charge → ℕ) where
  pub of_row : Row → ℕ
  of_row row = weight row.key row.charge

  pub before_of : Pair → ℕ
  before_of pair = weight_of weight pair.key pair.before

  pub after_of : Pair → ℕ
  after_of pair = weight_of weight pair.key pair.after

  one_row : (key : Key) (side : Option Charge)
      → sum_by of_row (row_of key side) ≡ weight_of weight key side
  unfolding of_row
  one_row key None = refl
  one_row key (Some charge) = omega arith

  -- a pair that agrees weighs the same in both bills
  alike : (key : Key) (before after : Option Charge) → agree before after ≡ true
      → weight_of weight key before ≡ weight_of weight key after
  alike key before after e = ap (weight_of weight key) (same before after e)

  pub side_sums : (pairs : List Pair)
      → sum_by of_row (befores pairs) + sum_by after_of (filter is_changed pairs)
      ≡ sum_by of_row (afters pairs) + sum_by before_of (filter is_changed pairs)
  unfolding of_row before_of after_of
  side_sums [] = refl
  side_sums (pair ∷ pairs) = by_test (agree pair.before pair.after) refl (side_sums pairs)
    where
      olds : sum_by of_row (befores (pair ∷ pairs)) ≡ before_of pair + sum_by of_row (befores pairs)
      olds = sum_by-append of_row (row_of pair.key pair.before) (befores pairs)
          ∙ ap (λ n. n + sum_by of_row (befores pairs)) (one_row pair.key pair.before)

      news : sum_by of_row (afters (pair ∷ pairs)) ≡ after_of pair + sum_by of_row (afters pairs)
      news = sum_by-append of_row (row_of pair.key pair.after) (afters pairs)
          ∙ ap (λ n. n + sum_by of_row (afters pairs)) (one_row pair.key pair.after)

      by_test : (b : Bool) → agree pair.before pair.after ≡ b
          → sum_by of_row (befores pairs) + sum_by after_of (filter is_changed pairs)
          ≡ sum_by of_row (afters pairs) + sum_by before_of (filter is_changed pairs)
          → sum_by of_row (befores (pair ∷ pairs))
          + sum_by after_of
          (cond (not b) (pair ∷ filter is_changed pairs) (filter is_changed pairs))
          ≡ sum_by of_row (afters (pair ∷ pairs))
          + sum_by before_of
          (cond (not b) (pair ∷ filter is_changed pairs) (filter is_changed pairs))
      by_test true e rest =
          let equal : before_of pair ≡ after_of pair = alike pair.key pair.before pair.after e in
          let one = olds in
          let two = news in
          omega (arith, one, two, rest, equal)
      by_test false e rest =
          let one = olds in
          let two = news in
          let three = sum_by-cons after_of pair (filter is_changed pairs) in
          let four = sum_by-cons before_of pair (filter is_changed pairs) in
          omega (arith, one, two, three, four, rest)

pub adds_up : (old new : List Row) (changes : List Pair) → AreCorrections old new changes
    → AddUp old new changes
unfolding of_row before_of after_of
adds_up old new changes are = λ weight.
    let pairs = are.pairs in
    let S : List Row → List Row → List Pair → Type 0 = λ os ns cs.
    sum_by (λ row. weight row.key row.charge) os
    + sum_by (λ pair. weight_of weight pair.key pair.after) cs
    ≡ sum_by (λ row. weight row.key row.charge) ns
    + sum_by (λ pair. weight_of weight pair.key pair.before) cs in
    subst (λ os. S os new changes) are.beside.olds
    (subst (λ ns. S (befores pairs) ns changes) are.beside.news
    (subst (λ cs. S (befores pairs) (afters pairs) cs) (sym are.listed)
    (side_sums weight pairs)))
