use Rattle.std.proofs.Common.{◌≡◌, ◌++◌, ◌/◌, ◌%◌, [], ◌∷◌, ℤ, codes, sym, subst, arith}
use Rattle.std.proofs.lemmas.Int.{ints}
use Rattle.jiff.proofs.SpanFacts.{signed_arith}
use Rattle.jiff_fmt.specs.Text.{pad2, year_text}
use Rattle.fare_texts.proofs.MomentLemmas.{date_put}
use Rattle.fare_texts.proofs.moment.put_date.Goals as goal

pub returns-clause-put : goal.returns-clause-put
returns-clause-put c = λ year is.
    let date = c.args.date in
    let same : c.from-year.result ≡ year =
    omega (
      arith,
      ints,
      signed_arith,
      c.from-year.ensures,
      c.unsigned_abs.ensures.value,
      is,
      date.year_in,
    ) in
    let shown = date_put c.args.line.now c.put.new.self c.put-2.new.self c.put-3.new.self
    c.put-4.new.self c.put-5.new.self c.put-6.new.self (pad2 date.day) (codes "-")
    (pad2 date.month) (pad2 (year % 100)) (pad2 (year / 100))
    (rw (c.pair.ensures, c.from.ensures) at c.put.ensures.put) c.put-2.ensures.put
    (rw (c.pair-2.ensures, c.from-2.ensures) at c.put-3.ensures.put) c.put-4.ensures.put
    (rw (c.pair-3.ensures, same) at c.put-5.ensures.put)
    (rw (c.pair-4.ensures, same) at c.put-6.ensures.put) in
    subst (λ (y : ℤ). c.put-6.new.self ≡ (year_text y ++ 45 ∷ [] ++ pad2 date.month
    ++ 45 ∷ [] ++ pad2 date.day) ++ c.args.line.now) (sym is) shown
