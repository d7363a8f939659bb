use Rattle.std.proofs.Common.{◌≡◌, Bool, true, false, refl, sym, ◌∙◌, arith}
use Rattle.std.proofs.lemmas.Result.{on_ok_weaker}
use Rattle.ledger_check.proofs.FullyBalanced.{subtracted_missing, subtracted_surplus}
use Rattle.ledger_check.proofs.full_balance.FullBalance.subtract.Goals as goal

pub returns-then-count_at-eq0 : goal.returns-then-count_at-eq0
returns-then-count_at-eq0 c =
    let full = c.args.self.now in
    let new = c.put_one.new.left in
    on_ok_weaker c.put_one.result
    (λ more valid subtracted is.
    subtracted_surplus full (record { missing = full.missing; surplus = new }) valid subtracted
    c.args.tap.now refl
    (sym c.count_at.ensures ∙ c.if-count_at-eq0.true)
    more is)
    c.put_one.ensures

pub returns : goal.returns
returns c = λ valid subtracted is.
    let full = c.args.self.now in
    let new = c.take_one-was_left.new.left in
    subtracted_missing full (record { missing = new; surplus = full.surplus }) valid subtracted
    c.args.tap.now refl
    (c.take_one-was_left.ensures.taken (taken c.take_one-was_left.result refl))
    is
  where
    taken : (b : Bool) → c.take_one-was_left.result ≡ b → c.take_one-was_left.result ≡ true
    taken true is = is
    taken false is =
        let none = c.take_one-was_left.ensures.none is in
        absurd (omega (arith, none, c.count_at.ensures, c.if-count_at-eq0.false))
