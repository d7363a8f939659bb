use Rattle.std.proofs.{Common.◌≡◌, Common.◌-◌, Common.suc, Common.arith, lemmas.Bool.leb-true}
use Rattle.tariffs.proofs.ApartLemmas.{none_before, none_between}
use Rattle.tariffs.proofs.validators.is_just_before.Goals as goal

pub returns-then-position-eq0 : goal.returns-then-position-eq0
returns-then-position-eq0 c =
    λ before. none_before c.args.number c.args.ranges.now _ c.requires.apart (leb-true _ _ before)

pub returns-then-ranges-position : goal.returns-then-ranges-position
returns-then-ranges-position c = λ before.
    let next : suc (c.args.position - 1) ≡ c.args.position =
    omega (arith, c.if-position-eq0.false) in
    none_between c.args.number c.args.ranges.now (c.args.position - 1) _ c.requires.apart
    (omega (arith, next, c.requires.inside)) c.if-ranges-position.true
    (rw next (leb-true _ _ before))
