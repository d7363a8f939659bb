use Rattle.std.proofs.Common.{Some, None, refl}
use Rattle.part_texts.proofs.Kept.{kept_is}
use Rattle.std.specs.{BTreeMap.is_at, Ordering.nat_cmp}
use Rattle.part_texts.proofs.fronts.kept_of.Goals as goal

pub returns-in-Some : goal.returns-in-Some
returns-in-Some c =
    kept_is (is_at (nat_cmp c.args.validator)) c.args.validators.now.entries
    (Some c.in-Some.kept.now) _ c.in-Some.ensures.value refl

pub returns-in-None : goal.returns-in-None
returns-in-None c =
    kept_is (is_at (nat_cmp c.args.validator)) c.args.validators.now.entries None _
    c.in-None.ensures.value c.no_totals.ensures
