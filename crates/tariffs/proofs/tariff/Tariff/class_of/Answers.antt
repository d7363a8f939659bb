use Rattle.std.proofs.Common.{◌≡◌, ◌<◌, ℕ, All, IfSome, Option, arith, length, refl, subst, sym}
use Rattle.std.proofs.lemmas.Map.Views.{IfSome-lookup_from_All}
use Rattle.std.specs.Map.{values_of}
use Rattle.tariffs.proofs.tariff.Tariff.class_of.Goals as goal

pub returns-in-Some-clause-there : goal.returns-in-Some-clause-there
returns-in-Some-clause-there c =
    let parts = c.self.inside.parts in
    let count = length parts.classes.items in
    let P : Option ℕ → Type 0 = λ o. IfSome o (λ position. position < count) in
    let there : All (λ position. position < count) (values_of parts.riders) =
    c.self.invariant.riders in
    let below : c.in-Some.class < count =
    subst P (sym c.in-Some.ensures)
    (IfSome-lookup_from_All (λ position. position < count) _ _ there) in
    let same : count ≡ length c.args.self.now.meaning.classes =
    rw (← c.self.view_is) refl in
    omega (arith, below, same)
