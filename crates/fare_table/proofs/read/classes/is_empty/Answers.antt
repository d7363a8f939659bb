use Rattle.std.proofs.Common.{◌≡◌, ◌↔◌, Bool, true, false, List, [], ◌∷◌, length, IsTrue, String}
use Rattle.std.proofs.Common.{Global, refl, arith}
use Rattle.fare_table.specs.Classes.{is_empty}
use Rattle.toml.specs.{View.members_view, declared.value.Value.Value}
use Rattle.fare_table.proofs.read.classes.is_empty.Goals as goal

empty_view : (b : Bool) (entries : List (String Global × Value)) → IsTrue b ↔ (length entries ≡ 0)
    → b ≡ is_empty (members_view entries)
empty_view true [] both = refl
empty_view false [] both = both.1 refl
empty_view true (element ∷ more) both = let none : length (element ∷ more) ≡ 0 = both.0 refl in
    absurd (omega arith)
empty_view false (element ∷ more) both = refl

pub returns : goal.returns
returns c = empty_view c.is_empty.result c.args.classes.now.entries c.is_empty.ensures
