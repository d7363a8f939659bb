-- Uploads that are loaded already are read as what they are.
use Rattle.std.proofs.Common.{◌≡◌, ℕ, ◌+◌, List, [], arith, length, get_or, subst}
use Rattle.settlement.specs.Reading.{AreRead}
use Rattle.std.proofs.lemmas.List.{ext_get_or}
use Rattle.world.specs.{Origins.memory, Run.Run}

-- files that were read one after another are all files
pub loaded_files : (all files : List (List ℕ)) (r s : Run)
    → AreRead (λ upload. memory (get_or all upload [])) 0 (length all) files r s → files ≡ all
loaded_files all files r s read =
    ext_get_or [] files all (let n = read.number in omega (arith, n)) (λ i inside.
    let same : 0 + i ≡ i = omega arith in
    subst (λ n. get_or files i [] ≡ get_or all n []) same (read.each i inside))
