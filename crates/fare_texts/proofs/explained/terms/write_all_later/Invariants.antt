use Rattle.std.proofs.Common.{◌≡◌, ◌++◌, List, ℕ, string_bytes, take}
use Rattle.fare_texts.specs.Explained.{AreLaterTerms}
use Rattle.fare_texts.proofs.explained.terms.write_all_later.Given as goal

abbrev pub invariant-loop-position : goal.invariant-loop-position
invariant-loop-position l =
    (written : List ℕ) × AreLaterTerms l.token (take l.position l.table.later) written
    × (string_bytes l.text ≡ string_bytes l.fn.text ++ written)
