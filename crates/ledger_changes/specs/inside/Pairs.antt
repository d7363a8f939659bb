-- Which rows of two bills come next, and the pairs that they make.
use Rattle.std.specs.Prelude.{Bool, true, false, List, [], ◌∷◌, Option, None, Some}
use Rattle.std.specs.declared.cmp.Ordering.{Ordering}
use Rattle.std.specs.declared.cmp.Ordering.TheVariants.{Less, Equal, Greater}
use Rattle.ledger_fields.specs.Rows.{Row}
use Rattle.ledger_changes.specs.Changes.{Pair, both_rows, only_new, only_old}
use Rattle.ledger_changes.specs.Rows.{key_cmp}

-- which of two bills have the next pair's line, at these rows: both do if the keys are the same
abbrev pub sides_by : Ordering → Bool × Bool
sides_by Less = (true, false)
sides_by Equal = (true, true)
sides_by Greater = (false, true)

abbrev pub next_sides : Option Row → Option Row → Bool × Bool
next_sides None None = (false, false)
next_sides (Some old) None = (true, false)
next_sides None (Some new) = (false, true)
next_sides (Some old) (Some new) = sides_by (key_cmp old.key new.key)

abbrev pub pairs_of : Option Row → Option Row → List Pair
pairs_of None None = []
pairs_of (Some old) None = only_old old ∷ []
pairs_of None (Some new) = only_new new ∷ []
pairs_of (Some old) (Some new) = both_rows old new ∷ []
