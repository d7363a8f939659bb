use Rattle.std.proofs.Common.{◌≡◌, length}
use Rattle.std.specs.List.{list_all}
use Rattle.class_names.specs.Classes.{is_bare}
use Rattle.class_names.proofs.names.are_bare.Given as goal

-- all are so if those are that are left
abbrev pub invariant-loop-first : goal.invariant-loop-first
invariant-loop-first l = list_all is_bare l.bytes ≡ list_all is_bare l.rest

abbrev pub decreases-loop-first : goal.decreases-loop-first
decreases-loop-first l = length l.rest
