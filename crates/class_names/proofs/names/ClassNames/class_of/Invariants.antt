use Rattle.std.proofs.Common.{◌≡◌, drop}
use Rattle.class_names.specs.Names.{names_at}
use Rattle.class_names.proofs.names.ClassNames.class_of.Given as goal

-- what is left decides
abbrev pub invariant-loop-dated : goal.invariant-loop-dated
invariant-loop-dated l = names_at l.valid (drop l.dated-index l.self.later.items) l.moment
    ≡ names_at l.self.first l.self.later.items l.moment
