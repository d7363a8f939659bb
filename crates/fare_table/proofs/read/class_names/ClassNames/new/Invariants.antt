use Rattle.std.proofs.Common.{◌≡◌, ◌++◌, map}
use Rattle.toml.specs.View.{members_view}
use Rattle.fare_table.specs.Members.{names_in}
use Rattle.fare_table.proofs.read.class_names.ClassNames.new.Given as goal

-- the names of the whole are those found and those of what is left
abbrev pub invariant-loop-name : goal.invariant-loop-name
invariant-loop-name l = names_in (members_view l.classes.entries)
    ≡ map (λ name. name.now) l.names.items ++ names_in (members_view l.name-iterator)
