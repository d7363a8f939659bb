use Rattle.std.proofs.Common.{◌≡◌, ℕ, List}
use Rattle.toml.specs.View.{members_view}
use Rattle.class_names.specs.Classes.{are_plain, class_among, first_class}
use Rattle.class_names.specs.Names.{rider_by}
use Rattle.class_names.proofs.names.classes_of.Given as goal

-- the classes of the whole are those that are kept and those of what is left
abbrev pub invariant-loop-key : goal.invariant-loop-key
invariant-loop-key l = record {
  kept : (token : List ℕ)
      → first_class (rider_by l.riders token) (class_among (members_view l.key-iterator) token)
      ≡ class_among (members_view l.keys.entries) token;
  plain : are_plain (members_view l.keys.entries) ≡ are_plain (members_view l.key-iterator);
}
