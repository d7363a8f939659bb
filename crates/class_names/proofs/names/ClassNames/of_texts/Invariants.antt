use Rattle.std.proofs.Common.{◌≡◌, ◌+◌, ◌<◌, ℕ, List, Some, drop, get_or, map, take}
use Rattle.class_names.specs.{ClassFaults.HasPlainClasses, Classes.AreLaterTrees, Names.HasClasses}
use Rattle.std.specs.Prelude.{slice_get}
use Rattle.toml.specs.{Data.Members, Parse.parse_document}
use Rattle.class_names.proofs.names.ClassNames.of_texts.Given as goal

-- the names so far are those of the texts so far, and each of these is plain
abbrev pub invariant-loop-position : goal.invariant-loop-position
invariant-loop-position l = record {
  text : List ℕ;
  at : slice_get (map (λ t. t.items) l.texts) 0 ≡ Some text;
  tree : Members;
  parsed : parse_document text ≡ Some tree;
  trees : List (ℕ × Members);
  are : AreLaterTrees (take l.position l.fares.later)
      (take l.position (drop 1 (map (λ t. t.items) l.texts))) trees;
  has : HasClasses l.names tree trees;
  plain : (k : ℕ) (d : List ℕ) → k < l.position + 1
      → HasPlainClasses (get_or (map (λ t. t.items) l.texts) k d);
}
