-- Why the names of classes are not had.
use Rattle.class_names.specs.Classes.{default_in, has_plain_classes}
use Rattle.class_names.specs.declared.names.ClassFault.{ClassFault}
use Rattle.class_names.specs.declared.names.ClassFault.TheVariants.{Name, NoMemory, Text}
use Rattle.class_names.specs.declared.names.WrongNames.{WrongNames}
use Rattle.std.specs.Prelude.{◌≡◌, ℕ, List, All, IsUtf8, None, Some, false, slice_get, take, true}
use Rattle.toml.specs.{Data.Members, Parse.parse_document}

-- The fault is one of the text: it names a class that no ledger can have, or it is not TOML or
-- names no default class. An allocation may fail at any time.
abbrev pub IsFaultOf : List ℕ → ClassFault → Type 0
IsFaultOf text Name =
    (tree : Members) × (parse_document text ≡ Some tree) × (has_plain_classes tree ≡ false)
IsFaultOf text Text =
    IsUtf8 text → (tree : Members) → parse_document text ≡ Some tree → default_in tree ≡ None
IsFaultOf text NoMemory = Unit {0}

-- each class that the text names can be in a ledger
abbrev pub HasPlainClasses : List ℕ → Type 0
HasPlainClasses text =
    (tree : Members) → parse_document text ≡ Some tree → has_plain_classes tree ≡ true

-- The fault is one of the text at its place, and no class of the texts before it has one.
pub record IsWrongAt (texts : List (List ℕ)) (wrong : WrongNames) : Type 0 where
  pub text : List ℕ
  pub holds : slice_get texts wrong.position ≡ Some text
  pub fault : IsFaultOf text wrong.fault
  pub before : All HasPlainClasses (take wrong.position texts)
