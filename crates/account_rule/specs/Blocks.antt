-- A list divided into blocks of consecutive elements, by a test that says whether an element joins
-- the block before it. An element that does not join opens the next block.
use Rattle.std.specs.Prelude.{◌≡◌, Bool, false, if◌then◌else◌, IsTrue, List, [], ◌∷◌, ◌++◌, ⊤}
use Rattle.std.specs.List.{flat_map}

-- the blocks of a list whose first block has begun
unfoldable pub blocks_from : {A : Type 0} → (List A → A → Bool) → List A → List A → List (List A)
blocks_from joins block [] = block ∷ []
blocks_from joins block (x ∷ xs) =
    if joins block x then blocks_from joins (block ++ x ∷ []) xs
    else block ∷ blocks_from joins (x ∷ []) xs

-- the blocks of a list
unfoldable pub blocks_by : {A : Type 0} → (List A → A → Bool) → List A → List (List A)
blocks_by joins [] = []
blocks_by joins (x ∷ xs) = blocks_from joins (x ∷ []) xs

-- the last block, or none of a list with no block
unfoldable pub last_block : {A : Type 0} → List (List A) → List A
last_block [] = []
last_block (block ∷ []) = block
last_block (_ ∷ next ∷ blocks) = last_block (next ∷ blocks)

-- each element joins the block and the elements before it
unfoldable pub EachJoins : {A : Type 0} → (List A → A → Bool) → List A → List A → Type 0
EachJoins joins block [] = ⊤
EachJoins joins block (x ∷ xs) = IsTrue (joins block x) × EachJoins joins (block ++ x ∷ []) xs

-- the block has an element, and each further one joins those before it
unfoldable pub IsBlock : {A : Type 0} → (List A → A → Bool) → List A → Type 0
IsBlock joins [] = ⊥
IsBlock joins (x ∷ xs) = EachJoins joins (x ∷ []) xs

-- the list's first element does not join the block
unfoldable pub IsApart : {A : Type 0} → (List A → A → Bool) → List A → List A → Type 0
IsApart joins block [] = ⊤
IsApart joins block (x ∷ _) = joins block x ≡ false

-- each is a block, and the first element of the next does not join it
unfoldable pub AreBlocks : {A : Type 0} → (List A → A → Bool) → List (List A) → Type 0
AreBlocks joins [] = ⊤
AreBlocks joins (block ∷ []) = IsBlock joins block
AreBlocks joins (block ∷ next ∷ blocks) =
    IsBlock joins block × IsApart joins block next × AreBlocks joins (next ∷ blocks)

-- the blocks are the list, divided before each element that does not join
pub record AreBlocksOf {A : Type 0} (joins : List A → A → Bool) (xs : List A)
    (blocks : List (List A)) : Type 0 where
  pub whole : flat_map (λ block. block) blocks ≡ xs
  pub apart : AreBlocks joins blocks
