-- A list is divided into blocks in one way.
use Rattle.std.proofs.Common.{◌≡◌, ◌↔◌, Bool, true, false, cond, List, [], ◌∷◌, ◌++◌, refl, sym, ap}
use Rattle.std.proofs.Common.{◌∙◌, append_assoc, append-nil}
use Rattle.std.specs.List.{flat_map}
use Rattle.account_rule.specs.Blocks.{blocks_by, blocks_from, EachJoins, IsBlock, IsApart}
use Rattle.account_rule.specs.Blocks.{AreBlocks, AreBlocksOf}

abbrev joined : {A : Type 0} → List (List A) → List A
joined blocks = flat_map (λ block. block) blocks

joined-blocks_from : {A : Type 0} (joins : List A → A → Bool) (block xs : List A)
    → joined (blocks_from joins block xs) ≡ block ++ xs
unfolding blocks_from
joined-blocks_from joins block [] = refl
joined-blocks_from joins block (x ∷ xs) =
    elim (joins block x) as (λ v.
    joined (cond v (blocks_from joins (block ++ x ∷ []) xs) (block ∷ blocks_from joins (x ∷ []) xs))
    ≡ block ++ (x ∷ xs)) [
      | true ↦ joined-blocks_from joins (block ++ x ∷ []) xs ∙ append_assoc block (x ∷ []) xs
      | false ↦ ap (λ ys. block ++ ys) (joined-blocks_from joins (x ∷ []) xs)
    ]

AreJoined-push : {A : Type 0} (joins : List A → A → Bool) (block xs : List A) (x : A)
    → EachJoins joins block xs → joins (block ++ xs) x ≡ true → EachJoins joins block (xs ++ x ∷ [])
unfolding EachJoins
AreJoined-push joins block [] x all last = (rw append-nil at last, tt)
AreJoined-push joins block (y ∷ ys) x all last = (
  all.0,
  AreJoined-push joins (block ++ y ∷ []) ys x all.1
      (rw (append_assoc block (y ∷ []) ys) last),
)

IsBlock-push : {A : Type 0} (joins : List A → A → Bool) (block : List A) (x : A)
    → IsBlock joins block → joins block x ≡ true → IsBlock joins (block ++ x ∷ [])
unfolding IsBlock
IsBlock-push joins [] x none last = absurd none
IsBlock-push joins (y ∷ ys) x all last = AreJoined-push joins (y ∷ []) ys x all last

-- one block before others, whose first element does not join it
AreBlocks-cons : {A : Type 0} (joins : List A → A
    → Bool) (block : List A) (x : A) (more xs : List A)
    → IsBlock joins block → joins block x ≡ false
    → AreBlocks joins (blocks_from joins (x ∷ more) xs)
    → AreBlocks joins (block ∷ blocks_from joins (x ∷ more) xs)
unfolding blocks_from AreBlocks IsApart
AreBlocks-cons joins block x more [] first apart rest = (first, apart, rest)
AreBlocks-cons joins block x more (y ∷ ys) first apart rest =
    elim (joins (x ∷ more) y) as (λ v.
    AreBlocks joins (cond v (blocks_from joins (x ∷ (more ++ y ∷ [])) ys) ((x ∷ more)
    ∷ blocks_from joins (y ∷ []) ys))
    → AreBlocks joins (block
    ∷ cond v (blocks_from joins (x ∷ (more ++ y ∷ [])) ys) ((x ∷ more)
    ∷ blocks_from joins (y ∷ []) ys))) [
      | true ↦ λ all. AreBlocks-cons joins block x (more ++ y ∷ []) ys first apart all
      | false ↦ λ all. (first, apart, all)
    ] rest

AreBlocks-blocks_from : {A : Type 0} (joins : List A → A → Bool) (block xs : List A)
    → IsBlock joins block → AreBlocks joins (blocks_from joins block xs)
unfolding blocks_from AreBlocks IsBlock EachJoins
AreBlocks-blocks_from joins block [] first = first
AreBlocks-blocks_from joins block (x ∷ xs) first =
    elim (joins block x) as (λ v. joins block x ≡ v
    → AreBlocks joins (cond v (blocks_from joins (block ++ x ∷ []) xs) (block
    ∷ blocks_from joins (x ∷ []) xs))) [
      | true ↦ λ same. AreBlocks-blocks_from joins (block ++ x ∷ []) xs
          (IsBlock-push joins block x first same)
      | false ↦ λ same. AreBlocks-cons joins block x [] xs first same
          (AreBlocks-blocks_from joins (x ∷ []) xs tt)
    ] refl

AreBlocksOf-blocks_by : {A : Type 0} (joins : List A → A → Bool) (xs : List A)
    → AreBlocksOf joins xs (blocks_by joins xs)
unfolding blocks_by AreBlocks IsBlock EachJoins
AreBlocksOf-blocks_by joins [] = record { whole = refl; apart = tt }
AreBlocksOf-blocks_by joins (x ∷ xs) = record {
  whole = joined-blocks_from joins (x ∷ []) xs;
  apart = AreBlocks-blocks_from joins (x ∷ []) xs tt;
}

-- a block grows by the elements that join it
blocks_from-joined : {A : Type 0} (joins : List A → A
    → Bool) (block xs rest : List A) (blocks : List (List A))
    → EachJoins joins block xs → blocks_from joins (block ++ xs) rest ≡ (block ++ xs) ∷ blocks
    → blocks_from joins block (xs ++ rest) ≡ (block ++ xs) ∷ blocks
unfolding blocks_from EachJoins
blocks_from-joined joins block [] rest blocks all next = rw append-nil at next ∙ rw append-nil refl
blocks_from-joined joins block (x ∷ xs) rest blocks all next =
    rw all.0 (blocks_from-joined joins (block ++ x ∷ []) xs rest blocks all.1
    (rw (append_assoc block (x ∷ []) xs) next)
    ∙ rw (append_assoc block (x ∷ []) xs) refl)

first_block : {A : Type 0} (joins : List A → A → Bool) (block : List A) (blocks : List (List A))
    → AreBlocks joins (block ∷ blocks) → IsBlock joins block
unfolding AreBlocks
first_block joins block [] all = all
first_block joins block (next ∷ blocks) all = all.0

-- it ends where the next block begins
blocks_from-apart : {A : Type 0} (joins : List A → A → Bool) (block : List A)
    (blocks : List (List A))
    → AreBlocks joins (block ∷ blocks) → blocks_from joins block (joined blocks) ≡ block ∷ blocks
unfolding blocks_from AreBlocks IsBlock IsApart EachJoins
blocks_from-apart joins block [] all = refl
blocks_from-apart joins block ([] ∷ []) all = absurd all.2
blocks_from-apart joins block ([] ∷ next ∷ blocks) all = absurd all.2.0
blocks_from-apart joins block ((x ∷ xs) ∷ blocks) all =
    rw all.1 (ap (λ rest.
    block ∷ rest) (blocks_from-joined joins (x ∷ []) xs (joined blocks) blocks
    (first_block joins (x ∷ xs) blocks all.2)
    (blocks_from-apart joins (x ∷ xs) blocks all.2)))

blocks_by-joined : {A : Type 0} (joins : List A → A → Bool) (blocks : List (List A))
    → AreBlocks joins blocks → blocks ≡ blocks_by joins (joined blocks)
unfolding blocks_by IsBlock
blocks_by-joined joins [] all = refl
blocks_by-joined joins ([] ∷ blocks) all = absurd (first_block joins [] blocks all)
blocks_by-joined joins ((x ∷ xs) ∷ blocks) all =
    sym (blocks_from-joined joins (x ∷ []) xs (joined blocks) blocks
    (first_block joins (x ∷ xs) blocks all) (blocks_from-apart joins (x ∷ xs) blocks all))

-- the blocks of a list are those of `blocks_by`, and no others
pub cut_iff : {A : Type 0} (joins : List A → A → Bool) (xs : List A) (blocks : List (List A))
    → AreBlocksOf joins xs blocks ↔ (blocks ≡ blocks_by joins xs)
cut_iff joins xs blocks = (
  (λ are_blocks. blocks_by-joined joins blocks are_blocks.apart
      ∙ ap (λ ys. blocks_by joins ys) are_blocks.whole),
  (λ same. rw same (AreBlocksOf-blocks_by joins xs)),
)
