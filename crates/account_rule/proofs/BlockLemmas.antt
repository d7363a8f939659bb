-- What one more element at the end of a list does to its blocks.
use Rattle.std.proofs.Common.{◌≡◌, suc, Bool, true, false, cond, List, [], ◌∷◌, ◌++◌, length, refl}
use Rattle.std.proofs.Common.{sym, ap, ◌∙◌, append_assoc, append-nil, ltb, take, arith}
use Rattle.std.proofs.lemmas.Bool.{lt-ltb}
use Rattle.std.specs.List.{flat_map}
use Rattle.account_rule.specs.Blocks.{blocks_by, blocks_from, last_block}

-- the blocks with one more element: it joins the last block or opens one
unfoldable pub extend : {A : Type 0} → (List A → A → Bool) → List (List A) → A → List (List A)
extend joins [] x = (x ∷ []) ∷ []
extend joins (block ∷ []) x = cond (joins block x) ((block ++ x ∷ []) ∷ []) (block ∷ (x ∷ []) ∷ [])
extend joins (block ∷ next ∷ blocks) x = block ∷ extend joins (next ∷ blocks) x

-- a block before others takes no further element
extend-cons : {A : Type 0} (joins : List A → A → Bool) (first block : List A) (xs : List A) (x : A)
    → extend joins (first ∷ blocks_from joins block xs) x ≡ first
    ∷ extend joins (blocks_from joins block xs) x
unfolding extend blocks_from
extend-cons joins first block [] x = refl
extend-cons joins first block (y ∷ ys) x =
    elim (joins block y) as (λ v.
    extend joins (first ∷ cond v (blocks_from joins (block ++ y ∷ []) ys) (block
    ∷ blocks_from joins (y ∷ []) ys)) x
    ≡ first ∷ extend joins
    (cond v (blocks_from joins (block ++ y ∷ []) ys) (block ∷ blocks_from joins (y ∷ []) ys)) x)
    [ true ↦ extend-cons joins first (block ++ y ∷ []) ys x | false ↦ refl ]

blocks_from-push : {A : Type 0} (joins : List A → A → Bool) (block xs : List A) (x : A)
    → blocks_from joins block (xs ++ x ∷ []) ≡ extend joins (blocks_from joins block xs) x
unfolding extend blocks_from
blocks_from-push joins block [] x = refl
blocks_from-push joins block (y ∷ ys) x =
    elim (joins block y) as (λ v.
    cond v (blocks_from joins (block ++ y ∷ []) (ys ++ x ∷ [])) (block
    ∷ blocks_from joins (y ∷ []) (ys ++ x ∷ []))
    ≡ extend joins (cond v (blocks_from joins (block ++ y ∷ []) ys) (block
    ∷ blocks_from joins (y ∷ []) ys)) x) [
      | true ↦ blocks_from-push joins (block ++ y ∷ []) ys x
      | false ↦ ap (λ blocks. block ∷ blocks) (blocks_from-push joins (y ∷ []) ys x)
          ∙ sym (extend-cons joins block (y ∷ []) ys x)
    ]

pub blocks_by-push : {A : Type 0} (joins : List A → A → Bool) (xs : List A) (x : A)
    → blocks_by joins (xs ++ x ∷ []) ≡ extend joins (blocks_by joins xs) x
unfolding blocks_by extend blocks_from
blocks_by-push joins [] x = refl
blocks_by-push joins (y ∷ ys) x = blocks_from-push joins (y ∷ []) ys x

pub last_block-cons : {A : Type 0} (block : List A) (joins : List A → A
    → Bool) (next : List A) (blocks : List (List A)) (x : A)
    → last_block (block ∷ extend joins (next ∷ blocks) x)
    ≡ last_block (extend joins (next ∷ blocks) x)
unfolding last_block extend
last_block-cons block joins next [] x =
    elim (joins next x) as (λ v.
    last_block (block ∷ cond v ((next ++ x ∷ []) ∷ []) (next ∷ (x ∷ []) ∷ []))
    ≡ last_block (cond v ((next ++ x ∷ []) ∷ []) (next ∷ (x ∷ []) ∷ [])))
    [ true ↦ refl | false ↦ refl ]
last_block-cons block joins next (third ∷ blocks) x = refl

-- the last block, once the list has one more element
pub last_block-extend : {A : Type 0} (joins : List A → A → Bool) (blocks : List (List A)) (x : A)
    → last_block (extend joins blocks x)
    ≡ cond (joins (last_block blocks) x) (last_block blocks ++ x ∷ []) (x ∷ [])
unfolding last_block extend
last_block-extend joins [] x =
    elim (joins [] x) as (λ v. x ∷ [] ≡ cond v ([] ++ x ∷ []) (x ∷ []))
    [ true ↦ refl | false ↦ refl ]
last_block-extend joins (block ∷ []) x =
    elim (joins block x) as (λ v.
    last_block (cond v ((block ++ x ∷ []) ∷ []) (block ∷ (x ∷ []) ∷ []))
    ≡ cond v (block ++ x ∷ []) (x ∷ []))
    [ true ↦ refl | false ↦ refl ]
last_block-extend joins (block ∷ next ∷ blocks) x =
    last_block-cons block joins next blocks x ∙ last_block-extend joins (next ∷ blocks) x

pub length-push : {A : Type 0} (xs : List A) (x : A) → length (xs ++ x ∷ []) ≡ suc (length xs)
length-push [] x = refl
length-push (y ∷ ys) x = ap suc (length-push ys x)

first-push : {A : Type 0} (block : List A) (x : A)
    → take 1 (block ++ x ∷ []) ++ []
    ≡ (take 1 block ++ []) ++ cond (ltb 1 (length (block ++ x ∷ []))) [] (x ∷ [])
first-push [] x = refl
first-push (y ∷ ys) x =
    let long : ltb 1 (suc (length (ys ++ x ∷ []))) ≡ true =
    lt-ltb 1 (suc (length (ys ++ x ∷ []))) (omega (arith, length-push ys x)) in
    sym (ap (λ b. (y ∷ []) ++ cond b [] (x ∷ [])) long)

-- the first elements of the blocks: the new one is among them if its block is then of no other
pub firsts-extend : {A : Type 0} (joins : List A → A → Bool) (blocks : List (List A)) (x : A)
    → flat_map (λ block. take 1 block) (extend joins blocks x)
    ≡ flat_map (λ block. take 1 block) blocks
    ++ cond (ltb 1 (length (last_block (extend joins blocks x)))) [] (x ∷ [])
unfolding last_block extend
firsts-extend joins [] x = refl
firsts-extend joins (block ∷ []) x =
    elim (joins block x) as (λ v.
    flat_map (λ b. take 1 b) (cond v ((block ++ x ∷ []) ∷ []) (block ∷ (x ∷ []) ∷ []))
    ≡ (take 1 block ++ [])
    ++ cond (ltb 1 (length
    (last_block (cond v ((block ++ x ∷ []) ∷ []) (block ∷ (x ∷ []) ∷ []))))) [] (x ∷ [])) [
      | true ↦ first-push block x
      | false ↦ rw (append-nil (take 1 block)) refl
    ]
firsts-extend joins (block ∷ next ∷ blocks) x =
    rw (last_block-cons block joins next blocks x)
    (ap (λ ys. take 1 block ++ ys) (firsts-extend joins (next ∷ blocks) x)
    ∙ sym (append_assoc (take 1 block) _ _))
