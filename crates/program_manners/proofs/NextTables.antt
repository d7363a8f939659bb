-- Fare tables that were loaded one after another: a text for each word, and a table for each text.
use Rattle.std.proofs.Common.{◌≡◌, ◌+◌, ◌<◌, ℕ, List, [], ◌∷◌, ◌++◌, Bor, ap, arith, drop}
use Rattle.std.proofs.Common.{get_or, length, length-append, map, refl, suc, take, zero}
use Rattle.program_manners.specs.TableLoads.{LoadsTables, loads_first, loads_next}
use Rattle.program_manners.specs.TableWords.{TableNames}
use Rattle.tariffs.specs.Fares.{Fares}
use Rattle.world.specs.Run.{Load}

-- there is a text for each table, and a table for each word
pub tables_counted : (tables : TableNames) (loads : List Load) (texts : List (List ℕ))
    (fares : Fares) → LoadsTables tables loads texts fares
    → (length texts ≡ length fares.later + 1) × (length texts ≡ length tables.later + 1)
tables_counted tables loads texts fares (loads_first first text _ _ means) =
    let none = ap length means.2 in (omega (arith, none), omega (arith))
tables_counted tables loads texts fares
    (loads_next before former earlier known _ word text are follows) =
    let (one, two) = tables_counted before former earlier known are in
    let added = ap (λ (f : Fares). length f.later) follows.2.all_are in
    let counts = length-append earlier (text ∷ []) in
    let words = length-append before.later (word ∷ []) in
    let from = length-append known.later ((follows.2.from, follows.2.next.meaning) ∷ []) in
    (omega (arith, one, added, counts, from), omega (arith, two, counts, words))

-- the words before one, that one, and those behind it
pub words_at : (words : List (Bor (List ℕ))) (position : ℕ) (other : Bor (List ℕ))
    → position < length words
    → map (λ w. w.now) words ≡ map (λ w. w.now) (take position words)
    ++ (get_or words position other).now ∷ map (λ w. w.now) (drop (position + 1) words)
words_at [] position other within = absurd (omega (arith, within))
words_at (word ∷ words) zero other within = refl
words_at (word ∷ words) (suc position) other within =
    let one : suc position + 1 ≡ suc (position + 1) = omega (arith) in
    rw one (ap (λ (ws : List (List ℕ)). word.now ∷ ws)
    (words_at words position other (omega (arith, within))))
