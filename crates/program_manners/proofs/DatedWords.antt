-- Words of `--table` of which none is wrong.
use Rattle.std.proofs.Common.{refl, arith, get_or, [], ◌∷◌, Bor, map, suc, zero}
use Rattle.program_manners.specs.TableWords.{TableNames, date_fault, found_or, wrong_later}
use Rattle.program_manners.specs.{TableWords.wrong_word, declared.table_words.DateFault.DateFault}
use Rattle.std.specs.Prelude.{ℕ, ◌≡◌, ◌<◌, true, false, List, Option, None, Some, length}

-- what is found behind a word that is right
after_right : (word : List ℕ) (fault : Option DateFault) (trailing : Option (List ℕ × DateFault))
    → found_or word fault trailing ≡ None → (fault ≡ None) × (trailing ≡ None)
after_right word None trailing is = (refl, is)
after_right word (Some fault) trailing is = cc

-- if no word is wrong, none of them is
pub later_right : (words : List (Bor (List ℕ))) (position : ℕ) (other : Bor (List ℕ))
    → wrong_later (map (λ w. w.now) words) ≡ None → position < length words
    → date_fault false (get_or words position other).now ≡ None
later_right [] position other right within = absurd (omega (arith, within))
later_right (word ∷ words) zero other right within =
    (after_right word.now (date_fault false word.now) _ right).0
later_right (word ∷ words) (suc position) other right within =
    later_right words position other (after_right word.now (date_fault false word.now) _ right).1
    (omega (arith, within))

-- if all words are right, those behind the first one are
pub tables_right : (tables : TableNames) → wrong_word tables ≡ None
    → wrong_later tables.later ≡ None
tables_right tables right =
    (after_right tables.first (date_fault true tables.first) _ right).1
