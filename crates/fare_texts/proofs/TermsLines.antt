-- The lines of the terms of tables that follow, written one after another.
use Rattle.std.proofs.Common.{refl, sym, ◌∙◌, ap, subst, append_assoc, append-nil}
use Rattle.fare_texts.specs.Explained.{AreLaterTerms, IsLaterTerms}
use Rattle.std.proofs.lemmas.{List.take_more, Option.slice_get_within, Option.get_or_from_slice_get}
use Rattle.std.specs.Prelude.{ℕ, ◌≡◌, ◌+◌, List, [], ◌∷◌, ◌++◌, take, Some, slice_get}
use Rattle.tariffs.specs.{Fares.terms_at, TableMeaning.TableMeaning}

-- one table more
terms-push : (token : List ℕ) (later : List (ℕ × TableMeaning)) (next : ℕ × TableMeaning)
    (text line : List ℕ)
    → AreLaterTerms token later text → IsLaterTerms next.0 (terms_at next.1 token) line
    → AreLaterTerms token (later ++ next ∷ []) (text ++ line)
terms-push token [] next text line empty is =
    (line, [], is, refl, ap (λ t. t ++ line) empty ∙ sym (append-nil line))
terms-push token (first ∷ later) next text line (start, rest, shown, are, whole) is = (
  start,
  rest ++ line,
  shown,
  terms-push token later next rest line are is,
  ap (λ t. t ++ line) whole ∙ append_assoc start rest line,
)

-- the lines of the tables before one, and its own
pub next_terms : (token : List ℕ) (later : List (ℕ × TableMeaning)) (i : ℕ)
    (next : ℕ × TableMeaning) (text line : List ℕ)
    → slice_get later i ≡ Some next
    → AreLaterTerms token (take i later) text → IsLaterTerms next.0 (terms_at next.1 token) line
    → AreLaterTerms token (take (i + 1) later) (text ++ line)
next_terms token later i next text line at are is =
    let P : List (ℕ × TableMeaning) → Type 0 = λ ns. AreLaterTerms token ns (text ++ line) in
    subst P
    (ap (λ n. take i later ++ n ∷ []) (sym (get_or_from_slice_get later i next next at))
    ∙ sym (take_more later i next (slice_get_within later i next at)))
    (terms-push token (take i later) next text line are is)
