-- The lines of a statement, written one after another.
use Rattle.std.proofs.Common.{refl, sym, ◌∙◌, ap, subst, append_assoc, append-nil}
use Rattle.fare_texts.specs.StatementText.{AreEntryLines, IsEntryLine}
use Rattle.histories.specs.declared.entry.Entry.{Entry}
use Rattle.std.proofs.lemmas.{List.take_more, Option.slice_get_within, Option.get_or_from_slice_get}
use Rattle.std.specs.Prelude.{ℕ, ◌≡◌, ◌+◌, List, [], ◌∷◌, ◌++◌, take, Some, slice_get}
use Rattle.tariffs.specs.Fares.{Fares}

-- one entry more
entries_more : (fares : Fares) (entries : List Entry) (entry : Entry) (text line : List ℕ)
    → AreEntryLines fares entries text → IsEntryLine fares entry line
    → AreEntryLines fares (entries ++ entry ∷ []) (text ++ line)
entries_more fares [] entry text line empty is =
    (line, [], is, refl, ap (λ t. t ++ line) empty ∙ sym (append-nil line))
entries_more fares (first ∷ entries) entry text line (start, rest, shown, are, whole) is = (
  start,
  rest ++ line,
  shown,
  entries_more fares entries entry rest line are is,
  ap (λ t. t ++ line) whole ∙ append_assoc start rest line,
)

-- the lines before one, and that one
pub next_line : (fares : Fares) (entries : List Entry) (i : ℕ) (entry : Entry) (text line : List ℕ)
    → slice_get entries i ≡ Some entry
    → AreEntryLines fares (take i entries) text → IsEntryLine fares entry line
    → AreEntryLines fares (take (i + 1) entries) (text ++ line)
next_line fares entries i entry text line at are is =
    let P : List Entry → Type 0 = λ es. AreEntryLines fares es (text ++ line) in
    subst P
    (ap (λ e. take i entries ++ e ∷ []) (sym (get_or_from_slice_get entries i entry entry at))
    ∙ sym (take_more entries i entry (slice_get_within entries i entry at)))
    (entries_more fares (take i entries) entry text line are is)
