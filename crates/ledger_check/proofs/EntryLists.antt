-- The lines of entries: one more, and the last one.
use Rattle.std.proofs.Common.{◌≡◌, ℕ, List, [], ◌∷◌, ◌++◌, refl, sym, ap, subst, append_assoc}
use Rattle.std.proofs.Common.{append-nil}
use Rattle.tariffs.specs.Fares.{Fares}
use Rattle.histories.specs.declared.entry.Entry.{Entry}
use Rattle.ledger_check.specs.Ledger.{AreNext, IsNext}

pub next-push : (fares : Fares) (earlier entries : List Entry) (lines : List (List ℕ))
    (entry : Entry) (line : List ℕ)
    → AreNext fares earlier entries lines → IsNext fares (earlier ++ entries) entry line
    → AreNext fares earlier (entries ++ entry ∷ []) (lines ++ line ∷ [])
next-push fares earlier [] [] entry line are is =
    (subst (λ (es : List Entry). IsNext fares es entry line) (append-nil earlier) is, tt)
next-push fares earlier [] (l ∷ lines) entry line are is = absurd are
next-push fares earlier (e ∷ entries) [] entry line are is = absurd are
next-push fares earlier (e ∷ entries) (l ∷ lines) entry line are is = (
  are.0,
  next-push fares (earlier ++ e ∷ []) entries lines entry line are.1
      (subst (λ (es : List Entry). IsNext fares es entry line)
      (sym (append_assoc earlier (e ∷ []) entries)) is),
)

-- entries, the first of whose lines are these, and the entry of the next line
pub record Parts (fares : Fares) (earlier others : List Entry) (lines : List (List ℕ))
    (line : List ℕ) (more : List (List ℕ)) : Type 0 where
  pub entries : List Entry
  pub entry : Entry
  pub after : List Entry
  pub are : AreNext fares earlier entries lines
  pub is : IsNext fares (earlier ++ entries) entry line
  pub whole : others ≡ entries ++ entry ∷ after
  pub rest : AreNext fares ((earlier ++ entries) ++ entry ∷ []) after more

-- the entries before a line, its own, and those behind it
pub next-parts : (fares : Fares) (earlier others : List Entry) (lines : List (List ℕ))
    (line : List ℕ) (more : List (List ℕ))
    → AreNext fares earlier others (lines ++ line ∷ more)
    → Parts fares earlier others lines line more
next-parts fares earlier [] [] line more are = absurd are
next-parts fares earlier [] (l ∷ lines) line more are = absurd are
next-parts fares earlier (e ∷ others) [] line more are = record {
  entries = [];
  entry = e;
  after = others;
  are = tt;
  is = subst (λ (es : List Entry). IsNext fares es e line) (sym (append-nil earlier)) are.0;
  whole = refl;
  rest = subst (λ (es : List Entry). AreNext fares (es ++ e ∷ []) others more)
      (sym (append-nil earlier)) are.1;
}
next-parts fares earlier (e ∷ others) (l ∷ lines) line more are =
    let parts = next-parts fares (earlier ++ e ∷ []) others lines line more are.1 in
    let same : (earlier ++ e ∷ []) ++ parts.entries ≡ earlier ++ e ∷ parts.entries =
    append_assoc earlier (e ∷ []) parts.entries in
    record {
      entries = e ∷ parts.entries;
      entry = parts.entry;
      after = parts.after;
      are = (are.0, parts.are);
      is = subst (λ (es : List Entry). IsNext fares es parts.entry line) same parts.is;
      whole = ap (λ (es : List Entry). e ∷ es) parts.whole;
      rest = subst (λ (es : List Entry). AreNext fares (es ++ parts.entry ∷ []) parts.after more)
          same parts.rest;
    }

-- the entries of the lines up to one
pub next-front : (fares : Fares) (others : List Entry) (lines : List (List ℕ)) (line : List ℕ)
    (more : List (List ℕ))
    → AreNext fares [] others (lines ++ line ∷ more)
    → (entries : List Entry) × AreNext fares [] entries (lines ++ line ∷ [])
next-front fares others lines line more are =
    let parts = next-parts fares [] others lines line more are in (
      parts.entries ++ parts.entry ∷ [],
      next-push fares [] parts.entries lines parts.entry line parts.are parts.is,
    )

-- no lines are of no entries
pub none_left : (fares : Fares) (earlier entries : List Entry) → AreNext fares earlier entries []
    → entries ≡ []
none_left fares earlier [] are = refl
none_left fares earlier (e ∷ entries) are = absurd are
