-- The lines of a token with one line more.
use Rattle.std.proofs.Common.{◌≡◌, ℕ, ◌+◌, ◌<◌, List, [], ◌∷◌, ◌++◌, length, get_or, map, take}
use Rattle.std.proofs.Common.{refl, sym, ap, subst, ◌∙◌, append_assoc, append-nil, add-one}
use Rattle.account_rule.specs.declared.tap.TapIn.{TapIn}
use Rattle.fare_texts.specs.LedgerLines.{AreLedgerLinesAfter, AreLedgerLines, IsLedgerLineAfter}
use Rattle.histories.specs.declared.entry.Entry.{Entry}
use Rattle.std.proofs.{Math.Seq.take-suc, lemmas.List.map-append}
use Rattle.tap_views.specs.declared.token.Token.{Token}
use Rattle.tariffs.specs.Fares.{Fares}

lines-push : (fares : Fares) (token : Token) (earlier entries : List Entry) (entry : Entry)
    (text line : List ℕ)
    → AreLedgerLinesAfter fares token earlier entries text
    → IsLedgerLineAfter fares token (earlier ++ entries) entry line
    → AreLedgerLinesAfter fares token earlier (entries ++ entry ∷ []) (text ++ line)
lines-push fares token earlier [] entry text line empty is = (
  line,
  [],
  subst (λ (es : List Entry). IsLedgerLineAfter fares token es entry line) (append-nil earlier) is,
  refl,
  ap (λ t. t ++ line) empty ∙ sym (append-nil line),
)
lines-push fares token earlier (first ∷ entries) entry text line (start, rest, shown, are, whole)
    is = (
      start,
      rest ++ line,
      shown,
      lines-push fares token (earlier ++ first ∷ []) entries entry rest line are
          (subst (λ (es : List Entry). IsLedgerLineAfter fares token es entry line)
          (sym (append_assoc earlier (first ∷ []) entries)) is),
      ap (λ t. t ++ line) whole ∙ append_assoc start rest line,
    )

-- one more of the first entries
pub taken : (entries : List Entry) (position : ℕ) (other : Entry) → position < length entries
    → take (position + 1) entries ≡ take position entries ++ get_or entries position other ∷ []
taken entries position other within = rw (add-one) (take-suc entries position other within)

pub more : {A : Type 0} (f : A → TapIn) (xs : List A) (position : ℕ) (other : A)
    → position < length xs
    → map f (take (position + 1) xs) ≡ map f (take position xs) ++ f (get_or xs position other) ∷ []
more f xs position other within =
    rw (add-one, take-suc xs position other within)
    (map-append f (take position xs) (get_or xs position other ∷ []))

-- the lines of the first entries, and the next one's
pub next_lines : (fares : Fares) (token : Token) (entries : List Entry) (position : ℕ)
    (other : Entry)
    → position < length entries → (text line : List ℕ)
    → AreLedgerLines fares token (take position entries) text
    → IsLedgerLineAfter fares token (take position entries) (get_or entries position other) line
    → AreLedgerLines fares token (take (position + 1) entries) (text ++ line)
next_lines fares token entries position other within text line are is =
    subst (λ (es : List Entry). AreLedgerLines fares token es (text ++ line))
    (sym (taken entries position other within))
    (lines-push fares token [] (take position entries) (get_or entries position other) text line are
    is)
