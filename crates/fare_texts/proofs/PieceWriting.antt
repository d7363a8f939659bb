-- One line after another: what the explainer has come to, and what was written.
use Rattle.std.proofs.Common.{◌≡◌, ℕ, true, false, List, [], ◌∷◌, ◌++◌, Option, take, drop, refl}
use Rattle.std.proofs.Common.{sym, ap, subst, ◌∙◌, append_assoc, append-nil}
use Rattle.fare_texts.proofs.{Beginnings.goes_then_on, Increasing.none_below, Increasing.own_push}
use Rattle.fare_texts.proofs.{Increasing.up_push, Increasing.up_weaker, TextsExist.along_exist}
use Rattle.fare_texts.specs.{Explainers.HasExplained, Lines.AreLinesAlong, Lines.AreUpTo}
use Rattle.fare_texts.specs.{Lines.HasConsumed, Lines.IsLineAfter, WrittenOut.Begins}
use Rattle.fare_texts.specs.{WrittenOut.GoesOut, declared.explainer.Explainer.Explainer}
use Rattle.histories.specs.{Entry.own, declared.entry.Entry.Entry}
use Rattle.std.proofs.lemmas.List.{take-append-drop}
use Rattle.tap_views.proofs.{TokenLemmas.token_eq-refl, TokensUp.up_itself}
use Rattle.tap_views.specs.{Token.token_eq, TokenOrder.IsUpTo, declared.token.Token.Token}
use Rattle.tariffs.specs.Fares.{Fares}

-- ---- the explainer
pub consumed_first : (fares : Fares) (explainer : Explainer) → HasExplained fares explainer []
    → HasConsumed fares explainer []
unfolding own
consumed_first fares explainer explained = record { explained = explained; up = tt }

pub consumed_on : (fares : Fares) (old new : Explainer) (earlier : List Entry)
    → HasConsumed fares old earlier
    → IsUpTo old.token new.token → token_eq old.token new.token ≡ false → HasExplained fares new []
    → HasConsumed fares new earlier
consumed_on fares old new earlier consumed to apart fresh =
    let none : [] ≡ own new.token earlier =
    sym (none_below earlier old.token new.token consumed.up to apart) in
    record {
      explained = subst (λ (es : List Entry). HasExplained fares new es) none fresh;
      up = up_weaker earlier old.token new.token consumed.up to;
    }

-- the explainer has come one entry further in its token's entries
pub consumed_next : (fares : Fares) (old new : Explainer) (earlier : List Entry) (entry : Entry)
    → old.token ≡ entry.token
    → new.token ≡ old.token → HasConsumed fares old earlier
    → HasExplained fares new (own old.token earlier ++ entry ∷ [])
    → HasConsumed fares new (earlier ++ entry ∷ [])
consumed_next fares old new earlier entry same token consumed explained =
    let here : token_eq entry.token old.token ≡ true =
    ap (λ (t : Token). token_eq t old.token) (sym same) ∙ token_eq-refl old.token in
    let all = earlier ++ entry ∷ [] in
    record {
      explained = subst (λ (t : Token). HasExplained fares new (own t all)) (sym token)
          (subst (λ (es : List Entry). HasExplained fares new es)
          (sym (own_push old.token earlier entry here)) explained);
      up = subst (λ (t : Token). AreUpTo all t) (sym token)
          (up_push earlier entry old.token consumed.up
          (subst (λ (t : Token). IsUpTo t old.token) same (up_itself old.token)));
    }

-- ---- the lines
-- the lines of entries, and of others behind them
pub along_append : (fares : Fares) (earlier xs ys : List Entry) (text more : List ℕ)
    → AreLinesAlong fares earlier xs text → AreLinesAlong fares (earlier ++ xs) ys more
    → AreLinesAlong fares earlier (xs ++ ys) (text ++ more)
along_append fares earlier [] ys text more empty along =
    subst (λ (t : List ℕ). AreLinesAlong fares earlier ys (t ++ more)) (sym empty)
    (subst (λ (es : List Entry). AreLinesAlong fares es ys more) (append-nil earlier) along)
along_append fares earlier (x ∷ xs) ys text more (line, rest, is, front, shown) along = (
  line,
  rest ++ more,
  is,
  along_append fares (earlier ++ x ∷ []) xs ys rest more front
      (subst (λ (es : List Entry). AreLinesAlong fares es ys more)
      (sym (append_assoc earlier (x ∷ []) xs)) along),
  ap (λ (t : List ℕ). t ++ more) shown ∙ append_assoc line rest more,
)

pub along_push : (fares : Fares) (earlier entries : List Entry) (entry : Entry) (text line : List ℕ)
    → AreLinesAlong fares earlier entries text
    → IsLineAfter fares (earlier ++ entries) entry line
    → AreLinesAlong fares earlier (entries ++ entry ∷ []) (text ++ line)
along_push fares earlier [] entry text line empty is = (
  line,
  [],
  subst (λ (es : List Entry). IsLineAfter fares es entry line) (append-nil earlier) is,
  refl,
  ap (λ t. t ++ line) empty ∙ sym (append-nil line),
)
along_push fares earlier (first ∷ entries) entry text line (start, rest, explained, along, whole)
    is = (
      start,
      rest ++ line,
      explained,
      along_push fares (earlier ++ first ∷ []) entries entry rest line along
          (subst (λ (es : List Entry). IsLineAfter fares es entry line)
          (sym (append_assoc earlier (first ∷ []) entries)) is),
      ap (λ t. t ++ line) whole ∙ append_assoc start rest line,
    )

-- lines of the first entries, and those of the others behind them
pub along_all : (fares : Fares) (entries : List Entry) (position : ℕ) (written : List ℕ)
    → AreLinesAlong fares [] (take position entries) written
    → (more : List ℕ) × AreLinesAlong fares [] entries (written ++ more)
along_all fares entries position written along =
    let others = along_exist fares (take position entries) (drop position entries) in (
      others.0,
      subst (λ (es : List Entry). AreLinesAlong fares [] es (written ++ others.0))
          (take-append-drop position entries)
          (along_append fares [] (take position entries) (drop position entries) written others.0
          along
          others.1),
    )

-- if a beginning of what waits goes out, what has gone out is a beginning of all lines
pub lines_started : (fares : Fares) (entries : List Entry) (position : ℕ) (written : List ℕ)
    (a b c : Option (List ℕ)) (old new : List ℕ)
    → AreLinesAlong fares [] (take position entries) written → GoesOut a old b new written
    → Begins b c new
    → (lines : List ℕ) × AreLinesAlong fares [] entries lines × Begins a c (old ++ lines)
lines_started fares entries position written a b c old new along gone started =
    let all = along_all fares entries position written along in
    (written ++ all.0, all.1, goes_then_on a b c old new written all.0 gone started)

-- ---- the bytes
