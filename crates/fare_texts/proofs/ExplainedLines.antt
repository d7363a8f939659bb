-- The explained lines of a token, and the lines of its windows, with one line more.
use Rattle.std.proofs.Common.{◌≡◌, ℕ, ◌+◌, ◌<◌, List, [], ◌∷◌, ◌++◌, length, get_or, take, Option}
use Rattle.std.proofs.Common.{refl, sym, ap, subst, ◌∙◌, append_assoc, append-nil, add-one}
use Rattle.account_rule.specs.declared.no_transfer.NoTransfer.{NoTransfer}
use Rattle.account_rule.specs.declared.window.WindowView.{WindowView}
use Rattle.fare_caps.specs.declared.capped_reason.CappedReason.{CappedReason}
use Rattle.fare_texts.proofs.LineLists.{taken}
use Rattle.fare_texts.specs.Explained.{AreEarlierLines, AreExplainedAfter, IsExplainedLine}
use Rattle.fare_texts.specs.{Explained.IsExplainedWindow, LedgerLines.reason_after}
use Rattle.fare_texts.specs.NoTransferWords.{no_transfer_after}
use Rattle.histories.specs.declared.entry.Entry.{Entry}
use Rattle.std.proofs.Math.Seq.{take-suc}
use Rattle.std.specs.Prelude.{codes}
use Rattle.tap_views.specs.declared.token.Token.{Token}
use Rattle.tariffs.specs.{ClockView.ClockView, Fares.Fares}

lines-push : (fares : Fares) (token : Token) (earlier entries : List Entry) (entry : Entry)
    (text line : List ℕ)
    → AreExplainedAfter fares token earlier entries text
    → IsExplainedLine fares entry (reason_after fares token (earlier ++ entries) entry)
    (no_transfer_after fares token (earlier ++ entries) entry) line
    → AreExplainedAfter fares token earlier (entries ++ entry ∷ []) (text ++ line)
lines-push fares token earlier [] entry text line empty is = (
  line,
  [],
  subst (λ (es : List Entry). IsExplainedLine fares entry (reason_after fares token es entry)
      (no_transfer_after fares token es entry) line) (append-nil earlier) is,
  refl,
  ap (λ t. t ++ line) empty ∙ sym (append-nil line),
)
lines-push fares token earlier (first ∷ entries) entry text line (start, rest, shown, are, whole)
    is = (
      start,
      rest ++ line,
      shown,
      lines-push fares token (earlier ++ first ∷ []) entries entry rest line are
          (subst (λ (es : List Entry).
          IsExplainedLine fares entry (reason_after fares token es entry)
          (no_transfer_after fares token es entry) line)
          (sym (append_assoc earlier (first ∷ []) entries)) is),
      ap (λ t. t ++ line) whole ∙ append_assoc start rest line,
    )

-- the lines of the first entries, and the next one's
pub next_explained : (fares : Fares) (token : Token) (entries : List Entry) (position : ℕ)
    (other : Entry)
    → position < length entries → (text line : List ℕ) (why : CappedReason)
    (none : Option NoTransfer)
    → why ≡ reason_after fares token (take position entries) (get_or entries position other)
    → none ≡ no_transfer_after fares token (take position entries) (get_or entries position other)
    → AreExplainedAfter fares token [] (take position entries) text
    → IsExplainedLine fares (get_or entries position other) why none line
    → AreExplainedAfter fares token [] (take (position + 1) entries) (text ++ line)
next_explained fares token entries position other within text line why none is_why is_none are is =
    let done = take position entries in
    let entry = get_or entries position other in
    subst (λ (es : List Entry). AreExplainedAfter fares token [] es (text ++ line))
    (sym (taken entries position other within))
    (lines-push fares token [] done entry text line are
    (subst (λ (n : Option NoTransfer).
    IsExplainedLine fares entry (reason_after fares token done entry) n line) is_none
    (subst (λ (w : CappedReason). IsExplainedLine fares entry w none line) is_why is)))

windows-push : (clocks : ClockView) (windows : List WindowView) (window : WindowView)
    (text line : List ℕ)
    → AreEarlierLines clocks windows text
    → IsExplainedWindow clocks (codes "earlier window ") window line
    → AreEarlierLines clocks (windows ++ window ∷ []) (text ++ line)
windows-push clocks [] window text line empty is =
    (line, [], is, refl, ap (λ t. t ++ line) empty ∙ sym (append-nil line))
windows-push clocks (first ∷ windows) window text line (start, rest, shown, are, whole) is = (
  start,
  rest ++ line,
  shown,
  windows-push clocks windows window rest line are is,
  ap (λ t. t ++ line) whole ∙ append_assoc start rest line,
)

-- the lines of the first windows, and the next one's
pub next_window : (clocks : ClockView) (windows : List WindowView) (position : ℕ)
    (other : WindowView)
    → position < length windows → (text line : List ℕ)
    → AreEarlierLines clocks (take position windows) text
    → IsExplainedWindow clocks (codes "earlier window ") (get_or windows position other) line
    → AreEarlierLines clocks (take (position + 1) windows) (text ++ line)
next_window clocks windows position other within text line are is =
    let more : take (position + 1) windows
    ≡ take position windows ++ get_or windows position other ∷ [] =
    rw (add-one) (take-suc windows position other within) in
    subst (λ (ws : List WindowView). AreEarlierLines clocks ws (text ++ line)) (sym more)
    (windows-push clocks (take position windows) (get_or windows position other) text line are is)
