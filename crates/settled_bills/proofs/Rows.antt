-- The ledger of taps in canonical order: the tokens of their entries do not fall.
use Rattle.std.proofs.Common.{◌≡◌, ℕ, All, List, None, [], ◌∷◌, ◌++◌}
use Rattle.fare_texts.proofs.{Along.ledger_along, PieceWriting.consumed_first}
use Rattle.fare_texts.specs.{Explainers.HasExplained, Ledger.IsLedgerOver, LedgerLines.head_text}
use Rattle.fare_texts.specs.Lines.{Nondecreasing, NondecreasingFrom}
use Rattle.fare_texts.specs.declared.explainer.Explainer.{Explainer}
use Rattle.histories.specs.{Plain.answered, declared.entry.Entry.Entry}
use Rattle.settled_bills.specs.inside.ExplainedTaps.{HaveLines}
use Rattle.settlement.proofs.Nondecreasing.{canonical_nondecreasing}
use Rattle.settlement.specs.Nondecreasing.{TapsNondecreasingFrom}
use Rattle.settlement.specs.Posted.{HasName, posted, posted_after, token_of_tap, unposted}
use Rattle.std.specs.List.Sorted.{IsSorted}
use Rattle.tap_parts.specs.Canonical.{tap_cmp}
use Rattle.tap_views.specs.declared.{encoder.TapFields.TapFields, token.Token.Token}
use Rattle.tariffs.specs.Fares.{Fares}

-- the entries of taps whose tokens do not fall
posted_from : (fares : Fares) (earlier : List Entry) (token : Token) (taps : List TapFields)
    → TapsNondecreasingFrom token taps → NondecreasingFrom token (posted_after fares earlier taps)
unfolding posted_after answered
posted_from fares earlier token [] nondecreasing = tt
posted_from fares earlier token (tap ∷ taps) (up, nondecreasing) = (
  up,
  posted_from fares (earlier ++ answered fares earlier (unposted tap) ∷ []) (token_of_tap tap) taps
      nondecreasing,
)

nondecreasing_whole : (token : Token) (entries : List Entry) → NondecreasingFrom token entries
    → Nondecreasing entries
nondecreasing_whole token [] nondecreasing = tt
nondecreasing_whole token (entry ∷ entries) nondecreasing = nondecreasing.1

-- entries posted in canonical order have tokens that do not fall
pub posted_nondecreasing : (fares : Fares) (token : Token) (taps : List TapFields)
    → TapsNondecreasingFrom token taps → Nondecreasing (posted_after fares [] taps)
posted_nondecreasing fares token taps nondecreasing =
    nondecreasing_whole token (posted_after fares [] taps)
    (posted_from fares [] token taps nondecreasing)

-- the lines of taps in canonical order are behind the head line their ledger
pub ledger_of : (fares : Fares) (explainer : Explainer) (taps : List TapFields)
    (said both : List ℕ → Type 0) → explainer.token ≡ record { high = 0; low = 0 }
    → HasExplained fares explainer [] → All HasName taps → IsSorted tap_cmp taps
    → HaveLines fares explainer taps said → ((l : List ℕ) → said l → both (head_text ++ l))
    → (text : List ℕ) × IsLedgerOver fares (posted fares taps) None text × both text
ledger_of fares explainer taps said both least fresh named sorted lines_are shown =
    let lines = lines_are [] (consumed_first fares explainer fresh) in (
      head_text ++ lines.0,
      ledger_along fares (posted fares taps) lines.0
          (posted_nondecreasing fares explainer.token taps
          (canonical_nondecreasing explainer.token taps least named sorted)) lines.1,
      shown lines.0 lines.2,
    )
