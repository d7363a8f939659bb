-- A token's explained statement: the lines of its statement with the reason behind each, the
-- token's terms by each table before the lines, and all its windows.
use Rattle.account_rule.specs.{Laws.is_ride, declared.no_transfer.NoTransfer.NoTransfer}
use Rattle.account_rule.specs.declared.{tap.TapIn.TapIn, window.WindowView.WindowView}
use Rattle.fare_caps.specs.CapMeanings.{capped_rules_of}
use Rattle.fare_caps.specs.CappedReplies.{capped_reply, capped_window}
use Rattle.fare_caps.specs.{Caps.CappedRules, declared.capped_reason.CappedReason.CappedReason}
use Rattle.fare_texts.specs.{Counts.totals_line, LedgerLines.reason_after, Local.local_words}
use Rattle.fare_texts.specs.{Moments.IsMomentText, NoTransferWords.IsNoTransferEnd}
use Rattle.fare_texts.specs.{NoTransferWords.no_transfer_after, ReasonWords.IsReasonWords}
use Rattle.fare_texts.specs.StatementText.{entry_words, statement_head, window_words}
use Rattle.histories.specs.{Entry.tap_of, Sums.sums, declared.entry.Entry.Entry}
use Rattle.std.specs.Fmt.{decimal}
use Rattle.std.specs.Prelude.{◌≡◌, ℕ, ◌&&◌, not, Bool, if◌then◌else◌, List, [], ◌∷◌, ◌++◌, Option}
use Rattle.std.specs.Prelude.{Some, None, codes, map, nat_lt}
use Rattle.tap_views.specs.{Token.bytes_of, declared.token.Token.Token}
use Rattle.tariffs.specs.{ClockView.ClockView, Fares.Fares, Fares.terms_at}
use Rattle.tariffs.specs.{TableMeaning.TableMeaning, declared.terms.Terms.Terms}

-- the window, if a ride at the moment opens another after it
abbrev pub window_ended : Option WindowView → Bool → ℕ → List WindowView
window_ended None ride moment = []
window_ended (Some window) ride moment =
    if ride && not (nat_lt moment window.until) then window ∷ [] else []

-- what the windows show, in their order, that end at these taps, which follow the earlier ones
unfoldable pub windows_ended : CappedRules → List TapIn → List TapIn → List WindowView
windows_ended rules earlier [] = []
windows_ended rules earlier (tap ∷ taps) =
    window_ended (capped_window rules earlier) (is_ride (capped_reply rules earlier tap)) tap.moment
    ++ windows_ended rules (earlier ++ tap ∷ []) taps

-- what the windows before the last one show, in their order
abbrev pub earlier_windows : CappedRules → List TapIn → List WindowView
earlier_windows rules taps = windows_ended rules [] taps

-- ` fare 300 rides 12 ceiling 3500`, with the end of the line
unfoldable pub terms_words : Terms → List ℕ
terms_words terms =
    codes " fare " ++ (decimal terms.fare ++ (codes " rides " ++ (decimal terms.rides
    ++ (codes " ceiling " ++ (decimal terms.ceiling ++ codes "\n")))))

-- `terms fare 300 rides 12 ceiling 3500`, with the end of the line
abbrev pub terms_line : Terms → List ℕ
terms_line terms = codes "terms" ++ terms_words terms

-- `terms from 2026-01-04T05:00:00.000Z fare 310 rides 12 ceiling 3500`, with the end of the line:
-- the terms that are valid from the moment on
pub record IsLaterTerms (from : ℕ) (terms : Terms) (line : List ℕ) : Type 0 where
  pub moment : List ℕ
  pub is : IsMomentText from moment
  pub shown : line ≡ codes "terms from " ++ (moment ++ terms_words terms)

-- a line for each table that follows, in their order, with what the rider's class of that table
-- pays
abbrev pub AreLaterTerms : List ℕ → List (ℕ × TableMeaning) → List ℕ → Type 0
AreLaterTerms token [] text = text ≡ []
AreLaterTerms token (next ∷ later) text =
    (line : List ℕ) × (rest : List ℕ) × IsLaterTerms next.0 (terms_at next.1 token) line
    × AreLaterTerms token later rest × (text ≡ line ++ rest)

-- the terms of the token: of the first table, and of each that follows
pub record AreTermsLines (fares : Fares) (token : List ℕ) (text : List ℕ) : Type 0 where
  pub later : List ℕ
  pub of_later : AreLaterTerms token fares.later later
  pub whole : text ≡ terms_line (terms_at fares.meaning token) ++ later

-- the entry's line of a statement, then its reason, why a ride is no transfer, and under a zone
-- what clocks showed, as `2024-03-08T17:00:00.000Z subway 1000 paid 300 because .., no transfer
-- since .., local 2024-03-08T12:00:00-05:00`
pub record IsExplainedLine (fares : Fares) (entry : Entry) (why : CappedReason)
    (none : Option NoTransfer) (line : List ℕ) : Type 0 where
  pub moment : List ℕ
  pub is : IsMomentText entry.moment moment
  pub reason_words : List ℕ
  pub explained : IsReasonWords fares why reason_words
  pub lack : List ℕ
  pub lacks : IsNoTransferEnd fares entry.moment why none lack
  pub shown : line ≡ moment ++ (entry_words fares entry ++ (reason_words ++ (lack
      ++ (local_words fares.zone (codes ", local ") entry.moment ++ codes "\n"))))

-- a line for each of the token's entries that follow the earlier ones, each with the reason that it
-- has after those before it, and if it is a ride, why it is no transfer after them
abbrev pub AreExplainedAfter : Fares → Token → List Entry → List Entry → List ℕ → Type 0
AreExplainedAfter fares token earlier [] text = text ≡ []
AreExplainedAfter fares token earlier (entry ∷ entries) text =
    (line : List ℕ) × (rest : List ℕ)
    × IsExplainedLine fares entry (reason_after fares token earlier entry)
    (no_transfer_after fares token earlier entry) line
    × AreExplainedAfter fares token (earlier ++ entry ∷ []) entries rest
    × (text ≡ line ++ rest)

-- the words, the window as `2024-03-08T17:00:00.000Z 2024-03-15T17:00:00.000Z paid 1 cents 300`,
-- and under a zone what clocks show at its start and at its end
pub record IsExplainedWindow (clocks : ClockView) (word : List ℕ) (window : WindowView)
    (line : List ℕ) : Type 0 where
  pub start : List ℕ
  pub starts : IsMomentText window.start start
  pub until : List ℕ
  pub ends : IsMomentText window.until until
  pub shown : line ≡ word ++ (start ++ (codes " " ++ (until ++ (window_words window
      ++ (local_words clocks (codes " because it lasts from local ") window.start
      ++ (local_words clocks (codes " until local ") window.until ++ codes "\n"))))))

-- a line for each window that is not the last
abbrev pub AreEarlierLines : ClockView → List WindowView → List ℕ → Type 0
AreEarlierLines clocks [] text = text ≡ []
AreEarlierLines clocks (window ∷ windows) text =
    (line : List ℕ) × (rest : List ℕ)
    × IsExplainedWindow clocks (codes "earlier window ") window line
    × AreEarlierLines clocks windows rest × (text ≡ line ++ rest)

-- the line of the last window, or `window none`
abbrev pub IsLastLine : ClockView → Option WindowView → List ℕ → Type 0
IsLastLine clocks None line = line ≡ codes "window none\n"
IsLastLine clocks (Some window) line = IsExplainedWindow clocks (codes "window ") window line

-- the windows of these taps, the last one last
pub record AreWindowLines (clocks : ClockView) (rules : CappedRules) (taps : List TapIn)
    (text : List ℕ) : Type 0 where
  pub earlier : List ℕ
  pub of_earlier : AreEarlierLines clocks (earlier_windows rules taps) earlier
  pub last : List ℕ
  pub of_last : IsLastLine clocks (capped_window rules taps) last
  pub whole : text ≡ earlier ++ last

-- the explained statement of a token with these entries
pub record IsExplained (fares : Fares) (token : Token) (entries : List Entry) (text : List ℕ)
    : Type 0 where
  pub lines : List ℕ
  pub of_entries : AreExplainedAfter fares token [] entries lines
  pub terms : List ℕ
  pub of_terms : AreTermsLines fares (bytes_of token) terms
  pub windows : List ℕ
  pub of_windows : AreWindowLines fares.zone (capped_rules_of fares (bytes_of token))
      (map (tap_of fares) entries) windows
  pub whole : text ≡ statement_head token ++ (terms ++ (lines ++ (totals_line (sums entries)
      ++ windows)))
