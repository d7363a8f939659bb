-- A history has one ledger, one statement and one explained statement of a token.
use Rattle.std.proofs.Common.{◌≡◌, ℕ, ◌+◌, List, [], ◌∷◌, ◌++◌, length, map, sym, ap, subst, ◌∙◌}
use Rattle.std.proofs.Common.{Option, Some, None, codes}
use Rattle.account_rule.specs.declared.no_transfer.NoTransfer.{NoTransfer, TheVariants.FirstTap}
use Rattle.account_rule.specs.declared.no_transfer.NoTransfer.TheVariants.{TooLate, AfterTransfer}
use Rattle.account_rule.specs.declared.no_transfer.NoTransfer.TheVariants.{NoneGiven, NotPermitted}
use Rattle.account_rule.specs.declared.no_transfer.NoTransfer.TheVariants.{RideTooLate}
use Rattle.account_rule.specs.declared.{tap.TapIn.TapIn, window.WindowView.WindowView}
use Rattle.fare_caps.specs.{CapMeanings.capped_rules_of, CappedReplies.capped_window}
use Rattle.fare_caps.specs.{Caps.CappedRules, declared.cap_charge.CapCharge.CapCharge}
use Rattle.fare_caps.specs.declared.capped_reason.CappedReason.{CappedReason}
use Rattle.fare_caps.specs.declared.capped_reason.CappedReason.TheVariants.{PaidTransfer, Ride}
use Rattle.fare_caps.specs.declared.capped_reason.CappedReason.TheVariants.{Stale, Transfer}
use Rattle.fare_caps.specs.declared.capped_reason.CappedReason.TheVariants.{Unknown}
use Rattle.fare_texts.specs.Counts.{totals_line}
use Rattle.fare_texts.specs.Explained.{AreEarlierLines, AreExplainedAfter, AreWindowLines}
use Rattle.fare_texts.specs.Explained.{IsExplained, IsExplainedLine, IsExplainedWindow}
use Rattle.fare_texts.specs.Explained.{AreLaterTerms, AreTermsLines, IsLastLine, earlier_windows}
use Rattle.fare_texts.specs.Explained.{terms_line, terms_words}
use Rattle.fare_texts.specs.Ledger.{AreLinesOfEach, IsLedgerOver, ledger_tokens}
use Rattle.fare_texts.specs.LedgerLines.{AreLedgerLinesAfter, head_text, reason_after}
use Rattle.fare_texts.specs.{Local.local_words, NoTransferWords.IsAfterTransferText}
use Rattle.fare_texts.specs.NoTransferWords.{IsNoTransferEnd, IsNoTransferText, IsRideTooLateText}
use Rattle.fare_texts.specs.NoTransferWords.{IsTooLateText, gap_words, no_transfer_after}
use Rattle.fare_texts.specs.ReasonWords.{IsReasonWords, IsRideText, IsStaleText, IsTransferText}
use Rattle.fare_texts.specs.ReasonWords.{IsWindowText, charge_end, charge_start, giver_start}
use Rattle.fare_texts.specs.StatementText.{AreEntryLines, IsEntryLine, IsLineOf, IsStatementText}
use Rattle.fare_texts.specs.StatementText.{IsWindowLine, entry_words, statement_head, window_words}
use Rattle.histories.specs.{Entry.own, Entry.tap_of, Sums.Sums, Sums.sums, Sums.sums_of}
use Rattle.histories.specs.declared.{entry.Entry.Entry, statement.Statement.Statement}
use Rattle.ledger_check.proofs.SameLines.{line_same, moment_same}
use Rattle.report_texts.specs.OverHistory.{IsStatementOver}
use Rattle.tap_views.specs.{Token.bytes_of, declared.token.Token.Token}
use Rattle.tariffs.specs.{ClockView.ClockView, Fares.Fares, Fares.terms_at}
use Rattle.tariffs.specs.TableMeaning.{TableMeaning}

-- two pieces, one behind the other
both : (a b c d : List ℕ) → a ≡ b → c ≡ d → a ++ c ≡ b ++ d
both a b c d front back = ap (λ xs. xs ++ c) front ∙ ap (λ ys. b ++ ys) back

-- ---- ledgers
lines_after_same : (fares : Fares) (token : Token) (earlier entries : List Entry) (a b : List ℕ)
    → AreLedgerLinesAfter fares token earlier entries a
    → AreLedgerLinesAfter fares token earlier entries b → a ≡ b
lines_after_same fares token earlier [] a b is also = is ∙ sym also
lines_after_same fares token earlier (entry ∷ entries) a b is also =
    let (line, rest, one, more, whole) = is in
    let (line', rest', one', more', whole') = also in
    whole ∙ both line line' rest rest'
    (line_same fares token (length earlier + 1) entry (reason_after fares token earlier entry) line
    line' one one')
    (lines_after_same fares token (earlier ++ entry ∷ []) entries rest rest' more more')
    ∙ sym whole'

each_same : (fares : Fares) (history : List Entry) (tokens : List Token) (a b : List ℕ)
    → AreLinesOfEach fares history tokens a → AreLinesOfEach fares history tokens b → a ≡ b
each_same fares history [] a b is also = is ∙ sym also
each_same fares history (token ∷ tokens) a b is also =
    let (lines, rest, one, more, whole) = is in
    let (lines', rest', one', more', whole') = also in
    whole ∙ both lines lines' rest rest'
    (lines_after_same fares token [] (own token history) lines lines' one one')
    (each_same fares history tokens rest rest' more more')
    ∙ sym whole'

pub one_ledger : (fares : Fares) (history : List Entry) (only : Option Token) (a b : List ℕ)
    → IsLedgerOver fares history only a → IsLedgerOver fares history only b → a ≡ b
one_ledger fares history only a b is also =
    is.whole ∙ ap (λ ls. head_text ++ ls)
    (each_same fares history (ledger_tokens only history) is.lines also.lines is.of_each
    also.of_each)
    ∙ sym also.whole

-- ---- statements
entry_line_same : (fares : Fares) (entry : Entry) (a b : List ℕ) → IsEntryLine fares entry a
    → IsEntryLine fares entry b → a ≡ b
entry_line_same fares entry a b is also =
    is.shown ∙ ap (λ m. m ++ (entry_words fares entry ++ codes "\n"))
    (moment_same entry.moment is.moment also.moment is.is also.is) ∙ sym also.shown

entry_lines_same : (fares : Fares) (entries : List Entry) (a b : List ℕ)
    → AreEntryLines fares entries a → AreEntryLines fares entries b → a ≡ b
entry_lines_same fares [] a b is also = is ∙ sym also
entry_lines_same fares (entry ∷ entries) a b is also =
    let (line, rest, one, more, whole) = is in
    let (line', rest', one', more', whole') = also in
    whole ∙ both line line' rest rest' (entry_line_same fares entry line line' one one')
    (entry_lines_same fares entries rest rest' more more') ∙ sym whole'

line_of_same : (window : WindowView) (a b : List ℕ) → IsLineOf window a → IsLineOf window b → a ≡ b
line_of_same window a b is also =
    let rest = window_words window ++ codes "\n" in
    is.shown
    ∙ ap (λ s. codes "window " ++ (s ++ (codes " " ++ (is.until ++ rest))))
    (moment_same window.start is.start also.start is.starts also.starts)
    ∙ ap (λ u. codes "window " ++ (also.start ++ (codes " " ++ (u ++ rest))))
    (moment_same window.until is.until also.until is.ends also.ends)
    ∙ sym also.shown

window_line_same : (window : Option WindowView) (a b : List ℕ) → IsWindowLine window a
    → IsWindowLine window b → a ≡ b
window_line_same None a b is also = is ∙ sym also
window_line_same (Some window) a b is also = line_of_same window a b is also

-- the text of a statement, by its parts
abbrev statement_by : Token → List ℕ → Sums → List ℕ → List ℕ
statement_by token lines totals window =
    statement_head token ++ (lines ++ (totals_line totals ++ window))

statement_text_same : (fares : Fares) (s t : Statement) (a b : List ℕ) → s.token ≡ t.token
    → s.lines ≡ t.lines → sums_of s.totals ≡ sums_of t.totals → s.window ≡ t.window
    → IsStatementText fares s a → IsStatementText fares t b → a ≡ b
statement_text_same fares s t a b token lines totals window is also =
    let moved = subst (λ es. AreEntryLines fares es is.lines) lines is.of_entries in
    let shown = subst (λ w. IsWindowLine w is.window) window is.of_window in
    is.whole
    ∙ ap (λ x. statement_by x is.lines (sums_of s.totals) is.window) token
    ∙ ap (λ x. statement_by t.token x (sums_of s.totals) is.window)
    (entry_lines_same fares t.lines is.lines also.lines moved also.of_entries)
    ∙ ap (λ x. statement_by t.token also.lines x is.window) totals
    ∙ ap (λ x. statement_by t.token also.lines (sums_of t.totals) x)
    (window_line_same t.window is.window also.window shown also.of_window)
    ∙ sym also.whole

pub one_statement : (fares : Fares) (history : List Entry) (token : Token) (a b : List ℕ)
    → IsStatementOver fares history token a → IsStatementOver fares history token b → a ≡ b
one_statement fares history token a b is also =
    let s = is.of_history in
    let t = also.of_history in
    statement_text_same fares is.statement also.statement a b (s.token ∙ sym t.token)
    (s.lines ∙ sym t.lines) (s.totals ∙ sym t.totals) (s.window ∙ sym t.window) is.shown also.shown

-- ---- explained statements
window_text_same : (start until : ℕ) (a b : List ℕ) → IsWindowText start until a
    → IsWindowText start until b → a ≡ b
window_text_same start until a b is also =
    is.shown
    ∙ ap (λ f. codes " from " ++ (f ++ (codes " until " ++ is.to)))
    (moment_same start is.from also.from is.starts also.starts)
    ∙ ap (λ t. codes " from " ++ (also.from ++ (codes " until " ++ t)))
    (moment_same until is.to also.to is.ends also.ends)
    ∙ sym also.shown

stale_same : (latest : ℕ) (a b : List ℕ) → IsStaleText latest a → IsStaleText latest b → a ≡ b
stale_same latest a b is also =
    is.shown ∙ ap (λ m. codes " because a tap of " ++ (m ++ codes " is not earlier"))
    (moment_same latest is.moment also.moment is.is also.is) ∙ sym also.shown

transfer_same : (mode : List ℕ) (at : ℕ) (end a b : List ℕ) → IsTransferText mode at end a
    → IsTransferText mode at end b → a ≡ b
transfer_same mode at end a b is also =
    is.shown ∙ ap (λ m. giver_start mode ++ (m ++ (codes " gives it" ++ end)))
    (moment_same at is.moment also.moment is.is also.is) ∙ sym also.shown

ride_same : (caps : List (List ℕ)) (start until : ℕ) (charge : CapCharge) (a b : List ℕ)
    → IsRideText caps start until charge a → IsRideText caps start until charge b → a ≡ b
ride_same caps start until charge a b is also =
    is.shown ∙ ap (λ w. charge_start charge ++ (w ++ charge_end caps charge))
    (window_text_same start until is.window also.window is.is also.is) ∙ sym also.shown

words_same : (fares : Fares) (why : CappedReason) (a b : List ℕ) → IsReasonWords fares why a
    → IsReasonWords fares why b → a ≡ b
words_same fares Unknown a b is also = is ∙ sym also
words_same fares (Stale latest) a b is also = stale_same latest a b is also
words_same fares (Transfer moment mode) a b is also = transfer_same _ moment _ a b is also
words_same fares (PaidTransfer start until moment mode charge) a b is also =
    transfer_same _ moment _ a b is also
words_same fares (Ride start until charge) a b is also =
    ride_same fares.meaning.cap_names start until charge a b is also

too_late_same : (last gap : ℕ) (a b : List ℕ) → IsTooLateText last gap a → IsTooLateText last gap b
    → a ≡ b
too_late_same last gap a b is also =
    is.shown ∙ ap (λ m. codes ", no transfer since the tap of " ++ (m ++ gap_words gap))
    (moment_same last is.moment also.moment is.is also.is) ∙ sym also.shown

ride_too_late_same : (ride gap : ℕ) (a b : List ℕ) → IsRideTooLateText ride gap a
    → IsRideTooLateText ride gap b → a ≡ b
ride_too_late_same ride gap a b is also =
    is.shown ∙ ap (λ m. codes ", no transfer since the ride of " ++ (m ++ gap_words gap))
    (moment_same ride is.moment also.moment is.is also.is) ∙ sym also.shown

after_transfer_same : (last : ℕ) (a b : List ℕ) → IsAfterTransferText last a
    → IsAfterTransferText last b → a ≡ b
after_transfer_same last a b is also =
    is.shown ∙ ap (λ m. codes ", no transfer since the tap of " ++ (m ++ codes " is one"))
    (moment_same last is.moment also.moment is.is also.is) ∙ sym also.shown

lack_same : (fares : Fares) (moment : ℕ) (none : NoTransfer) (a b : List ℕ)
    → IsNoTransferText fares moment none a → IsNoTransferText fares moment none b → a ≡ b
lack_same fares moment FirstTap a b is also = is ∙ sym also
lack_same fares moment (TooLate last) a b is also = too_late_same last _ a b is also
lack_same fares moment NoneGiven a b is also = is ∙ sym also
lack_same fares moment (AfterTransfer last) a b is also = after_transfer_same last a b is also
lack_same fares moment (RideTooLate ride) a b is also = ride_too_late_same ride _ a b is also
lack_same fares moment (NotPermitted from to) a b is also = is ∙ sym also

lack_end_same : (fares : Fares) (moment : ℕ) (why : CappedReason) (none : Option NoTransfer)
    (a b : List ℕ) → IsNoTransferEnd fares moment why none a
    → IsNoTransferEnd fares moment why none b → a ≡ b
lack_end_same fares moment Unknown lack a b is also = is ∙ sym also
lack_end_same fares moment (Stale latest) lack a b is also = is ∙ sym also
lack_end_same fares moment (Transfer last mode) lack a b is also = is ∙ sym also
lack_end_same fares moment (PaidTransfer start until last mode charge) lack a b is also =
    is ∙ sym also
lack_end_same fares moment (Ride start until charge) None a b is also = is ∙ sym also
lack_end_same fares moment (Ride start until charge) (Some lack) a b is also =
    lack_same fares moment lack a b is also

explained_line_same : (fares : Fares) (entry : Entry) (why : CappedReason)
    (none : Option NoTransfer) (a b : List ℕ)
    → IsExplainedLine fares entry why none a → IsExplainedLine fares entry why none b → a ≡ b
explained_line_same fares entry why none a b is also =
    let words = entry_words fares entry in
    let end = local_words fares.zone (codes ", local ") entry.moment ++ codes "\n" in
    is.shown
    ∙ ap (λ m. m ++ (words ++ (is.reason_words ++ (is.lack ++ end))))
    (moment_same entry.moment is.moment also.moment is.is also.is)
    ∙ ap (λ r. also.moment ++ (words ++ (r ++ (is.lack ++ end))))
    (words_same fares why is.reason_words also.reason_words is.explained also.explained)
    ∙ ap (λ l. also.moment ++ (words ++ (also.reason_words ++ (l ++ end))))
    (lack_end_same fares entry.moment why none is.lack also.lack is.lacks also.lacks)
    ∙ sym also.shown

explained_after_same : (fares : Fares) (token : Token) (earlier entries : List Entry)
    (a b : List ℕ) → AreExplainedAfter fares token earlier entries a
    → AreExplainedAfter fares token earlier entries b → a ≡ b
explained_after_same fares token earlier [] a b is also = is ∙ sym also
explained_after_same fares token earlier (entry ∷ entries) a b is also =
    let (line, rest, one, more, whole) = is in
    let (line', rest', one', more', whole') = also in
    whole ∙ both line line' rest rest'
    (explained_line_same fares entry (reason_after fares token earlier entry)
    (no_transfer_after fares token earlier entry) line line' one one')
    (explained_after_same fares token (earlier ++ entry ∷ []) entries rest rest' more more')
    ∙ sym whole'

explained_window_same : (clocks : ClockView) (word : List ℕ) (window : WindowView)
    (a b : List ℕ) → IsExplainedWindow clocks word window a
    → IsExplainedWindow clocks word window b → a ≡ b
explained_window_same clocks word window a b is also =
    let end = window_words window
    ++ (local_words clocks (codes " because it lasts from local ") window.start
    ++ (local_words clocks (codes " until local ") window.until ++ codes "\n")) in
    is.shown
    ∙ ap (λ s. word ++ (s ++ (codes " " ++ (is.until ++ end))))
    (moment_same window.start is.start also.start is.starts also.starts)
    ∙ ap (λ u. word ++ (also.start ++ (codes " " ++ (u ++ end))))
    (moment_same window.until is.until also.until is.ends also.ends)
    ∙ sym also.shown

earlier_same : (clocks : ClockView) (windows : List WindowView) (a b : List ℕ)
    → AreEarlierLines clocks windows a → AreEarlierLines clocks windows b → a ≡ b
earlier_same clocks [] a b is also = is ∙ sym also
earlier_same clocks (window ∷ windows) a b is also =
    let (line, rest, one, more, whole) = is in
    let (line', rest', one', more', whole') = also in
    whole ∙ both line line' rest rest'
    (explained_window_same clocks (codes "earlier window ") window line line' one one')
    (earlier_same clocks windows rest rest' more more') ∙ sym whole'

last_same : (clocks : ClockView) (window : Option WindowView) (a b : List ℕ)
    → IsLastLine clocks window a → IsLastLine clocks window b → a ≡ b
last_same clocks None a b is also = is ∙ sym also
last_same clocks (Some window) a b is also =
    explained_window_same clocks (codes "window ") window a b is also

window_lines_same : (clocks : ClockView) (rules : CappedRules) (taps : List TapIn)
    (a b : List ℕ) → AreWindowLines clocks rules taps a → AreWindowLines clocks rules taps b
    → a ≡ b
window_lines_same clocks rules taps a b is also =
    is.whole ∙ both is.earlier also.earlier is.last also.last
    (earlier_same clocks (earlier_windows rules taps) is.earlier also.earlier is.of_earlier
    also.of_earlier)
    (last_same clocks (capped_window rules taps) is.last also.last is.of_last also.of_last)
    ∙ sym also.whole

later_terms_same : (token : List ℕ) (later : List (ℕ × TableMeaning)) (a b : List ℕ)
    → AreLaterTerms token later a → AreLaterTerms token later b → a ≡ b
later_terms_same token [] a b is also = is ∙ sym also
later_terms_same token (next ∷ later) a b is also =
    let (line, rest, one, more, whole) = is in
    let (line', rest', one', more', whole') = also in
    let words = terms_words (terms_at next.1 token) in
    let lines : line ≡ line' =
    one.shown ∙ ap (λ m. codes "terms from " ++ (m ++ words))
    (moment_same next.0 one.moment one'.moment one.is one'.is) ∙ sym one'.shown in
    whole ∙ both line line' rest rest' lines
    (later_terms_same token later rest rest' more more') ∙ sym whole'

terms_same : (fares : Fares) (token a b : List ℕ) → AreTermsLines fares token a
    → AreTermsLines fares token b → a ≡ b
terms_same fares token a b is also =
    is.whole ∙ ap (λ ls. terms_line (terms_at fares.meaning token) ++ ls)
    (later_terms_same token fares.later is.later also.later is.of_later also.of_later)
    ∙ sym also.whole

pub one_explained : (fares : Fares) (token : Token) (entries : List Entry) (a b : List ℕ)
    → IsExplained fares token entries a → IsExplained fares token entries b → a ≡ b
one_explained fares token entries a b is also =
    let head = statement_head token in
    let totals = totals_line (sums entries) in
    is.whole
    ∙ ap (λ ts. head ++ (ts ++ (is.lines ++ (totals ++ is.windows))))
    (terms_same fares (bytes_of token) is.terms also.terms is.of_terms also.of_terms)
    ∙ ap (λ ls. head ++ (also.terms ++ (ls ++ (totals ++ is.windows))))
    (explained_after_same fares token [] entries is.lines also.lines is.of_entries
    also.of_entries)
    ∙ ap (λ ws. head ++ (also.terms ++ (also.lines ++ (totals ++ ws))))
    (window_lines_same fares.zone (capped_rules_of fares (bytes_of token))
    (map (tap_of fares) entries)
    is.windows also.windows is.of_windows also.of_windows)
    ∙ sym also.whole
