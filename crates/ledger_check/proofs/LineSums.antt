-- The sums of the entries of lines that were taken.
use Rattle.std.proofs.Common.{◌≡◌, ◌+◌, ◌<◌, ◌≤◌, ◌^◌, ◌∷◌, [], ℕ, List, Option, None, Some, length}
use Rattle.std.proofs.Common.{sym, ap, subst, ◌∙◌, arith, length-append}
use Rattle.histories.specs.declared.entry.Entry.{Entry}
use Rattle.ledger_check.proofs.{FullCheckLaw.remark_right, FullCheckLaw.right, RunLemmas.unfallen}
use Rattle.ledger_check.specs.{FullCheckStates.HasEntries, FullChecks.AreTaken}
use Rattle.ledger_check.specs.FullChecks.{IsCounted, IsJudged, IsTaken, TakenLine, decreases_after}
use Rattle.ledger_check.specs.FullChecks.{entries_from, entries_with, one_wrong, run_of}
use Rattle.ledger_check.specs.{FullChecks.wrong_count, declared.open_sums.OpenSums.OpenSums}
use Rattle.ledger_check.specs.declared.walk.{CountedTap.CountedTap, Remark.Remark}
use Rattle.ledger_check.specs.inside.{FullChecks.IfRight, OpenSums.AreUpTo, OpenSums.HasRoomFor}
use Rattle.std.specs.{Prelude.IfSome, Str.bytes_eq}
use Rattle.tap_views.specs.Token.{Fits}
use Rattle.tariffs.specs.Fares.{Fares}

-- the token of a right line's tap is not below those of the entries of right lines
up_to : (fares : Fares) (last : TakenLine) (earlier : List TakenLine) (line : List ℕ)
    (tap : CountedTap) (remark : Remark) (wanted : List ℕ)
    → AreTaken fares (last ∷ earlier) → wrong_count (last ∷ earlier) ≡ 0
    → length (last ∷ earlier) ≤ 2 ^ 62
    → IsCounted fares (run_of (last ∷ earlier)) line tap remark wanted → one_wrong remark ≡ 0
    → AreUpTo tap.entry.token (entries_from (last ∷ earlier))
up_to fares last earlier line tap remark wanted are none few is right_line =
    let rest = right fares (last ∷ earlier) are none (omega arith) few in
    let is_right = remark_right (decreases_after (run_of (last ∷ earlier)) tap.entry.token)
    (bytes_eq line wanted) (ap one_wrong (sym is.is_remark) ∙ right_line) in
    subst (λ (es : List Entry). AreUpTo tap.entry.token es) (sym rest.legal.same)
    (unfallen (run_of (last ∷ earlier)) rest.entries tap.entry.token rest.legal.state is.of_tap.fits
    is_right.0).up_to

pub right_up : (fares : Fares) (taken : List TakenLine) (next : TakenLine)
    → AreTaken fares (next ∷ taken) → wrong_count taken ≡ 0 → length taken ≤ 2 ^ 62
    → IfRight next.finding (λ tap. AreUpTo tap.entry.token (entries_from taken))
right_up fares [] next are none few right_line =
    rw are.1.0 tt
right_up fares (last ∷ earlier) next are none few right_line =
    by_tap next.finding.tap are.1
  where
    by_tap : (tap : Option CountedTap)
        → IsJudged fares (run_of (last ∷ earlier)) next.line tap next.finding.remark next.wanted
        → IfSome tap (λ t. AreUpTo t.entry.token (entries_from (last ∷ earlier)))
    by_tap None judged = tt
    by_tap (Some tap) judged =
        up_to fares last earlier next.line tap next.finding.remark next.wanted are.0 none few judged
        right_line

-- what a line names fits, so that its entry can be added
pub taken_fits : (fares : Fares) (taken : List TakenLine) (next : TakenLine)
    → IsTaken fares taken next → IfSome next.finding.tap (λ tap. Fits tap.entry.token)
taken_fits fares [] next is = rw is.0 tt
taken_fits fares (last ∷ earlier) next is = by_tap next.finding.tap is
  where
    by_tap : (tap : Option CountedTap)
        → IsJudged fares (run_of (last ∷ earlier)) next.line tap next.finding.remark next.wanted
        → IfSome tap (λ t. Fits t.entry.token)
    by_tap None judged = tt
    by_tap (Some tap) judged = judged.of_tap.fits

entries_grow : (entries : List Entry) (tap : Option CountedTap)
    → length (entries_with entries tap) ≤ length entries + 1
entries_grow entries None = omega arith
entries_grow entries (Some tap) = omega (arith, length-append entries (tap.entry ∷ []))

-- there are no more entries than lines
pub entries_few : (taken : List TakenLine) → length (entries_from taken) ≤ length taken
entries_few [] = omega arith
entries_few (next ∷ taken) =
    omega (arith, entries_few taken, entries_grow (entries_from taken) next.finding.tap)

pub room_for : (fares : Fares) (entries : Option OpenSums) (taken : List TakenLine)
    (next : TakenLine) → AreTaken fares (next ∷ taken) → length taken < 2 ^ 62
    → HasEntries entries taken
    → IfSome entries (λ sums. IfRight next.finding (λ tap. HasRoomFor tap.entry.token sums))
room_for fares None taken next are few has = tt
room_for fares (Some sums) taken next are few has = λ right_line.
    by_tap next.finding.tap (right_up fares taken next are has.0 (omega (arith, few)) right_line)
  where
    by_tap : (tap : Option CountedTap)
        → IfSome tap (λ t. AreUpTo t.entry.token (entries_from taken))
        → IfSome tap (λ t. HasRoomFor t.entry.token sums)
    by_tap None up = tt
    by_tap (Some t) up = (entries_from taken, has.1, up, omega (arith, few, entries_few taken))
