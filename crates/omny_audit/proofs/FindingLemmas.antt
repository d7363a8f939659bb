-- What is found is well exactly if the text, its columns and the report are right.
use Rattle.std.proofs.Common.{◌≡◌, ◌∙◌, [], ℕ, Bool, List, None, Option, Some, ap, eq-eqb, eqb-true}
use Rattle.std.proofs.Common.{false, length, map, refl, subst, sym, true}
use Rattle.fare_texts.specs.LedgerLines.{head_text}
use Rattle.histories.specs.declared.entry.Entry.{Entry}
use Rattle.ledger_check.proofs.VerdictLemmas.{tail_same}
use Rattle.ledger_check.specs.{Balances.IsBalance, Balances.IsDifference, FullBalances.AreLacking}
use Rattle.ledger_check.specs.FullChecks.{FullCheckDecides, TakenLine, wrong_count}
use Rattle.ledger_check.specs.{Ledger.AreNext, Ledger.IsLedger, Ledger.IsLedgerOf}
use Rattle.ledger_check.specs.Orders.{are_settled, early_line, tap_of_entry}
use Rattle.ledger_check.specs.{Verdicts.IsVerdict, declared.checker.Verdict.TheVariants.Legal}
use Rattle.ledger_check.specs.declared.balance.{Balance.Balance, Difference.Difference}
use Rattle.omny_audit.specs.Findings.{HasValidTaps, IsDifferenceLine, IsRightLedger}
use Rattle.omny_audit.specs.Reports.{Given, HasOwnReport, IsRightAudit, IsVerdictOn, are_whole}
use Rattle.omny_audit.specs.{Reports.ledger_in, Text.are_none}
use Rattle.omny_audit.specs.Traced.{AreColumnsReported, HasRightColumns, IsFaultAfter}
use Rattle.omny_audit.specs.Traced.{IsPositionFault, ReadLine, Wanted, have_position, wrong_class}
use Rattle.omny_audit.specs.{Traced.wrong_position, declared.traced.PositionFault.PositionFault}
use Rattle.omny_audit.specs.declared.traced.PositionFault.TheVariants.{NoLine, OtherTap, Repeated}
use Rattle.omny_audit.specs.declared.traced.WrongClass.{WrongClass}
use Rattle.omny_audit.specs.inside.{Audits.fits, Checks.IsCompared}
use Rattle.report_check.specs.Reports.{ReportVerdictsDecide}
use Rattle.report_check.specs.declared.verdict.ReportVerdict.{ReportVerdict}
use Rattle.std.proofs.lemmas.Bool.{and_from, and_parts, false≢true, or_right}
use Rattle.std.proofs.lemmas.List.{nil_from_length}
use Rattle.std.specs.{Bool.then_some, List.Sorted.IsPermutation}
use Rattle.std.specs.Prelude.{◌↔◌, ◌&&◌, ◌||◌, is_some, nat_eq, not}
use Rattle.tap_views.specs.declared.{encoder.TapFields.TapFields, upload_end.UploadEnd.UploadEnd}
use Rattle.tariffs.specs.Fares.{Fares}

-- both hold exactly if what they decide does, of which the second may depend on the first
each_is : {A : Type 0} {B : A → Type 0} (a b : Bool) → (a ≡ true) ↔ A
    → ((x : A) → (b ≡ true) ↔ B x) → ((a && b) ≡ true) ↔ ((x : A) × B x)
each_is a b one two = (
  λ yes. let parts = and_parts a b yes in (one.0 parts.0, (two (one.0 parts.0)).0 parts.1),
  λ has. and_from a b (one.1 has.0) ((two has.0).1 has.1),
)

-- taps without a difference are the same in some order
pub even_is : ((valid others : List TapFields) (difference : Difference)
    → IsDifference valid others (Some difference) → IsPermutation valid others → ⊥)
    → (valid others : List TapFields) (difference : Option Difference)
    → IsDifference valid others difference
    → (not (is_some difference) ≡ true) ↔ IsPermutation valid others
even_is differ valid others None is = (λ yes. is, λ same. refl)
even_is differ valid others (Some difference) is =
    (λ yes. absurd (false≢true yes), λ same. absurd (differ valid others difference is same))

-- which line of a legal ledger is earlier than the one before it
pub early_is : (fares : Fares) (text : List ℕ) (number : ℕ) (early : Option ℕ)
    (entries : List Entry) → IsVerdict fares text (Legal number early)
    → IsLedgerOf fares entries text → early ≡ early_line (map tap_of_entry entries)
early_is fares text number early entries is of =
    is.order entries (subst (λ (ls : List (List ℕ)). AreNext fares [] entries ls)
    (tail_same head_text head_text of.lines is.others (sym of.split ∙ is.split)) of.are)

-- the line of the difference, if there is one
pub second_line : (fares : Fares) (text : List ℕ) (valid : List TapFields) (balance : Balance)
    (subtracts : Bool) (rest : List ℕ) (even : Bool) → IsCompared balance subtracts rest even
    → ((entries : List Entry) → IsLedgerOf fares entries text
    → IsBalance balance valid (map tap_of_entry entries))
    → IsDifferenceLine fares text (then_some subtracts valid) true rest
second_line fares text valid balance false rest even is balanced = is.0
second_line fares text valid balance true rest even is balanced = (
  is.0,
  is.1,
  λ entries of. (is.2 valid (map tap_of_entry entries) (balanced entries of)).0,
)

-- whether the taps are those of the uploads
pub even_taps : (balance : Balance) (valid taps : List TapFields) (subtracts : Bool)
    (rest : List ℕ) (even : Bool) → IsCompared balance subtracts rest even
    → IsBalance balance valid taps
    → (even ≡ true) ↔ HasValidTaps (then_some subtracts valid) taps
even_taps balance valid taps false rest even is balanced = (λ yes. tt, λ has. is.1)
even_taps balance valid taps true rest even is balanced = (is.2 valid taps balanced).1

-- A text is right exactly if it is a ledger, has the taps of the uploads, and is in order.
pub sound_is : (live : Bool) (fares : Fares) (text : List ℕ) (valid : Option (List TapFields))
    (legal even settled : Bool) → (legal ≡ true) ↔ IsLedger fares text
    → ((ledger : IsLedger fares text)
    → ((even ≡ true) ↔ HasValidTaps valid (map tap_of_entry ledger.0))
    × (settled ≡ are_settled (map tap_of_entry ledger.0)))
    → ((legal && (even && (live || settled))) ≡ true) ↔ IsRightLedger live fares text valid
sound_is live fares text valid legal even settled ledger each =
    each_is legal (even && (live || settled)) ledger (λ x.
    each_is even (live || settled) (each x).0 (λ has. rw (each x).1 (λ is. is, λ is. is)))

-- taps that lack nothing on either side are the same in some order, and back
pub none_is : (valid taps missing surplus : List TapFields)
    → (IsPermutation valid taps → (missing ≡ []) × (surplus ≡ []))
    → (AreLacking valid taps [] → AreLacking taps valid [] → IsPermutation valid taps)
    → AreLacking valid taps missing → AreLacking taps valid surplus
    → (are_none missing surplus ≡ true) ↔ IsPermutation valid taps
none_is valid taps missing surplus none even lacks lacks_too = (
  λ is.
      let parts = and_parts (nat_eq (length missing) 0) (nat_eq (length surplus) 0) is in
      even
      (subst (AreLacking valid taps) (nil_from_length missing (eqb-true _ 0 parts.0)) lacks)
      (subst (AreLacking taps valid) (nil_from_length surplus (eqb-true _ 0 parts.1)) lacks_too),
  λ same.
      let (one, two) = none same in
      ap (λ (m : List TapFields). are_none m surplus) one
      ∙ ap (λ (s : List TapFields). are_none [] s) two,
)

-- no line is wrong exactly if the text is a ledger
pub full_check_legal : (fares : Fares) (text : List ℕ) (taken : List TakenLine)
    → FullCheckDecides fares text taken
    → (nat_eq (wrong_count taken) 0 ≡ true) ↔ IsLedger fares text
full_check_legal fares text taken decides =
    (λ yes. decides.right (eqb-true _ 0 yes), λ ledger. eq-eqb _ 0 (decides.all_right ledger))

-- a report fits a right ledger exactly if it is that of the ledger's entries
fits_own : ReportVerdictsDecide → (ends : Option (List UploadEnd)) (fares : Fares) (ledger : List ℕ)
    (report : Option (List ℕ)) (verdict : Option ReportVerdict) (entries : List Entry)
    → IsVerdictOn ends fares ledger report true verdict → IsLedgerOf fares entries ledger
    → (fits report verdict ≡ true) ↔ HasOwnReport ends report entries
fits_own verdicts ends fares ledger None verdict entries is of = (λ holds. tt, λ own. refl)
fits_own verdicts ends fares ledger (Some report) None entries is of = absurd is
fits_own verdicts ends fares ledger (Some report) (Some verdict) entries is of =
    verdicts ends entries report verdict (is entries of)

-- columns that are right
none_of : {A : Type 0} (wrong : Option A) → not (is_some wrong) ≡ true → wrong ≡ None
none_of None holds = refl
none_of (Some wrong) holds = absurd (false≢true holds)

no_fault : (uploads : Option (List (List TapFields))) (read : List ReadLine)
    (fault : Option PositionFault) → IsPositionFault uploads read fault
    → IsPositionFault uploads read None → fault ≡ None
no_fault None read fault is none = is
no_fault (Some uploads) read fault is none = by_wrong (wrong_position uploads read) fault is none
  where
    by_wrong : (wrong fault : Option PositionFault)
        → IsFaultAfter uploads (have_position read) wrong fault
        → IsFaultAfter uploads (have_position read) wrong None → fault ≡ None
    by_wrong (Some wrong) fault is none = is ∙ sym none
    by_wrong None None is none = refl
    by_wrong None (Some (OtherTap line upload position)) is none = absurd is
    by_wrong None (Some (Repeated line upload position)) is none = absurd is
    by_wrong None (Some (NoLine upload position)) is none = absurd (none upload position is.is)

columns_right : (wanted : Option Wanted) (file : List ℕ) (read : List ReadLine)
    (reported : List ℕ) (right : Bool) → AreColumnsReported wanted true file read reported right
    → (right ≡ true) ↔ HasRightColumns wanted file read
columns_right None file read reported right is = (λ holds. tt, λ has. is.1)
columns_right (Some wanted) file read reported right is =
    let wrong = wrong_class wanted.classes read in
    let both = each_is (not (is_some wrong)) (not (is_some is.1))
    (none_of wrong, λ none. ap (λ (w : Option WrongClass). not (is_some w)) none) (λ none. (
      λ no. subst (IsPositionFault wanted.uploads read) (none_of is.1 no) is.2,
      λ first. ap (λ (f : Option PositionFault). not (is_some f))
          (no_fault wanted.uploads read is.1 is.2 first),
    )) in (
      λ holds. let (none, first) = both.0 (sym is.4 ∙ holds) in (is.0, none, first),
      λ has. is.4 ∙ both.1 (has.1, has.2),
    )

-- all is well exactly if all is right
pub decides : ReportVerdictsDecide → (given : Given) (file : List ℕ) (read : List ReadLine)
    (sound legal right : Bool) (reported : List ℕ) (verdict : Option ReportVerdict)
    → (sound ≡ true) ↔ IsRightLedger given.live given.fares (ledger_in given file) given.valid
    → (legal ≡ true) ↔ IsLedger given.fares (ledger_in given file)
    → AreColumnsReported given.wanted (given.all || legal) file read reported right
    → IsVerdictOn given.ends given.fares (ledger_in given file) given.report (legal && right) verdict
    → ((sound && (right && (fits given.report verdict && are_whole given.ends))) ≡ true)
    ↔ IsRightAudit given file read
decides verdicts given file read sound legal right reported verdict is_sound is_legal columns is =
    let own = fits given.report verdict in
    let whole = are_whole given.ends in
    each_is sound (right && (own && whole)) is_sound (λ ledger.
    let yes = is_legal.1 ledger.0 in
    let are = columns_right given.wanted file read reported right
    (subst (λ (b : Bool). AreColumnsReported given.wanted b file read reported right)
    (or_right given.all legal yes) columns) in
    each_is right (own && whole) are (λ has. each_is own whole
    (fits_own verdicts given.ends given.fares (ledger_in given file) given.report verdict
    ledger.0.0 (subst (λ (b : Bool). IsVerdictOn given.ends given.fares (ledger_in given file)
    given.report b verdict) (and_from legal right yes (are.1 has)) is) ledger.0.1)
    (λ mine. (λ w. w, λ w. w))))
