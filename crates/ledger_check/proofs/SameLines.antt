-- An entry has one line.
use Rattle.std.proofs.Common.{◌≡◌, ℕ, ◌<◌, ◌≤◌, ◌%◌, ℤ, List, ◌∷◌, [], ◌++◌, sym, ap, subst, ◌∙◌}
use Rattle.std.proofs.Common.{⊎_elim}
use Rattle.account_rule.specs.declared.{reply.Answer.Answer, reply.Reply.Reply, tap.TapIn.TapIn}
use Rattle.fare_caps.specs.{CapMeanings.capped_rules_of, CappedReplies.capped_reply}
use Rattle.fare_caps.specs.declared.capped_reason.CappedReason.{CappedReason}
use Rattle.fare_caps.specs.declared.capped_reason.CappedReason.TheVariants.{PaidTransfer, Ride}
use Rattle.fare_caps.specs.declared.capped_reason.CappedReason.TheVariants.{Stale, Transfer}
use Rattle.fare_caps.specs.declared.capped_reason.CappedReason.TheVariants.{Unknown}
use Rattle.fare_texts.specs.LedgerLines.{IsReasonFields, IsLedgerLine, IsPointing, IsWindowFields}
use Rattle.fare_texts.specs.LedgerLines.{entry_fields, line_head, ride_rest}
use Rattle.fare_texts.specs.Moments.{IsCivilText, IsMomentText, clock_text}
use Rattle.histories.specs.Entry.{own, reply_of, tap_of, taps_of}
use Rattle.histories.specs.{History.IsReplied, declared.entry.Entry.Entry}
use Rattle.jiff_core.proofs.DateLemmas.{epoch_day_injective}
use Rattle.jiff_core.specs.declared.civil.date.Date.{Date}
use Rattle.jiff_fmt.specs.Text.{date_text, pad2, year_text}
use Rattle.ledger_check.specs.Ledger.{IsNextLine, IsNext}
use Rattle.std.proofs.lemmas.Bool.{cases_lt}
use Rattle.tap_views.specs.{Token.bytes_of, declared.token.Token.Token}
use Rattle.tariffs.specs.Fares.{Fares}

abbrev date_by : ℤ → ℕ → ℕ → List ℕ
date_by year month day = year_text year ++ 45 ∷ [] ++ pad2 month ++ 45 ∷ [] ++ pad2 day

date_same : (a b : Date) → (a.year ≡ b.year) × (a.month ≡ b.month) × (a.day ≡ b.day)
    → date_text a ≡ date_text b
date_same a b same =
    ap (λ (y : ℤ). date_by y a.month a.day) same.0
    ∙ ap (λ (m : ℕ). date_by b.year m a.day) same.1
    ∙ ap (λ (d : ℕ). date_by b.year b.month d) same.2

civil_same : (moment : ℕ) (a b : List ℕ) → IsCivilText moment a → IsCivilText moment b → a ≡ b
civil_same moment a b is also =
    is.shown
    ∙ ap (λ (t : List ℕ). t ++ clock_text (moment % 86_400_000))
    (date_same is.date also.date (epoch_day_injective is.date also.date (is.day ∙ sym also.day)))
    ∙ sym also.shown

-- a moment has one text
pub moment_same : (moment : ℕ) (a b : List ℕ) → IsMomentText moment a → IsMomentText moment b
    → a ≡ b
moment_same moment a b is also =
    ⊎_elim
    (λ (below : moment < 253_402_207_200_000). civil_same moment a b (is.civil below)
    (also.civil below))
    (λ (above : 253_402_207_200_000 ≤ moment). is.past above ∙ sym (also.past above))
    (cases_lt moment 253_402_207_200_000)

pointing_same : (words : List ℕ) (at : ℕ) (a b : List ℕ) → IsPointing words at a
    → IsPointing words at b → a ≡ b
pointing_same words at a b is also =
    is.shown ∙ ap (λ (t : List ℕ). words ++ t) (moment_same at is.moment also.moment is.is also.is)
    ∙ sym also.shown

window_same : (start until : ℕ) (rest a b : List ℕ) → IsWindowFields start until rest a
    → IsWindowFields start until rest b → a ≡ b
window_same start until rest a b is also =
    is.shown
    ∙ ap (λ (t : List ℕ). t ++ (44 ∷ [] ++ (is.to ++ rest)))
    (moment_same start is.from also.from is.starts also.starts)
    ∙ ap (λ (t : List ℕ). also.from ++ (44 ∷ [] ++ (t ++ rest)))
    (moment_same until is.to also.to is.ends also.ends)
    ∙ sym also.shown

reason_fields_same : (caps : List (List ℕ)) (why : CappedReason) (a b : List ℕ)
    → IsReasonFields caps why a → IsReasonFields caps why b → a ≡ b
reason_fields_same caps Unknown a b is also = is ∙ sym also
reason_fields_same caps (Stale latest) a b is also = pointing_same _ latest a b is also
reason_fields_same caps (Transfer moment mode) a b is also = pointing_same _ moment a b is also
reason_fields_same caps (PaidTransfer start until moment mode charge) a b is also =
    window_same start until also.0 a b
    (subst (λ (rest : List ℕ). IsWindowFields start until rest a)
    (pointing_same _ moment is.0 also.0 is.1 also.1) is.2) also.2
reason_fields_same caps (Ride start until charge) a b is also =
    window_same start until (ride_rest caps charge) a b is also

-- an entry has one line
pub line_same : (fares : Fares) (token : Token) (number : ℕ) (entry : Entry) (why : CappedReason)
    (a b : List ℕ)
    → IsLedgerLine fares token number entry why a → IsLedgerLine fares token number entry why b
    → a ≡ b
line_same fares token number entry why a b is also =
    let head = line_head token number in
    let fields = entry_fields fares entry in
    is.shown
    ∙ ap (λ (t : List ℕ). head ++ (t ++ (fields ++ (is.reason_fields ++ 10 ∷ []))))
    (moment_same entry.moment is.moment also.moment is.is also.is)
    ∙ ap (λ (t : List ℕ). head ++ (also.moment ++ (fields ++ (t ++ 10 ∷ []))))
    (reason_fields_same fares.meaning.cap_names why is.reason_fields also.reason_fields is.explained
    also.explained)
    ∙ sym also.shown

abbrev entry_by : Token → ℕ → ℕ → Answer → ℕ → Entry
entry_by token validator moment answer cents =
    record { token = token; validator = validator; moment = moment; answer = answer; cents = cents }

abbrev entry_from : Token → ℕ → ℕ → Reply → Entry
entry_from token validator moment replied =
    entry_by token validator moment replied.answer replied.cents

-- what the rule replies decides an entry
abbrev ruled : Fares → List Entry → Entry → Reply
ruled fares earlier entry =
    capped_reply (capped_rules_of fares (bytes_of entry.token)) (taps_of fares entry.token earlier)
    (tap_of fares entry)

tap_same : (fares : Fares) (a b : Entry) → a.validator ≡ b.validator → a.moment ≡ b.moment
    → tap_of fares a ≡ tap_of fares b
unfolding tap_of
tap_same fares a b validator moment = (cc)

ruled_same : (fares : Fares) (earlier : List Entry) (a b : Entry) → a.token ≡ b.token
    → a.validator ≡ b.validator → a.moment ≡ b.moment
    → ruled fares earlier a ≡ ruled fares earlier b
ruled_same fares earlier a b token validator moment =
    let taps : tap_of fares a ≡ tap_of fares b = tap_same fares a b validator moment in
    ap (λ (t : Token). capped_reply (capped_rules_of fares (bytes_of t)) (taps_of fares t earlier)
    (tap_of fares a)) token
    ∙ ap (λ (t : TapIn). capped_reply (capped_rules_of fares (bytes_of b.token))
    (taps_of fares b.token earlier)
    t) taps

-- entries of the same tap, both with the rule's reply, are the same
pub entry_same : (fares : Fares) (earlier : List Entry) (a b : Entry) → IsReplied fares earlier a
    → IsReplied fares earlier b
    → a.token ≡ b.token → a.validator ≡ b.validator → a.moment ≡ b.moment → a ≡ b
unfolding IsReplied
entry_same fares earlier a b is also token validator moment =
    let replies : reply_of a ≡ reply_of b =
    is ∙ ruled_same fares earlier a b token validator moment ∙ sym also in
    ap (λ (t : Token). entry_from t a.validator a.moment (reply_of a)) token
    ∙ ap (λ (v : ℕ). entry_from b.token v a.moment (reply_of a)) validator
    ∙ ap (λ (m : ℕ). entry_from b.token b.validator m (reply_of a)) moment
    ∙ ap (λ (r : Reply). entry_from b.token b.validator b.moment r) replies

-- the entry of a line that a ledger has here is the one of the line's tap, and its line is this
pub next_same : (fares : Fares) (earlier : List Entry) (entry other : Entry) (line wanted : List ℕ)
    → IsNext fares earlier entry line → IsReplied fares earlier other
    → IsNextLine fares (own other.token earlier) other wanted
    → entry.token ≡ other.token → entry.validator ≡ other.validator → entry.moment ≡ other.moment
    → (entry ≡ other) × (line ≡ wanted)
next_same fares earlier entry other line wanted is replied shown token validator moment =
    let same : entry ≡ other =
    entry_same fares earlier entry other is.replied replied token validator moment in (
      same,
      line_same fares other.token _ other _ line wanted
          (subst (λ (e : Entry). IsNextLine fares (own e.token earlier) e line) same is.shown)
          shown,
    )
