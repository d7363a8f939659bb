-- A line of a written ledger has its newline at its end, and nowhere else.
use Rattle.std.proofs.Common.{◌≡◌, ◌≢◌, ℕ, ◌+◌, ◌/◌, ◌%◌, ◌<◌, ◌≤◌, ◌==◌, ℤ, pos, negsuc, Bool}
use Rattle.std.proofs.Common.{true, false, cond, List, [], ◌∷◌, ◌++◌, zero, suc, refl, sym, ap}
use Rattle.std.proofs.Common.{subst, ◌∙◌, arith, append_assoc, ⊎_elim, Option, Some, None}
use Rattle.std.proofs.Common.{true≢false, codes, length, nat_le, nat_lt}
use Rattle.account_rule.specs.declared.reason.Charge.{Charge}
use Rattle.account_rule.specs.declared.reason.Charge.TheVariants.{Full, CeilingCut, CeilingReached}
use Rattle.account_rule.specs.declared.reason.Charge.TheVariants.{RideLimitReached}
use Rattle.account_rule.specs.declared.reply.Answer.{Answer}
use Rattle.fare_caps.specs.declared.cap_charge.CapCharge.{CapCharge}
use Rattle.fare_caps.specs.declared.cap_charge.CapCharge.TheVariants.{ByWindow, CapCut, CapReached}
use Rattle.fare_caps.specs.declared.capped_reason.CappedReason.{CappedReason}
use Rattle.fare_caps.specs.declared.capped_reason.CappedReason.TheVariants.{PaidTransfer, Ride}
use Rattle.fare_caps.specs.declared.capped_reason.CappedReason.TheVariants.{Stale, Transfer}
use Rattle.fare_caps.specs.declared.capped_reason.CappedReason.TheVariants.{Unknown}
use Rattle.fare_texts.specs.LedgerLines.{IsLedgerLine, IsReasonFields, IsWindowFields, cap_suffix}
use Rattle.fare_texts.specs.LedgerLines.{entry_fields, line_head, mode_field, name_or_empty}
use Rattle.fare_texts.specs.LedgerLines.{position_fields, ride_rest, transfer_reason}
use Rattle.fare_texts.specs.LedgerLines.{transfer_words, window_rest, window_transfer_reason}
use Rattle.fare_texts.specs.Moments.{IsCivilText, IsMomentText, clock_text, pad3}
use Rattle.fare_texts.specs.StatementText.{answer_text}
use Rattle.hex.specs.Hex.{encode_lower, encode_with, lower_digits}
use Rattle.histories.specs.declared.entry.Entry.{Entry}
use Rattle.jiff_core.specs.declared.civil.date.Date.{Date}
use Rattle.jiff_fmt.specs.Text.{date_text, pad2, pad4, year_text}
use Rattle.laws.specs.Written.{AreLetters, HasLetterNames}
use Rattle.ledger_check.proofs.LineLemmas.{has_none, lacks-append, lacks-at, lacks-tested}
use Rattle.ledger_check.specs.Lines.{Lacks}
use Rattle.std.proofs.lemmas.Bool.{and_parts, cases_lt}
use Rattle.std.specs.{Char.is_ascii_lowercase, Fmt.decimal, Fmt.digit_glyph, Fmt.digits}
use Rattle.std.specs.{Fmt.digits_onto, List.list_all, Prelude.slice_index_or}
use Rattle.tap_views.specs.{Token.bytes_of, declared.token.Token.Token}
use Rattle.tariffs.specs.Fares.{Fares, mode_at}
use Rattle.account_rule.specs.declared.reply.Answer.TheVariants as answer

-- ---- numbers
glyph_other : (d : ℕ) → digit_glyph false d ≢ 10
glyph_other d = by (nat_lt d 10)
  where
    by : (b : Bool) → cond b (48 + d) (87 + d) ≢ 10
    by true = λ is. absurd (omega arith)
    by false = λ is. absurd (omega arith)

onto_lacks : (k n : ℕ) (acc : List ℕ) → Lacks 10 acc → Lacks 10 (digits_onto k 10 false n acc)
onto_lacks zero n acc lacks = lacks
onto_lacks (suc k) n acc lacks =
    by (n / 10 == 0)
    (onto_lacks k (n / 10) (digit_glyph false (n % 10) ∷ acc) (glyph_other (n % 10), lacks))
  where
    more : List ℕ
    more = digit_glyph false (n % 10) ∷ acc

    by : (b : Bool) → Lacks 10 (digits_onto k 10 false (n / 10) more)
        → Lacks 10 (cond b more (digits_onto k 10 false (n / 10) more))
    by true onto = (glyph_other (n % 10), lacks)
    by false onto = onto

decimal_lacks : (n : ℕ) → Lacks 10 (decimal n)
unfolding digits
decimal_lacks n = onto_lacks 64 n [] tt

pad2_lacks : (n : ℕ) → Lacks 10 (pad2 n)
pad2_lacks n = (λ is. absurd (omega arith), (λ is. absurd (omega arith), tt))

pad3_lacks : (n : ℕ) → Lacks 10 (pad3 n)
pad3_lacks n = (λ is. absurd (omega arith), pad2_lacks (n % 100))

-- ---- tokens
encoded_lacks : (bytes : List ℕ) → Lacks 10 (encode_with lower_digits bytes)
unfolding encode_with
encoded_lacks [] = tt
encoded_lacks (b ∷ bytes) =
    let table = lacks-tested 10 lower_digits refl in
    let zeros = (lacks-tested 10 (0 ∷ []) refl).0 in (
      lacks-at 10 lower_digits (b / 16) table zeros,
      (lacks-at 10 lower_digits (b % 16) table zeros, encoded_lacks bytes),
    )

-- ---- moments
year_lacks : (year : ℤ) → Lacks 10 (year_text year)
year_lacks (pos n) =
    lacks-append 10 (pad2 (n / 100)) (pad2 (n % 100)) (pad2_lacks (n / 100)) (pad2_lacks (n % 100))
year_lacks (negsuc n) =
    lacks-append 10 (45 ∷ 48 ∷ 48 ∷ []) (pad4 (suc n)) (lacks-tested 10 (45 ∷ 48 ∷ 48 ∷ []) refl)
    (lacks-append 10 (pad2 (suc n / 100)) (pad2 (suc n % 100)) (pad2_lacks (suc n / 100))
    (pad2_lacks (suc n % 100)))

date_lacks : (date : Date) → Lacks 10 (date_text date)
date_lacks date =
    let dash = lacks-tested 10 (45 ∷ []) refl in
    let year = year_text date.year in
    lacks-append 10 (year ++ 45 ∷ [] ++ pad2 date.month ++ 45 ∷ []) (pad2 date.day)
    (lacks-append 10 (year ++ 45 ∷ [] ++ pad2 date.month) (45 ∷ [])
    (lacks-append 10 (year ++ 45 ∷ []) (pad2 date.month)
    (lacks-append 10 year (45 ∷ []) (year_lacks date.year) dash) (pad2_lacks date.month)) dash)
    (pad2_lacks date.day)

-- a text without a newline
record Free (text : List ℕ) : Type 0 where
  pub lacks : Lacks 10 text

free : (text : List ℕ) → Lacks 10 text → Free text
free text lacks = record { lacks = lacks }

written : (text : List ℕ) → has_none 10 text ≡ true → Free text
written text is = record { lacks = lacks-tested 10 text is }

both : {a b : List ℕ} → Free a → Free b → Free (a ++ b)
both {a} {b} one two = record { lacks = lacks-append 10 a b one.lacks two.lacks }

two_digits : (n : ℕ) → Free (pad2 n)
two_digits n = free (pad2 n) (pad2_lacks n)

number : (n : ℕ) → Free (decimal n)
number n = free (decimal n) (decimal_lacks n)

comma : Free (codes ",")
comma = written (codes ",") refl

clock_free : (ms : ℕ) → Free (clock_text ms)
clock_free ms =
    let colon = written (codes ":") refl in
    both (written (codes "T") refl)
    (both (two_digits (ms / 3_600_000)) (both colon (both (two_digits (ms / 60_000 % 60))
    (both colon (both (two_digits (ms / 1_000 % 60)) (both (written (codes ".") refl)
    (both (free (pad3 (ms % 1_000)) (pad3_lacks (ms % 1_000))) (written (codes "Z") refl))))))))

civil_lacks : (moment : ℕ) (text : List ℕ) → IsCivilText moment text → Lacks 10 text
civil_lacks moment text is =
    subst (Lacks 10) (sym is.shown)
    (lacks-append 10 (date_text is.date) (clock_text (moment % 86_400_000)) (date_lacks is.date)
    (clock_free (moment % 86_400_000)).lacks)

moment_lacks : (moment : ℕ) (text : List ℕ) → IsMomentText moment text → Lacks 10 text
moment_lacks moment text is =
    ⊎_elim
    (λ (below : moment < 253_402_207_200_000). civil_lacks moment text (is.civil below))
    (λ (above : 253_402_207_200_000 ≤ moment). subst (Lacks 10) (sym (is.past above))
    (decimal_lacks moment))
    (cases_lt moment 253_402_207_200_000)

-- ---- modes
letter_other : (c : ℕ) → is_ascii_lowercase c ≡ true → c ≢ 10
letter_other c letter is =
    let none : is_ascii_lowercase 10 ≡ false = refl in
    true≢false (sym letter ∙ ap is_ascii_lowercase is ∙ none)

name_lacks : (name : List ℕ) → list_all is_ascii_lowercase name ≡ true → Lacks 10 name
name_lacks [] letters = tt
name_lacks (c ∷ name) letters =
    let parts = and_parts (is_ascii_lowercase c) (list_all is_ascii_lowercase name) letters in
    (letter_other c parts.0, name_lacks name parts.1)

named_lacks : (names : List (List ℕ)) (position : ℕ) → AreLetters names
    → Lacks 10 (slice_index_or names position [])
named_lacks [] position letters = tt
named_lacks (name ∷ names) zero letters = name_lacks name letters.0
named_lacks (name ∷ names) (suc position) letters = named_lacks names position letters.1

mode_lacks : (names : List (List ℕ)) (mode : Option ℕ) → AreLetters names
    → Lacks 10 (name_or_empty names mode)
mode_lacks names None letters = tt
mode_lacks names (Some position) letters = named_lacks names position letters

-- ---- the fields
answer_lacks : (answer : Answer) → Lacks 10 (answer_text answer)
answer_lacks answer.Paid = lacks-tested 10 (codes "paid") refl
answer_lacks answer.Transfer = lacks-tested 10 (codes "transfer") refl
answer_lacks answer.Capped = lacks-tested 10 (codes "capped") refl
answer_lacks answer.Stale = lacks-tested 10 (codes "stale") refl
answer_lacks answer.Unknown = lacks-tested 10 (codes "unknown") refl

head_free : (token : Token) (position : ℕ) → Free (line_head token position)
unfolding line_head
head_free token position =
    both (free (encode_lower (bytes_of token)) (encoded_lacks (bytes_of token)))
    (both comma (both (number position) comma))

fields_free : (fares : Fares) (entry : Entry) → AreLetters fares.meaning.modes
    → Free (entry_fields fares entry)
unfolding entry_fields
fields_free fares entry letters =
    both comma (both (number entry.validator)
    (both comma
    (both (free (mode_field fares entry.moment entry.validator)
    (mode_lacks fares.meaning.modes (mode_at fares entry.moment entry.validator) letters))
    (both comma (both (free (answer_text entry.answer) (answer_lacks entry.answer))
    (both comma (both (number entry.cents) comma)))))))

placed_free : (position : ℕ) (word : List ℕ) → Free word → Free (position_fields position word)
unfolding position_fields
placed_free position word is =
    both comma (both (number (position + 1)) (both comma (both is comma)))

window_free : (charge : Charge) → Free (window_rest charge)
window_free (Full position cents) =
    placed_free position (codes "full") (written (codes "full") refl)
window_free (CeilingCut position cents) =
    placed_free position (codes "ceiling-cut") (written (codes "ceiling-cut") refl)
window_free (CeilingReached position) =
    placed_free position (codes "ceiling") (written (codes "ceiling") refl)
window_free RideLimitReached = written (codes ",,ride-limit,") refl

suffix_free : (name : List ℕ) → Free name → Free (cap_suffix name)
unfolding cap_suffix
suffix_free name is = by (nat_le (length name) 16)
  where
    by : (fits : Bool) → Free (cond fits (codes ":" ++ name) [])
    by true = both (written (codes ":") refl) is
    by false = written [] refl

named_free : (caps : List (List ℕ)) (word : List ℕ) (cap : ℕ) → AreLetters caps → Free word
    → Free (word ++ cap_suffix (slice_index_or caps cap []))
named_free caps word cap letters is =
    both is (suffix_free (slice_index_or caps cap [])
    (free (slice_index_or caps cap []) (named_lacks caps cap letters)))

capped_free : (caps : List (List ℕ)) (word : List ℕ) (position cap : ℕ) → AreLetters caps
    → Free word → Free (position_fields position (word ++ cap_suffix (slice_index_or caps cap [])))
capped_free caps word position cap letters is =
    placed_free position (word ++ cap_suffix (slice_index_or caps cap []))
    (named_free caps word cap letters is)

ride_free : (caps : List (List ℕ)) (charge : CapCharge) → AreLetters caps
    → Free (ride_rest caps charge)
ride_free caps (ByWindow charge) letters = window_free charge
ride_free caps (CapCut position cents cap) letters =
    capped_free caps (codes "cap-cut") position cap letters (written (codes "cap-cut") refl)
ride_free caps (CapReached position cap) letters =
    capped_free caps (codes "cap") position cap letters (written (codes "cap") refl)

window_transfer_free : (charge : Charge) → Free (window_transfer_reason charge)
window_transfer_free (Full position cents) = written (codes "transfer-fare") refl
window_transfer_free (CeilingCut position cents) = written (codes "transfer-cut") refl
window_transfer_free (CeilingReached position) = written (codes "transfer-capped") refl
window_transfer_free RideLimitReached = written (codes "transfer-capped") refl

transfer_free : (caps : List (List ℕ)) (charge : CapCharge) → AreLetters caps
    → Free (transfer_reason caps charge)
transfer_free caps (ByWindow charge) letters = window_transfer_free charge
transfer_free caps (CapCut position cents cap) letters =
    named_free caps (codes "transfer-cut") cap letters (written (codes "transfer-cut") refl)
transfer_free caps (CapReached position cap) letters =
    named_free caps (codes "transfer-capped") cap letters (written (codes "transfer-capped") refl)

transfer_words_free : (caps : List (List ℕ)) (charge : CapCharge) → AreLetters caps
    → Free (transfer_words caps charge)
unfolding transfer_words
transfer_words_free caps charge letters =
    both (written (codes ",,") refl) (both (transfer_free caps charge letters) comma)

window_lacks : (start until : ℕ) (rest text : List ℕ) → Free rest
    → IsWindowFields start until rest text → Lacks 10 text
window_lacks start until rest text more is =
    let from = free is.from (moment_lacks start is.from is.starts) in
    let to = free is.to (moment_lacks until is.to is.ends) in
    subst (Lacks 10) (sym is.shown) (both from (both comma (both to more))).lacks

reason_fields_lacks : (caps : List (List ℕ)) (why : CappedReason) (text : List ℕ)
    → AreLetters caps → IsReasonFields caps why text → Lacks 10 text
reason_fields_lacks caps Unknown text letters is =
    subst (Lacks 10) (sym is) (lacks-tested 10 (codes ",,,unknown,") refl)
reason_fields_lacks caps (Stale latest) text letters is =
    subst (Lacks 10) (sym is.shown)
    (lacks-append 10 (codes ",,,stale,") is.moment (lacks-tested 10 (codes ",,,stale,") refl)
    (moment_lacks latest is.moment is.is))
reason_fields_lacks caps (Transfer moment mode) text letters is =
    subst (Lacks 10) (sym is.shown)
    (lacks-append 10 (codes ",,,transfer,") is.moment (lacks-tested 10 (codes ",,,transfer,") refl)
    (moment_lacks moment is.moment is.is))
reason_fields_lacks caps (PaidTransfer start until moment mode charge) text letters is =
    let point = free is.1.moment (moment_lacks moment is.1.moment is.1.is) in
    window_lacks start until is.0 text
    (free is.0 (subst (Lacks 10) (sym is.1.shown)
    (both (transfer_words_free caps charge letters) point).lacks)) is.2
reason_fields_lacks caps (Ride start until charge) text letters is =
    window_lacks start until (ride_rest caps charge) text (ride_free caps charge letters) is

-- ---- the line
pub record EndsOnce (line : List ℕ) : Type 0 where
  pub front : List ℕ
  pub lacks : Lacks 10 front
  pub shown : line ≡ front ++ 10 ∷ []

five : (a b c d e : List ℕ) → a ++ (b ++ (c ++ (d ++ e))) ≡ (a ++ (b ++ (c ++ d))) ++ e
five a b c d e =
    sym (append_assoc a (b ++ (c ++ d)) e
    ∙ ap (λ (t : List ℕ). a ++ t)
    (append_assoc b (c ++ d) e ∙ ap (λ (t : List ℕ). b ++ t) (append_assoc c d e)))

pub line_ends_once : (fares : Fares) (token : Token) (position : ℕ) (entry : Entry)
    (why : CappedReason) (line : List ℕ) → HasLetterNames fares
    → IsLedgerLine fares token position entry why line → EndsOnce line
line_ends_once fares token position entry why line names is = record {
  front = line_head token position ++ (is.moment ++ (entry_fields fares entry ++ is.reason_fields));
  lacks = (both (head_free token position)
      (both (free is.moment (moment_lacks entry.moment is.moment is.is))
      (both (fields_free fares entry names.modes)
      (free is.reason_fields (reason_fields_lacks fares.meaning.cap_names why is.reason_fields
      names.caps is.explained))))).lacks;
  shown = is.shown ∙ five (line_head token position) is.moment (entry_fields fares entry)
      is.reason_fields (10 ∷ []);
}
