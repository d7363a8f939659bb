-- Each moment has a text, and each entry a line, whichever it is.
use Rattle.std.proofs.Common.{◌≡◌, ℕ, zero, suc, ◌+◌, ◌/◌, ◌%◌, ◌<◌, ◌≤◌, ℤ, pos, ◌+ℤ◌, List, []}
use Rattle.std.proofs.Common.{◌∷◌, ◌++◌, length, refl, sym, ap, ◌∙◌, arith, rules, codes, ⊎_elim}
use Rattle.fare_caps.specs.declared.capped_reason.CappedReason.{CappedReason}
use Rattle.fare_caps.specs.declared.capped_reason.CappedReason.TheVariants.{PaidTransfer, Ride}
use Rattle.fare_caps.specs.declared.capped_reason.CappedReason.TheVariants.{Stale, Transfer}
use Rattle.fare_caps.specs.declared.capped_reason.CappedReason.TheVariants.{Unknown}
use Rattle.fare_texts.specs.LedgerLines.{IsLedgerLine, IsPointing, IsReasonFields, IsWindowFields}
use Rattle.fare_texts.specs.LedgerLines.{entry_fields, line_head, reason_after, ride_rest}
use Rattle.fare_texts.specs.{LedgerLines.transfer_words, Lines.AreLinesAlong}
use Rattle.fare_texts.specs.Moments.{IsMomentText, clock_text}
use Rattle.histories.specs.{Entry.own, declared.entry.Entry.Entry}
use Rattle.jiff_core.proofs.CalendarLemmas.{days_in_month_bounds}
use Rattle.jiff_core.proofs.DateLemmas.{days_from_civil-day, days_from_civil-max}
use Rattle.jiff_core.proofs.DateLemmas.{days_from_civil-next_month, days_from_civil-next_year}
use Rattle.jiff_core.proofs.{SignedLemmas.signed_arith, StandardFacts.known_days}
use Rattle.jiff_core.specs.Calendar.{days_from_civil, days_in_month}
use Rattle.jiff_core.specs.{Date.epoch_day, declared.civil.date.Date.Date}
use Rattle.jiff_fmt.specs.Text.{date_text}
use Rattle.std.proofs.lemmas.{Bool.cases_lt, Int.by_lt_z}
use Rattle.std.specs.Fmt.{decimal}
use Rattle.tap_views.specs.declared.token.Token.{Token}
use Rattle.tariffs.specs.Fares.{Fares}

-- ---- days
-- a day of the calendar
abbrev Day : ℕ → Type 0
Day number = (date : Date) × (epoch_day date ≡ pos number)

first_day : Day 0
first_day = (
  record {
    year = pos 1970;
    month = 1;
    day = 1;
    year_in = search rules;
    month_in = search rules;
    day_in = search rules;
  },
  known_days.0,
)

-- the day behind one that is not the last of its month
within_month : (n : ℕ) (date : Date) → epoch_day date ≡ pos n
    → date.day < days_in_month date.year date.month → Day (suc n)
within_month n date is less =
    let next = date.day + 1 in
    let same =
    days_from_civil-day date.year date.month date.day next date.day_in.0 (omega arith) in (
      record {
        year = date.year;
        month = date.month;
        day = next;
        year_in = date.year_in;
        month_in = date.month_in;
        day_in = (omega arith, omega (arith, less));
      },
      omega (arith, signed_arith, same, is),
    )

-- the day behind the last one of a month that is not the year's last
next_month : (n : ℕ) (date : Date) → epoch_day date ≡ pos n
    → date.day ≡ days_in_month date.year date.month → date.month < 12 → Day (suc n)
next_month n date is last less =
    let next = date.month + 1 in
    let long = days_in_month_bounds date.year next in
    let same = days_from_civil-next_month date.year date.month date.day date.month_in.0 last in (
      record {
        year = date.year;
        month = next;
        day = 1;
        year_in = date.year_in;
        month_in = (omega arith, omega (arith, less));
        day_in = (omega arith, omega (arith, long));
      },
      omega (arith, signed_arith, same, is),
    )

-- the day behind the last one of a year that is not the calendar's last
next_year : (n : ℕ) (date : Date) → epoch_day date ≡ pos n → n < 2_932_896
    → date.day ≡ days_in_month date.year date.month → date.month ≡ 12 → Day (suc n)
next_year n date is before last december =
    let day : date.day ≡ 31 = last ∙ ap (λ (m : ℕ). days_in_month date.year m) december in
    let at : days_from_civil date.year 12 31 ≡ pos n =
    ap (λ (m : ℕ). days_from_civil date.year m 31) (sym december)
    ∙ ap (λ (d : ℕ). days_from_civil date.year date.month d) (sym day) ∙ is in
    by_lt_z date.year (pos 9999)
    (λ early.
    let next = date.year +ℤ pos 1 in
    let same = days_from_civil-next_year date.year next
    (omega (arith, signed_arith, date.year_in)) refl in (
      record {
        year = next;
        month = 1;
        day = 1;
        year_in = (
          omega (arith, signed_arith, date.year_in),
          omega (arith, signed_arith, early),
        );
        month_in = search rules;
        day_in = (omega arith, omega (arith, days_in_month_bounds next 1));
      },
      omega (arith, signed_arith, same, at),
    ))
    (λ late.
    let year : date.year ≡ pos 9999 = omega (arith, signed_arith, date.year_in, late) in
    let max : pos n ≡ pos 2_932_896 =
    sym at ∙ ap (λ (y : ℤ). days_from_civil y 12 31) year ∙ days_from_civil-max in
    absurd (omega (arith, signed_arith, before, max)))

next_day : (n : ℕ) → n < 2_932_896 → Day n → Day (suc n)
next_day n before (date, is) =
    let long = days_in_month date.year date.month in
    ⊎_elim (λ (less : date.day < long). within_month n date is less)
    (λ (full : long ≤ date.day).
    let last : date.day ≡ long = omega (arith, full, date.day_in) in
    ⊎_elim (λ (less : date.month < 12). next_month n date is last less)
    (λ (full : 12 ≤ date.month).
    next_year n date is before last (omega (arith, full, date.month_in)))
    (cases_lt date.month 12)) (cases_lt date.day long)

pub day_exists : (n : ℕ) → n ≤ 2_932_896 → Day n
day_exists zero low = first_day
day_exists (suc n) low = next_day n (omega (arith, low)) (day_exists n (omega (arith, low)))

-- ---- moments
pub moment_exists : (moment : ℕ) → (text : List ℕ) × IsMomentText moment text
moment_exists moment =
    ⊎_elim
    (λ (below : moment < 253_402_207_200_000).
    let found = day_exists (moment / 86_400_000) (omega (arith, below)) in
    let text = date_text found.0 ++ clock_text (moment % 86_400_000) in (
      text,
      record {
        civil = λ _. record { date = found.0; day = found.1; shown = refl };
        past = λ above. absurd (omega (arith, below, above));
      },
    ))
    (λ (above : 253_402_207_200_000 ≤ moment). (
      decimal moment,
      record { civil = λ below. absurd (omega (arith, below, above)); past = λ _. refl },
    ))
    (cases_lt moment 253_402_207_200_000)

-- ---- lines
pointing : (words : List ℕ) (at : ℕ) → (text : List ℕ) × IsPointing words at text
pointing words at =
    let found = moment_exists at in
    (words ++ found.0, record { moment = found.0; is = found.1; shown = refl })

windowed : (start until : ℕ) (rest : List ℕ) → (text : List ℕ) × IsWindowFields start until rest text
windowed start until rest =
    let from = moment_exists start in
    let to = moment_exists until in (
      from.0 ++ (codes "," ++ (to.0 ++ rest)),
      record { from = from.0; starts = from.1; to = to.0; ends = to.1; shown = refl },
    )

fields_exist : (caps : List (List ℕ)) (why : CappedReason)
    → (text : List ℕ) × IsReasonFields caps why text
fields_exist caps Unknown = (codes ",,,unknown,", refl)
fields_exist caps (Stale latest) = pointing (codes ",,,stale,") latest
fields_exist caps (Transfer moment mode) = pointing (codes ",,,transfer,") moment
fields_exist caps (PaidTransfer start until moment mode charge) =
    let rest = pointing (transfer_words caps charge) moment in
    let text = windowed start until rest.0 in
    (text.0, (rest.0, rest.1, text.1))
fields_exist caps (Ride start until charge) = windowed start until (ride_rest caps charge)

pub line_exists : (fares : Fares) (token : Token) (number : ℕ) (entry : Entry) (why : CappedReason)
    → (line : List ℕ) × IsLedgerLine fares token number entry why line
line_exists fares token number entry why =
    let moment = moment_exists entry.moment in
    let fields = fields_exist fares.meaning.cap_names why in (
      line_head token number
          ++ (moment.0 ++ (entry_fields fares entry ++ (fields.0 ++ codes "\n"))),
      record {
        moment = moment.0;
        is = moment.1;
        reason_fields = fields.0;
        explained = fields.1;
        shown = refl;
      },
    )

-- entries that stand after others have lines
pub along_exist : (fares : Fares) (earlier entries : List Entry)
    → (text : List ℕ) × AreLinesAlong fares earlier entries text
along_exist fares earlier [] = ([], refl)
along_exist fares earlier (entry ∷ entries) =
    let line = line_exists fares entry.token (length (own entry.token earlier) + 1) entry
    (reason_after fares entry.token (own entry.token earlier) entry) in
    let rest = along_exist fares (earlier ++ entry ∷ []) entries in
    (line.0 ++ rest.0, (line.0, rest.0, line.1, rest.1, refl))
