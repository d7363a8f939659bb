-- The numbers in a moment's text are those of its date and of its time of day.
use Rattle.std.proofs.Common.{◌≡◌, ◌∙◌, ◌+◌, ◌-◌, ◌*◌, ◌/◌, ◌%◌, ◌<◌, ℕ, ℤ, pos, List, [], ◌∷◌}
use Rattle.std.proofs.Common.{◌++◌, length, sym, ap, arith}
use Rattle.fare_texts.proofs.Years.{year_of}
use Rattle.fare_texts.specs.Moments.{IsMomentText, clock_text}
use Rattle.jiff_core.proofs.DateLemmas.{epoch_day_same}
use Rattle.jiff_core.specs.{Date.epoch_day, declared.civil.date.Date.Date}
use Rattle.jiff_fmt.specs.Text.{pad2, year_text}
use Rattle.ledger_check.specs.inside.Moments.{clock_at, two_at, year_at}

-- ---- digits
abbrev pub bytes_by : ℤ → ℕ → ℕ → ℕ → List ℕ
bytes_by year month day ms =
    (year_text year ++ 45 ∷ [] ++ pad2 month ++ 45 ∷ [] ++ pad2 day) ++ clock_text ms

two_back : (n : ℕ) → (48 + n / 10 - 48) * 10 + (48 + n % 10 - 48) ≡ n
two_back n = omega arith

year_back : (n month day ms : ℕ) → year_at (bytes_by (pos n) month day ms) ≡ n
year_back n month day ms = joined n _ _ (two_back (n / 100)) (two_back (n % 100))
  where
    joined : (n century rest : ℕ) → century ≡ n / 100 → rest ≡ n % 100 → century * 100 + rest ≡ n
    joined n century rest c r = omega arith

three_back : (n : ℕ) → ((48 + n / 100 - 48) * 10 + (48 + n % 100 / 10 - 48)) * 10
    + ((48 + n % 100 / 10 - 48) * 10 + (48 + n % 100 % 10 - 48)) % 10 ≡ n
three_back n = omega arith

clock_back : (year month day ms : ℕ) → clock_at (bytes_by (pos year) month day ms) ≡ ms
clock_back year month day ms =
    joined ms _ _ _ _ (two_back (ms / 3_600_000)) (two_back (ms / 60_000 % 60))
    (two_back (ms / 1_000 % 60)) (three_back (ms % 1_000))
  where
    joined : (ms h m s l : ℕ) → h ≡ ms / 3_600_000 → m ≡ ms / 60_000 % 60 → s ≡ ms / 1_000 % 60
        → l ≡ ms % 1_000 → ((h * 60 + m) * 60 + s) * 1_000 + l ≡ ms
    joined ms h m s l ph pm ps pl = omega arith

-- a moment's date and time of day, and where its text has them
pub record MomentParts (moment : ℕ) (text : List ℕ) : Type 0 where
  pub date : Date
  pub day : epoch_day date ≡ pos (moment / 86_400_000)
  pub year : ℕ
  pub shown : text ≡ bytes_by (pos year) date.month date.day (moment % 86_400_000)
  pub size : length text ≡ 24
  pub year_is : date.year ≡ pos (year_at text)
  pub month_is : date.month ≡ two_at text 5
  pub day_is : date.day ≡ two_at text 8
  pub clock_is : clock_at text ≡ moment % 86_400_000

pub moment_parts : (moment : ℕ) (text : List ℕ) → moment < 253_402_207_200_000
    → IsMomentText moment text → MomentParts moment text
moment_parts moment text small is =
    let civil = is.civil small in
    let d = civil.date in
    let ms = moment % 86_400_000 in
    let (year, year_is) = year_of d (moment / 86_400_000) civil.day in
    let shown : text ≡ bytes_by (pos year) d.month d.day ms =
    civil.shown ∙ ap (λ (y : ℤ). bytes_by y d.month d.day ms) year_is in
    record {
      date = d;
      day = civil.day;
      year = year;
      shown = shown;
      size = ap length shown;
      year_is = year_is ∙ sym (ap (λ (t : List ℕ). pos (year_at t)) shown
          ∙ ap pos (year_back year d.month d.day ms));
      month_is = sym (ap (λ (t : List ℕ). two_at t 5) shown ∙ two_back d.month);
      day_is = sym (ap (λ (t : List ℕ). two_at t 8) shown ∙ two_back d.day);
      clock_is = ap clock_at shown ∙ clock_back year d.month d.day ms;
    }

pub moment_number : (moment day ms : ℕ) → day ≡ moment / 86_400_000 → ms ≡ moment % 86_400_000
    → day * 86_400_000 + ms ≡ moment
moment_number moment day ms d m = omega arith

-- a text is that of one moment
pub moment_exact : (m n : ℕ) (text : List ℕ) → m < 4_102_444_800_000 → n < 4_102_444_800_000
    → IsMomentText m text → IsMomentText n text → m ≡ n
moment_exact m n text small_m small_n is_m is_n =
    let a = moment_parts m text (omega arith) is_m in
    let b = moment_parts n text (omega arith) is_n in
    let same : pos (m / 86_400_000) ≡ pos (n / 86_400_000) =
    sym a.day ∙ epoch_day_same a.date b.date (a.year_is ∙ sym b.year_is) (a.month_is ∙ sym b.month_is)
    (a.day_is ∙ sym b.day_is) ∙ b.day in
    let days : m / 86_400_000 ≡ n / 86_400_000 = cc in
    let clocks : m % 86_400_000 ≡ n % 86_400_000 = sym a.clock_is ∙ b.clock_is in
    omega (arith, days, clocks)
