-- Each line that is written is one line: its line feed stands last, and no other is in it.
use Rattle.std.proofs.Common.{◌≡◌, ℕ, suc, zero, ◌+◌, ◌/◌, ◌%◌, ◌<◌, ◌≤◌, ◌^◌, Bool, true}
use Rattle.std.proofs.Common.{not, List, [], ◌∷◌, ◌++◌, length, length-append, append_assoc}
use Rattle.std.proofs.Common.{refl, sym, ap, subst, ◌∙◌, arith, ◌&&◌, get_or}
use Rattle.fare_texts.specs.Counts.{counts_text, first_counts, last_counts, totals_line}
use Rattle.fare_texts.specs.ReportLines.{number_line, token_line, validator_line}
use Rattle.hex.specs.Hex.{encode_lower, encode_with, lower_digits}
use Rattle.histories.specs.Sums.{Sums}
use Rattle.report_texts.specs.{FormLaws.token_digits, Numbers.AreCounts, Numbers.IsTokenSum}
use Rattle.report_texts.specs.{Numbers.IsValidatorSum, Report.upload_line}
use Rattle.std.proofs.lemmas.Bool.{false≢true, and_parts}
use Rattle.std.proofs.lemmas.Fmt.{digits_decimal, length-decimal-le}
use Rattle.std.proofs.lemmas.Str.Parse.{IsNumeralModel, numerals_by_value, tells_all_ascii_digits}
use Rattle.std.specs.{Char.is_ascii_digit, Fmt.decimal, List.AllByRecursion, Prelude.codes}
use Rattle.std.specs.{Prelude.◌==◌, Str.all_ascii_digits, Str.Parse.digits_value}
use Rattle.tap_views.specs.Token.{bytes_of}
use Rattle.tap_views.specs.declared.{token.Token.Token, upload_end.UploadEnd.TheVariants.Posted}

-- no line feed is in the bytes
abbrev pub HasNoFeed : List ℕ → Type 0
HasNoFeed text = AllByRecursion (λ byte. ¬ (byte ≡ 10)) text

-- at most so many bytes with no line feed, and a line feed behind them
pub record IsOneLine (most : ℕ) (line : List ℕ) : Type 0 where
  pub front : List ℕ
  pub no_feed : HasNoFeed front
  pub short : length front ≤ most
  pub shown : line ≡ front ++ 10 ∷ []

-- ---- texts with no line feed
-- whether no line feed is in the bytes
abbrev pub has_none : List ℕ → Bool
has_none [] = true
has_none (x ∷ text) = not (x == 10) && has_none text

tested_one : (x : ℕ) → not (x == 10) ≡ true → ¬ (x ≡ 10)
tested_one x is ten = false≢true (subst (λ n. not (n == 10) ≡ true) ten is)

pub tested : (text : List ℕ) → has_none text ≡ true → HasNoFeed text
tested [] is = tt
tested (x ∷ text) is = (
  tested_one x (and_parts (not (x == 10)) (has_none text) is).0,
  tested text (and_parts (not (x == 10)) (has_none text) is).1,
)

digit_no_feed : (c : ℕ) → is_ascii_digit c ≡ true → ¬ (c ≡ 10)
digit_no_feed c is e = false≢true (subst (λ n. is_ascii_digit n ≡ true) e is)

digits_none : (text : List ℕ) → all_ascii_digits text ≡ true → HasNoFeed text
digits_none [] is = tt
digits_none (c ∷ text) is = (
  digit_no_feed c (and_parts (is_ascii_digit c) (all_ascii_digits text) is).0,
  digits_none text (and_parts (is_ascii_digit c) (all_ascii_digits text) is).1,
)

own : IsNumeralModel (λ ds. all_ascii_digits ds ≡ true) (digits_value 10)
own = numerals_by_value _ tells_all_ascii_digits

decimal_none : (n : ℕ) → n < 2 ^ 64 → HasNoFeed (decimal n)
decimal_none n small = digits_none (decimal n) (digits_decimal own n small)

decimal_short : (n : ℕ) → n < 2 ^ 64 → length (decimal n) ≤ 20
decimal_short n small = length-decimal-le 20 n (omega arith) (omega (arith, small)) small

none_at : (text : List ℕ) (k : ℕ) → HasNoFeed text → ¬ (get_or text k 0 ≡ 10)
none_at [] k none e = absurd (omega (arith, e))
none_at (x ∷ text) zero none e = none.0 e
none_at (x ∷ text) (suc k) none e = none_at text k none.1 e

encoded_none : (bytes : List ℕ) → HasNoFeed (encode_with lower_digits bytes)
unfolding encode_with
encoded_none [] = tt
encoded_none (b ∷ bytes) =
    let table = tested lower_digits refl in
    (none_at lower_digits (b / 16) table, (none_at lower_digits (b % 16) table, encoded_none bytes))

-- ---- the lines
pub over : IsOneLine 0 (10 ∷ [])
over = record { front = []; no_feed = tt; short = omega arith; shown = refl }

none_joined : (a b : List ℕ) → HasNoFeed a → HasNoFeed b → HasNoFeed (a ++ b)
none_joined [] b none also = also
none_joined (x ∷ a) b none also = (none.0, none_joined a b none.1 also)

pub longer : (size most : ℕ) (text line : List ℕ) → HasNoFeed text → length text ≤ size
    → IsOneLine most line → IsOneLine (size + most) (text ++ line)
longer size most text line none few is = record {
  front = text ++ is.front;
  no_feed = none_joined text is.front none is.no_feed;
  short = (let all = length-append text is.front in let s = is.short in omega (arith, all, few, s));
  shown = ap (λ (x : List ℕ). text ++ x) is.shown ∙ sym (append_assoc text is.front (10 ∷ []));
}

-- a word with no line feed, before the rest of a line
pub word : (w : List ℕ) (most : ℕ) (line : List ℕ) → has_none w ≡ true → IsOneLine most line
    → IsOneLine (length w + most) (w ++ line)
word w most line none is = longer (length w) most w line (tested w none) (omega arith) is

-- a number, before the rest of a line
pub counted : (n most : ℕ) (line : List ℕ) → n < 2 ^ 64 → IsOneLine most line
    → IsOneLine (20 + most) (decimal n ++ line)
counted n most line small is =
    longer 20 most (decimal n) line (decimal_none n small) (decimal_short n small) is

pub weaker : (a b : ℕ) (line : List ℕ) → a ≤ b → IsOneLine a line → IsOneLine b line
weaker a b line more is = record {
  front = is.front;
  no_feed = is.no_feed;
  short = (let s = is.short in omega (arith, s, more));
  shown = is.shown;
}

-- a word and a number
pub head_is_one : (w : List ℕ) (number : ℕ) → has_none w ≡ true → length w ≤ 100 → number < 2 ^ 64
    → IsOneLine 1000 (number_line w number)
head_is_one w number none few small =
    weaker (length w + (20 + 0)) 1000 (number_line w number) (omega (arith, few))
    (word w (20 + 0) _ none (counted number 0 _ small over))

pub upload_is_one : (number taps : ℕ) → number < 2 ^ 64 → taps < 2 ^ 64
    → IsOneLine 1000 (upload_line number (Posted taps))
unfolding upload_line
upload_is_one number taps small few =
    weaker _ 1000 _ (omega arith)
    (word (codes "upload ") _ _ refl (counted number _ _ small
    (word (codes " posted ") _ _ refl (counted taps _ _ few over))))

counts_spelled : (t : Sums) → counts_text t
    ≡ codes "taps " ++ (decimal t.taps ++ (codes " paid " ++ (decimal t.paid ++ (codes " transfers "
    ++ (decimal t.transfers ++ (codes " capped " ++ (decimal t.capped ++ (codes " stale "
    ++ (decimal t.stale ++ (codes " unknown " ++ (decimal t.unknown ++ (codes " cents "
    ++ (decimal t.cents ++ 10 ∷ [])))))))))))))
unfolding first_counts last_counts
counts_spelled t = simp append_assoc

counts_are_one : (t : Sums) → AreCounts t → IsOneLine 300 (counts_text t)
counts_are_one t fits =
    let all = fits.answers in
    let few = fits.taps in
    subst (IsOneLine 300) (sym (counts_spelled t))
    (weaker _ 300 _ (omega arith)
    (word (codes "taps ") _ _ refl (counted t.taps _ _ few
    (word (codes " paid ") _ _ refl (counted t.paid _ _ (omega (arith, all, few))
    (word (codes " transfers ") _ _ refl (counted t.transfers _ _ (omega (arith, all, few))
    (word (codes " capped ") _ _ refl (counted t.capped _ _ (omega (arith, all, few))
    (word (codes " stale ") _ _ refl (counted t.stale _ _ (omega (arith, all, few))
    (word (codes " unknown ") _ _ refl (counted t.unknown _ _ (omega (arith, all, few))
    (word (codes " cents ") _ _ refl (counted t.cents _ _ fits.cents over)))))))))))))))

pub totals_line_is_one : (totals : Sums) → AreCounts totals → IsOneLine 1000 (totals_line totals)
totals_line_is_one totals fits =
    weaker _ 1000 _ (omega arith)
    (word (codes "totals ") _ _ refl (counts_are_one totals fits))

pub validator_line_is_one : (sum : ℕ × Sums) → IsValidatorSum sum
    → IsOneLine 1000 (validator_line sum)
validator_line_is_one sum fits =
    let small = fits.validator in
    weaker _ 1000 _ (omega arith)
    (word (codes "validator ") _ _ refl (counted sum.0 _ _ (omega (arith, small))
    (word (codes " ") _ _ refl (counts_are_one sum.1 fits.counts))))

pub token_line_is_one : (sum : Token × Sums) → IsTokenSum sum → IsOneLine 1000 (token_line sum)
token_line_is_one sum fits =
    let digits = token_digits sum.0 in
    weaker _ 1000 _ (omega arith)
    (word (codes "token ") _ _ refl
    (longer 32 _ (encode_lower (bytes_of sum.0)) _ (encoded_none (bytes_of sum.0))
    (omega (arith, digits))
    (word (codes " ") _ _ refl (counts_are_one sum.1 fits.counts))))
