-- The laws of forms.
use Rattle.std.proofs.Common.{◌≡◌, ◌==◌, ℕ, ◌+◌, ◌<◌, ◌≤◌, ◌^◌, Bool, true, false, cond, not, ◌&&◌}
use Rattle.std.proofs.Common.{nat_lt, List, Option, Some, None, MatchOption, [], ◌∷◌, ◌++◌, length}
use Rattle.std.proofs.Common.{take, drop, refl, sym, ap, subst, ◌∙◌, arith, append_assoc, Decides}
use Rattle.std.proofs.Common.{option_map, Bor}
use Rattle.line_forms.specs.Columns.{BeginsAfterColumn, IsColumn, column_where, ends_column}
use Rattle.line_forms.specs.{Columns.is_column, Forms.BeginsWith}
use Rattle.line_forms.specs.Forms.{IsAfter, IsFirst, IsForm, IsThen, Reader, after, after_if}
use Rattle.line_forms.specs.Forms.{after_read, ended, go_on, is_end, none_stops, read_before}
use Rattle.line_forms.specs.Forms.{read_if, said_by, then_read, value_if, with_rest, with_second}
use Rattle.line_forms.specs.Numbers.{BeginsWithNoDigit, IsNumber, ends_digits, number_at, number_in}
use Rattle.line_forms.specs.inside.Narrow.{below}
use Rattle.std.proofs.Math.{Bool.not-not, Seq.drop-append_seam, Seq.take-append_seam}
use Rattle.std.proofs.lemmas.Bool.{false≢true, and_from, and_parts, Decides.Decides-eqb}
use Rattle.std.proofs.lemmas.{Bool.Decides.nat_tests, Fmt.decimal_is_IsNumeral_wide}
use Rattle.std.proofs.lemmas.List.{get_or-take, take-append-drop, Folds.length-prefix_len}
use Rattle.std.proofs.lemmas.List.{Recursion.same_from_clauses, Sums.list_all-from_AllPass}
use Rattle.std.proofs.lemmas.{List.Sums.prefix_len_passes, Slice.Eq.bytes_eq-Decides}
use Rattle.std.proofs.lemmas.Str.Parse.{IsNumeralModel, numerals_by_value, tells_all_ascii_digits}
use Rattle.std.specs.{Char.is_ascii_digit, Fmt.decimal, List.before_first, List.position_or_len}
use Rattle.std.specs.Str.{all_ascii_digits, bytes_eq, Parse.digits_value}

-- ---- options
pub is_none : {A : Type 0} (r : Option A) → ((a : A) → ¬ (r ≡ Some a)) → r ≡ None
is_none None f = refl
is_none (Some a) f = absurd (f a refl)

pub some_one : {A : Type 0} {a b : A} → Some a ≡ Some b → a ≡ b
some_one e = cc

value_if_some : {A : Type 0} (b : Bool) (a value : A) → value_if b a ≡ Some value → (b ≡ true) × (a ≡ value)
value_if_some true a value e = (refl, some_one e)
value_if_some false a value e = absurd (cc)

-- ---- words
after_step : (b c : ℕ) (bs cs rest : List ℕ) (same : Bool) → Decides same (b ≡ c)
    → (after bs cs ≡ Some rest → cs ≡ bs ++ rest) → after_if same (after bs cs) ≡ Some rest
    → (c ∷ cs) ≡ (b ∷ bs) ++ rest
after_step b c bs cs rest true d more e =
    let one : b ≡ c = d.0 refl in
    let two : cs ≡ bs ++ rest = more e in
    cc
after_step b c bs cs rest false d more e = absurd (cc)

pub after_sound : (word text rest : List ℕ) → after word text ≡ Some rest → text ≡ word ++ rest
after_sound [] text rest e = cc
after_sound (b ∷ bs) [] rest e = absurd (cc)
after_sound (b ∷ bs) (c ∷ cs) rest e =
    after_step b c bs cs rest (b == c) (Decides-eqb b c) (after_sound bs cs rest) e

pub after_complete : (word rest : List ℕ) → after word (word ++ rest) ≡ Some rest
after_complete [] rest = refl
after_complete (b ∷ bs) rest =
    let yes : (b == b) ≡ true = (Decides-eqb b b).1 refl in
    ap (λ t. after_if t (after bs (bs ++ rest))) yes ∙ after_complete bs rest

-- what the program strips is what the definition strips
pub after_by : (word text : List ℕ) (r : Option (Bor (List ℕ))) → MatchOption r
    ((rest : List ℕ) → ¬ (text ≡ word ++ rest)) (λ rest. text ≡ word ++ rest.now)
    → MatchOption r (after word text ≡ None) (λ rest. after word text ≡ Some rest.now)
after_by word text None none =
    is_none (after word text) (λ rest e. none rest (after_sound word text rest e))
after_by word text (Some rest) is = ap (after word) is ∙ after_complete word rest.now

-- ---- numbers
pub own : IsNumeralModel (λ ds. all_ascii_digits ds ≡ true) (digits_value 10)
own = numerals_by_value _ tells_all_ascii_digits

pub number_sound : (bound : ℕ) (digits : List ℕ) (n : ℕ) → number_in bound digits ≡ Some n
    → IsNumber bound n digits
unfolding number_in
number_sound bound digits n e =
    let v = digits_value 10 digits in
    let (both, value) = value_if_some (nat_lt v bound && bytes_eq (decimal v) digits) v n e in
    let (low, same) = and_parts (nat_lt v bound) (bytes_eq (decimal v) digits) both in
    let shown : decimal v ≡ digits = (bytes_eq-Decides (decimal v) digits).0 same in
    (let h : v < bound = grind (arith, nat_tests) in subst (λ k. k < bound) value h, sym shown ∙ ap decimal value)

pub number_complete : (bound n : ℕ) → n < 10 ^ 64 → n < bound → number_in bound (decimal n) ≡ Some n
unfolding number_in
number_complete bound n small low =
    let v : digits_value 10 (decimal n) ≡ n = (decimal_is_IsNumeral_wide n small).1 in
    let one : nat_lt (digits_value 10 (decimal n)) bound ≡ true = rw v (grind (arith, nat_tests)) in
    let two : bytes_eq (decimal (digits_value 10 (decimal n))) (decimal n) ≡ true =
    (bytes_eq-Decides _ _).1 (ap decimal v) in
    ap (λ b. value_if b (digits_value 10 (decimal n))) (and_from _ _ one two) ∙ ap Some v

pub number_is : (bound n : ℕ) (digits : List ℕ) → n < 10 ^ 64 → IsNumber bound n digits
    → number_in bound digits ≡ Some n
number_is bound n digits small (low, is) = ap (number_in bound) is ∙ number_complete bound n small low

-- what the program reads is what the definition reads
pub number_by : (bound : ℕ) (digits : List ℕ) (r : Option ℕ) → bound ≤ 10 ^ 64 → MatchOption r
    ((n : ℕ) → n < bound → ¬ (digits ≡ decimal n)) (λ n. IsNumber bound n digits)
    → r ≡ number_in bound digits
number_by bound digits None wide none =
    sym (is_none (number_in bound digits) (λ n e.
    let (small, is) = number_sound bound digits n e in none n small is))
number_by bound digits (Some n) wide is =
    let small : n < 10 ^ 64 = omega (arith, wide, is.0) in
    sym (number_is bound n digits small is)

narrow : (bound v : ℕ) (a b same : Bool) → nat_lt v bound ≡ b → (b ≡ true → a ≡ true)
    → below bound (value_if (a && same) v) ≡ value_if (b && same) v
narrow bound v true true true is wide = ap (λ x. value_if x v) is
narrow bound v true false true is wide = ap (λ x. value_if x v) is
narrow bound v true true false is wide = refl
narrow bound v true false false is wide = refl
narrow bound v false true same is wide = absurd (false≢true (wide refl))
narrow bound v false false same is wide = refl

-- a number of 32 bits is one of 64 bits
pub number_narrow : (digits : List ℕ) → below (2 ^ 32) (number_in (2 ^ 64) digits) ≡ number_in (2 ^ 32) digits
unfolding number_in
number_narrow digits =
    let v = digits_value 10 digits in
    narrow (2 ^ 32) v (nat_lt v (2 ^ 64)) (nat_lt v (2 ^ 32)) (bytes_eq (decimal v) digits) refl
    (λ low. let small : v < 2 ^ 64 = grind (arith, nat_tests) in grind (arith, nat_tests))

-- ---- digits
pub decimal_digits : (n : ℕ) → n < 10 ^ 64 → all_ascii_digits (decimal n) ≡ true
decimal_digits n small = own.from (decimal n) (decimal_is_IsNumeral_wide n small).0.1

digits_pass : (digits : List ℕ) → all_ascii_digits digits ≡ none_stops ends_digits digits
digits_pass = same_from_clauses all_ascii_digits (none_stops ends_digits) (λ c b. is_ascii_digit c && b) refl
    (λ c digits. refl) (λ c digits. ap (λ b. b && none_stops ends_digits digits) (not-not (is_ascii_digit c)))

-- ---- what comes before the first byte that stops it
pub with_rest_some : {A : Type 0} (r : Option A) (trailing : List ℕ) (a : A) (rest : List ℕ)
    → with_rest r trailing ≡ Some (a, rest) → (r ≡ Some a) × (trailing ≡ rest)
with_rest_some None trailing a rest e = absurd (cc)
with_rest_some {A} (Some b) trailing a rest e =
    let both : Some (b, trailing) ≡ Some (a, rest) = e in
    (ap (option_map (λ (p : A × List ℕ). p.0)) both, some_one (ap (option_map (λ (p : A × List ℕ). p.1)) both))

-- it is cut at its end
cut : (stops : ℕ → Bool) (front rest : List ℕ) → none_stops stops front ≡ true → BeginsWith stops rest
    → position_or_len stops (front ++ rest) ≡ length front
cut stops [] [] passes ends = refl
cut stops [] (c ∷ rest) passes ends = rw ends refl
cut stops (c ∷ front) rest passes ends =
    let (one, more) = and_parts (not (stops c)) (none_stops stops front) passes in
    let further = cut stops front rest more ends in
    ap (λ b. cond b (1 + position_or_len stops (front ++ rest)) 0) one ∙ omega (arith, further)

-- THE law of what is read up to a byte: what is before it says its value
before_law : {A : Type 0} {says : A → List ℕ → Type 0} (stops : ℕ → Bool) (value : List ℕ → Option A)
    → ((text : List ℕ) (a : A) → none_stops stops text ≡ true → value text ≡ Some a → says a text)
    → ((text : List ℕ) (a : A) → says a text → (none_stops stops text ≡ true) × (value text ≡ Some a))
    → IsForm says (BeginsWith stops) (read_before stops value)
before_law stops value sound complete = record {
  sound = λ whole a rest e.
      let (one, two) = with_rest_some (value (before_first stops whole)) _ a rest e in (
        before_first stops whole,
        sound (before_first stops whole) a (passes whole) one,
        sym (take-append-drop (position_or_len stops whole) whole)
            ∙ ap (λ (x : List ℕ). before_first stops whole ++ x) two,
      );
  complete = λ a text rest is ends.
      let (passes, said) = complete text a is in
      let end = cut stops text rest passes ends in
      ap (λ n. with_rest (value (take n (text ++ rest))) (drop n (text ++ rest))) end
      ∙ rw (take-append_seam text rest, drop-append_seam text rest, said) refl;
}
  where
    passes : (text : List ℕ) → none_stops stops (before_first stops text) ≡ true
    passes text = list_all-from_AllPass _ (before_first stops text) (λ k d low.
        let size = length-prefix_len (λ byte. not (stops byte)) text in
        let within : k < position_or_len stops text = omega (arith, low, size) in
        ap (λ byte. not (stops byte)) (get_or-take (position_or_len stops text) text k d within)
        ∙ prefix_len_passes _ text k d within)

-- ---- the forms
pub number_law : (bound : ℕ) → bound ≤ 10 ^ 64 → IsForm (IsNumber bound) BeginsWithNoDigit (number_at bound)
number_law bound wide = before_law ends_digits (number_in bound)
    (λ text n passes is. number_sound bound text n is)
    (λ text n is.
    let small : n < 10 ^ 64 = omega (arith, wide, is.0) in (
      sym (digits_pass text) ∙ ap all_ascii_digits is.1 ∙ decimal_digits n small,
      number_is bound n text small is,
    ))

pub column_law : (test : List ℕ → Bool) → IsForm (IsColumn test) BeginsAfterColumn (column_where test)
column_law test = before_law ends_column (λ column. value_if (test column) column)
    (λ text column plain is.
    let (passes, same) = value_if_some (test text) text column is in record {
      shown = same;
      plain = subst (λ (t : List ℕ). is_column t ≡ true) same plain;
      passes = subst (λ (t : List ℕ). test t ≡ true) same passes;
    })
    (λ text column is. (
      ap is_column is.shown ∙ is.plain,
      ap (λ (t : List ℕ). value_if (test t) t) is.shown ∙ ap (λ b. value_if b column) is.passes,
    ))

read_if_some : {A : Type 0} (reads : Reader A) (r : Option (List ℕ)) (a : A) (rest : List ℕ)
    → read_if reads r ≡ Some (a, rest) → (text : List ℕ) × (r ≡ Some text) × (reads text ≡ Some (a, rest))
read_if_some reads None a rest e = absurd (cc)
read_if_some reads (Some text) a rest e = (text, refl, e)

pub after_law : {A : Type 0} {says : A → List ℕ → Type 0} {ends : List ℕ → Type 0} {reads : Reader A}
    (word : List ℕ) → IsForm says ends reads → IsForm (IsAfter word says) ends (after_read word reads)
after_law {reads = reads} word form = record {
  sound = λ whole value rest e.
      let (text, one, two) = read_if_some reads (after word whole) value rest e in
      let (shown, is, same) = form.sound text value rest two in (
        word ++ shown,
        (shown, is, refl),
        after_sound word whole text one ∙ ap (λ (x : List ℕ). word ++ x) same ∙ sym (append_assoc word shown rest),
      );
  complete = λ value text rest is ends.
      let (shown, says, same) = is in
      ap (λ (t : List ℕ). after_read word reads (t ++ rest)) same
      ∙ ap (after_read word reads) (append_assoc word shown rest)
      ∙ ap (read_if reads) (after_complete word (shown ++ rest))
      ∙ form.complete value shown rest says ends;
}

with_some : {A B : Type 0} (a : A) (r : Option (B × List ℕ)) (v : A × B) (rest : List ℕ)
    → with_second a r ≡ Some (v, rest) → (a ≡ v.0) × (r ≡ Some (v.1, rest))
with_some a None v rest e = absurd (cc)
with_some a (Some q) v rest e =
    (some_one (ap (option_map (λ p. p.0.0)) e), ap (option_map (λ p. (p.0.1, p.1))) e)

pub go_on_some : {A B : Type 0} (second : Reader B) (r : Option (A × List ℕ)) (v : A × B) (rest : List ℕ)
    → go_on second r ≡ Some (v, rest)
    → (mid : List ℕ) × (r ≡ Some (v.0, mid)) × (second mid ≡ Some (v.1, rest))
go_on_some second None v rest e = absurd (cc)
go_on_some second (Some p) v rest e =
    let (one, two) = with_some p.0 (second p.1) v rest e in
    (p.1, ap (λ a. Some (a, p.1)) one, two)

pub then_law : {A B : Type 0} {says : A → List ℕ → Type 0} {ends : List ℕ → Type 0}
    {reads : Reader A} {says_b : B → List ℕ → Type 0} {ends_b : List ℕ → Type 0}
    {reads_b : Reader B} → IsForm says ends reads → IsForm says_b ends_b reads_b → IsFirst ends says_b
    → IsForm (IsThen says says_b) ends_b (then_read reads reads_b)
then_law {reads = reads} {reads_b = reads_b} a b first = record {
  sound = λ whole v rest e.
      let (mid, one, two) = go_on_some reads_b (reads whole) v rest e in
      let (text, is, shown) = a.sound whole v.0 mid one in
      let (text_b, is_b, shown_b) = b.sound mid v.1 rest two in (
        text ++ text_b,
        (text, text_b, is, is_b, refl),
        shown ∙ ap (λ (x : List ℕ). text ++ x) shown_b ∙ sym (append_assoc text text_b rest),
      );
  complete = λ v whole rest is ends.
      let (text, text_b, says, also, same) = is in
      ap (λ (t : List ℕ). then_read reads reads_b (t ++ rest)) same
      ∙ ap (λ (t : List ℕ). go_on reads_b (reads t)) (append_assoc text text_b rest)
      ∙ ap (go_on reads_b) (a.complete v.0 text (text_b ++ rest) says (first v.1 text_b rest also))
      ∙ ap (with_second v.0) (b.complete v.1 text_b rest also ends);
}

-- ---- whole lines
end_is : (text : List ℕ) → is_end text ≡ true → text ≡ 10 ∷ []
end_is [] e = absurd (false≢true e)
end_is (byte ∷ []) e = let one : byte ≡ 10 = (Decides-eqb byte 10).0 e in ap (λ b. b ∷ []) one
end_is (byte ∷ (other ∷ more)) e = absurd (false≢true e)

pub ended_some : {A : Type 0} (r : Option (A × List ℕ)) (v : A) → ended r ≡ Some v
    → r ≡ Some (v, 10 ∷ [])
ended_some None v e = absurd (cc)
ended_some (Some parts) v e = at (is_end parts.1) refl e
  where
    at : (b : Bool) → is_end parts.1 ≡ b → value_if b parts.0 ≡ Some v → Some parts ≡ Some (v, 10 ∷ [])
    at true is e =
        let one : parts.0 ≡ v = some_one e in
        ap (λ (l : List ℕ). Some (parts.0, l)) (end_is parts.1 is) ∙ ap (λ a. Some (a, 10 ∷ [])) one
    at false is e = absurd (cc)

-- THE law of a line: what it says, its text before the line feed says
pub line_sound : {A : Type 0} {says : A → List ℕ → Type 0} {ends : List ℕ → Type 0} {reads : Reader A}
    → IsForm says ends reads → (line : List ℕ) (v : A) → said_by reads line ≡ Some v
    → (text : List ℕ) × says v text × (line ≡ text ++ 10 ∷ [])
line_sound {reads = reads} form line v e = form.sound line v (10 ∷ []) (ended_some (reads line) v e)

pub line_complete : {A : Type 0} {says : A → List ℕ → Type 0} {ends : List ℕ → Type 0} {reads : Reader A}
    → IsForm says ends reads → ends (10 ∷ []) → (v : A) (text : List ℕ) → says v text
    → said_by reads (text ++ 10 ∷ []) ≡ Some v
line_complete form feed v text is = ap ended (form.complete v text (10 ∷ []) is feed)

-- ---- the bounds
pub wide_32 : 2 ^ 32 ≤ 10 ^ 64
wide_32 = omega arith

pub wide_64 : 2 ^ 64 ≤ 10 ^ 64
wide_64 = omega arith
