-- The laws of the forms of a report's lines: the line of a value says this value, and no other line
-- does.
use Rattle.std.proofs.Common.{◌≡◌, ℕ, ◌+◌, ◌*◌, ◌<◌, ◌^◌, Bool, true, false, List, ◌++◌, Option}
use Rattle.std.proofs.Common.{Some, None, Result, Ok, Err, codes, cond, nat_lt, take, drop, length}
use Rattle.std.proofs.Common.{length-append, get_or, refl, sym, ap, subst, ◌∙◌, append_assoc, arith}
use Rattle.hex.proofs.HexLemmas.{decode_of-ok, decode_sized-encode_lower, decode_sized-ok}
use Rattle.hex.proofs.HexLemmas.{decode_sized-twice, length-encode_with}
use Rattle.hex.specs.Hex.{decode_sized, encode_lower, lower_digits}
use Rattle.hex.specs.declared.error.FromHexError.{FromHexError}
use Rattle.histories.specs.Sums.{Sums}
use Rattle.line_forms.specs.FormLaws.{after_law, number_law, some_one, then_law, wide_64}
use Rattle.line_forms.specs.FormLaws.{with_rest_some}
use Rattle.line_forms.specs.Forms.{IsAfter, IsFirst, IsForm, IsThen, Reader, value_if, with_rest}
use Rattle.line_forms.specs.Numbers.{BeginsWithNoDigit, IsNumber}
use Rattle.report_texts.specs.Forms.{Counted, again, chosen, count_at, counted_read, counts_read}
use Rattle.report_texts.specs.Forms.{sums_by, token_in, token_read, token_with}
use Rattle.std.proofs.lemmas.{Bool.false≢true, Bool.Decides.nat_tests, List.drop_at, List.take_at}
use Rattle.std.proofs.lemmas.{List.take-append-drop, Slice.Eq.bytes_eq-Decides}
use Rattle.std.specs.{Int.from_be_bytes, Int.w64, Prelude.MatchResult, Result.is_err, Str.bytes_eq}
use Rattle.tap_views.proofs.TokenBytes.{back_byte, eight_bytes, front_byte, token_bytes}
use Rattle.tap_views.proofs.TokenBytes.{token_length, two_numbers}
use Rattle.tap_views.proofs.TokenLemmas.{high_back, low_back}
use Rattle.tap_views.specs.{Token.Fits, Token.bytes_of, declared.token.Token.Token}

-- ---- values that are made of others
chosen_some : {A B : Type 0} (choice : A → Option B) (r : Option (A × List ℕ)) (b : B) (rest : List ℕ)
    → chosen choice r ≡ Some (b, rest) → (a : A) × (r ≡ Some (a, rest)) × (choice a ≡ Some b)
chosen_some choice None b rest e = absurd (cc)
chosen_some choice (Some p) b rest e =
    let (one, two) = with_rest_some (choice p.0) p.1 b rest e in
    (p.0, ap (λ (x : List ℕ). Some (p.0, x)) two, one)

-- the text says a value of which this one is made
abbrev pub IsChosen : {A B : Type 0} → (A → Option B) → (A → List ℕ → Type 0) → B → List ℕ → Type 0
IsChosen {A = A} choice says b text = (a : A) × says a text × (choice a ≡ Some b)

pub chosen_law : {A B : Type 0} {says : A → List ℕ → Type 0} {ends : List ℕ → Type 0}
    {reads : Reader A} (choice : A → Option B) → IsForm says ends reads
    → IsForm (IsChosen choice says) ends (λ text. chosen choice (reads text))
chosen_law {reads = reads} choice form = record {
  sound = λ whole b rest e.
      let (a, one, two) = chosen_some choice (reads whole) b rest e in
      let (text, is, shown) = form.sound whole a rest one in
      (text, (a, is, two), shown);
  complete = λ b text rest is ends.
      ap (chosen choice) (form.complete is.0 text rest is.1 ends)
      ∙ ap (λ r. with_rest r rest) is.2;
}

-- ---- counts
abbrev pub IsCount : List ℕ → ℕ → List ℕ → Type 0
IsCount word = IsAfter word (IsNumber (2 ^ 64))

pub count_form : (word : List ℕ) → IsForm (IsCount word) BeginsWithNoDigit (count_at word)
count_form word = after_law word (number_law (2 ^ 64) wide_64)

pub begins : (word : List ℕ) → ((rest : List ℕ) → BeginsWithNoDigit (word ++ rest))
    → IsFirst BeginsWithNoDigit (IsCount word)
begins word none value text rest is =
    subst (λ (x : List ℕ). BeginsWithNoDigit (x ++ rest)) (sym is.2)
    (subst BeginsWithNoDigit (sym (append_assoc word is.0 rest)) (none (is.0 ++ rest)))

pub begins_then : {B : Type 0} (says : B → List ℕ → Type 0) (word : List ℕ)
    → IsFirst BeginsWithNoDigit (IsCount word)
    → IsFirst BeginsWithNoDigit (IsThen (IsCount word) says)
begins_then says word first value text rest is =
    subst (λ (x : List ℕ). BeginsWithNoDigit (x ++ rest)) (sym is.4)
    (subst BeginsWithNoDigit (sym (append_assoc is.0 is.1 rest))
    (first value.0 is.0 (is.1 ++ rest) is.2))

-- the text says the counts after that of the taps
abbrev pub IsOtherCounts : ℕ × (ℕ × (ℕ × (ℕ × (ℕ × ℕ)))) → List ℕ → Type 0
IsOtherCounts =
    IsThen (IsCount (codes " paid ")) (IsThen (IsCount (codes " transfers "))
    (IsThen (IsCount (codes " capped ")) (IsThen (IsCount (codes " stale "))
    (IsThen (IsCount (codes " unknown ")) (IsCount (codes " cents "))))))

abbrev pub IsCountedText : List ℕ → Counted → List ℕ → Type 0
IsCountedText word = IsThen (IsCount word) IsOtherCounts

counted_law : (word : List ℕ) → IsForm (IsCountedText word) BeginsWithNoDigit (counted_read word)
counted_law word =
    then_law (count_form word)
    (then_law (count_form (codes " paid "))
    (then_law (count_form (codes " transfers "))
    (then_law (count_form (codes " capped "))
    (then_law (count_form (codes " stale "))
    (then_law (count_form (codes " unknown ")) (count_form (codes " cents "))
    (begins (codes " cents ") (λ rest. refl)))
    (begins_then _ (codes " unknown ") (begins (codes " unknown ") (λ rest. refl))))
    (begins_then _ (codes " stale ") (begins (codes " stale ") (λ rest. refl))))
    (begins_then _ (codes " capped ") (begins (codes " capped ") (λ rest. refl))))
    (begins_then _ (codes " transfers ") (begins (codes " transfers ") (λ rest. refl))))
    (begins_then _ (codes " paid ") (begins (codes " paid ") (λ rest. refl)))

-- the text says these sums, after the word
abbrev pub IsCountsText : List ℕ → Sums → List ℕ → Type 0
IsCountsText word = IsChosen sums_by (IsCountedText word)

pub counts_law : (word : List ℕ) → IsForm (IsCountsText word) BeginsWithNoDigit (counts_read word)
counts_law word = chosen_law sums_by (counted_law word)

-- such a text begins with no digit
pub begins_chosen : (word : List ℕ) → ((rest : List ℕ) → BeginsWithNoDigit (word ++ rest))
    → IsFirst BeginsWithNoDigit (IsCountsText word)
begins_chosen word none value text rest is =
    begins_then IsOtherCounts word (begins word none) is.0 text rest is.1

-- ---- tokens
-- the text is the token's digits
abbrev pub IsTokenDigits : Token → List ℕ → Type 0
IsTokenDigits token text = Fits token × (text ≡ encode_lower (bytes_of token))

-- a token has 32 digits
pub token_digits : (token : Token) → length (encode_lower (bytes_of token)) ≡ 32
token_digits token =
    length-encode_with lower_digits (bytes_of token) ∙ ap (λ n. 2 * n) (token_length token)

pub token_decoded : (token : Token)
    → decode_sized (encode_lower (bytes_of token)) 16 ≡ Ok (bytes_of token)
token_decoded token =
    decode_sized-encode_lower (bytes_of token) 16 (token_length token) (token_bytes token)

token_back : (token : Token) → Fits token → token_with (bytes_of token) ≡ token
token_back token fits =
    let high = high_back token fits in
    let low = low_back token fits in
    λ i. record { high = high i; low = low i }

pub token_in_complete : (token : Token) → Fits token
    → token_in (encode_lower (bytes_of token)) ≡ Some token
token_in_complete token fits =
    let digits = encode_lower (bytes_of token) in
    ap (again digits) (token_decoded token)
    ∙ ap (λ b. value_if b (token_with (bytes_of token))) ((bytes_eq-Decides digits digits).1 refl)
    ∙ ap Some (token_back token fits)

token_made : (bytes : List ℕ) → length bytes ≡ 16 → ((i : ℕ) → get_or bytes i 0 < 256)
    → (bytes_of (token_with bytes) ≡ bytes) × Fits (token_with bytes)
unfolding bytes_of
token_made bytes long small = (
  two_numbers bytes (take 8 bytes) (drop 8 bytes) (from_be_bytes w64 (take 8 bytes))
      (from_be_bytes w64 (drop 8 bytes)) long small refl refl refl refl,
  record {
    high = eight_bytes (take 8 bytes) (front_byte bytes 8 small);
    low = eight_bytes (drop 8 bytes) (back_byte bytes 8 small);
  },
)

pub value_if_some : {A : Type 0} (b : Bool) (a v : A) → value_if b a ≡ Some v → (b ≡ true) × (a ≡ v)
value_if_some true a v e = (refl, some_one e)
value_if_some false a v e = absurd (cc)

again_some : (digits : List ℕ) (r : Result (List ℕ) FromHexError) (token : Token)
    → decode_sized digits 16 ≡ r → again digits r ≡ Some token → IsTokenDigits token digits
again_some digits (Err e) token is found = absurd (cc)
again_some digits (Ok bytes) token is found =
    let (same, made) = value_if_some (bytes_eq (encode_lower bytes) digits) (token_with bytes) token
    found in
    let double : length digits ≡ 2 * 16 = decode_sized-ok digits 16 bytes is in
    let ok = decode_of-ok digits bytes (sym (decode_sized-twice digits 16 double) ∙ is) in
    let long : length bytes ≡ 16 = omega (arith, double, ok.2) in
    let (back, fits) = token_made bytes long ok.3 in
    let shown : encode_lower bytes ≡ digits = (bytes_eq-Decides (encode_lower bytes) digits).0 same
    in
    subst (λ (t : Token). IsTokenDigits t digits) made
    (fits, sym shown ∙ ap encode_lower (sym back))

pub token_in_sound : (digits : List ℕ) (token : Token) → token_in digits ≡ Some token
    → IsTokenDigits token digits
token_in_sound digits token e = again_some digits (decode_sized digits 16) token refl e

-- ---- what the program decodes
pub again_refused : (digits : List ℕ) (answer : Result (List ℕ) FromHexError)
    (result : Result Unit FromHexError) (out : List ℕ)
    → MatchResult answer (λ bs. (result ≡ Ok tt) × (out ≡ bs)) (λ e. result ≡ Err e)
    → is_err result ≡ true → again digits answer ≡ None
again_refused digits (Ok bytes) result out gave err =
    absurd (false≢true (sym (ap is_err gave.0) ∙ err))
again_refused digits (Err e) result out gave err = refl

pub again_taken : (digits : List ℕ) (answer : Result (List ℕ) FromHexError)
    (result : Result Unit FromHexError) (out : List ℕ)
    → MatchResult answer (λ bs. (result ≡ Ok tt) × (out ≡ bs)) (λ e. result ≡ Err e)
    → is_err result ≡ false
    → again digits answer ≡ value_if (bytes_eq (encode_lower out) digits) (token_with out)
again_taken digits (Ok bytes) result out gave err =
    ap (λ (b : List ℕ). value_if (bytes_eq (encode_lower b) digits) (token_with b)) (sym gave.1)
again_taken digits (Err e) result out gave err = absurd (false≢true (sym err ∙ ap is_err gave))

pub token_of : (token : Token) (bytes : List ℕ) → bytes_of token ≡ bytes → Fits token
    → token ≡ token_with bytes
token_of token bytes is fits = sym (token_back token fits) ∙ ap token_with is

token_front : (b : Bool) (whole : List ℕ) (token : Token) (rest : List ℕ)
    → cond b None (with_rest (token_in (take 32 whole)) (drop 32 whole)) ≡ Some (token, rest)
    → (token_in (take 32 whole) ≡ Some token) × (drop 32 whole ≡ rest)
token_front true whole token rest e = absurd (cc)
token_front false whole token rest e =
    with_rest_some (token_in (take 32 whole)) (drop 32 whole) token rest e

long_enough : (a b : List ℕ) → length a ≡ 32 → nat_lt (length (a ++ b)) 32 ≡ false
long_enough a b long = let all = length-append a b in grind (arith, nat_tests, all, long)

pub token_law : IsForm IsTokenDigits (λ rest. Unit {0}) token_read
token_law = record {
  sound = λ whole token rest e.
      let (one, two) = token_front (nat_lt (length whole) 32) whole token rest e in (
        take 32 whole,
        token_in_sound (take 32 whole) token one,
        sym (take-append-drop 32 whole) ∙ ap (λ (x : List ℕ). take 32 whole ++ x) two,
      );
  complete = λ token text rest is ends.
      let long : length text ≡ 32 = ap length is.1 ∙ token_digits token in
      ap (λ b. cond b None (with_rest (token_in (take 32 (text ++ rest))) (drop 32 (text ++ rest))))
      (long_enough text rest long)
      ∙ ap (λ (x : List ℕ). with_rest (token_in x) (drop 32 (text ++ rest))) (take_at text rest 32 long)
      ∙ ap (λ (x : List ℕ). with_rest (token_in text) x) (drop_at text rest 32 long)
      ∙ ap (λ r. with_rest r rest) (ap token_in is.1 ∙ token_in_complete token is.0);
}
