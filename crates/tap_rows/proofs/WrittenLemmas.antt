-- The table that is written is read as the taps that it was written for.
use Rattle.std.proofs.Common.{All, inl, inr, ◌≡◌, ℕ, zero, suc, ◌+◌, ◌-◌, ◌<◌, ◌≤◌, ◌^◌, List, []}
use Rattle.std.proofs.Common.{◌∷◌, ◌++◌, length, take, refl, sym, ap, subst, ◌∙◌, arith}
use Rattle.std.proofs.Common.{append_assoc, length-append, true, false, Bool, ◌==◌, ◌&&◌}
use Rattle.hex.proofs.HexLemmas.{decode_sized-encode_lower, IsOk-decode_sized}
use Rattle.hex.specs.Hex.{encode_lower, decode_sized, is_hex_digit}
use Rattle.std.proofs.{Math.Bool.and-false, Math.Seq.get_or-append_seam, lemmas.Bool.lt-ltb}
use Rattle.std.proofs.lemmas.Bool.{ltb-true, and_parts, Decides.eqb_tells, Decides.nat_tests}
use Rattle.std.proofs.lemmas.{Fmt.decimal_is_IsNumeral, Str.Parse.digit_from_value}
use Rattle.std.specs.Fmt.{decimal}
use Rattle.std.specs.Io.BufRead.{first_line, take_through, drop_through, ends_with_byte, strip_last}
use Rattle.std.specs.List.{AllByRecursion, AllPass}
use Rattle.std.specs.Prelude.{codes, slice_index, slice_index_or, nat_lt, IsOk, if◌then◌else◌}
use Rattle.std.specs.Str.Parse.{AllDigits}
use Rattle.tap_rows.specs.{Fields.AreFields, Fields.FieldRepresents, Moments.IsDecimal}
use Rattle.tap_rows.specs.Rows.{IsTapRow, IsTapFields, row_text, rows_text}
use Rattle.tap_rows.specs.TapTables.{head, IsHead, BeginsWithRows, IsTapTable, tap_table_text}
use Rattle.tap_views.specs.declared.encoder.TapFields.{TapFields}

-- each byte is a digit or comes after them
abbrev pub AreHigh : List ℕ → Type 0
AreHigh text = AllByRecursion (λ byte. 47 < byte) text

-- each byte comes after the line breaks
abbrev pub IsUnbroken : List ℕ → Type 0
IsUnbroken text = AllByRecursion (λ byte. 13 < byte) text

high_unbroken : (text : List ℕ) → AreHigh text → IsUnbroken text
high_unbroken [] high = tt
high_unbroken (x ∷ text) high = (omega (arith, high.0), high_unbroken text high.1)

unbroken_joined : (text more : List ℕ) → IsUnbroken text → IsUnbroken more
    → IsUnbroken (text ++ more)
unbroken_joined [] more is also = also
unbroken_joined (x ∷ text) more is also = (is.0, unbroken_joined text more is.1 also)

-- high bytes have no comma
no_comma : (text : List ℕ) → AreHigh text → (k d : ℕ) → k < length text
    → ¬ (slice_index_or text k d ≡ 44)
no_comma [] high k d within = absurd (omega (arith, within))
no_comma (x ∷ text) high zero d within = λ e. absurd (omega (arith, high.0, e))
no_comma (x ∷ text) high (suc k) d within = no_comma text high.1 k d (omega (arith, within))

-- ---- digits are high
digits_high : (text : List ℕ) → AllDigits 10 text → AreHigh text
digits_high [] digits = tt
digits_high (x ∷ text) digits = let range = digit_from_value x digits.0 in
    (omega (arith, range), digits_high text digits.1)

hex_high_one : (c : ℕ) → is_hex_digit c ≡ true → 48 ≤ c
hex_high_one c is = grind (arith, nat_tests, is)

hex_high : (text : List ℕ) → AllPass is_hex_digit text → AreHigh text
hex_high [] digits = tt
hex_high (x ∷ text) digits = (
  hex_high_one x (digits 0 0 (omega arith)),
  hex_high text (λ k d within. digits (suc k) d (omega (arith, within))),
)

-- ---- lines
is_not : (x y : ℕ) → y < x → (x == y) ≡ false
is_not x y less = grind (arith, nat_tests)

-- no byte is a line feed
abbrev HasNoFeed : List ℕ → Type 0
HasNoFeed text = All (λ byte. ¬ (byte ≡ 10)) text

no_feed_after : (x : ℕ) (text : List ℕ) → HasNoFeed (x ∷ text) → HasNoFeed text
no_feed_after x text none = λ k d within. none (suc k) d (omega (arith, within))

first_is_not : (x : ℕ) (text : List ℕ) → HasNoFeed (x ∷ text) → (x == 10) ≡ false
first_is_not x text none = elim (eqb_tells x 10) [
  | inl same ↦ absurd (none 0 0 (omega arith) same.1)
  | inr other ↦ other.0
]

-- up to and with the line feed
taken : (line rest : List ℕ) → HasNoFeed line
    → take_through 10 (line ++ 10 ∷ rest) ≡ line ++ 10 ∷ []
taken [] rest none = refl
taken (x ∷ line) rest none = let other = first_is_not x line none in
    rw other (ap (λ bytes. x ∷ bytes) (taken line rest (no_feed_after x line none)))

-- behind the line feed
pub dropped : (line rest : List ℕ) → HasNoFeed line → drop_through 10 (line ++ 10 ∷ rest) ≡ rest
dropped [] rest none = refl
dropped (x ∷ line) rest none = let other = first_is_not x line none in
    rw other (dropped line rest (no_feed_after x line none))

-- a text without a line feed
all_taken : (text : List ℕ) → HasNoFeed text → take_through 10 text ≡ text
all_taken [] none = refl
all_taken (x ∷ text) none = let other = first_is_not x text none in
    rw other (ap (λ bytes. x ∷ bytes) (all_taken text (no_feed_after x text none)))

pub all_dropped : (text : List ℕ) → HasNoFeed text → drop_through 10 text ≡ []
all_dropped [] none = refl
all_dropped (x ∷ text) none = let other = first_is_not x text none in
    rw other (all_dropped text (no_feed_after x text none))

-- a line without its end
abbrev trimmed : List ℕ → List ℕ
trimmed line = if ends_with_byte 10 line then strip_last 13 (strip_last 10 line) else strip_last 10
    line

positive : (n : ℕ) → 0 < n → nat_lt 0 n ≡ true
positive n some = lt-ltb 0 n some

-- a line feed stands last
ends_so : (line : List ℕ) → ends_with_byte 10 (line ++ 10 ∷ []) ≡ true
ends_so line =
    let size : length (line ++ 10 ∷ []) ≡ length line + 1 = length-append line (10 ∷ []) in
    let some = positive (length (line ++ 10 ∷ [])) (omega (arith, size)) in
    let at : length (line ++ 10 ∷ []) - 1 ≡ length line = omega (arith, size) in
    let last : slice_index (line ++ 10 ∷ []) (length (line ++ 10 ∷ []) - 1) ≡ 10 =
    ap (λ k. slice_index (line ++ 10 ∷ []) k) at ∙ get_or-append_seam line 10 [] 0 in
    rw (some, last) refl

take_front : (front rest : List ℕ) → take (length front) (front ++ rest) ≡ front
take_front [] rest = refl
take_front (x ∷ front) rest = ap (λ bytes. x ∷ bytes) (take_front front rest)

no_feed : (line : List ℕ) → strip_last 10 (line ++ 10 ∷ []) ≡ line
no_feed line =
    let size : length (line ++ 10 ∷ []) ≡ length line + 1 = length-append line (10 ∷ []) in
    let at : length (line ++ 10 ∷ []) - 1 ≡ length line = omega (arith, size) in
    let ends = ends_so line in
    rw ends (ap (λ k. take k (line ++ 10 ∷ [])) at ∙ take_front line (10 ∷ []))

unbroken_at : (line : List ℕ) → IsUnbroken line → (k : ℕ) → k < length line
    → 13 < slice_index line k
unbroken_at [] unbroken k within = absurd (omega (arith, within))
unbroken_at (x ∷ line) unbroken zero within = unbroken.0
unbroken_at (x ∷ line) unbroken (suc k) within =
    unbroken_at line unbroken.1 k (omega (arith, within))

-- no carriage return stands last
no_return : (line : List ℕ) → IsUnbroken line → ends_with_byte 13 line ≡ false
no_return [] unbroken = refl
no_return (x ∷ line) unbroken =
    let last = unbroken_at (x ∷ line) unbroken (length (x ∷ line) - 1) (omega arith) in
    let other = is_not (slice_index (x ∷ line) (length (x ∷ line) - 1)) 13 last in
    rw other (and-false (nat_lt 0 (length (x ∷ line))))

strip_none : (byte : ℕ) (line : List ℕ) → ends_with_byte byte line ≡ false
    → strip_last byte line ≡ line
strip_none byte line none = rw none refl

-- the line without its end
pub first_line_of : (line rest : List ℕ) → HasNoFeed line
    → first_line (line ++ 10 ∷ rest) ≡ strip_last 13 line
first_line_of line rest none =
    let ends = ends_so line in
    let whole : trimmed (line ++ 10 ∷ []) ≡ strip_last 13 (strip_last 10 (line ++ 10 ∷ [])) =
    rw ends refl in
    ap trimmed (taken line rest none) ∙ whole ∙ ap (strip_last 13) (no_feed line)

no_feed_more : (x : ℕ) (line : List ℕ) → 13 < x → HasNoFeed line → (k d : ℕ)
    → k < length (x ∷ line) → ¬ (slice_index_or (x ∷ line) k d ≡ 10)
no_feed_more x line above none zero d within = λ same. absurd (omega (arith, same, above))
no_feed_more x line above none (suc k) d within = none k d (omega (arith, within))

unbroken_no_feed : (line : List ℕ) → IsUnbroken line → HasNoFeed line
unbroken_no_feed [] unbroken = λ k d within. absurd (omega (arith, within))
unbroken_no_feed (x ∷ line) unbroken =
    no_feed_more x line unbroken.0 (unbroken_no_feed line unbroken.1)

pub first : (line rest : List ℕ) → IsUnbroken line → first_line (line ++ 10 ∷ rest) ≡ line
first line rest unbroken = first_line_of line rest (unbroken_no_feed line unbroken)
    ∙ strip_none 13 line (no_return line unbroken)

-- no line feed stands last
no_end : (text : List ℕ) → HasNoFeed text → ends_with_byte 10 text ≡ false
no_end [] none = refl
no_end (x ∷ text) none =
    let last = none (length (x ∷ text) - 1) 0 (omega arith) in
    let other : (slice_index (x ∷ text) (length (x ∷ text) - 1) == 10) ≡ false =
    elim (eqb_tells (slice_index (x ∷ text) (length (x ∷ text) - 1)) 10) [
      | inl same ↦ absurd (last same.1)
      | inr differs ↦ differs.0
    ] in
    rw other (and-false (nat_lt 0 (length (x ∷ text))))

-- a text without a line feed is its first line
pub only_line : (text : List ℕ) → HasNoFeed text → first_line text ≡ text
only_line text none =
    let ends = no_end text none in
    let whole : trimmed text ≡ strip_last 10 text = rw ends refl in
    ap trimmed (all_taken text none) ∙ whole ∙ strip_none 10 text ends

-- whether each byte is above this one
abbrev all_above : ℕ → List ℕ → Bool
all_above limit [] = true
all_above limit (x ∷ text) = nat_lt limit x && all_above limit text

above_test : (limit : ℕ) (text : List ℕ) → all_above limit text ≡ true
    → AllByRecursion (λ byte. limit < byte) text
above_test limit [] is = tt
above_test limit (x ∷ text) is = (
  ltb-true limit x (and_parts (nat_lt limit x) (all_above limit text) is).0,
  above_test limit text (and_parts (nat_lt limit x) (all_above limit text) is).1,
)

-- ---- fields
no_quote : (text : List ℕ) → AreHigh text → (rest : List ℕ) → ¬ (text ≡ 34 ∷ rest)
no_quote [] high rest e = absurd (omega (arith, ap length e))
no_quote (x ∷ text) high rest e = let first : x ≡ 34 = cc in absurd (omega (arith, first, high.0))

-- high bytes stand for themselves
bare : (text : List ℕ) → AreHigh text → FieldRepresents text text
bare text high = inl (record { same = refl; unquoted = no_quote text high })

high_fields : (first second third : List ℕ) → AreHigh first → AreHigh second → AreHigh third
    → AreFields (first ++ 44 ∷ (second ++ 44 ∷ third)) first second third
high_fields first second third is also last = record {
  joined = refl;
  no_comma_first = no_comma first is;
  no_comma_second = no_comma second also;
  no_comma_third = no_comma third last;
}

-- ---- rows
-- the row of a tap, without its line feed
abbrev pub line_of : TapFields → List ℕ
line_of tap = encode_lower tap.token ++ 44 ∷ (decimal tap.validator ++ 44 ∷ decimal tap.moment)

number_back : (number : ℕ) → number < 2 ^ 64 → IsDecimal (decimal number) number
number_back number small = let (is, value) = decimal_is_IsNumeral number small in
    record { digits = is; value = sym value }

token_high : (tap : TapFields) → IsTapFields tap → AreHigh (encode_lower tap.token)
token_high tap is =
    let decoded = decode_sized-encode_lower tap.token 16 is.token is.bytes in
    let ok : IsOk (decode_sized (encode_lower tap.token) 16) = subst IsOk (sym decoded) refl in
    hex_high (encode_lower tap.token) ((IsOk-decode_sized (encode_lower tap.token) 16).0 ok).1

decimal_high : (number : ℕ) → number < 2 ^ 64 → AreHigh (decimal number)
decimal_high number small = digits_high (decimal number) (decimal_is_IsNumeral number small).0.1

line_unbroken : (tap : TapFields) → IsTapFields tap → IsUnbroken (line_of tap)
line_unbroken tap is =
    unbroken_joined (encode_lower tap.token)
    (44 ∷ (decimal tap.validator ++ 44 ∷ decimal tap.moment))
    (high_unbroken _ (token_high tap is)) (
      omega arith,
      unbroken_joined (decimal tap.validator) (44 ∷ decimal tap.moment)
          (high_unbroken _ (decimal_high tap.validator (omega (arith, is.validator))))
          (omega arith, high_unbroken _ (decimal_high tap.moment (omega (arith, is.moment)))),
    )

row_back : (tap : TapFields) → IsTapFields tap → IsTapRow (line_of tap) tap
row_back tap is = record {
  token_text = encode_lower tap.token;
  validator_text = decimal tap.validator;
  moment_text = decimal tap.moment;
  fields = high_fields (encode_lower tap.token) (decimal tap.validator) (decimal tap.moment)
      (token_high tap is) (decimal_high tap.validator (omega (arith, is.validator)))
      (decimal_high tap.moment (omega (arith, is.moment)));
  token = (
    encode_lower tap.token,
    bare (encode_lower tap.token) (token_high tap is),
    decode_sized-encode_lower tap.token 16 is.token is.bytes,
  );
  validator = (
    decimal tap.validator,
    bare (decimal tap.validator) (decimal_high tap.validator (omega (arith, is.validator))),
    (number_back tap.validator (omega (arith, is.validator)), is.validator),
  );
  moment = (
    decimal tap.moment,
    bare (decimal tap.moment) (decimal_high tap.moment (omega (arith, is.moment))),
    (inl (number_back tap.moment (omega (arith, is.moment))), is.moment),
  );
}

-- the text of a row is its line and a line feed
row_spelled : (tap : TapFields) (rest : List ℕ) → row_text tap ++ rest ≡ line_of tap ++ 10 ∷ rest
row_spelled tap rest =
    append_assoc (encode_lower tap.token)
    (44 ∷ (decimal tap.validator ++ 44 ∷ (decimal tap.moment ++ 10 ∷ []))) rest
    ∙ ap (λ text. encode_lower tap.token ++ 44 ∷ text)
    (append_assoc (decimal tap.validator) (44 ∷ (decimal tap.moment ++ 10 ∷ [])) rest
    ∙ ap (λ text. decimal tap.validator ++ 44 ∷ text)
    (append_assoc (decimal tap.moment) (10 ∷ []) rest)
    ∙ sym (append_assoc (decimal tap.validator) (44 ∷ decimal tap.moment) (10 ∷ rest)))
    ∙ sym (append_assoc (encode_lower tap.token)
    (44 ∷ (decimal tap.validator ++ 44 ∷ decimal tap.moment)) (10 ∷ rest))

rows_back : (taps : List TapFields) → AllByRecursion IsTapFields taps
    → BeginsWithRows (rows_text taps) taps []
rows_back [] are = refl
rows_back (tap ∷ taps) are =
    let spelled = row_spelled tap (rows_text taps) in
    let unbroken = line_unbroken tap are.0 in
    let line : first_line (rows_text (tap ∷ taps)) ≡ line_of tap =
    ap first_line spelled ∙ first (line_of tap) (rows_text taps) unbroken in
    let rest : drop_through 10 (rows_text (tap ∷ taps)) ≡ rows_text taps =
    ap (drop_through 10) spelled
    ∙ dropped (line_of tap) (rows_text taps) (unbroken_no_feed (line_of tap) unbroken) in (
      subst (λ text. IsTapRow text tap) (sym line) (row_back tap are.0),
      subst (λ text. BeginsWithRows text taps []) (sym rest) (rows_back taps are.1),
    )

-- the head that is written is a head
head_back : IsHead head
head_back =
    let token : AreHigh (codes "token") = above_test 47 (codes "token") refl in
    let validator : AreHigh (codes "validator") = above_test 47 (codes "validator") refl in
    let moment : AreHigh (codes "moment") = above_test 47 (codes "moment") refl in
    record {
      token_text = codes "token";
      validator_text = codes "validator";
      moment_text = codes "moment";
      fields = high_fields (codes "token") (codes "validator") (codes "moment") token validator
          moment;
      token = bare (codes "token") token;
      validator = bare (codes "validator") validator;
      moment = bare (codes "moment") moment;
    }

pub table_back : (taps : List TapFields) → AllByRecursion IsTapFields taps
    → IsTapTable (tap_table_text taps) taps
table_back taps are =
    let unbroken : IsUnbroken head = above_test 13 head refl in
    record {
      head_line = subst IsHead (sym (first head (rows_text taps) unbroken)) head_back;
      rows = subst (λ text. BeginsWithRows text taps [])
          (sym (dropped head (rows_text taps) (unbroken_no_feed head unbroken)))
          (rows_back taps are);
    }
