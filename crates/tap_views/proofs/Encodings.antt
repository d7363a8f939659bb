-- What is written is a batch of the grammar, and reads as the fields that it was written from.
use Rattle.std.proofs.Common.{◌≡◌, ℕ, ◌+◌, ◌^◌, ◌<◌, ◌≤◌, List, [], ◌∷◌, ◌++◌, length, get_or, take}
use Rattle.std.proofs.Common.{map, flat_map, Result, Ok, Err, MatchResult, refl, sym, ap, subst}
use Rattle.std.proofs.Common.{◌∙◌, arith}
use Rattle.byteorder.specs.{Endian.big_bytes, Endian.big_number, Numbers.big_number-reads_back}
use Rattle.std.proofs.lemmas.List.{flat_map_more, length-map, take_more}
use Rattle.std.proofs.lemmas.List.Elements.{All-head, All-tail}
use Rattle.std.specs.{Borrow.Bor, List.AllByRecursion, Prelude.All}
use Rattle.tap_views.specs.Encoding.{fields_of, fields_2_of, with_validator, Encodes, Encodes2}
use Rattle.tap_views.specs.{Encoding.AreEarly, Layout.num}
use Rattle.tap_views.specs.Layout.{moment_limit, Tap, IsTap, Tap1, Tap2, IsTapOf, magic, spelling}
use Rattle.tap_views.specs.declared.encoder.{Tap2Fields.Tap2Fields, TapFields.TapFields}
use Rattle.tap_views.specs.declared.fault.LayoutFault.{LayoutFault}
use Rattle.tap_views.specs.inside.Encoding.{written, written_2, IsFields, IsFields2}

-- the bytes of a number are read as that number
num-bytes_2 : (x : ℕ) → x < 65536 → num (big_bytes 2 x) ≡ x
num-bytes_2 x small = let back : big_number 2 (big_bytes 2 x ++ []) ≡ x =
    big_number-reads_back 2 x [] small in omega (arith, back)

num-bytes_4 : (x : ℕ) → x < 2 ^ 32 → num (big_bytes 4 x) ≡ x
num-bytes_4 x small = let back : big_number 4 (big_bytes 4 x ++ []) ≡ x =
    big_number-reads_back 4 x [] small in omega (arith, back)

num-bytes_8 : (x : ℕ) → x < moment_limit → num (big_bytes 8 x) ≡ x
num-bytes_8 x small = let back : big_number 8 (big_bytes 8 x ++ []) ≡ x =
    big_number-reads_back 8 x [] (omega arith) in omega (arith, back)

-- one more text at the end
pub put_more : {X : Type 0} (f : X → List ℕ) (head old new : List ℕ) (xs : List X) (i : ℕ) (d : X)
    → i < length xs
    → old ≡ head ++ flat_map f (take i xs) → new ≡ old ++ f (get_or xs i d)
    → new ≡ head ++ flat_map f (take (i + 1) xs)
put_more f head old new xs i d within was put =
    put ∙ ap (λ (bytes : List ℕ). bytes ++ f (get_or xs i d)) was
    ∙ flat_map_more f head (take i xs) (get_or xs i d)
    ∙ ap (λ (ys : List _). head ++ flat_map f ys) (sym (take_more xs i d within))

-- ---- taps in their own records
is_written : (fields : TapFields) → IsFields fields → fields.moment < moment_limit
    → IsTap (written fields)
is_written fields is early =
    let P : ℕ → Type 0 = λ n. n < moment_limit in
    record {
      token = is.token;
      validator = refl;
      moment = refl;
      early = subst P (sym (num-bytes_8 fields.moment early)) early;
    }

fields-written : (fields : TapFields) → IsFields fields → fields.moment < moment_limit
    → fields_of (written fields) ≡ fields
fields-written fields is early =
    let validator = num-bytes_4 fields.validator is.validator in
    let moment = num-bytes_8 fields.moment early in
    rw (validator, moment) refl

record AreWritten (fields : List TapFields) : Type 0 where
  pub each : AllByRecursion IsTap (map written fields)
  pub read : map fields_of (map written fields) ≡ fields
  pub spelled : flat_map (λ tap. spelling Tap1 (written tap)) fields
      ≡ flat_map (spelling Tap1) (map written fields)

are_written : (fields : List TapFields) → All IsFields fields → AreEarly (λ tap. tap.moment) fields
    → AreWritten fields
are_written [] are early = record { each = tt; read = refl; spelled = refl }
are_written (tap ∷ taps) are early =
    let is = All-head IsFields tap taps are in
    let below = All-head (λ t. t.moment < moment_limit) tap taps early in
    let more = are_written taps (All-tail IsFields tap taps are)
    (All-tail (λ t. t.moment < moment_limit) tap taps early) in
    record {
      each = (is_written tap is below, more.each);
      read = rw (fields-written tap is below, more.read) refl;
      spelled = rw more.spelled refl;
    }

-- the text that `encode` writes
pub encodes : (fields : List TapFields) (bytes : List ℕ) → length fields ≤ 4096
    → AreEarly (λ tap. tap.moment) fields → All IsFields fields
    → bytes ≡ (magic Tap1 ++ big_bytes 2 (length fields) ++ 0 ∷ 0 ∷ [])
    ++ flat_map (λ tap. spelling Tap1 (written tap)) fields → Encodes bytes fields
encodes fields bytes most early are is =
    let written_all = are_written fields are early in
    let number : length (map written fields) ≡ length fields = length-map fields written in
    record {
      taps = map written fields;
      batch = record {
        count = big_bytes 2 (length fields);
        wide = refl;
        counts = num-bytes_2 (length fields) (omega arith) ∙ sym number;
        most = omega (arith, number);
        fits = tt;
        each = written_all.each;
        spelled = is ∙ ap (λ (text : List ℕ).
            (magic Tap1 ++ big_bytes 2 (length fields) ++ 0 ∷ 0 ∷ []) ++ text) written_all.spelled;
      };
      read = written_all.read;
    }

-- ---- taps that share a validator
is_written_2 : (validator : ℕ) (fields : Tap2Fields) → IsFields2 fields
    → fields.moment < moment_limit
    → IsTapOf (Tap2 (big_bytes 4 validator)) (written_2 validator fields)
is_written_2 validator fields is early =
    let P : ℕ → Type 0 = λ n. n < moment_limit in (
      record {
        token = is;
        validator = refl;
        moment = refl;
        early = subst P (sym (num-bytes_8 fields.moment early)) early;
      },
      refl,
    )

fields_2-written : (validator : ℕ) (fields : Tap2Fields) → fields.moment < moment_limit
    → fields_2_of (written_2 validator fields) ≡ fields
fields_2-written validator fields early = let moment = num-bytes_8 fields.moment early in
    rw moment refl

record AreWritten2 (validator : ℕ) (fields : List Tap2Fields) : Type 0 where
  pub each : AllByRecursion (IsTapOf (Tap2 (big_bytes 4 validator)))
      (map (written_2 validator) fields)
  pub read : map fields_2_of (map (written_2 validator) fields) ≡ fields
  pub spelled : flat_map (λ tap. spelling (Tap2 []) (written_2 validator tap)) fields
      ≡ flat_map (spelling (Tap2 (big_bytes 4 validator))) (map (written_2 validator) fields)

are_written_2 : (validator : ℕ) (fields : List Tap2Fields) → All IsFields2 fields
    → AreEarly (λ tap. tap.moment) fields → AreWritten2 validator fields
are_written_2 validator [] are early = record { each = tt; read = refl; spelled = refl }
are_written_2 validator (tap ∷ taps) are early =
    let is = All-head IsFields2 tap taps are in
    let below = All-head (λ t. t.moment < moment_limit) tap taps early in
    let more = are_written_2 validator taps (All-tail IsFields2 tap taps are)
    (All-tail (λ t. t.moment < moment_limit) tap taps early) in
    record {
      each = (is_written_2 validator tap is below, more.each);
      read = rw (fields_2-written validator tap below, more.read) refl;
      spelled = rw more.spelled refl;
    }

-- the text that `encode_tap2` writes
pub encodes_2 : (validator : ℕ) (fields : List Tap2Fields) (bytes : List ℕ) → validator < 2 ^ 32
    → length fields ≤ 4096
    → AreEarly (λ tap. tap.moment) fields → All IsFields2 fields
    → bytes ≡ (magic (Tap2 []) ++ big_bytes 2 (length fields) ++ 0 ∷ 0 ∷ []
    ++ big_bytes 4 validator)
    ++ flat_map (λ tap. spelling (Tap2 []) (written_2 validator tap)) fields
    → Encodes2 bytes validator fields
encodes_2 validator fields bytes small most early are is =
    let written_all = are_written_2 validator fields are early in
    let number : length (map (written_2 validator) fields) ≡ length fields =
    length-map fields (written_2 validator) in
    record {
      written = big_bytes 4 validator;
      taps = map (written_2 validator) fields;
      batch = record {
        count = big_bytes 2 (length fields);
        wide = refl;
        counts = num-bytes_2 (length fields) (omega arith) ∙ sym number;
        most = omega (arith, number);
        fits = refl;
        each = written_all.each;
        spelled = is ∙ ap (λ (text : List ℕ).
            (magic (Tap2 []) ++ big_bytes 2 (length fields) ++ 0 ∷ 0 ∷ [] ++ big_bytes 4 validator)
            ++ text) written_all.spelled;
      };
      number = num-bytes_4 validator small;
      read = written_all.read;
    }

-- ---- what was encoded is read again
-- an answer of some taps is one of their fields
pub fields_read : (result : Result (List Tap × Bor (List ℕ)) LayoutFault) (taps : List Tap)
    (rest : List ℕ) (fields : List TapFields)
    → map fields_of taps ≡ fields
    → MatchResult result (λ answer. (answer.0 ≡ taps) × (answer.1.now ≡ rest)) (λ _. ⊥)
    → MatchResult result (λ answer. (map fields_of answer.0 ≡ fields)
    × (answer.1.now ≡ rest)) (λ _. ⊥)
fields_read (Ok answer) taps rest fields read is = (ap (map fields_of) is.0 ∙ read, is.1)
fields_read (Err fault) taps rest fields read is = is

-- taps of a batch with one validator have it among their fields
pub fields_shared : (bytes : List ℕ) (validator : ℕ) (taps : List Tap) → num bytes ≡ validator
    → AllByRecursion (IsTapOf (Tap2 bytes)) taps
    → map fields_of taps ≡ map (with_validator validator) (map fields_2_of taps)
fields_shared bytes validator [] number each = refl
fields_shared bytes validator (tap ∷ taps) number each =
    let same : num tap.validator ≡ validator = ap num each.0.1 ∙ number in
    let more = fields_shared bytes validator taps number each.1 in
    rw (same, more) refl
