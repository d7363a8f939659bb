-- The columns of a line, cut off one after another, and read back as they were written.
use Rattle.std.proofs.Common.{◌≡◌, ◌≢◌, ◌∙◌, ℕ, ◌+◌, ◌<◌, ◌≤◌, ◌^◌, ◌&&◌, Bool, true, List, [], ◌∷◌}
use Rattle.std.proofs.Common.{◌++◌, length, get_or, drop, None, Some, refl, sym, ap, subst, arith}
use Rattle.std.proofs.Common.{zero, suc, nat_le, nat_lt, if◌then◌else◌, length-append, append_assoc}
use Rattle.ledger_check.proofs.FieldLemmas.{decimal_lacks}
use Rattle.ledger_check.proofs.LineLemmas.{lacks-append, lacks-reads, lacks-tested}
use Rattle.ledger_check.specs.Columns.{ColumnsAreReadBack, IsTraced, TracedLine, class_in}
use Rattle.ledger_check.specs.Columns.{columns_in, cut_line, is_class_name, is_name_byte}
use Rattle.ledger_check.specs.Columns.{last_field, traced_text, untraced_line, untraced_lines}
use Rattle.ledger_check.specs.{Columns.upload_in, Columns.with_byte, Lines.Lacks}
use Rattle.line_forms.specs.FormLaws.{line_complete, number_complete, number_law, wide_64}
use Rattle.std.proofs.lemmas.Bool.{and_from, and_parts, false≢true, le-ltb, lt-ltb, ne_eqb}
use Rattle.std.proofs.lemmas.{Bool.Decides.nat_tests, Fmt.length-decimal-le}
use Rattle.std.specs.{Fmt.decimal, List.list_all}

-- a text without a comma has no last one
pub last_none : (text : List ℕ) → Lacks 44 text → last_field text ≡ None
unfolding last_field
last_none [] lacks = refl
last_none (byte ∷ text) lacks =
    ap (with_byte byte text) (last_none text lacks.1)
    ∙ ap (λ (b : Bool). if b then Some ([], text) else None) (ne_eqb byte 44 lacks.0)

-- the last comma is the one that no other follows
pub last_is : (front back : List ℕ) → Lacks 44 back → last_field (front ++ 44 ∷ back) ≡ Some
    (front, back)
unfolding last_field
last_is [] back lacks = ap (with_byte 44 back) (last_none back lacks)
last_is (byte ∷ front) back lacks = ap (with_byte byte (front ++ 44 ∷ back))
    (last_is front back lacks)

-- what stands behind the last such byte lacks it
pub after_lacks : (byte : ℕ) (text : List ℕ) (at : ℕ)
    → ((k : ℕ) → at < k → k < length text → get_or text k 0 ≢ byte)
    → Lacks byte (drop (suc at) text)
after_lacks byte [] at none = tt
after_lacks byte (x ∷ text) zero none = lacks-reads byte text
    (λ k within. none (suc k) (omega arith) (omega arith))
after_lacks byte (x ∷ text) (suc at) none =
    after_lacks byte text at (λ k above within. none (suc k) (omega arith) (omega arith))

-- a line that is too long
pub cut_long : (line : List ℕ) → 352 < length line → cut_line line ≡ None
unfolding cut_line
cut_long line long =
    ap (λ (b : Bool). if b then None else columns_in line) (lt-ltb 352 (length line) long)

-- what is read in place of lines and of more lines
pub untraced-append : (lines more : List (List ℕ)) → untraced_lines (lines ++ more) ≡ untraced_lines
    lines ++ untraced_lines more
untraced-append [] more = refl
untraced-append (line ∷ lines) more =
    ap (λ (t : List ℕ). untraced_line line ++ t) (untraced-append lines more)
    ∙ sym (append_assoc (untraced_line line) (untraced_lines lines) (untraced_lines more))

-- ---- columns that were written
named_lacks : (name : List ℕ) → list_all is_name_byte name ≡ true → Lacks 44 name
named_lacks [] named = tt
named_lacks (byte ∷ name) named =
    let parts = and_parts (is_name_byte byte) (list_all is_name_byte name) named in (
      λ is. false≢true (subst (λ (b : ℕ). is_name_byte b ≡ true) is parts.0),
      named_lacks name parts.1,
    )

class_lacks : (name : List ℕ) → is_class_name name ≡ true → Lacks 44 name
class_lacks name is =
    let some = and_parts (nat_le 1 (length name))
    (nat_le (length name) 64 && list_all is_name_byte name) is in
    let few = and_parts (nat_le (length name) 64) (list_all is_name_byte name) some.1 in
    named_lacks name few.1

class_short : (name : List ℕ) → is_class_name name ≡ true → length name ≤ 64
class_short name is =
    let some = and_parts (nat_le 1 (length name))
    (nat_le (length name) 64 && list_all is_name_byte name) is in
    let few = and_parts (nat_le (length name) 64) (list_all is_name_byte name) some.1 in
    let short : nat_le (length name) 64 ≡ true = few.0 in
    grind (arith, nat_tests)

sized : (a b c d : List ℕ)
    → length (a ++ 44 ∷ (b ++ 44 ∷ (c ++ 44 ∷ (d ++ 10 ∷ []))))
    ≡ length a + length b + length c + length d + 4
sized a b c d =
    omega (
      arith,
      length-append a (44 ∷ (b ++ 44 ∷ (c ++ 44 ∷ (d ++ 10 ∷ [])))),
      length-append b (44 ∷ (c ++ 44 ∷ (d ++ 10 ∷ []))),
      length-append c (44 ∷ (d ++ 10 ∷ [])),
      length-append d (10 ∷ []),
    )

cut_once : (a b c d : List ℕ)
    → a ++ 44 ∷ (b ++ 44 ∷ (c ++ 44 ∷ d)) ≡ ((a ++ 44 ∷ b) ++ 44 ∷ c) ++ 44 ∷ d
cut_once a b c d = sym (simp append_assoc)

written_short : (cut : TracedLine) → IsTraced cut → length (traced_text cut) ≤ 352
written_short cut is =
    let digits : length (decimal cut.upload) ≤ 10 =
    length-decimal-le 10 cut.upload (omega arith) (omega (arith, is.upload))
    (omega (arith, is.upload)) in
    let more : length (decimal cut.position) ≤ 20 =
    length-decimal-le 20 cut.position (omega arith) (omega (arith, is.position)) is.position in
    omega (
      arith,
      sized cut.fields cut.class (decimal cut.upload) (decimal cut.position),
      is.fields,
      class_short cut.class is.class,
      digits,
      more,
    )

class_back : (cut : TracedLine) → IsTraced cut
    → class_in cut.upload cut.position (cut.fields ++ 44 ∷ cut.class) ≡ Some cut
class_back cut is =
    let fit : (nat_lt (length cut.fields) 255 && is_class_name cut.class) ≡ true =
    and_from (nat_lt (length cut.fields) 255) (is_class_name cut.class)
    (lt-ltb (length cut.fields) 255 is.fields) is.class in
    rw (last_is cut.fields cut.class (class_lacks cut.class is.class), fit)

upload_back : (cut : TracedLine) → IsTraced cut
    → upload_in cut.position ((cut.fields ++ 44 ∷ cut.class) ++ 44 ∷ decimal cut.upload) ≡ Some cut
upload_back cut is =
    rw (
      last_is (cut.fields ++ 44 ∷ cut.class) (decimal cut.upload)
          (decimal_lacks 44 (omega arith) cut.upload (omega (arith, is.upload))),
      number_complete (2 ^ 32) cut.upload (omega (arith, is.upload)) is.upload,
    )
    (class_back cut is)

columns_back : (cut : TracedLine) → IsTraced cut → columns_in (traced_text cut) ≡ Some cut
columns_back cut is =
    let front = (cut.fields ++ 44 ∷ cut.class) ++ 44 ∷ decimal cut.upload in
    let end = decimal cut.position ++ 10 ∷ [] in
    ap columns_in (cut_once cut.fields cut.class (decimal cut.upload) end)
    ∙ rw (
      last_is front end (lacks-append 44 (decimal cut.position) (10 ∷ [])
          (decimal_lacks 44 (omega arith) cut.position is.position) (lacks-tested 44 (10 ∷ []) refl)),
      line_complete (number_law (2 ^ 64) wide_64) refl cut.position (decimal cut.position)
          (is.position, refl),
    )
    (upload_back cut is)

pub read_back : ColumnsAreReadBack
unfolding cut_line
read_back cut is =
    rw (le-ltb 352 (length (traced_text cut)) (written_short cut is)) (columns_back cut is)
