use Rattle.std.proofs.Common.{◌≡◌, ◌∙◌, Bool, true, false, Some, None, sym, ap, refl}
use Rattle.hex.specs.Hex.{decode_sized, encode_lower}
use Rattle.line_forms.specs.Forms.{value_if}
use Rattle.report_texts.specs.FormLaws.{again_refused, again_taken, token_of}
use Rattle.report_texts.specs.Forms.{token_with}
use Rattle.std.proofs.lemmas.{Bool.false≢true, Slice.Eq.bytes_eq-Decides}
use Rattle.std.specs.Str.{bytes_eq}
use Rattle.report_texts.proofs.forms.token_in.Goals as goal

pub returns-then-is_err : goal.returns-then-is_err
returns-then-is_err c =
    sym (again_refused c.args.digits.now (decode_sized c.args.digits.now 16)
    c.decode_to_slice.result
    c.decode_to_slice.new.out
    c.decode_to_slice.ensures.value (sym c.is_err.ensures.value ∙ c.if-is_err.true))

pub returns-then-are_digits_of : goal.returns-then-are_digits_of
returns-then-are_digits_of c =
    let out = c.decode_to_slice.new.out in
    let digits = c.args.digits.now in
    let same = sym (c.are_digits_of.ensures.0 c.if-are_digits_of.true) in
    ap Some (token_of c.of.result out c.of.ensures.bytes c.of.ensures.fits)
    ∙ sym (again_taken digits (decode_sized digits 16) c.decode_to_slice.result out
    c.decode_to_slice.ensures.value (sym c.is_err.ensures.value ∙ c.if-is_err.false)
    ∙ ap (λ b. value_if b (token_with out)) ((bytes_eq-Decides (encode_lower out) digits).1 same))

pub returns-else-are_digits_of : goal.returns-else-are_digits_of
returns-else-are_digits_of c =
    let out = c.decode_to_slice.new.out in
    let digits = c.args.digits.now in
    sym (again_taken digits (decode_sized digits 16) c.decode_to_slice.result out
    c.decode_to_slice.ensures.value (sym c.is_err.ensures.value ∙ c.if-is_err.false)
    ∙ other (bytes_eq (encode_lower out) digits) (λ t. false≢true (sym c.if-are_digits_of.false
    ∙ c.are_digits_of.ensures.1 (sym ((bytes_eq-Decides (encode_lower out) digits).0 t)))))
  where
    other : (b : Bool) → (b ≡ true → ⊥)
        → value_if b (token_with c.decode_to_slice.new.out) ≡ None
    other true not_so = absurd (not_so refl)
    other false not_so = refl
