-- The lines of a report are read back: the line of a value says this value, and no other line does.
use Rattle.std.proofs.Common.{◌≡◌, ℕ, zero, suc, ◌+◌, ◌*◌, ◌<◌, ◌^◌, ◌&&◌, Bool, true, false, List}
use Rattle.std.proofs.Common.{[], ◌∷◌, ◌++◌, Option, Some, None, option_map, codes, cond, nat_eq}
use Rattle.std.proofs.Common.{nat_le, nat_lt, refl, sym, ap, subst, ◌∙◌, append_assoc, arith}
use Rattle.fare_texts.specs.Counts.{counts_text, first_counts, last_counts, totals_line}
use Rattle.fare_texts.specs.ReportLines.{number_line, token_line, validator_line}
use Rattle.hex.specs.Hex.{encode_lower}
use Rattle.histories.specs.Sums.{Sums}
use Rattle.line_forms.specs.FormLaws.{after_law, line_complete, line_sound, some_one, then_law}
use Rattle.line_forms.specs.Forms.{IsAfter, IsForm, IsThen, said_by, then_read, after_read}
use Rattle.line_forms.specs.{Forms.value_if, Numbers.BeginsWithNoDigit}
use Rattle.report_texts.proofs.EndTexts.{refused_spelled, small_number}
use Rattle.report_texts.specs.FormLaws.{IsCount, IsCountedText, IsCountsText, IsTokenDigits}
use Rattle.report_texts.specs.FormLaws.{count_form, counts_law, begins, begins_then, token_law}
use Rattle.report_texts.specs.FormLaws.{value_if_some, begins_chosen}
use Rattle.report_texts.specs.Forms.{Counted, count_at, counts_read, end_in, end_or, fault_by}
use Rattle.report_texts.specs.Forms.{head_in, refused_by, refused_in, sums_by, sums_with}
use Rattle.report_texts.specs.Forms.{token_line_in, token_read, totals_in, upload_if, upload_in}
use Rattle.report_texts.specs.Forms.{validator_if, validator_in}
use Rattle.report_texts.specs.Numbers.{AreCounts, IsNameAlone, IsTokenSum, IsUploadEnd}
use Rattle.report_texts.specs.{Numbers.IsValidatorSum, Report.upload_line}
use Rattle.report_texts.specs.inside.EndWords.{end_words, fault_number}
use Rattle.std.proofs.lemmas.Bool.{and_from, and_parts, Decides.nat_tests}
use Rattle.std.specs.Fmt.{decimal}
use Rattle.tap_views.specs.{Token.bytes_of, declared.fault.LayoutFault.LayoutFault}
use Rattle.tap_views.specs.declared.fault.LayoutFault.TheVariants.{Short, Magic, Flags, TooMany}
use Rattle.tap_views.specs.declared.fault.LayoutFault.TheVariants.{Length, Moment}
use Rattle.tap_views.specs.declared.{token.Token.Token, upload_end.UploadEnd.UploadEnd}
use Rattle.tap_views.specs.declared.upload_end.UploadEnd.TheVariants.{Posted, Refused, Cut, Undrawn}

-- ---- the texts of counts
-- the counts of sums, in their order
abbrev counted_of : Sums → Counted
counted_of s = (s.taps, (s.paid, (s.transfers, (s.capped, (s.stale, (s.unknown, s.cents))))))

abbrev counted_text : List ℕ → Counted → List ℕ
counted_text word n =
    (word ++ decimal n.0) ++ ((codes " paid " ++ decimal n.1.0)
    ++ ((codes " transfers " ++ decimal n.1.1.0) ++ ((codes " capped " ++ decimal n.1.1.1.0)
    ++ ((codes " stale " ++ decimal n.1.1.1.1.0) ++ ((codes " unknown " ++ decimal n.1.1.1.1.1.0)
    ++ (codes " cents " ++ decimal n.1.1.1.1.1.1))))))

count_shown : (word : List ℕ) (n : ℕ) (text : List ℕ) → IsCount word n text
    → text ≡ word ++ decimal n
count_shown word n text is = is.2 ∙ ap (λ (x : List ℕ). word ++ x) is.1.1

count_says : (word : List ℕ) (n : ℕ) → n < 2 ^ 64 → IsCount word n (word ++ decimal n)
count_says word n small = (decimal n, (small, refl), refl)

then_shown : {A B : Type 0} {says : A → List ℕ → Type 0} {says_b : B → List ℕ → Type 0}
    (f : A → List ℕ) (g : B → List ℕ) → ((a : A) (t : List ℕ) → says a t → t ≡ f a)
    → ((b : B) (t : List ℕ) → says_b b t → t ≡ g b) → (v : A × B) (text : List ℕ)
    → IsThen says says_b v text → text ≡ f v.0 ++ g v.1
then_shown f g first second v text is =
    is.4 ∙ ap (λ (x : List ℕ). x ++ is.1) (first v.0 is.0 is.2)
    ∙ ap (λ (x : List ℕ). f v.0 ++ x) (second v.1 is.1 is.3)

counted_shown : (word : List ℕ) (n : Counted) (text : List ℕ) → IsCountedText word n text
    → text ≡ counted_text word n
counted_shown word n text is =
    then_shown (λ k. word ++ decimal k) _ (count_shown word)
    (then_shown (λ k. codes " paid " ++ decimal k) _ (count_shown (codes " paid "))
    (then_shown (λ k. codes " transfers " ++ decimal k) _ (count_shown (codes " transfers "))
    (then_shown (λ k. codes " capped " ++ decimal k) _ (count_shown (codes " capped "))
    (then_shown (λ k. codes " stale " ++ decimal k) _ (count_shown (codes " stale "))
    (then_shown (λ k. codes " unknown " ++ decimal k) (λ k. codes " cents " ++ decimal k)
    (count_shown (codes " unknown ")) (count_shown (codes " cents "))))))) n text is

-- ---- the order of texts that are appended
in_order : (w t p pd r rd c cd s sd u ud z zd e : List ℕ)
    → ((w ++ t)
    ++ ((p ++ pd) ++ ((r ++ rd) ++ ((c ++ cd) ++ ((s ++ sd) ++ ((u ++ ud) ++ (z ++ zd)))))))
    ++ e
    ≡ w ++ (t
    ++ (p ++ (pd ++ (r ++ (rd ++ (c ++ (cd ++ (s ++ (sd ++ (u ++ (ud ++ (z ++ (zd ++ e)))))))))))))
in_order w t p pd r rd c cd s sd u ud z zd e = simp append_assoc

in_halves : (w t p pd r rd c cd s sd u ud z zd e : List ℕ)
    → (w ++ (t ++ (p ++ (pd ++ (r ++ (rd ++ (c ++ cd)))))))
    ++ (s ++ (sd ++ (u ++ (ud ++ (z ++ (zd ++ e))))))
    ≡ w ++ (t
    ++ (p ++ (pd ++ (r ++ (rd ++ (c ++ (cd ++ (s ++ (sd ++ (u ++ (ud ++ (z ++ (zd ++ e)))))))))))))
in_halves w t p pd r rd c cd s sd u ud z zd e = simp append_assoc

-- the counts behind `taps `, with the line feed
counts_line : (s : Sums) → counts_text s ≡ counted_text (codes "taps ") (counted_of s) ++ 10 ∷ []
unfolding first_counts last_counts
counts_line s =
    in_halves (codes "taps ") (decimal s.taps) (codes " paid ") (decimal s.paid)
    (codes " transfers ")
    (decimal s.transfers) (codes " capped ") (decimal s.capped) (codes " stale ") (decimal s.stale)
    (codes " unknown ") (decimal s.unknown) (codes " cents ") (decimal s.cents) (10 ∷ [])
    ∙ sym (in_order (codes "taps ") (decimal s.taps) (codes " paid ") (decimal s.paid)
    (codes " transfers ")
    (decimal s.transfers) (codes " capped ") (decimal s.capped) (codes " stale ") (decimal s.stale)
    (codes " unknown ") (decimal s.unknown) (codes " cents ") (decimal s.cents) (10 ∷ []))

-- the same behind another word that ends so
counts_after : (word : List ℕ) (s : Sums)
    → word ++ counts_text s ≡ counted_text (word ++ codes "taps ") (counted_of s) ++ 10 ∷ []
counts_after word s =
    ap (λ (x : List ℕ). word ++ x) (counts_line s)
    ∙ moved word (codes "taps ") (decimal s.taps) _ (10 ∷ [])
  where
    moved : (a w t more e : List ℕ)
        → a ++ (((w ++ t) ++ more) ++ e) ≡ (((a ++ w) ++ t) ++ more) ++ e
    moved a w t more e = simp append_assoc

-- ---- sums
sums_made : (s : Sums) → AreCounts s → sums_by (counted_of s) ≡ Some s
sums_made s are =
    let answers : nat_eq s.taps (s.paid + s.transfers + s.capped + s.stale + s.unknown) ≡ true =
    (let e = are.answers in grind (arith, nat_tests, e)) in
    let cents : nat_le s.cents (s.taps * 4294967295) ≡ true =
    (let e = are.most in grind (arith, nat_tests, e)) in
    ap (λ b. value_if b s) (and_from _ _ answers cents)

sums_say : (word : List ℕ) (s : Sums) → AreCounts s
    → IsCountsText word s (counted_text word (counted_of s))
sums_say word s are = (counted_of s, says, sums_made s are)
  where
    says : IsCountedText word (counted_of s) (counted_text word (counted_of s))
    says =
        let fit = are.taps in
        let all = are.answers in (
          _,
          _,
          count_says word s.taps fit,
          (
            _,
            _,
            count_says (codes " paid ") s.paid (omega (arith, fit, all)),
            (
              _,
              _,
              count_says (codes " transfers ") s.transfers (omega (arith, fit, all)),
              (
                _,
                _,
                count_says (codes " capped ") s.capped (omega (arith, fit, all)),
                (
                  _,
                  _,
                  count_says (codes " stale ") s.stale (omega (arith, fit, all)),
                  (
                    _,
                    _,
                    count_says (codes " unknown ") s.unknown (omega (arith, fit, all)),
                    count_says (codes " cents ") s.cents are.cents,
                    refl,
                  ),
                  refl,
                ),
                refl,
              ),
              refl,
            ),
            refl,
          ),
          refl,
        )

counts_of : (n : Counted) (s : Sums) (word text : List ℕ) → IsCountedText word n text
    → sums_by n ≡ Some s → AreCounts s × (text ≡ counted_text word (counted_of s))
counts_of n s word text is made =
    let a = nat_eq n.0 (n.1.0 + n.1.1.0 + n.1.1.1.0 + n.1.1.1.1.0 + n.1.1.1.1.1.0) in
    let b = nat_le n.1.1.1.1.1.1 (n.0 * 4294967295) in
    let (both, same) = value_if_some (a && b) (sums_with n) s made in
    let (answers, most) = and_parts a b both in
    let taps : n.0 < 2 ^ 64 = is.2.1.0 in
    let cents : n.1.1.1.1.1.1 < 2 ^ 64 = is.3.3.3.3.3.3.1.0 in
    subst (λ (x : Sums). AreCounts x × (text ≡ counted_text word (counted_of x))) same (
      record {
        taps = taps;
        answers = grind (arith, nat_tests, answers);
        cents = cents;
        most = grind (arith, nat_tests, most);
      },
      counted_shown word n text is,
    )

-- ---- totals
pub totals_complete : (s : Sums) → AreCounts s → totals_in (totals_line s) ≡ Some s
totals_complete s are =
    ap totals_in (counts_after (codes "totals ") s)
    ∙ line_complete (counts_law (codes "totals taps ")) refl s _
    (sums_say (codes "totals taps ") s are)

pub totals_sound : (line : List ℕ) (s : Sums) → totals_in line ≡ Some s
    → AreCounts s × (line ≡ totals_line s)
totals_sound line s e =
    let (text, (n, is, made), shown) = line_sound (counts_law (codes "totals taps ")) line s e in
    let (are, same) = counts_of n s (codes "totals taps ") text is made in
    (are, shown ∙ ap (λ (x : List ℕ). x ++ 10 ∷ []) same ∙ sym (counts_after (codes "totals ") s))

-- ---- heads of sections
pub head_complete : (word : List ℕ) (n : ℕ) → n < 2 ^ 64
    → head_in word (number_line word n) ≡ Some n
head_complete word n small =
    ap (head_in word) (sym (append_assoc word (decimal n) (10 ∷ [])))
    ∙ line_complete (count_form word) refl n (word ++ decimal n) (count_says word n small)

pub head_sound : (word line : List ℕ) (n : ℕ) → head_in word line ≡ Some n
    → (n < 2 ^ 64) × (line ≡ number_line word n)
head_sound word line n e =
    let (text, is, shown) = line_sound (count_form word) line n e in (
      is.1.0,
      shown ∙ ap (λ (x : List ℕ). x ++ 10 ∷ []) (count_shown word n text is)
          ∙ append_assoc word (decimal n) (10 ∷ []),
    )

-- ---- validators
key_line : (word digits : List ℕ) (s : Sums)
    → word ++ (digits ++ (codes " " ++ counts_text s))
    ≡ ((word ++ digits) ++ counted_text (codes " taps ") (counted_of s)) ++ 10 ∷ []
key_line word digits s =
    ap (λ (x : List ℕ). word ++ (digits ++ x)) (counts_after (codes " ") s)
    ∙ moved word digits _ (10 ∷ [])
  where
    moved : (a b c e : List ℕ) → a ++ (b ++ (c ++ e)) ≡ ((a ++ b) ++ c) ++ e
    moved a b c e = simp append_assoc

validator_form : IsForm (IsThen (IsCount (codes "validator ")) (IsCountsText (codes " taps ")))
    BeginsWithNoDigit (then_read (count_at (codes "validator ")) (counts_read (codes " taps ")))
validator_form =
    then_law (count_form (codes "validator ")) (counts_law (codes " taps "))
    (begins_chosen (codes " taps ") (λ rest. refl))

pub validator_complete : (sum : ℕ × Sums) → IsValidatorSum sum
    → validator_in (validator_line sum) ≡ Some sum
validator_complete sum is =
    let small : sum.0 < 2 ^ 64 = (let b = is.validator in omega (arith, b)) in
    let below : nat_lt sum.0 (2 ^ 32) ≡ true =
    (let b = is.validator in grind (arith, nat_tests, b)) in
    ap validator_in (key_line (codes "validator ") (decimal sum.0) sum.1)
    ∙ ap validator_if (line_complete validator_form refl sum
    ((codes "validator " ++ decimal sum.0) ++ counted_text (codes " taps ") (counted_of sum.1)) (
      _,
      _,
      count_says (codes "validator ") sum.0 small,
      sums_say (codes " taps ") sum.1 is.counts,
      refl,
    ))
    ∙ ap (λ b. value_if b sum) below

validator_some : (r : Option (ℕ × Sums)) (sum : ℕ × Sums) → validator_if r ≡ Some sum
    → (r ≡ Some sum) × (nat_lt sum.0 (2 ^ 32) ≡ true)
validator_some None sum e = absurd (cc)
validator_some (Some v) sum e =
    let (small, same) = value_if_some (nat_lt v.0 (2 ^ 32)) v sum e in
    (ap Some same, subst (λ (x : ℕ × Sums). nat_lt x.0 (2 ^ 32) ≡ true) same small)

pub validator_sound : (line : List ℕ) (sum : ℕ × Sums) → validator_in line ≡ Some sum
    → IsValidatorSum sum × (line ≡ validator_line sum)
validator_sound line sum e =
    let (read, small) = validator_some _ sum e in
    let (text, (a, b, first, (n, is, made), same), shown) =
    line_sound validator_form line sum read in
    let (are, counts) = counts_of n sum.1 (codes " taps ") b is made in (
      record { validator = grind (arith, nat_tests, small); counts = are },
      shown
          ∙ ap (λ (x : List ℕ). x ++ 10 ∷ []) (same
          ∙ ap (λ (x : List ℕ). x ++ b) (count_shown (codes "validator ") sum.0 a first)
          ∙ ap (λ (x : List ℕ). (codes "validator " ++ decimal sum.0) ++ x) counts)
          ∙ sym (key_line (codes "validator ") (decimal sum.0) sum.1),
    )

-- ---- tokens
token_form : IsForm
    (IsThen (IsAfter (codes "token ") IsTokenDigits) (IsCountsText (codes " taps ")))
    BeginsWithNoDigit
    (then_read (after_read (codes "token ") token_read) (counts_read (codes " taps ")))
token_form =
    then_law (after_law (codes "token ") token_law) (counts_law (codes " taps ")) (λ v t r says. tt)

pub token_complete : (sum : Token × Sums) → IsTokenSum sum
    → token_line_in (token_line sum) ≡ Some sum
token_complete sum is =
    let digits = encode_lower (bytes_of sum.0) in
    ap token_line_in (key_line (codes "token ") digits sum.1)
    ∙ line_complete token_form refl sum
    ((codes "token " ++ digits) ++ counted_text (codes " taps ") (counted_of sum.1))
    (_, _, (digits, (is.token, refl), refl), sums_say (codes " taps ") sum.1 is.counts, refl)

pub token_sound : (line : List ℕ) (sum : Token × Sums) → token_line_in line ≡ Some sum
    → IsTokenSum sum × (line ≡ token_line sum)
token_sound line sum e =
    let (text, (a, b, (digits, (fits, spelled), word), (n, is, made), same), shown) =
    line_sound token_form line sum e in
    let (are, counts) = counts_of n sum.1 (codes " taps ") b is made in (
      record { token = fits; counts = are },
      shown
          ∙ ap (λ (x : List ℕ). x ++ 10 ∷ []) (same
          ∙ ap (λ (x : List ℕ). x ++ b) (word ∙ ap (λ (x : List ℕ). codes "token " ++ x) spelled)
          ∙ ap (λ (x : List ℕ). (codes "token " ++ encode_lower (bytes_of sum.0)) ++ x) counts)
          ∙ sym (key_line (codes "token ") (encode_lower (bytes_of sum.0)) sum.1),
    )

-- ---- uploads
-- the layout fault of a name is found
fault_found : (fault : LayoutFault) → IsNameAlone fault → fault_by (fault_number fault) ≡ Some fault
fault_found (Short have) is = ap (λ n. Some (Short n)) (sym is)
fault_found Magic is = refl
fault_found Flags is = refl
fault_found (TooMany count) is = ap (λ n. Some (TooMany n)) (sym is)
fault_found (Length want have) is =
    ap (λ n. Some (Length n 0)) (sym is.0) ∙ ap (λ n. Some (Length want n)) (sym is.1)
fault_found (Moment index) is = ap (λ n. Some (Moment n)) (sym is)

abbrev RefusedText : ℕ × (ℕ × ℕ) → List ℕ
RefusedText n = (codes " refused " ++ decimal n.0)
    ++ ((codes " at " ++ decimal n.1.0) ++ (codes " L" ++ decimal n.1.1))

refused_form : IsForm (IsThen (IsCount (codes " refused ")) (IsThen (IsCount (codes " at "))
    (IsCount (codes " L")))) BeginsWithNoDigit (then_read (count_at (codes " refused "))
    (then_read (count_at (codes " at ")) (count_at (codes " L"))))
refused_form =
    then_law (count_form (codes " refused "))
    (then_law (count_form (codes " at ")) (count_form (codes " L"))
    (begins (codes " L") (λ rest. refl)))
    (begins_then _ (codes " at ") (begins (codes " at ") (λ rest. refl)))

refused_line : (taps offset : ℕ) (fault : LayoutFault) → end_words (Refused taps offset fault)
    ≡ RefusedText (taps, (offset, fault_number fault)) ++ 10 ∷ []
refused_line taps offset fault =
    refused_spelled taps offset fault
    ∙ joined (codes " refused ") (decimal taps) (codes " at ") (decimal offset) (codes " L")
    (decimal (fault_number fault)) (10 ∷ [])
  where
    joined : (r t a o l n e : List ℕ) → r ++ (t ++ (a ++ (o ++ (l ++ (n ++ e)))))
        ≡ ((r ++ t) ++ ((a ++ o) ++ (l ++ n))) ++ e
    joined r t a o l n e = simp append_assoc

end_complete : (end : UploadEnd) → IsUploadEnd end → end_in (end_words end) ≡ Some end
end_complete (Posted taps) fits =
    ap (λ r. end_or r (refused_in (end_words (Posted taps))))
    (head_complete (codes " posted ") taps fits)
end_complete (Refused taps offset fault) fits =
    ap refused_by (ap (said_by (then_read (count_at (codes " refused "))
    (then_read (count_at (codes " at ")) (count_at (codes " L"))))) (refused_line taps offset fault)
    ∙ line_complete refused_form refl (taps, (offset, fault_number fault))
    (RefusedText (taps, (offset, fault_number fault))) (
      _,
      _,
      count_says (codes " refused ") taps fits.0,
      (
        _,
        _,
        count_says (codes " at ") offset fits.1,
        count_says (codes " L") (fault_number fault) (small_number fault),
        refl,
      ),
      refl,
    ))
    ∙ ap (option_map (λ fault. Refused taps offset fault)) (fault_found fault fits.2)
end_complete (Cut taps) fits = absurd fits
end_complete Undrawn fits = absurd fits

upload_spelled : (upload : ℕ) (end : UploadEnd)
    → upload_line upload end ≡ (codes "upload " ++ decimal upload) ++ end_words end
unfolding upload_line
upload_spelled upload end = sym (append_assoc (codes "upload ") (decimal upload) (end_words end))

pub upload_complete : (upload : ℕ) (end : UploadEnd) → upload < 2 ^ 64 → IsUploadEnd end
    → upload_in (upload_line upload end) ≡ Some (upload, end)
upload_complete upload end small fits =
    ap upload_in (upload_spelled upload end)
    ∙ ap upload_if
    ((count_form (codes "upload ")).complete upload (codes "upload " ++ decimal upload)
    (end_words end) (count_says (codes "upload ") upload small) refl)
    ∙ ap (option_map (λ (end : UploadEnd). (upload, end))) (end_complete end fits)

-- ---- and no other lines say so
option_some : {A B : Type 0} (f : A → B) (r : Option A) (b : B) → option_map f r ≡ Some b
    → (a : A) × (r ≡ Some a) × (f a ≡ b)
option_some f None b e = absurd (cc)
option_some f (Some a) b e = (a, refl, some_one e)

skip : {A : Type 0} (b : Bool) (x r : A) → b ≡ false → cond b x r ≡ r
skip b x r is = ap (λ c. cond c x r) is

no_fault : (number : ℕ) → fault_by (suc (suc (suc (suc (suc (suc (suc number))))))) ≡ None
no_fault number =
    let k = suc (suc (suc (suc (suc (suc (suc number)))))) in
    let t1 : nat_eq k 1 ≡ false = grind (arith, nat_tests) in
    let t2 : nat_eq k 2 ≡ false = grind (arith, nat_tests) in
    let t3 : nat_eq k 3 ≡ false = grind (arith, nat_tests) in
    let t4 : nat_eq k 4 ≡ false = grind (arith, nat_tests) in
    let t5 : nat_eq k 5 ≡ false = grind (arith, nat_tests) in
    let t6 : nat_eq k 6 ≡ false = grind (arith, nat_tests) in
    skip (nat_eq k 1) _ _ t1 ∙ skip (nat_eq k 2) _ _ t2 ∙ skip (nat_eq k 3) _ _ t3
    ∙ skip (nat_eq k 4) _ _ t4 ∙ skip (nat_eq k 5) _ _ t5 ∙ skip (nat_eq k 6) _ _ t6

fault_named : (number : ℕ) (fault : LayoutFault) → fault_by number ≡ Some fault
    → IsNameAlone fault × (number ≡ fault_number fault)
fault_named zero fault e = absurd (cc)
fault_named (suc zero) fault e =
    subst (λ f. IsNameAlone f × (1 ≡ fault_number f)) (some_one e) (refl, refl)
fault_named (suc (suc zero)) fault e =
    subst (λ f. IsNameAlone f × (2 ≡ fault_number f)) (some_one e) (tt, refl)
fault_named (suc (suc (suc zero))) fault e =
    subst (λ f. IsNameAlone f × (3 ≡ fault_number f)) (some_one e) (tt, refl)
fault_named (suc (suc (suc (suc zero)))) fault e =
    subst (λ f. IsNameAlone f × (4 ≡ fault_number f)) (some_one e) (refl, refl)
fault_named (suc (suc (suc (suc (suc zero))))) fault e =
    subst (λ f. IsNameAlone f × (5 ≡ fault_number f)) (some_one e) ((refl, refl), refl)
fault_named (suc (suc (suc (suc (suc (suc zero)))))) fault e =
    subst (λ f. IsNameAlone f × (6 ≡ fault_number f)) (some_one e) (refl, refl)
fault_named (suc (suc (suc (suc (suc (suc (suc number))))))) fault e =
    let none : fault_by (suc (suc (suc (suc (suc (suc (suc number))))))) ≡ None = no_fault number in
    let both : None ≡ Some fault = sym none ∙ e in
    absurd (cc)

refused_sound : (r : Option (ℕ × (ℕ × ℕ))) (text : List ℕ) (end : UploadEnd)
    → said_by (then_read (count_at (codes " refused ")) (then_read (count_at (codes " at "))
    (count_at (codes " L")))) text ≡ r → refused_by r ≡ Some end
    → IsUploadEnd end × (text ≡ end_words end)
refused_sound None text end is e = absurd (cc)
refused_sound (Some n) text end is e =
    let (fault, found, same) =
    option_some (λ fault. Refused n.0 n.1.0 fault) (fault_by n.1.1) end e in
    let (name, number) = fault_named n.1.1 fault found in
    let (line, (a, b, taps, (c, d, offset, last, two), one), shown) =
    line_sound refused_form text n is in
    subst (λ (x : UploadEnd). IsUploadEnd x × (text ≡ end_words x)) same (
      (taps.1.0, offset.1.0, name),
      shown ∙ ap (λ (x : List ℕ). x ++ 10 ∷ [])
          (one ∙ ap (λ (x : List ℕ). x ++ b) (count_shown (codes " refused ") n.0 a taps)
          ∙ ap (λ (x : List ℕ). (codes " refused " ++ decimal n.0) ++ x)
          (two ∙ ap (λ (x : List ℕ). x ++ d) (count_shown (codes " at ") n.1.0 c offset)
          ∙ ap (λ (x : List ℕ). (codes " at " ++ decimal n.1.0) ++ x)
          (count_shown (codes " L") n.1.1 d last ∙ ap (λ k. codes " L" ++ decimal k) number)))
          ∙ sym (refused_line n.0 n.1.0 fault),
    )

end_sound : (r : Option ℕ) (text : List ℕ) (end : UploadEnd) → head_in (codes " posted ") text ≡ r
    → end_or r (refused_in text) ≡ Some end → IsUploadEnd end × (text ≡ end_words end)
end_sound (Some taps) text end is e =
    let (small, shown) = head_sound (codes " posted ") text taps is in
    subst (λ (x : UploadEnd). IsUploadEnd x × (text ≡ end_words x)) (some_one e) (small, shown)
end_sound None text end is e = refused_sound _ text end refl e

upload_some : (r : Option (ℕ × List ℕ)) (line : List ℕ) (upload : ℕ) (end : UploadEnd)
    → count_at (codes "upload ") line ≡ r → upload_if r ≡ Some (upload, end)
    → ((upload < 2 ^ 64) × IsUploadEnd end) × (line ≡ upload_line upload end)
upload_some None line upload end is e = absurd (cc)
upload_some (Some parts) line upload end is e =
    let (found, one, both) =
    option_some (λ (end : UploadEnd). (parts.0, end)) (end_in parts.1) (upload, end) e
    in
    let (fits, words) = end_sound _ parts.1 found refl one in
    let (text, says, shown) = (count_form (codes "upload ")).sound line parts.0 parts.1 is in
    subst (λ (x : ℕ × UploadEnd). ((x.0 < 2 ^ 64) × IsUploadEnd x.1) × (line ≡ upload_line x.0 x.1))
    both (
      (says.1.0, fits),
      shown ∙ ap (λ (x : List ℕ). x ++ parts.1) (count_shown (codes "upload ") parts.0 text says)
          ∙ ap (λ (x : List ℕ). (codes "upload " ++ decimal parts.0) ++ x) words
          ∙ sym (upload_spelled parts.0 found),
    )

pub upload_sound : (line : List ℕ) (upload : ℕ) (end : UploadEnd)
    → upload_in line ≡ Some (upload, end)
    → ((upload < 2 ^ 64) × IsUploadEnd end) × (line ≡ upload_line upload end)
upload_sound line upload end e = upload_some _ line upload end refl e
