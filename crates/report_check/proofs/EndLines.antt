-- The lines of uploads say how these ended, and nothing else.
use Rattle.std.proofs.Common.{◌≡◌, ◌∙◌, ℕ, zero, suc, ◌+◌, ◌<◌, ◌^◌, All, Bool, true, false, List}
use Rattle.std.proofs.Common.{[], ◌∷◌, ◌++◌, length, Option, Some, None, Ok, Err, codes, refl, sym}
use Rattle.std.proofs.Common.{ap, subst, arith, append_assoc, append-nil, length-append, option_map}
use Rattle.std.proofs.Common.{◌-◌, ◌≤◌, eq-eqb, nat_eq}
use Rattle.fare_texts.specs.ReportLines.{number_line}
use Rattle.ledger_check.proofs.{FieldLemmas.decimal_lacks, FullCheckLemmas.line_ends}
use Rattle.ledger_check.proofs.LineLemmas.{lacks-tested, lines-line}
use Rattle.ledger_check.specs.Lines.{IsLine, Lacks, lines_of}
use Rattle.line_forms.specs.{FormLaws.some_one, Forms.value_if}
use Rattle.report_check.specs.Reports.{IsReportEnd}
use Rattle.report_check.specs.Uploads.{cut_or, end_at, end_if, end_in, ends_from, found_or}
use Rattle.report_check.specs.Uploads.{numbered, or_else, unfinished_in, uploads_in}
use Rattle.report_texts.proofs.EndTexts.{line_words, refused_spelled, small_number}
use Rattle.report_texts.proofs.Lines.{head_complete, head_sound, upload_complete, upload_sound}
use Rattle.report_texts.specs.{FormLaws.count_form, Forms.count_at, Forms.head_in, Forms.upload_in}
use Rattle.report_texts.specs.{Numbers.IsUploadEnd, Report.upload_line, Report.upload_lines}
use Rattle.report_texts.specs.inside.EndWords.{end_words, fault_number}
use Rattle.std.proofs.lemmas.List.Elements.{All-nil, All-push, recursion_from_All}
use Rattle.std.specs.{Fmt.decimal, List.AllByRecursion, Str.bytes_eq}
use Rattle.tap_views.specs.declared.upload_end.UploadEnd.{UploadEnd}
use Rattle.tap_views.specs.declared.upload_end.UploadEnd.TheVariants.{Posted, Refused, Cut, Undrawn}

-- ---- one line
count_upload : (number : ℕ) (end : UploadEnd) → number < 2 ^ 64
    → count_at (codes "upload ") (upload_line number end) ≡ Some (number, end_words end)
count_upload number end small =
    ap (λ (t : List ℕ). count_at (codes "upload ") t) (line_words number end)
    ∙ (count_form (codes "upload ")).complete number (codes "upload " ++ decimal number)
    (end_words end) (decimal number, (small, refl), refl) refl

pub end_complete : (number : ℕ) (end : UploadEnd) → number < 2 ^ 64 → IsReportEnd end
    → end_in (upload_line number end) ≡ Some (number, end)
end_complete number (Posted taps) small fits = rw (upload_complete number (Posted taps) small fits)
end_complete number (Refused taps offset fault) small fits =
    rw (upload_complete number (Refused taps offset fault) small fits)
end_complete number (Cut taps) small fits =
    rw (count_upload number (Cut taps) small, head_complete (codes " cut ") taps fits)
end_complete number Undrawn small fits = rw (count_upload number Undrawn small)

finished : (end : UploadEnd) → IsUploadEnd end → IsReportEnd end
finished (Posted taps) fits = fits
finished (Refused taps offset fault) fits = fits
finished (Cut taps) fits = absurd fits
finished Undrawn fits = absurd fits

end_of_found : {a : ℕ × UploadEnd} {b : ℕ × UploadEnd} → Some a ≡ Some b → a.1 ≡ b.1
end_of_found e = some_one (ap (option_map (λ (p : ℕ × UploadEnd). p.1)) e)

undrawn_sound : (number : ℕ) (b : Bool) (found : ℕ × UploadEnd)
    → option_map (λ end. (number, end)) (value_if b Undrawn) ≡ Some found → IsReportEnd found.1
undrawn_sound number true found e = subst IsReportEnd (end_of_found e) tt
undrawn_sound number false found e = absurd (cc)

cut_sound : (number : ℕ) (text : List ℕ) (o : Option ℕ) → head_in (codes " cut ") text ≡ o
    → (found : ℕ × UploadEnd) → option_map (λ end. (number, end)) (cut_or o text) ≡ Some found
    → IsReportEnd found.1
cut_sound number text (Some taps) is found e =
    subst IsReportEnd (end_of_found e) (head_sound (codes " cut ") text taps is).0
cut_sound number text None is found e =
    undrawn_sound number (bytes_eq text (codes " undrawn\n")) found e

unfinished_sound : (o : Option (ℕ × List ℕ)) (found : ℕ × UploadEnd) → numbered o ≡ Some found
    → IsReportEnd found.1
unfinished_sound None found e = absurd (cc)
unfinished_sound (Some parts) found e =
    cut_sound parts.0 parts.1 (head_in (codes " cut ") parts.1) refl found e

sound_by : (line : List ℕ) (o : Option (ℕ × UploadEnd)) → upload_in line ≡ o
    → (found : ℕ × UploadEnd) → or_else o (unfinished_in line) ≡ Some found → IsReportEnd found.1
sound_by line (Some own) is found e =
    finished found.1 (upload_sound line found.0 found.1 (is ∙ e)).0.1
sound_by line None is found e = unfinished_sound (count_at (codes "upload ") line) found e

at_by : (upload : ℕ) (line : List ℕ) (o : Option (ℕ × UploadEnd)) → end_in line ≡ o
    → (end : UploadEnd) → end_if upload o ≡ Some end → IsReportEnd end
at_by upload line None is end e = absurd (cc)
at_by upload line (Some found) is end e = at (nat_eq found.0 upload) e
  where
    at : (b : Bool) → value_if b found.1 ≡ Some end → IsReportEnd end
    at true e = subst IsReportEnd (some_one e) (sound_by line (upload_in line) refl found is)
    at false e = absurd (cc)

-- ---- all lines
sound_step : (left : ℕ) (ends all : List UploadEnd) (line : List ℕ) (lines : List (List ℕ))
    → ((end : UploadEnd) → IsReportEnd end → ends_from left (ends ++ end ∷ []) lines ≡ Ok all
    → All IsReportEnd all × (length all ≡ length (ends ++ end ∷ []) + left))
    → (o : Option UploadEnd) → end_at (length ends) line ≡ o
    → found_or (length ends + 2) o (λ end. ends_from left (ends ++ end ∷ []) lines) ≡ Ok all
    → All IsReportEnd all × (length all ≡ length ends + suc left)
sound_step left ends all line lines more None is e = absurd (cc)
sound_step left ends all line lines more (Some end) is e =
    let rest = more end (at_by (length ends) line (end_in line) refl end is) e in
    (rest.0, omega (arith, rest.1, length-append ends (end ∷ [])))

ends_sound : (left : ℕ) (ends all : List UploadEnd) (lines : List (List ℕ))
    → All IsReportEnd ends → ends_from left ends lines ≡ Ok all
    → All IsReportEnd all × (length all ≡ length ends + left)
ends_sound zero ends all lines each e =
    let same : ends ≡ all = cc in
    let size : length all ≡ length ends = ap length (sym same) in
    (subst (λ (es : List UploadEnd). All IsReportEnd es) same each, omega (arith, size))
ends_sound (suc left) ends all [] each e = absurd (cc)
ends_sound (suc left) ends all (line ∷ lines) each e =
    sound_step left ends all line lines
    (λ end fits more. ends_sound left (ends ++ end ∷ []) all lines
    (All-push IsReportEnd ends end each fits) more)
    (end_at (length ends) line) refl e

pub record AreRead (ends : List UploadEnd) : Type 0 where
  pub each : All IsReportEnd ends
  pub number : length ends < 2 ^ 64

head_step : (lines : List (List ℕ)) (head : List ℕ) (ends : List UploadEnd) (o : Option ℕ)
    → head_in (codes "uploads ") head ≡ o
    → found_or 1 o (λ uploads. ends_from uploads [] lines) ≡ Ok ends → AreRead ends
head_step lines head ends None is e = absurd (cc)
head_step lines head ends (Some uploads) is e =
    let read = ends_sound uploads [] ends lines (All-nil IsReportEnd) e in
    let small : uploads < 2 ^ 64 = (head_sound (codes "uploads ") head uploads is).0 in
    record { each = read.0; number = omega (arith, read.1, small) }

pub uploads_sound : (lines : List (List ℕ)) (ends : List UploadEnd) → uploads_in lines ≡ Ok ends
    → AreRead ends
uploads_sound [] ends e = absurd (cc)
uploads_sound (head ∷ lines) ends e =
    head_step lines head ends (head_in (codes "uploads ") head) refl e

-- ---- each line is one
feed : IsLine (codes "\n")
feed = record { front = []; lacks = tt; shown = refl }

pub number_line_is : (word : List ℕ) (number : ℕ) → Lacks 10 word → number < 2 ^ 64
    → IsLine (number_line word number)
number_line_is word number lacks small =
    line_ends word _ lacks (line_ends (decimal number) _ (decimal_lacks 10 (omega arith) number small) feed)

words_are : (end : UploadEnd) → IsReportEnd end → IsLine (end_words end)
words_are (Posted taps) fits =
    number_line_is (codes " posted ") taps (lacks-tested 10 (codes " posted ") refl) fits
words_are (Refused taps offset fault) fits =
    subst IsLine (sym (refused_spelled taps offset fault))
    (line_ends (codes " refused ") _ (lacks-tested 10 (codes " refused ") refl)
    (line_ends (decimal taps) _ (decimal_lacks 10 (omega arith) taps fits.0)
    (line_ends (codes " at ") _ (lacks-tested 10 (codes " at ") refl)
    (line_ends (decimal offset) _ (decimal_lacks 10 (omega arith) offset fits.1)
    (number_line_is (codes " L") (fault_number fault) (lacks-tested 10 (codes " L") refl)
    (small_number fault))))))
words_are (Cut taps) fits =
    number_line_is (codes " cut ") taps (lacks-tested 10 (codes " cut ") refl) fits
words_are Undrawn fits = record {
  front = codes " undrawn";
  lacks = lacks-tested 10 (codes " undrawn") refl;
  shown = refl;
}

upload_line_is : (number : ℕ) (end : UploadEnd) → number < 2 ^ 64 → IsReportEnd end
    → IsLine (upload_line number end)
upload_line_is number end small fits =
    subst IsLine (sym (line_words number end))
    (line_ends (codes "upload ") _ (lacks-tested 10 (codes "upload ") refl)
    (line_ends (decimal number) _ (decimal_lacks 10 (omega arith) number small) (words_are end fits)))

pub line_first : (line trailing : List ℕ) → IsLine line
    → lines_of (line ++ trailing) ≡ line ∷ lines_of trailing
line_first line trailing is =
    ap lines_of
    (ap (λ (t : List ℕ). t ++ trailing) is.shown ∙ append_assoc is.front (10 ∷ []) trailing)
    ∙ lines-line is.front trailing is.lacks
    ∙ ap (λ (l : List ℕ). l ∷ lines_of trailing) (sym is.shown)

ends_complete : (more ends : List UploadEnd) (trailing : List ℕ) → AllByRecursion IsReportEnd more
    → length ends + length more < 2 ^ 64
    → ends_from (length more) ends (lines_of (upload_lines (length ends) more ++ trailing))
    ≡ Ok (ends ++ more)
ends_complete [] ends trailing each small =
    ap (λ (es : List UploadEnd). Ok es) (sym (append-nil ends))
ends_complete (end ∷ more) ends trailing each small =
    let n = length ends in
    let here : n < 2 ^ 64 = omega (arith, small) in
    let rest = upload_lines (n + 1) more ++ trailing in
    let split = ap lines_of (append_assoc (upload_line n end) (upload_lines (n + 1) more) trailing)
    ∙ line_first (upload_line n end) rest (upload_line_is n end here each.0) in
    let at : end_at n (upload_line n end) ≡ Some end =
    ap (end_if n) (end_complete n end here each.0)
    ∙ ap (λ (b : Bool). value_if b end) (eq-eqb n n refl) in
    let next : n + 1 ≡ length (ends ++ end ∷ []) = omega (arith, length-append ends (end ∷ [])) in
    rw (split, at, next)
    (ends_complete more (ends ++ end ∷ []) trailing each.1 (omega (arith, small, next))
    ∙ ap (λ (es : List UploadEnd). Ok es) (append_assoc ends (end ∷ []) more))

pub uploads_complete : (ends : List UploadEnd) (trailing : List ℕ) → All IsReportEnd ends
    → length ends < 2 ^ 64
    → uploads_in (lines_of (number_line (codes "uploads ") (length ends)
    ++ (upload_lines 0 ends ++ trailing))) ≡ Ok ends
uploads_complete ends trailing each small =
    rw (
      line_first (number_line (codes "uploads ") (length ends)) (upload_lines 0 ends ++ trailing)
          (number_line_is (codes "uploads ") (length ends) (lacks-tested 10 (codes "uploads ") refl)
          small),
      head_complete (codes "uploads ") (length ends) small,
    )
    (ends_complete ends [] trailing (recursion_from_All IsReportEnd ends each) (omega (arith, small)))

-- ---- the next line of a loop
pub next_line : (uploads upload : ℕ) (ends : List UploadEnd) (line : List ℕ)
    (lines : List (List ℕ)) (o : Option UploadEnd) → upload < uploads
    → end_at (length ends) line ≡ o
    → ends_from (uploads - upload) ends (line ∷ lines)
    ≡ found_or (length ends + 2) o
    (λ end. ends_from (uploads - (upload + 1)) (ends ++ end ∷ []) lines)
next_line uploads upload ends line lines o below is =
    let left : uploads - upload ≡ suc (uploads - (upload + 1)) = omega (arith, below) in
    rw (left, is)

pub no_line : (uploads upload : ℕ) (ends : List UploadEnd) → upload < uploads
    → ends_from (uploads - upload) ends [] ≡ Err (length ends + 2)
no_line uploads upload ends below =
    let left : uploads - upload ≡ suc (uploads - (upload + 1)) = omega (arith, below) in
    rw left

pub no_uploads : (text : List ℕ) → length text ≤ 0 → uploads_in (lines_of text) ≡ Err 1
unfolding lines_of
no_uploads [] none = refl
no_uploads (byte ∷ text) none = absurd (omega (arith, none))

none_left : (text : List ℕ) → length text ≤ 0 → lines_of text ≡ []
unfolding lines_of
none_left [] none = refl
none_left (byte ∷ text) none = absurd (omega (arith, none))

pub no_more : (uploads upload : ℕ) (ends : List UploadEnd) (rest : List ℕ) → upload < uploads
    → length rest ≤ 0
    → ends_from (uploads - upload) ends (lines_of rest) ≡ Err (length ends + 2)
no_more uploads upload ends rest below none =
    ap (ends_from (uploads - upload) ends) (none_left rest none) ∙ no_line uploads upload ends below
