-- The lines of a part's head are read back, and each is one line.
use Rattle.std.proofs.Common.{◌≡◌, ◌∙◌, ◌<◌, ◌^◌, ℕ, List, [], ◌++◌, codes, Option, Some, None}
use Rattle.std.proofs.Common.{refl, sym, ap, arith, append_assoc, length}
use Rattle.line_forms.specs.FormLaws.{is_none, number_sound}
use Rattle.line_forms.specs.Numbers.{BeginsWithNoDigit, number_in}
use Rattle.part_texts.specs.HeadForms.{span_in, to_in}
use Rattle.part_texts.specs.{Heads.span_line, Heads.to_line, Shown.EndFits, Shown.SpanFits}
use Rattle.report_texts.proofs.OneLine.{IsOneLine, counted, over, weaker, word}
use Rattle.report_texts.specs.{FormLaws.count_form, Forms.count_at}
use Rattle.sorted_taps.specs.declared.positions.{FileSpan.FileSpan, Position.Position}
use Rattle.std.proofs.lemmas.Fmt.{decimal_nonempty}
use Rattle.std.specs.Fmt.{decimal}

count_read : (word : List ℕ) (n : ℕ) (rest : List ℕ) → n < 2 ^ 64 → BeginsWithNoDigit rest
    → count_at word (word ++ (decimal n ++ rest)) ≡ Some (n, rest)
count_read word n rest small ends =
    ap (count_at word) (sym (append_assoc word (decimal n) rest))
    ∙ (count_form word).complete n (word ++ decimal n) rest (decimal n, (small, refl), refl) ends

-- no place is read where the end is
no_number : number_in (2 ^ 64) [] ≡ None
no_number =
    is_none (number_in (2 ^ 64) []) (λ n e.
    let (small, is) = number_sound (2 ^ 64) [] n e in
    let some = decimal_nonempty n small in
    omega (arith, some, ap length is))

to_complete : (to : Option Position) → EndFits to → to_in (to_line to) ≡ Some to
to_complete None fits = rw no_number
to_complete (Some to) fits =
    rw (
      count_read (codes " to ") to.offset (codes " skip " ++ (decimal to.skip ++ codes "\n")) fits.0
          refl,
      count_read (codes " skip ") to.skip (codes "\n") fits.1 refl,
    )

pub span_complete : (file : ℕ) (span : FileSpan) → file < 2 ^ 64 → SpanFits span
    → span_in (span_line file span) ≡ Some (file, span)
unfolding span_line
span_complete file span small fits =
    let skipped = codes " skip " ++ (decimal span.from.skip ++ to_line span.to) in
    rw (
      count_read (codes "file ") file (codes " from " ++ (decimal span.from.offset ++ skipped)) small
          refl,
      count_read (codes " from ") span.from.offset skipped fits.0.0 refl,
      count_read (codes " skip ") span.from.skip (to_line span.to) fits.0.1 (to_begins span.to),
      to_complete span.to fits.1,
    )
  where
    to_begins : (to : Option Position) → BeginsWithNoDigit (to_line to)
    to_begins None = refl
    to_begins (Some to) = refl

to_is_one : (to : Option Position) → EndFits to → IsOneLine 100 (to_line to)
to_is_one None fits = weaker _ 100 _ (omega arith) (word (codes " to end") _ _ refl over)
to_is_one (Some to) fits =
    weaker _ 100 _ (omega arith) (word (codes " to ") _ _ refl (counted to.offset _ _ fits.0
    (word (codes " skip ") _ _ refl (counted to.skip _ _ fits.1 over))))

pub span_is_one : (file : ℕ) (span : FileSpan) → file < 2 ^ 64 → SpanFits span
    → IsOneLine 1000 (span_line file span)
unfolding span_line
span_is_one file span small fits =
    weaker _ 1000 _ (omega arith)
    (word (codes "file ") _ _ refl (counted file _ _ small
    (word (codes " from ") _ _ refl (counted span.from.offset _ _ fits.0.0
    (word (codes " skip ") _ _ refl (counted span.from.skip _ _ fits.0.1
    (to_is_one span.to fits.1)))))))
