-- The head of a part, written line by line.
use Rattle.std.proofs.Common.{◌≡◌, ◌+◌, ◌<◌, ℕ, List, [], ◌∷◌, ◌++◌, length, take, get_or}
use Rattle.std.proofs.Common.{length-take, sym, ap, ◌∙◌, append_assoc, append-nil, add-zero, arith}
use Rattle.std.specs.Prelude.{None}
use Rattle.std.proofs.lemmas.List.{take_more}
use Rattle.part_texts.specs.Heads.{span_line, span_lines}
use Rattle.sorted_taps.specs.declared.positions.FileSpan.{FileSpan}

-- one file more
pub span_lines-push : (file : ℕ) (spans : List FileSpan) (span : FileSpan)
    → span_lines file (spans ++ span ∷ [])
    ≡ span_lines file spans ++ span_line (file + length spans) span
span_lines-push file [] span =
    append-nil (span_line file span) ∙ ap (λ n. span_line n span) (sym (add-zero file))
span_lines-push file (first ∷ spans) span =
    let next : (file + 1) + length spans ≡ file + length (first ∷ spans) = omega arith in
    rw (span_lines-push (file + 1) spans span, next) (sym (append_assoc (span_line file first)
    (span_lines (file + 1) spans) (span_line (file + length (first ∷ spans)) span)))

abbrev no_span : FileSpan
no_span = record { from = record { offset = 0; skip = 0 }; to = None }

-- what was written of the files before one, and the line of that one
pub spans_more : (start : List ℕ) (spans : List FileSpan) (i : ℕ) → i < length spans
    → (start ++ span_lines 0 (take i spans)) ++ span_line i (get_or spans i no_span)
    ≡ start ++ span_lines 0 (take (i + 1) spans)
spans_more start spans i within =
    let count : 0 + length (take i spans) ≡ i = omega (arith, length-take {A = FileSpan}) in
    let span = get_or spans i no_span in
    rw (take_more spans i no_span within, span_lines-push 0 (take i spans) span, count)
    (append_assoc start (span_lines 0 (take i spans)) (span_line i span))
