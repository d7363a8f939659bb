-- The front of the whole's report, written line by line.
use Rattle.std.proofs.Common.{◌≡◌, ◌∙◌, ◌+◌, ◌<◌, ℕ, List, [], ◌∷◌, ◌++◌, length, take, get_or}
use Rattle.std.proofs.Common.{length-take, sym, ap, append_assoc, append-nil, arith, codes, map}
use Rattle.fare_texts.specs.{Counts.counts_text, ReportLines.validator_line}
use Rattle.histories.specs.{Sums.sums_of, declared.sums.totals.Totals.Totals}
use Rattle.part_texts.specs.inside.Fronts.{shown_sums}
use Rattle.report_texts.proofs.Parts.{upload_lines-push}
use Rattle.report_texts.specs.Report.{upload_line, upload_lines}
use Rattle.std.proofs.lemmas.List.{length-map, map-append, take_more, Concat.flat_map-append}
use Rattle.std.specs.{Fmt.decimal, Map.Iter.deref_pair, Prelude.flat_map}
use Rattle.tap_views.specs.declared.upload_end.UploadEnd.TheVariants.{Posted}
use denote.Ref.{Bor}

-- what was written of the uploads before one, and the line of that one
pub uploads_more : (start : List ℕ) (taps : List ℕ) (d i : ℕ) → i < length taps
    → (start ++ upload_lines 0 (map Posted (take i taps))) ++ upload_line i
    (Posted (get_or taps i d))
    ≡ start ++ upload_lines 0 (map Posted (take (i + 1) taps))
uploads_more start taps d i within =
    let one = get_or taps i d in
    let count : 0 + length (map Posted (take i taps)) ≡ i =
    (let l = length-map (take i taps) Posted in omega (arith, l, length-take {A = ℕ})) in
    rw (
      take_more taps i d within,
      map-append Posted (take i taps) (one ∷ []),
      upload_lines-push 0 (map Posted (take i taps)) (Posted one),
      count,
    )
    (append_assoc start (upload_lines 0 (map Posted (take i taps))) (upload_line i (Posted one)))

-- one more
shown_more : (items : List (Bor ℕ × Bor Totals)) (validator : Bor ℕ) (totals : Bor Totals)
    → flat_map validator_line
    (shown_sums sums_of (map deref_pair (items ++ (validator, totals) ∷ [])))
    ≡ flat_map validator_line (shown_sums sums_of (map deref_pair items))
    ++ (codes "validator "
    ++ (decimal validator.now ++ (codes " " ++ counts_text (sums_of totals.now))))
shown_more items validator totals =
    ap (λ entries. flat_map validator_line (shown_sums sums_of entries))
    (map-append deref_pair items ((validator, totals) ∷ []))
    ∙ ap (flat_map validator_line) (map-append (λ (entry : ℕ × Totals). (entry.0, sums_of entry.1))
    (map deref_pair items) ((validator.now, totals.now) ∷ []))
    ∙ flat_map-append validator_line (shown_sums sums_of (map deref_pair items))
    ((validator.now, sums_of totals.now) ∷ [])
    ∙ ap (λ line. flat_map validator_line (shown_sums sums_of (map deref_pair items)) ++ line)
    (append-nil (validator_line (validator.now, sums_of totals.now)))

-- a validator's line more
pub line_written : (old now new : List ℕ) (items : List (Bor ℕ × Bor Totals))
    (validator : Bor ℕ) (totals : Bor Totals)
    → now ≡ old ++ flat_map validator_line (shown_sums sums_of (map deref_pair items))
    → new ≡ now ++ validator_line (validator.now, sums_of totals.now)
    → new ≡ old ++ flat_map validator_line (shown_sums sums_of
    (map deref_pair (items ++ (validator, totals) ∷ [])))
line_written old now new items validator totals first second =
    let line = validator_line (validator.now, sums_of totals.now) in
    second ∙ ap (λ text. text ++ line) first
    ∙ append_assoc old (flat_map validator_line (shown_sums sums_of (map deref_pair items))) line
    ∙ ap (λ text. old ++ text) (sym (shown_more items validator totals))
