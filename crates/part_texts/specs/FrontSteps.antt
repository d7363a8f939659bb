-- What parts say with one more line, or why that line is wrong.
use Rattle.fare_texts.specs.LedgerLines.{head_text}
use Rattle.histories.specs.Sums.{Sums}
use Rattle.part_texts.specs.EntryLines.{entry_token_in}
use Rattle.part_texts.specs.Fronts.{FrontsView, is_above, may_end, may_follow, no_sums, position_eq}
use Rattle.part_texts.specs.Fronts.{plus, posted_in, starts, sums_eq, sums_within, taps_before}
use Rattle.part_texts.specs.{Fronts.with_validator, HeadForms.span_in, declared.fronts.Stage.Stage}
use Rattle.part_texts.specs.declared.fronts.Stage.TheVariants.{Head, Files, Uploads, AfterTotals}
use Rattle.part_texts.specs.declared.fronts.Stage.TheVariants.{Validators, Tokens, Entries}
use Rattle.report_texts.specs.Forms.{head_in, token_line_in, totals_in, upload_in, validator_in}
use Rattle.report_texts.specs.declared.wrong.Wrong.{Wrong, TheVariants.Form, TheVariants.NotPosted}
use Rattle.report_texts.specs.declared.wrong.Wrong.TheVariants.{Order, Totals as OtherTotals}
use Rattle.std.specs.Prelude.{◌-◌, ◌||◌, ◌&&◌, ℕ, zero, suc, Bool, true, false, not, cond, List, []}
use Rattle.std.specs.Prelude.{◌∷◌, ◌++◌, Option, Some, None, Result, Ok, Err, codes, length, nat_eq}
use Rattle.std.specs.Str.{bytes_eq}

-- a line that says nothing lacks the form that is wanted
abbrev pub said : {A S : Type 0} → Option A → (A → Result S Wrong) → Result S Wrong
said None next = Err Form
said (Some value) next = next value

-- the next state, if the test holds, or else the reason
abbrev pub where_holds : {S : Type 0} → Bool → Wrong → Result S Wrong → Result S Wrong
where_holds true why next = next
where_holds false why next = Err why

abbrev pub found_or : {A S : Type 0} → Wrong → Option A → (A → Result S Wrong) → Result S Wrong
found_or why None next = Err why
found_or why (Some value) next = next value

-- after `part files 2`
abbrev pub head_step : FrontsView → List ℕ → Result FrontsView Wrong
head_step s line =
    said (head_in (codes "part files ") line) (λ files.
    where_holds (s.is_first || nat_eq files (length s.ends)) Form
    (Ok (record s { stage = Files files files })))

-- after `file 0 from 0 skip 0 to 14344 skip 25`, of a part with this many files, this many left
abbrev pub span_step : ℕ → ℕ → FrontsView → List ℕ → Result FrontsView Wrong
span_step files left s line =
    said (span_in line) (λ span.
    where_holds (nat_eq span.0 (files - left)) Form
    (found_or Order (starts s.is_first s.ends) (λ start.
    where_holds (position_eq start.0 span.1.from && may_end s.is_last span.1.to) Order
    (Ok (record s { stage = Files files (left - 1); ends = start.1 ++ span.1.to ∷ [] })))))

-- after the header line of a ledger
abbrev pub ledger_step : FrontsView → Result FrontsView Wrong
ledger_step s =
    where_holds (s.is_first || s.is_ledger) Form
    (Ok (record s { stage = Entries true; is_ledger = true }))

-- after `uploads 2`
abbrev pub uploads_step : ℕ → FrontsView → List ℕ → Result FrontsView Wrong
uploads_step files s line =
    said (head_in (codes "uploads ") line) (λ uploads.
    where_holds (nat_eq uploads files && (s.is_first || not s.is_ledger)) Form
    (Ok (record s { stage = Uploads uploads uploads 0; is_ledger = false })))

-- after the line that follows the spans
abbrev pub kind_step : ℕ → FrontsView → List ℕ → Result FrontsView Wrong
kind_step files s line = cond (bytes_eq line head_text) (ledger_step s) (uploads_step files s line)

-- after `upload 0 posted 4`
abbrev pub upload_step : ℕ → ℕ → ℕ → FrontsView → List ℕ → Result FrontsView Wrong
upload_step uploads left posted s line =
    said (upload_in line) (λ upload.
    where_holds (nat_eq upload.0 (uploads - left)) Form
    (found_or NotPosted (posted_in upload.1) (λ taps.
    found_or Form (taps_before s.is_first s.taps) (λ before.
    found_or OtherTotals (plus before.0 taps) (λ all.
    found_or OtherTotals (plus posted taps) (λ sum.
    Ok (record s { stage = Uploads uploads (left - 1) sum; taps = before.1 ++ all ∷ [] })))))))

-- after `totals taps 6 paid 3 ..`
abbrev pub totals_step : ℕ → FrontsView → List ℕ → Result FrontsView Wrong
totals_step posted s line =
    said (totals_in line) (λ part.
    where_holds (nat_eq part.taps posted) OtherTotals
    (found_or OtherTotals (sums_within s.totals part) (λ all.
    Ok (record s { stage = AfterTotals; part = part; so_far = no_sums; totals = all }))))

-- after `validators 3`
abbrev pub validators_step : FrontsView → List ℕ → Result FrontsView Wrong
validators_step s line =
    said (head_in (codes "validators ") line) (λ left. Ok (record s { stage = Validators left None }))

-- after `validator 9 taps 1 paid 0 ..`
abbrev pub validator_step : ℕ → Option ℕ → FrontsView → List ℕ → Result FrontsView Wrong
validator_step left last s line =
    said (validator_in line) (λ sum.
    where_holds (is_above last sum.0) Order
    (found_or OtherTotals (sums_within s.so_far sum.1) (λ so_far.
    found_or OtherTotals (with_validator s.validators sum) (λ all.
    Ok (record s { stage = Validators (left - 1) (Some sum.0); so_far = so_far; validators = all })))))

-- after `tokens 5`
abbrev pub tokens_step : FrontsView → List ℕ → Result FrontsView Wrong
tokens_step s line =
    said (head_in (codes "tokens ") line) (λ left.
    where_holds (sums_eq s.part s.so_far) OtherTotals
    (found_or OtherTotals (plus s.tokens left) (λ all.
    Ok (record s { stage = Tokens left; tokens = all }))))

-- after the line of a ledger's entry
abbrev pub entry_step : Bool → FrontsView → List ℕ → Result FrontsView Wrong
entry_step is_first s line =
    said (entry_token_in line) (λ token.
    where_holds (may_follow is_first s.last token) Order
    (Ok (record s { stage = Entries false; last = Some token })))

-- after the line of a token
abbrev pub token_step : ℕ → FrontsView → List ℕ → Result FrontsView Wrong
token_step left s line =
    said (token_line_in line) (λ sum.
    where_holds (may_follow true s.last sum.0) Order
    (found_or OtherTotals (sums_within s.so_far sum.1) (λ so_far.
    Ok (record s { stage = Tokens (left - 1); so_far = so_far; last = Some sum.0 }))))

abbrev pub step_at : Stage → FrontsView → List ℕ → Result FrontsView Wrong
step_at Head s line = head_step s line
step_at (Files files zero) s line = kind_step files s line
step_at (Files files (suc left)) s line = span_step files (suc left) s line
step_at (Uploads uploads zero posted) s line = totals_step posted s line
step_at (Uploads uploads (suc left) posted) s line = upload_step uploads (suc left) posted s line
step_at AfterTotals s line = validators_step s line
step_at (Validators zero last) s line = tokens_step s line
step_at (Validators (suc left) last) s line = validator_step (suc left) last s line
step_at (Tokens zero) s line = Err Form
step_at (Tokens (suc left)) s line = token_step (suc left) s line
step_at (Entries is_first) s line = entry_step is_first s line

-- after one more line of a part
abbrev pub front_step : FrontsView → List ℕ → Result FrontsView Wrong
front_step s line = step_at s.stage s line

abbrev pub is_done_at : Stage → Bool
is_done_at (Tokens left) = true
is_done_at (Entries is_first) = true
is_done_at _ = false

-- whether no more lines are to be read: the lines behind the front are copied, or are not read
abbrev pub is_over : Bool → FrontsView → Bool
is_over is_copied s = not is_copied && is_done_at s.stage

-- what is wrong if a part ends at this line
abbrev pub end_at : Stage → Bool → Option Wrong
end_at (Tokens zero) adds_up = cond adds_up None (Some OtherTotals)
end_at (Entries is_first) adds_up = None
end_at _ adds_up = Some Form

abbrev pub part_end : FrontsView → Option Wrong
part_end s = end_at s.stage (sums_eq s.part s.so_far)

-- at the next line of the part at this place, which may be the last one and has these totals
abbrev pub at_part : ℕ → Bool → Stage → Sums → FrontsView → FrontsView
at_part position is_last stage part s = record s {
  stage = stage;
  is_first = nat_eq position 0;
  is_last = is_last;
  part = part;
  so_far = no_sums;
}
