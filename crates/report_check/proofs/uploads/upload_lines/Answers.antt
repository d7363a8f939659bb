use Rattle.std.proofs.Common.{◌≡◌, ◌∙◌, ◌+◌, ◌-◌, ◌≤◌, ◌<◌, ◌++◌, ◌∷◌, [], ℕ, List, length, Some}
use Rattle.std.proofs.Common.{None, Err, sym, ap, arith, rules, tests, length-append}
use Rattle.std.proofs.lemmas.Bool.Decides.{nat_tests}
use Rattle.ledger_check.specs.Lines.{lines_of}
use Rattle.tap_views.specs.declared.upload_end.UploadEnd.{UploadEnd}
use Rattle.report_check.specs.Uploads.{end_at, ends_from}
use Rattle.report_check.proofs.EndLines.{next_line, no_more, no_uploads}
use Rattle.report_check.proofs.uploads.upload_lines.Goals as goal

pub returns-then-is_empty : goal.returns-then-is_empty
returns-then-is_empty c =
    let none : length c.args.text.now ≤ 0 =
    first_of (omega arith, grind (arith, nat_tests), search (rules, tests)) in
    no_uploads c.args.text.now none

pub returns-then-is_empty-2 : goal.returns-then-is_empty-2
returns-then-is_empty-2 c =
    let none : length c.loop-upload.rest.now ≤ 0 =
    first_of (omega arith, grind (arith, nat_tests), search (rules, tests)) in
    let number : length c.loop-upload.ends.items + 2 ≡ c.len.result + 2 =
    omega (arith, c.len.ensures) in
    c.loop-upload.invariant.same
    ∙ no_more c.in-Some.uploads c.loop-upload.upload c.loop-upload.ends.items c.loop-upload.rest.now
    c.loop-upload-test.true none
    ∙ ap (λ (n : ℕ). Err n) number

pub returns-in_default-end_at : goal.returns-in_default-end_at
returns-in_default-end_at c =
    let some : 0 < length c.loop-upload.rest.now =
    first_of (omega arith, grind (arith, nat_tests), search (rules, tests)) in
    let uploads = c.in-Some.uploads in
    let upload = c.loop-upload.upload in
    let ends = c.loop-upload.ends.items in
    let line = c.first_line-in-loop-upload.result.0.now in
    let more = c.first_line-in-loop-upload.result.1.now in
    let number : length ends + 2 ≡ c.len-in_default-end_at.result + 2 =
    omega (arith, c.len-in_default-end_at.ensures) in
    let none : end_at (length ends) line ≡ None =
    ap (λ (k : ℕ). end_at k line) c.loop-upload.invariant.counted
    ∙ sym c.end_at.ensures ∙ c.in_default-end_at.is in
    c.loop-upload.invariant.same
    ∙ ap (ends_from (uploads - upload) ends) (c.first_line-in-loop-upload.ensures.lines some)
    ∙ next_line uploads upload ends line (lines_of more) None c.loop-upload-test.true none
    ∙ ap (λ (n : ℕ). Err n) number

pub loop-upload-preserved : goal.loop-upload-preserved
loop-upload-preserved c =
    let some : 0 < length c.loop-upload.rest.now =
    first_of (omega arith, grind (arith, nat_tests), search (rules, tests)) in
    let uploads = c.in-Some.uploads in
    let upload = c.loop-upload.upload in
    let ends = c.loop-upload.ends.items in
    let line = c.first_line-in-loop-upload.result.0.now in
    let more = c.first_line-in-loop-upload.result.1.now in
    let end = c.in-Some-end_at.end in
    let items : c.push.new.self.items ≡ ends ++ end ∷ [] = c.in_ok-push.ensures.items in
    let size : length c.push.new.self.items ≡ length (ends ++ end ∷ []) =
    ap (λ (es : List UploadEnd). length es) items in
    let at : end_at (length ends) line ≡ Some end =
    ap (λ (k : ℕ). end_at k line) c.loop-upload.invariant.counted
    ∙ sym c.in-Some-end_at.ensures in
    record {
      same = c.loop-upload.invariant.same
          ∙ ap (ends_from (uploads - upload) ends) (c.first_line-in-loop-upload.ensures.lines some)
          ∙ next_line uploads upload ends line (lines_of more) (Some end) c.loop-upload-test.true at
          ∙ ap (λ (es : List UploadEnd). ends_from (uploads - (upload + 1)) es (lines_of more))
          (sym items);
      counted = omega
          (arith, size, length-append ends (end ∷ []), c.loop-upload.invariant.counted);
    }
