use Rattle.std.proofs.Common.{◌≡◌, ◌∙◌, ◌==◌, ◌+◌, [], true, length, refl, subst, sym}
use Rattle.std.proofs.lemmas.{Bool.eqb-true, List.nil_from_length}
use Rattle.std.specs.Io.BufRead.{drop_through}
use Rattle.tap_rows.proofs.TableLemmas.{encoded_bad, encoded_row}
use Rattle.tap_rows.specs.Rows.{IsNoTapRow, IsTapRow}
use Rattle.tap_rows.specs.{TapTables.BeginsWithRows, TapTables.IsHead, inside.TapTables.HasEncoded}
use Rattle.tap_rows.proofs.into_upload.encode.Goals as goal

pub returns-then-is_empty-clause-upload : goal.returns-then-is_empty-clause-upload
returns-then-is_empty-clause-upload c =
    let has = c.loop-number.invariant in
    let none : c.loop-number.left.now ≡ [] = nil_from_length c.loop-number.left.now
    (eqb-true _ 0 (sym c.is_empty.ensures ∙ c.if-is_empty.true)) in
    record {
      taps = has.taps;
      tap_table = record {
        head_line = subst IsHead c.split_line.ensures.line
            (c.is_head.ensures.0 c.if-not-is_head.false);
        rows = subst (λ left. BeginsWithRows (drop_through 10 c.args.table.now) has.taps left) none
            has.rows;
      };
      upload = c.in_ok-finish.ensures has.taps has.grown;
    }

pub returns-in-Err-clause-fault : goal.returns-in-Err-clause-fault
returns-in-Err-clause-fault c =
    let left = c.loop-number.left.now in
    encoded_bad c.args.table.now left c.loop-number.number c.loop-number.growing c.in-Err.column
    (subst IsHead c.split_line.ensures.line (c.is_head.ensures.0 c.if-not-is_head.false))
    c.loop-number.invariant
    (λ none. let is : (length left == 0) ≡ true = rw none refl in
    absurd (cc (c.is_empty.ensures, c.if-is_empty.false, is)))
    (subst (λ line. IsNoTapRow line c.in-Err.column) c.split_line-in-loop-number.ensures.line
    c.in-Err.ensures.wrong)

pub loop-number-preserved : goal.loop-number-preserved
loop-number-preserved c =
    let split = c.split_line-in-loop-number.ensures in
    subst (λ rest. HasEncoded c.args.table.now rest (c.loop-number.number + 1) c.push.new.self)
    (sym split.rest)
    (encoded_row c.args.table.now c.loop-number.left.now c.loop-number.number c.loop-number.growing
    c.push.new.self c.in-Ok.tap c.loop-number.invariant
    (subst (λ line. IsTapRow line c.in-Ok.tap) split.line c.in-Ok.ensures.row)
    c.in_ok-push-in-Ok.ensures)
