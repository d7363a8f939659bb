use Rattle.std.proofs.Common.{◌≡◌, ◌<◌, length, arith}
use Rattle.std.specs.Prelude.{slice_index}
use Rattle.std.proofs.lemmas.Bool.Decides.{nat_tests}
use Rattle.tap_rows.proofs.FieldLemmas.{ends_quoted}
use Rattle.tap_rows.proofs.field.value_of.Goals as goal
use Rattle.tap_rows.proofs.field.value_of.Goals.{else-last-gt0-via-then-last-gt0+else-field-last-eq34}
use Rattle.tap_rows.proofs.field.value_of.Goals.{else-last-gt0-via-else-last-gt0}

pub returns-else-last-gt0 : goal.returns-else-last-gt0
returns-else-last-gt0 c = λ value holds.
    let text = c.args.field.now in
    let empty = c.if-is_empty.false in
    let is_empty = c.is_empty.ensures in
    let test = c.if-field-ne34.false in
    let some : 0 < length text = grind (arith, nat_tests, empty, is_empty) in
    let quote : slice_index text 0 ≡ 34 = grind (arith, nat_tests, test) in
    let ends = ends_quoted text value some quote holds in
    elim c.else-last-gt0.branch [
      | else-last-gt0-via-then-last-gt0+else-field-last-eq34 w ↦
          let other = w.if-field-last-eq34.false in
          let last = ends.1 in
          absurd (grind (arith, nat_tests, other, last))
      | else-last-gt0-via-else-last-gt0 w ↦
          let short = w.if-last-gt0.false in
          let long = ends.0 in
          absurd (grind (arith, nat_tests, short, long))
    ]
