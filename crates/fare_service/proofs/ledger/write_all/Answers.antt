use Rattle.std.proofs.Common.{List, [], ◌++◌, subst, string_bytes}
use Rattle.fare_service.proofs.Whole.{ledger_of_all}
use Rattle.fare_service.specs.{declared.spot.Spot.Spot, inside.Spots.entries_at_spots}
use Rattle.fare_texts.specs.Lines.{AreLinesAlong}
use Rattle.std.proofs.lemmas.Result.{err_from_is_err_and}
use Rattle.fare_service.proofs.ledger.write_all.Goals as goal

pub returns-clause-ok : goal.returns-clause-ok
returns-clause-ok g c =
    let first = c.table_of-table.ensures in
    let done = c.in_ok-write_lines.ensures.ok in
    let along = subst
    (λ (spots : List Spot). AreLinesAlong c.table_of-table.result.now []
    (entries_at_spots c.args.books.now spots) done.0) c.as_slice.ensures.value done.1 in (
      string_bytes c.in_ok-text.text ++ done.0,
      ledger_of_all c.args.books.now first.0 c.table_of-table.result.now
          (entries_at_spots c.args.books.now c.in_ok-text.spots.items)
          (string_bytes c.in_ok-text.text)
          done.0 first.1 first.2
          c.in_ok-text.ensures.entries along c.in_ok-text.ensures.head,
      done.2,
    )

pub returns-in_err-write_lines-clause-started : goal.returns-in_err-write_lines-clause-started
returns-in_err-write_lines-clause-started g c =
    let first = c.table_of-table.ensures in
    let p = err_from_is_err_and c.from_residual-in_err-write_lines.result
    c.from_residual-in_err-write_lines.ensures.1 in
    let done = c.in_err-write_lines.ensures.started in
    let along = subst
    (λ (spots : List Spot). AreLinesAlong c.table_of-table.result.now []
    (entries_at_spots c.args.books.now spots) done.0) c.as_slice.ensures.value done.1 in
    rw p.1 (λ write. (
      string_bytes c.in_ok-text.text ++ done.0,
      ledger_of_all c.args.books.now first.0 c.table_of-table.result.now
          (entries_at_spots c.args.books.now c.in_ok-text.spots.items)
          (string_bytes c.in_ok-text.text) done.0 first.1 first.2 c.in_ok-text.ensures.entries along
          c.in_ok-text.ensures.head,
      done.2,
    ))
