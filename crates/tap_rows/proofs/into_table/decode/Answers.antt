use Rattle.std.proofs.Common.{◌≡◌, ◌∙◌, List, [], ◌∷◌, ◌++◌, ap, append-nil, append_assoc, map}
use Rattle.std.proofs.Common.{refl, sym}
use Rattle.std.proofs.lemmas.{List.map-append, Result.err_from_is_err_and}
use Rattle.tap_rows.proofs.RowLemmas.{rows_joined}
use Rattle.tap_rows.specs.{Decoded.fields_in, Rows.rows_text}
use Rattle.tap_views.proofs.ParseLemmas.{read_end, read_on, taps_more}
use Rattle.tap_views.specs.{Encoding.fields_of, Files.taps_of_batches, Layout.Tap}
use Rattle.tap_rows.proofs.into_table.decode.Goals as goal

-- the rows of one batch more
batch_more : (done : List (List Tap)) (batch : List Tap)
    → rows_text (fields_in done) ++ rows_text (map fields_of batch)
    ≡ rows_text (fields_in (done ++ batch ∷ []))
batch_more done batch =
    sym (rows_joined (fields_in done) (map fields_of batch))
    ∙ ap rows_text (sym (map-append fields_of (taps_of_batches done) batch))
    ∙ ap (λ taps. rows_text (map fields_of taps)) (sym (taps_more done batch))

pub loop-batch-init : goal.loop-batch-init
loop-batch-init c = record {
  may = tt;
  ends = tt;
  read = c.valid_batches-valid.ensures;
  rows = sym (append-nil c.args.text.now.items);
}

pub loop-batch-preserved : goal.loop-batch-preserved
loop-batch-preserved c =
    let old = c.args.text.now.items in
    let done = c.loop-batch.yielded in
    let rows = rows_text (map fields_of c.in-Some.batch) in
    record {
      may = tt;
      ends = tt;
      read = read_on _ _ _ _ _ c.loop-batch.invariant.read c.in-Some.ensures.steps;
      rows = c.in_ok-push_rows.ensures ∙ ap (λ text. text ++ rows) c.loop-batch.invariant.rows
          ∙ append_assoc old (rows_text (fields_in done)) rows
          ∙ ap (λ text. old ++ text) (batch_more done c.in-Some.batch);
    }

pub returns-clause-rows : goal.returns-clause-rows
returns-clause-rows c =
    let end = c.loop-batch.invariant in
    let read = read_end _ _ _ _ _ end.read c.in_default.ensures.steps c.fault.ensures in (
      rows_text (fields_in c.loop-batch.yielded),
      record { batches = c.loop-batch.yielded; read = read; rows = refl },
      end.rows,
    )

pub returns-in_err-push_rows-clause-has_rows : goal.returns-in_err-push_rows-clause-has_rows
returns-in_err-push_rows-clause-has_rows c =
    let all = (c.loop-batch.yielded ++ c.in-Some.batch ∷ []) ++ c.next.new.self.batches in
    let p = err_from_is_err_and c.from_residual.result c.from_residual.ensures.1 in
    rw p.1 (
      rows_text (fields_in all),
      c.next.new.self.fault,
      record {
        batches = all;
        read = read_on _ _ _ _ _ c.loop-batch.invariant.read c.in-Some.ensures.steps;
        rows = refl;
      },
    )
