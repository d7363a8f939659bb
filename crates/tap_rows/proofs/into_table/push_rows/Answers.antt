use Rattle.std.proofs.Common.{◌≡◌, [], ◌++◌, ◌∷◌, map, ap, ◌∙◌, sym, append_assoc, append-nil}
use Rattle.std.proofs.lemmas.List.{map-append}
use Rattle.tap_views.specs.Encoding.{fields_of}
use Rattle.tap_rows.specs.Rows.{row_text, rows_text}
use Rattle.tap_rows.proofs.RowLemmas.{rows_more}
use Rattle.tap_rows.proofs.into_table.push_rows.Goals as goal

pub loop-tap-preserved : goal.loop-tap-preserved
loop-tap-preserved c =
    let old = c.args.text.now.items in
    let done = map fields_of c.loop-tap.yielded in
    let row = row_text (fields_of c.in-Some.tap) in
    record {
      may = tt;
      ends = tt;
      all = append_assoc c.loop-tap.yielded (c.in-Some.tap ∷ []) c.next.new.self
          ∙ sym (ap (λ left. c.loop-tap.yielded ++ left) c.in-Some.ensures.steps)
          ∙ c.loop-tap.invariant.all;
      rows = c.in_ok-push_row.ensures ∙ ap (λ bytes. bytes ++ row) c.loop-tap.invariant.rows
          ∙ append_assoc old (rows_text done) row
          ∙ ap (λ text. old ++ text) (sym (rows_more done (fields_of c.in-Some.tap))
          ∙ ap rows_text (sym (map-append fields_of c.loop-tap.yielded (c.in-Some.tap ∷ []))));
    }

pub returns : goal.returns
returns c =
    let all : c.loop-tap.yielded ≡ c.args.batch.now =
    sym (append-nil c.loop-tap.yielded)
    ∙ sym (ap (λ left. c.loop-tap.yielded ++ left) c.in-None.ensures.steps.0)
    ∙ c.loop-tap.invariant.all in
    c.loop-tap.invariant.rows
    ∙ ap (λ taps. c.args.text.now.items ++ rows_text (map fields_of taps)) all
