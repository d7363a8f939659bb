use Rattle.std.proofs.Common.{map, refl}
use Rattle.frame.proofs.Outcomes.{halted_by, halted_loading, stops_weaker}
use Rattle.std.proofs.lemmas.Result.{err_from_is_err_and}
use Rattle.tool_tasks.proofs.{EncodingRows.rows_named, Preparing.carried}
use Rattle.tool_tasks.specs.EncodeRows.{EncodesRows, LoadsWrong, names_of}
use Rattle.tool_tasks.specs.inside.EncodeRows.{texts_in}
use Rattle.tool_tasks.proofs.encode_rows.encode.Goals as goal

pub returns-in_err-found : goal.returns-in_err-found
returns-in_err-found g c =
    let e = err_from_is_err_and c.from_residual.result c.from_residual.ensures.1 in
    let words = c.args.words.now in let csvs = map (λ w. w.now) c.args.csvs.now in
    let (is_there, started, tried, (loads, leaves)) = c.in_err-found.ensures.stopped in
    rw (e.1, e.2) (
      is_there,
      started,
      tried,
      halted_loading (EncodesRows words csvs is_there)
          (LoadsWrong words csvs is_there) (names_of words csvs) started _ _ loads _ refl leaves,
    )

pub returns-in_err-prepared : goal.returns-in_err-prepared
returns-in_err-prepared g c =
    let e = err_from_is_err_and c.from_residual-in_err-prepared.result
    c.from_residual-in_err-prepared.ensures.1 in
    let words = c.args.words.now in let csvs = map (λ w. w.now) c.args.csvs.now in
    let is_there = c.in_ok-found.found.0 in let names = names_of words csvs in
    let (started, loads, tried, was, read) = c.in_ok-found.ensures.loaded in
    rw (e.1, e.2) (
      is_there,
      started,
      tried,
      halted_by (EncodesRows words csvs is_there)
          (LoadsWrong words csvs is_there) names started _ _ loads _ was
          (stops_weaker (λ wrong. (texts_in c.in_ok-found.found.1, read, wrong)) _
          c.in_err-prepared.ensures names _),
    )

pub returns : goal.returns
returns g c =
    let words = c.args.words.now in let csvs = map (λ w. w.now) c.args.csvs.now in
    let is_there = c.in_ok-found.found.0 in let names = names_of words csvs in
    let (started, loads, tried, was, read) = c.in_ok-found.ensures.loaded in
    let prepared = c.in_ok-prepared.prepared in
    let (choice, is_choice, (named, all, encoded, given)) = c.in_ok-prepared.ensures in (
      is_there,
      started,
      tried,
      carried (EncodesRows words csvs is_there) (LoadsWrong words csvs is_there) names started _ _
          prepared.status c.carry_out.result (c.carry_out.ensures names started loads was
          (rows_named words csvs prepared named)) (record {
            texts = texts_in c.in_ok-found.found.1;
            read = read;
            choice = choice;
            is_choice = is_choice;
            all = all;
            encoded = encoded;
            is_given = given;
          }),
    )
