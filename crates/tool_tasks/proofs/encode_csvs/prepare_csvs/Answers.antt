use Rattle.std.proofs.Common.{◌≡◌, List, [], arith, drop, refl, subst, sym, ℕ}
use Rattle.std.proofs.{Math.ListN.drop_of_length-le, lemmas.Result.err_from_is_err_and}
use Rattle.std.specs.{Prelude.Vec, declared.alloc.Global.Global}
use Rattle.tool_tasks.proofs.EncodingRows.{chain_on, wrong_csv}
use Rattle.tool_tasks.specs.EncodeRows.{AddsCsv, Chain}
use Rattle.tool_tasks.specs.inside.EncodeRows.{csvs_of, encoded_of}
use Rattle.tool_tasks.proofs.encode_csvs.prepare_csvs.Goals as goal

pub returns-in_err-encode_csv : goal.returns-in_err-encode_csv
returns-in_err-encode_csv c =
    let e = err_from_is_err_and c.from_residual.result c.from_residual.ensures.1 in
    rw (e.1, e.2) (wrong_csv c.args.words.now c.args.choice.now c.args.csvs.now
    c.loop-number.number c.index-csvs-number.result c.in_err-encode_csv.field-0.0.0
    c.loop-number-test.true c.index-csvs-number.is c.in_err-encode_csv.ensures.stopped)

pub loop-number-preserved : goal.loop-number-preserved
loop-number-preserved c = λ final rest.
    c.loop-number.invariant final (chain_on (AddsCsv c.args.words.now c.args.choice.now)
    c.args.csvs.now c.loop-number.number c.index-csvs-number.result (encoded_of c.loop-number.all)
    (encoded_of c.encode_csv.new.all) final c.loop-number-test.true c.index-csvs-number.is
    c.in_ok-encode_csv.ensures.added rest)

pub returns-in-Ok : goal.returns-in-Ok
returns-in-Ok c =
    let all = encoded_of c.loop-number.all in
    let past = c.loop-number-test.false in
    let none : drop c.loop-number.number c.args.csvs.now ≡ [] =
    drop_of_length-le c.args.csvs.now (omega (arith, past)) in (
      c.in-Ok.ensures.0,
      all,
      c.loop-number.invariant all (subst (λ (cs : List (Vec ℕ Global)).
          Chain (AddsCsv c.args.words.now c.args.choice.now) (csvs_of cs) all all) (sym none) refl),
      c.in-Ok.ensures.1,
    )
