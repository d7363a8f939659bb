use Rattle.std.proofs.Common.{ℕ, List, arith, subst}
use Rattle.std.specs.Io.KnownBytes.{Appends}
use Rattle.std.proofs.lemmas.Result.{err_from_is_err_and}
use Rattle.fare_texts.specs.WrittenOut.{Begins}
use Rattle.fare_texts.proofs.Beginnings.{goes_nothing}
use Rattle.histories.specs.Shown.{token_sum}
use Rattle.report_texts.proofs.Parts.{last_out, lines_started, next_token}
use Rattle.report_texts.proofs.token_lines.write_lines.Goals as goal

pub loop-position-init : goal.loop-position-init
loop-position-init g c = record {
  room = c.requires;
  lines = goes_nothing (g.W.Write.contents c.args.out.now) c.args.text.now.items;
}

pub loop-position-preserved : goal.loop-position-preserved
loop-position-preserved g c = record {
  room = omega (arith, c.push_line.ensures.capacity, c.loop-position.invariant.room);
  lines = next_token (g.W.Write.contents c.args.out.now) (g.W.Write.contents c.loop-position.out)
      (g.W.Write.contents c.push_line.new.out) c.args.text.now.items c.loop-position.text.items
      c.push_line.new.text.items c.make_line.new.line c.args.sums.now c.loop-position.position
      (token_sum c.get-sum.result) c.get-sum.ensures c.loop-position.invariant.lines
      c.make_line.ensures c.in_ok-push_line.ensures.gone;
}

pub returns-clause-ok : goal.returns-clause-ok
returns-clause-ok g c =
    last_out (g.W.Write.contents c.args.out.now) (g.W.Write.contents c.loop-position.out)
    (g.W.Write.contents c.write_out.new.out) c.args.text.now.items
    c.loop-position.text.items c.args.sums.now c.loop-position.position
    (omega (arith, c.len-position-end.ensures, c.loop-position-test.false))
    c.loop-position.invariant.lines
    (subst (λ (text : List ℕ). Appends (g.W.Write.contents c.loop-position.out)
    (g.W.Write.contents c.write_out.new.out) text) c.as_slice.ensures.value
    c.in_ok-write_out.ensures.ok)

-- ---- what a write that failed left
pub returns-in_err-push_line-clause-started : goal.returns-in_err-push_line-clause-started
returns-in_err-push_line-clause-started g c =
    let p = err_from_is_err_and c.from_residual.result c.from_residual.ensures.1 in
    rw p.1 (lines_started (g.W.Write.contents c.args.out.now)
    (g.W.Write.contents c.loop-position.out)
    (g.W.Write.contents c.push_line.new.out) c.args.text.now.items c.loop-position.text.items
    c.args.sums.now c.loop-position.position c.loop-position.invariant.lines
    c.in_err-push_line.ensures.started)

pub returns-in_err-write_out-clause-started : goal.returns-in_err-write_out-clause-started
returns-in_err-write_out-clause-started g c =
    let p = err_from_is_err_and c.from_residual-in_err-write_out.result
    c.from_residual-in_err-write_out.ensures.1 in
    rw p.1 (lines_started (g.W.Write.contents c.args.out.now)
    (g.W.Write.contents c.loop-position.out)
    (g.W.Write.contents c.write_out.new.out) c.args.text.now.items c.loop-position.text.items
    c.args.sums.now c.loop-position.position c.loop-position.invariant.lines
    (subst (λ (text : List ℕ). Begins (g.W.Write.contents c.loop-position.out)
    (g.W.Write.contents c.write_out.new.out) text) c.as_slice.ensures.value
    c.in_err-write_out.ensures.started))
