use Rattle.std.proofs.Common.{◌+◌, List, [], ◌∷◌, ◌++◌, drop, take, string_bytes, refl, sym, ap}
use Rattle.std.proofs.Common.{subst, ◌∙◌, arith}
use Rattle.fare_service.proofs.SpotLines.{ascend_here, ascend_on, seen_taken}
use Rattle.fare_service.specs.inside.Spots.{entries_at_spots}
use Rattle.fare_texts.proofs.Beginnings.{begins_nothing, goes_grown, goes_nothing, goes_passed}
use Rattle.fare_texts.proofs.PieceWriting.{along_push, consumed_first, consumed_next, lines_started}
use Rattle.fare_texts.specs.LedgerLines.{IsLedgerLineAfter}
use Rattle.fare_texts.specs.Lines.{AreLinesAlong, HasConsumed, IsLineAfter, NondecreasingFrom}
use Rattle.histories.specs.{Entry.own, declared.entry.Entry.Entry}
use Rattle.std.proofs.lemmas.Result.{err_from_is_err_and}
use Rattle.tap_views.specs.{TokenOrder.IsUpTo, declared.token.Token.Token}
use Rattle.fare_service.proofs.lines.write_pieces.Goals as goal

pub loop-spot-init : goal.loop-spot-init
loop-spot-init g c = record {
  consumed = consumed_first c.args.table.now _ (c.of-explainer.ensures.explained c.args.table.now);
  nondecreasing = subst
      (λ (t : Token). NondecreasingFrom t (entries_at_spots c.args.books.now c.args.spots.now))
      (sym c.of-explainer.ensures.token) c.requires.nondecreasing;
  few = omega (arith, c.of-explainer.ensures.none);
  written = [];
  along = refl;
  whole = goes_nothing (g.W.Write.contents c.args.out.now) (string_bytes c.args.text.now);
}

-- the explainer gone_on to the entry's token
pub write_next-requires-clause-explained : goal.write_next-requires-clause-explained
write_next-requires-clause-explained g c =
    let list = c.args.spots.now in
    let i = c.loop-spot.spot-index in
    let done = take i (entries_at_spots c.args.books.now list) in
    let gone_on = c.go_on_to.ensures.consumed c.args.table.now done c.loop-spot.invariant.consumed
    (subst (λ (e : Entry). IsUpTo c.loop-spot.explainer.token e.token) (sym c.entry-entry.ensures)
    (ascend_here c.args.books.now list i _ c.loop-spot.explainer.token c.loop-spot-test.true
    c.loop-spot.invariant.nondecreasing)) in
    (own c.go_on_to.new.explainer.token done, gone_on.explained)

pub loop-spot-preserved : goal.loop-spot-preserved
loop-spot-preserved g c =
    let fares = c.args.table.now in
    let books = c.args.books.now in
    let list = c.args.spots.now in
    let i = c.loop-spot.spot-index in
    let inv = c.loop-spot.invariant in
    let done = take i (entries_at_spots books list) in
    let is = c.entry-entry.ensures in
    let taken = seen_taken books list i _ c.loop-spot-test.true in
    let gone_on = c.go_on_to.ensures.consumed fares done inv.consumed
    (subst (λ (e : Entry). IsUpTo c.loop-spot.explainer.token e.token) (sym is)
    (ascend_here books list i _ c.loop-spot.explainer.token c.loop-spot-test.true
    inv.nondecreasing)) in
    let own_done = own c.go_on_to.new.explainer.token done in
    let line = c.in-Ok.ensures.line own_done gone_on.explained in
    let after = subst
    (λ (t : Token). IsLedgerLineAfter fares t (own t done) c.entry-entry.result line.0)
    c.go_on_to.ensures.token line.1 in
    let next = consumed_next fares c.go_on_to.new.explainer c.write_next.new.self done
    c.entry-entry.result
    c.go_on_to.ensures.token c.in-Ok.ensures.token gone_on
    (c.in-Ok.ensures.explained own_done gone_on.explained) in
    record {
      consumed = subst (λ (es : List Entry). HasConsumed fares c.write_next.new.self es) (sym taken)
          (subst (λ (e : Entry). HasConsumed fares c.write_next.new.self (done ++ e ∷ [])) is next);
      nondecreasing = subst
          (λ (t : Token). NondecreasingFrom t (drop (i + 1) (entries_at_spots books list)))
          (sym (c.in-Ok.ensures.token ∙ c.go_on_to.ensures.token ∙ ap (λ (e : Entry). e.token) is))
          (ascend_on books list i _ c.loop-spot.explainer.token c.loop-spot-test.true
          inv.nondecreasing);
      few = omega (arith, c.in-Ok.ensures.number, c.go_on_to.ensures.few, inv.few);
      written = inv.written ++ line.0;
      along = subst (λ (es : List Entry). AreLinesAlong fares [] es (inv.written ++ line.0))
          (sym taken)
          (along_push fares [] done _ inv.written line.0 inv.along
          (subst (λ (e : Entry). IsLineAfter fares done e line.0) is after));
      whole = goes_grown _ (g.W.Write.contents c.pass_piece.new.out) _
          (string_bytes c.pass_piece.new.text) _ inv.written line.0
          (goes_passed _ (g.W.Write.contents c.loop-spot.out) _ _ (string_bytes c.loop-spot.text) _
          inv.written inv.whole c.in_ok-pass_piece.ensures.gone) line.2;
    }

-- ---- what a write that failed left
pub returns-in_err-pass_piece-clause-started : goal.returns-in_err-pass_piece-clause-started
returns-in_err-pass_piece-clause-started g c =
    let inv = c.loop-spot.invariant in
    let p = err_from_is_err_and c.from_residual.result c.from_residual.ensures.1 in
    rw p.1 (lines_started c.args.table.now (entries_at_spots c.args.books.now c.args.spots.now)
    c.loop-spot.spot-index inv.written (g.W.Write.contents c.args.out.now)
    (g.W.Write.contents c.loop-spot.out) (g.W.Write.contents c.pass_piece.new.out)
    (string_bytes c.args.text.now) (string_bytes c.loop-spot.text) inv.along inv.whole
    c.in_err-pass_piece.ensures.started)

pub returns-in_default-clause-started : goal.returns-in_default-clause-started
returns-in_default-clause-started g c =
    let inv = c.loop-spot.invariant in
    let out = g.W.Write.contents c.pass_piece.new.out in
    lines_started c.args.table.now (entries_at_spots c.args.books.now c.args.spots.now)
    c.loop-spot.spot-index inv.written (g.W.Write.contents c.args.out.now) out out
    (string_bytes c.args.text.now) (string_bytes c.pass_piece.new.text) inv.along
    (goes_passed _ (g.W.Write.contents c.loop-spot.out) _ _ (string_bytes c.loop-spot.text) _
    inv.written inv.whole c.in_ok-pass_piece.ensures.gone)
    (begins_nothing out (string_bytes c.pass_piece.new.text))
