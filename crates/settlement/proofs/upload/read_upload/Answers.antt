use Rattle.std.proofs.Common.{◌≡◌, ◌+◌, ◌-◌, ◌++◌, ap, append_assoc, arith, drop, length}
use Rattle.std.proofs.Common.{length-append, length-take-le, subst, sym, take, ◌∙◌}
use Rattle.settlement.proofs.Passed.{ArePassed, few_passed, last_kept, piece_passed}
use Rattle.settlement.specs.inside.Taken.{IsUploadTaken, end_at}
use Rattle.std.proofs.Math.Seq.{drop-append_seam}
use Rattle.world.specs.{Origins.IsProvided, Run.Calls}
use Rattle.settlement.proofs.upload.read_upload.Goals as goal

pub overflow_add-taps : goal.overflow_add-taps
overflow_add-taps g c =
    let past = c.loop.invariant in
    let have = c.loop.have + c.in_ok-count.count in
    let room = c.deref.result.now in
    omega (
      arith,
      few_passed _ _ _ _ _ past.passed,
      past.number,
      past.short,
      c.taps-taps.ensures,
      c.in_ok-end.ensures.few,
      length-take-le have room (omega (
        arith,
        c.in_ok-count.ensures.bound,
        ap length c.deref.ensures.value,
        c.read_piece.new.room.ok,
      )),
      c.if-passed-have-gt-LOAD_LIMIT_BYTES.false,
    )

pub returns-in-Ok : goal.returns-in-Ok
returns-in-Ok g c = λ origin opened.
    let past = c.loop.invariant in
    let keeps = g.C.Choice.keeps c.args.choice.now in
    let new = c.add_piece.new.kept in
    let piece = take (c.loop.have + c.in_ok-count.count) c.deref.result.now in
    let end = c.in_ok-end.end in
    let offset = c.loop.passed + c.in_ok-end.used in
    let (kept, tokens) = last_kept keeps c.args.kept.now c.loop.kept new past.bytes piece
    c.loop.taps end past.passed c.in_ok-end.ensures.kept c.in_ok-end.ensures.tokens offset
    (omega (arith, past.number, c.in_ok-end.ensures.used)) in
    subst (λ e. IsUploadTaken keeps origin c.args.kept.now new e c.args.calls.now.run
    c.close.new.calls.run)
    (ap (λ n. end_at (c.loop.taps + n) offset end) (sym c.taps-taps.ensures) ∙ sym c.end_of.ensures)
    (record {
      file = past.bytes ++ piece;
      provided = subst (λ (calls : Calls). IsProvided origin calls.run c.close.new.calls.run
          (past.bytes ++ piece)) past.calls
          (c.in-Ok.ensures origin (past.bytes ++ piece)
          (subst (λ room. g.O.Reading.has_read c.read_piece.new.opened origin
          (past.bytes ++ take (c.loop.have + c.in_ok-count.count) room))
          (sym c.deref.ensures.value)
          (c.in_ok-count.ensures.read origin past.bytes (past.read origin opened))));
      kept = kept;
      tokens = tokens;
    })

pub loop-preserved : goal.loop-preserved
loop-preserved g c =
    let past = c.loop.invariant in
    let keeps = g.C.Choice.keeps c.args.choice.now in
    let new = c.add_piece.new.kept in
    let have = c.loop.have + c.in_ok-count.count in
    let used = c.in_ok-end.used in
    let room = c.deref.result.now in
    let piece = take have room in
    let long = length-take-le have room (omega (
      arith,
      c.in_ok-count.ensures.bound,
      ap length c.deref.ensures.value,
      c.read_piece.new.room.ok,
    )) in
    let end = c.in_ok-end.end in
    let (front, cut, size, passed) = piece_passed keeps c.args.kept.now c.loop.kept new past.bytes
    piece c.loop.taps end past.passed c.in_ok-end.ensures.kept c.in_ok-end.ensures.tokens in
    let taken : used ≡ length front = c.in_ok-end.ensures.used ∙ size in
    let rest = c.in_ok-end.ensures.kept.ended.rest in
    let left : take (have - used) c.move_rest.new.room.items ≡ rest =
    c.move_rest.ensures.rest ∙ ap (λ r. drop used (take have r)) (sym c.deref.ensures.value)
    ∙ ap (λ n. drop n piece) taken ∙ ap (drop (length front)) cut
    ∙ drop-append_seam front rest in
    record {
      len = omega (
        arith,
        c.move_rest.ensures.len,
        c.in_ok-count.ensures.bound,
      );
      short = omega (
        arith,
        c.if-passed-have-gt-LOAD_LIMIT_BYTES.false,
        c.in_ok-end.ensures.bound,
        long,
      );
      calls = past.calls;
      bytes = past.bytes ++ front;
      number = omega (arith, past.number, taken, length-append past.bytes front);
      passed = subst (λ n. ArePassed keeps c.args.kept.now new (past.bytes ++ front)
          (c.loop.taps + n)) (sym c.taps-taps.ensures) passed;
      read = λ origin opened.
          subst (g.O.Reading.has_read c.read_piece.new.opened origin)
          (ap (λ r. past.bytes ++ take have r) (sym c.deref.ensures.value)
          ∙ ap (λ p. past.bytes ++ p) cut ∙ sym (append_assoc past.bytes front rest)
          ∙ ap (λ r. (past.bytes ++ front) ++ r) (sym left))
          (c.in_ok-count.ensures.read origin past.bytes (past.read origin opened));
    }
