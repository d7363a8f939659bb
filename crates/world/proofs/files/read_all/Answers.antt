use Rattle.std.proofs.Common.{◌≡◌, ◌∙◌, ap, sym, subst, take, arith}
use Rattle.world.proofs.files.read_all.Goals.{in-Ok+else-end-gt-LOAD_LIMIT_BYTES, in-Err}
use Rattle.world.specs.{Loads.IsRefused, Run.Run}
use Rattle.world.proofs.files.read_all.Goals as goal

pub returns-then-end-gt-LOAD_LIMIT_BYTES-clause-refused :
    goal.returns-then-end-gt-LOAD_LIMIT_BYTES-clause-refused
returns-then-end-gt-LOAD_LIMIT_BYTES-clause-refused g c =
    let before = c.args.trace.now.reading in
    let end = c.loop.end in
    let bytes = c.read_after.new.bytes in
    let same : take end c.loop.bytes.items ≡ take end bytes.items =
    sym (c.read_after.ensures.kept ∙ c.in_ok-make_room.ensures.kept) in
    let was : c.loop.trace.reading ≡ record { name = before.name; bytes = take end bytes.items } =
    c.loop.invariant.3 ∙ ap (λ ys. record { name = before.name; bytes = ys }) same in
    subst (λ (old : Run). IsRefused old c.note_too_long.new.trace.run before.name
    c.note_too_long.result)
    (c.note_read.ensures.run ∙ c.loop.invariant.2)
    (c.note_too_long.ensures before (c.note_read.ensures.reading before was))

pub loop-preserved : goal.loop-preserved
loop-preserved g c =
    let before = c.args.trace.now.reading in
    let name = before.name in
    let end = c.loop.end in
    let bytes = c.read_after.new.bytes in
    let same : take end c.loop.bytes.items ≡ take end bytes.items =
    sym (c.read_after.ensures.kept ∙ c.in_ok-make_room.ensures.kept) in
    let was : c.loop.trace.reading ≡ record { name = name; bytes = take end bytes.items } =
    c.loop.invariant.3 ∙ ap (λ ys. record { name = name; bytes = ys }) same in
    elim c.match-read_after.branch [
      | in-Ok+else-end-gt-LOAD_LIMIT_BYTES w ↦ (
        omega (arith, w.end-is, w.in-Ok.ensures.bound),
        omega (arith, w.end-is, w.if-end-gt-LOAD_LIMIT_BYTES.false),
        ap (λ t. t.run) w.trace-is ∙ (w.note_read.ensures.run ∙ c.loop.invariant.2),
        ap (λ t. t.reading) w.trace-is ∙ (w.note_read.ensures.reading before was
            ∙ ap (λ n. record { name = name; bytes = take n bytes.items }) (sym w.end-is)),
      )
      | in-Err w ↦ (
        omega (arith, w.end-is, c.read_after.ensures.len, c.in_ok-make_room.ensures.len),
        omega (arith, w.end-is, c.loop.invariant.1),
        ap (λ t. t.run) w.trace-is ∙ c.loop.invariant.2,
        ap (λ t. t.reading) w.trace-is ∙ (was
            ∙ ap (λ n. record { name = name; bytes = take n bytes.items }) (sym w.end-is)),
      )
    ]
