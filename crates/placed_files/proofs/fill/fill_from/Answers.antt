use Rattle.std.proofs.Common.{◌≡◌, ◌-◌, IfSome, length, subst, sym, arith, ◌∙◌}
use borrow.Rule.Slice.PartMut.{put_mid}
use Rattle.placed_files.specs.inside.Started.{IsStartedFrom}
use Rattle.placed_files.proofs.Filling.{kept, grown, long_put}
use Rattle.placed_files.proofs.fill.fill_from.Goals.{in-Ok, in-Err}
use Rattle.placed_files.proofs.fill.fill_from.Goals as goal

-- src/fill.rt:22:5
pub loop-preserved : goal.loop-preserved
loop-preserved g c =
    let at = c.loop.at in
    let buffer = c.loop.buffer in
    let part = c.read_from.new.buffer in
    let k = length buffer - at in
    let most = c.loop.invariant.most in
    let part_long = c.read_from.auto.buffer in
    let same : length (put_mid at k buffer part) ≡ length buffer =
    long_put at k buffer part most (omega (arith, part_long)) (omega (arith, most)) in
    record {
      most = elim c.match-read_from.branch [
        | in-Ok w ↦ let e = w.at-is in let b = w.in-Ok.ensures.bound.0 in
            omega (arith, e, b, part_long, same, most)
        | in-Err w ↦ let e = w.at-is in omega (arith, e, same, most)
      ];
      long = same ∙ c.loop.invariant.long;
      started = elim c.match-read_from.branch [
        | in-Ok w ↦ subst (λ n. IfSome (g.F.Placed.bytes c.args.file.now)
            (λ all. IsStartedFrom all c.args.offset (put_mid at k buffer part) n)) (sym w.at-is)
            (grown (g.F.Placed.bytes c.args.file.now) c.args.offset at k w.in-Ok.count buffer part
            most w.in-Ok.ensures.bound.0 c.loop.invariant.started w.in-Ok.ensures.bytes)
        | in-Err w ↦ subst (λ n. IfSome (g.F.Placed.bytes c.args.file.now)
            (λ all. IsStartedFrom all c.args.offset (put_mid at k buffer part) n)) (sym w.at-is)
            (kept (g.F.Placed.bytes c.args.file.now) c.args.offset at k buffer part most
            c.loop.invariant.started)
      ];
    }
