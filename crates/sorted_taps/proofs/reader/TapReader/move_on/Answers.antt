use Rattle.std.proofs.Common.{◌+◌, arith}
use Rattle.sorted_taps.specs.inside.Steps.{IsMovedOn, IsRefilled}
use Rattle.std.proofs.lemmas.Result.{on_ok_weaker}
use Rattle.sorted_taps.proofs.Known.{known_all, known_map}
use Rattle.sorted_taps.proofs.Standing.{next_moved, refill_moved}
use Rattle.sorted_taps.proofs.reader.TapReader.move_on.Goals as goal

pub returns-then-self-len-clause-kept : goal.returns-then-self-len-clause-kept
returns-then-self-len-clause-kept g c =
    let more = c.if-self-len.true in
    let e = c.len.ensures in
    known_all _ (g.F.Placed.bytes c.args.file.now)
    (λ all. next_moved all c.args.self.now c.args.number (omega (arith, more, e)))

pub returns-clause-kept : goal.returns-clause-kept
returns-clause-kept g c =
    let old = c.args.self.now in
    let number = c.args.number in
    let new = c.refill.new.self in
    let last = c.if-self-len.false in
    let e = c.len.ensures in
    on_ok_weaker c.refill.result
    (known_map (λ all. IsRefilled all (record old { next = old.next + number }) new)
    (λ all. IsMovedOn all old number new) (g.F.Placed.bytes c.args.file.now)
    (λ all is. refill_moved all old new number (omega (arith, last, e)) is)) c.refill.ensures.kept
