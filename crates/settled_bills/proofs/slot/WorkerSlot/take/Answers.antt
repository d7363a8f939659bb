use Rattle.std.proofs.Common.{arith}
use Rattle.settled_bills.proofs.Joined.{sound_between}
use Rattle.settled_bills.proofs.slot.WorkerSlot.take.Goals as goal

pub explain-requires-clause-sound : goal.explain-requires-clause-sound
explain-requires-clause-sound c =
    let less = c.if-self.true in
    sound_between c.args.taps.now c.token_begin-self.result c.token_begin-self-2.result
    (omega (arith, less)) c.requires.sound
