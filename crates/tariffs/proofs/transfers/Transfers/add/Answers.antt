use Rattle.std.proofs.Common.{rules}
use Rattle.tariffs.proofs.MaskLemmas.{masks-add}
use Rattle.tariffs.proofs.transfers.Transfers.add.Goals as goal

pub invariant_of-self-then-not-permits : goal.invariant_of-self-then-not-permits
invariant_of-self-then-not-permits c =
    rw c.in_ok-push.ensures.items
    (masks-add c.self.inside.masks c.self.inside.pairs.items c.args.from c.args.to c.requires.from
    c.requires.to (search rules) c.self.invariant)
