use Rattle.std.proofs.Common.{option_map}
use Rattle.world.specs.Streams.{HasRead}
use Rattle.omny_audit.proofs.program.read_head.Given as goal

-- the head is what was read
abbrev pub invariant-loop-piece : goal.invariant-loop-piece
invariant-loop-piece l = HasRead l.ledger (option_map (λ n. n.now) l.fn.name) l.head.items
