use Rattle.std.specs.Prelude.{option_map}
use Rattle.world.specs.Streams.{HasRead}
use Rattle.omny_tools.proofs.whole.read_whole.Given as goal

abbrev pub invariant-loop : goal.invariant-loop
invariant-loop l = HasRead l.stream (option_map (λ n. n.now) l.fn.name) l.bytes.items
