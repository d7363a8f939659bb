use Rattle.std.proofs.Common.{◌≡◌, List, ℕ}
use Rattle.ledger_changes.specs.Given.{HasGiven}
use Rattle.recorded_lines.specs.Texts.{Follows}
use Rattle.world.specs.Run.{with_written}
use Rattle.tool_tasks.proofs.corrections.write_all.Given as goal

abbrev pub invariant-loop : goal.invariant-loop
invariant-loop g l = record {
  follow_old : Follows l.fn.corrections.old.from l.corrections.old.from;
  follow_new : Follows l.fn.corrections.new.from l.corrections.new.from;
  given : (text : List ℕ)
      × (g.W.Inputs.run l.world ≡ with_written (g.W.Inputs.run l.fn.world) text)
      × HasGiven l.corrections l.fn.words.is_by_token text;
}
