use Rattle.std.proofs.Common.{◌≡◌, ◌++◌, [], None, false, List, Option, ℕ}
use Rattle.omny_audit.proofs.Audits.{SoFar}
use Rattle.omny_audit.specs.{Reports.Given, inside.Audits.GoesOn, inside.Audits.HasAudited}
use Rattle.world.specs.Streams.{HasRead}
use Rattle.omny_audit.proofs.audit.audit_over.Given as goal

-- all but the piece was audited, and what was reported of it was written
abbrev pub invariant-loop-piece : goal.invariant-loop-piece
invariant-loop-piece g l = record {
  name : Option (List ℕ);
  file : List ℕ;
  read : HasRead l.ledger name (file ++ l.piece.items);
  whole : l.piece.items ≡ [] → l.ledger.from ≡ None;
  goes : GoesOn l.fn.ledger l.ledger l.fn.head.items;
  so_far : (given : Given) → HasAudited given l.fn.audit false [] []
      → SoFar given l.audit file (g.W.Inputs.run l.fn.world) (g.W.Inputs.run l.world);
}
