use Rattle.std.proofs.Common.{Bor, List, map, refl, subst, ℕ}
use Rattle.tool_tasks.specs.{EncodeRows.EndsRows, Merge.merge_stream, Streams.EndsBy}
use Rattle.tool_program.proofs.program.task_over.Goals as goal

pub returns-in-Merge : goal.returns-in-Merge
returns-in-Merge g c =
    rw c.in-Merge.is (subst (λ (ps : List (Bor (List ℕ))). EndsBy (merge_stream (map (λ w. w.now) ps))
    (g.F.Streams.readings c.args.streams.now) (g.F.Streams.readings c.merge_over.new.files)
    (g.W.Inputs.run c.args.world.now) (g.W.Inputs.run c.merge_over.new.world) c.merge_over.result)
    c.deref-in-Merge.ensures.value c.merge_over.ensures)

pub returns-in-EncodeRows : goal.returns-in-EncodeRows
returns-in-EncodeRows g c =
    rw c.in-EncodeRows.is (
      c.in-EncodeRows.words,
      refl,
      subst (λ (ps : List (Bor (List ℕ))). EndsRows c.in-EncodeRows.words (map (λ w. w.now) ps)
          (g.W.Inputs.run c.args.world.now) (g.W.Inputs.run c.encode_rows_over.new.world)
          c.encode_rows_over.result) c.deref.ensures.value c.encode_rows_over.ensures,
    )

pub returns-in-UsageError : goal.returns-in-UsageError
returns-in-UsageError g c = rw c.in-UsageError.is (refl, c.refuse.ensures)
