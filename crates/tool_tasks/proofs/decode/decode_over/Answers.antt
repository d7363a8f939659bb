use Rattle.std.proofs.Common.{Bor, List, map, subst, ℕ}
use Rattle.tool_tasks.proofs.Preparing.{ends}
use Rattle.tool_tasks.specs.{Decode.decode_rule, inside.Does.Does}
use Rattle.tool_tasks.proofs.decode.decode_over.Goals as goal

pub returns : goal.returns
returns g c = ends _ _ _ _ _ _ (subst (λ (ws : List (Bor (List ℕ))). Does (decode_rule (map (λ w. w.now) ws))
    (g.W.Inputs.run c.args.world.now) (g.W.Inputs.run c.decode-done.new.world) c.decode-done.result)
    c.deref.ensures.value c.decode-done.ensures) c.ended.ensures
