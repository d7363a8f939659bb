use Rattle.std.proofs.Common.{map, take}
use Rattle.tool_tasks.specs.inside.Loads.{LoadsAll}
use Rattle.tool_tasks.proofs.loads.load_all.Given as goal

-- so far these files were loaded
abbrev pub invariant-loop-number : goal.invariant-loop-number
invariant-loop-number g l =
    LoadsAll (map (λ w. w.now) (take l.number l.words)) (g.I.Inputs.run l.fn.files)
    (g.I.Inputs.run l.files) (map (λ text. text.items) l.texts.items)
