use Rattle.std.proofs.Common.{◌≡◌, List, Some, map, take}
use Rattle.frame.specs.Given.{LoadsFiles}
use Rattle.world.specs.{Origins.with_loads, Run.Load}
use Rattle.fare_program.proofs.program.load_files.Given as goal

abbrev pub invariant-loop-name : goal.invariant-loop-name
invariant-loop-name g l = (loads : List Load)
    × (g.I.Inputs.run l.inputs ≡ with_loads (g.I.Inputs.run l.fn.inputs) loads)
    × LoadsFiles (map (λ n. Some n.now) (take l.name-index l.job.options.files.items)) loads
    (map (λ f. f.items) l.files.items)
