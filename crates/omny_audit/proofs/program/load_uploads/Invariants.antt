use Rattle.std.proofs.Common.{◌≡◌, List, Some, ℕ, map, take}
use Rattle.frame.specs.Given.{LoadsFiles}
use Rattle.omny_audit.specs.inside.Program.{AreUploads}
use Rattle.tap_views.specs.declared.encoder.TapFields.{TapFields}
use Rattle.world.specs.{Origins.with_loads, Run.Load}
use Rattle.omny_audit.proofs.program.load_uploads.Given as goal

-- so far these were loaded
abbrev pub invariant-loop-name : goal.invariant-loop-name
invariant-loop-name g l = (loads : List Load)
    × (g.S.Inputs.run l.source ≡ with_loads (g.S.Inputs.run l.fn.source) loads)
    × (bytes : List (List ℕ)) × (lists : List (List TapFields))
    × LoadsFiles (map Some (map (λ n. n.now) (take l.name-index l.names))) loads bytes
    × AreUploads bytes lists l.uploads
