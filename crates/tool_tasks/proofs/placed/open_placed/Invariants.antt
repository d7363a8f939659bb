use Rattle.std.proofs.Common.{◌≡◌, map, take}
use Rattle.tool_tasks.proofs.placed.open_placed.Given as goal

abbrev pub invariant-loop-word : goal.invariant-loop-word
invariant-loop-word g l =
    map g.D.File.Placed.bytes l.files.items
    ≡ map (g.D.PlacedFiles.bytes_under l.disk) (map (λ w. w.now) (take l.word-index l.words))
