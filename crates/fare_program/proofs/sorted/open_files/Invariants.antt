use Rattle.std.proofs.Common.{◌≡◌, map, take}
use Rattle.fare_program.proofs.sorted.open_files.Given as goal

abbrev pub invariant-loop-name : goal.invariant-loop-name
invariant-loop-name g l =
    map g.D.File.Placed.bytes l.files.items
    ≡ map (g.D.Disk.bytes_under l.disk) (map (λ n. n.now) (take l.name-index l.names))
