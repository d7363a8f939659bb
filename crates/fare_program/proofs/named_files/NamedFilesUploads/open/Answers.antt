use Rattle.std.proofs.Common.{List, [], subst, sym, ℕ}
use Rattle.fare_program.proofs.Prefetched.{name_there}
use Rattle.fare_program.proofs.named_files.NamedFilesUploads.open.Goals as goal

pub returns-in-Ok : goal.returns-in-Ok
returns-in-Ok g c =
    subst (λ (name : List ℕ). g.D.Stream.Reading.has_read c.in-Ok.stream
    (g.D.Disk.origin c.args.self.now.disk.now name) [])
    (sym (name_there c.args.self.now.names.now c.args.upload _ c.requires)) c.in-Ok.ensures
