use Rattle.std.proofs.Common.{◌<◌, ℕ, Bor, List, arith, length, subst, sym}
use Rattle.std.proofs.lemmas.List.{length-map}
use Rattle.world.specs.Origins.{IsProvided}
use Rattle.fare_program.specs.inside.PostedFiles.{unless_memory}
use Rattle.fare_program.proofs.Prefetched.{is_outside, name_there, named_at, outside_provided}
use Rattle.fare_program.proofs.named_files.NamedFilesUploadSource.provide.Goals as goal

pub returns-clause-provided : goal.returns-clause-provided
returns-clause-provided g c =
    let origin = g.D.Disk.origin c.args.self.now.disk.now in
    let few : c.args.upload < length c.args.self.now.names.now =
    omega (
      arith,
      c.requires,
      length-map c.args.self.now.names.now (λ (n : Bor (List ℕ)). unless_memory (origin n.now)),
    ) in
    rw (
      named_at (λ name. unless_memory (origin name)) c.args.self.now.names.now c.args.upload few,
      c.as_slice.ensures.value,
    ) (outside_provided _ _ _ _
    (subst (λ (name : List ℕ). IsProvided (origin name) c.args.calls.now.run
    c.read_into.new.calls.run c.in-Ok.bytes.items)
    (sym (name_there c.args.self.now.names.now c.args.upload _ few)) c.in-Ok.ensures))

pub returns-in_default-clause-none : goal.returns-in_default-clause-none
returns-in_default-clause-none g c =
    let origin = g.D.Disk.origin c.args.self.now.disk.now in
    let few : c.args.upload < length c.args.self.now.names.now =
    omega (
      arith,
      c.requires,
      length-map c.args.self.now.names.now (λ (n : Bor (List ℕ)). unless_memory (origin n.now)),
    ) in (
      c.requires,
      rw (named_at (λ name. unless_memory (origin name)) c.args.self.now.names.now c.args.upload few)
          (is_outside _),
    )

pub returns-then-is_err-clause-none : goal.returns-then-is_err-clause-none
returns-then-is_err-clause-none g c =
    let origin = g.D.Disk.origin c.args.self.now.disk.now in
    let few : c.args.upload < length c.args.self.now.names.now =
    omega (
      arith,
      c.requires,
      length-map c.args.self.now.names.now (λ (n : Bor (List ℕ)). unless_memory (origin n.now)),
    ) in (
      c.requires,
      rw (named_at (λ name. unless_memory (origin name)) c.args.self.now.names.now c.args.upload few)
          (is_outside _),
    )
