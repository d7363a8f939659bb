use Rattle.std.proofs.Common.{◌≡◌, ℕ, List, [], Vec, Global, length, map}
use Rattle.fare_program.proofs.{Choices.if_true, Ends.gives_by}
use Rattle.fare_service.proofs.UploadFileSource.{known_files}
use Rattle.settlement.proofs.LoadedFiles.{loaded_files}
use Rattle.settlement.specs.Reading.{AreRead}
use Rattle.std.proofs.lemmas.List.{length-map}
use Rattle.std.specs.Prelude.{slice_index_or}
use Rattle.world.specs.{Origins.memory, Run.Run}
use Rattle.fare_program.proofs.posting.charge.Goals as goal

abbrev bytes_in : Vec ℕ Global → List ℕ
bytes_in file = file.items

-- the files that were read are those that were loaded
read_files : (all : List (Vec ℕ Global)) (files : List (List ℕ)) (old new : Run)
    → AreRead (λ upload. memory (slice_index_or (map bytes_in all) upload [])) 0 (length all) files
    old new → files ≡ map bytes_in all
read_files all files old new read =
    loaded_files (map bytes_in all) files old new (rw (← length-map all bytes_in) at read)

pub returns-clause-ends : goal.returns-clause-ends
returns-clause-ends g c =
    gives_by _ _ _ _ _ _ c.charge_provided.result (λ given. given)
    (λ text success is.
    (is.1, rw (known_files bytes_in c.args.files.now is.0 is.2.provided) at is.3))
    c.charge_provided.ensures.ends

pub returns-then-options-clause-ends : goal.returns-then-options-clause-ends
returns-then-options-clause-ends g c =
    gives_by _ _ _ _ _ _ c.charge_settled.result (λ given. given)
    (λ text success is. (
      [],
      if_true _ _ c.if-options.true (rw (read_files c.args.files.now is.0 _ _ is.1) at is.2),
    ))
    c.charge_settled.ensures.ends
