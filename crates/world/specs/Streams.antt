-- What is read in pieces.
use Rattle.std.specs.Prelude.{◌≡◌, ℕ, List, [], ◌∷◌, Option, Some, if◌then◌else◌, is_some}
use Rattle.world.specs.{Run.Calls, Run.nothing_yet, Run.with_load}
use Rattle.world.specs.declared.{reading.FileStream.FileStream, stream.Stream.Stream}

-- Reads under this name, or of standard input, gave these bytes, from the start on. If nothing is
-- left to be read, they are all. Nothing else was done.
pub record HasRead (stream : Stream) (name : Option (List ℕ)) (bytes : List ℕ) : Type 0 where
  pub reading : stream.trace.reading ≡ record { name = name; bytes = bytes }
  pub run : stream.trace.run
      ≡ (if is_some stream.from then nothing_yet else with_load nothing_yet name bytes)

-- Reads of the file of this name gave these bytes, from the start on. If nothing is left to be read,
-- they are all. Nothing else was done.
pub record HasReadFile (stream : FileStream) (name bytes : List ℕ) : Type 0 where
  pub reading : stream.trace.reading ≡ record { name = Some name; bytes = bytes }
  pub run : stream.trace.run
      ≡ (if is_some stream.file then nothing_yet else with_load nothing_yet (Some name) bytes)

-- what was read was read to its end
abbrev pub IsWhole : Calls → Type 0
IsWhole calls = calls.run.loads ≡ calls.reading ∷ []
