-- What a stream that was read adds to those before it.
use Rattle.std.specs.Prelude.{List, [], ◌∷◌, ◌++◌}
use Rattle.world.specs.Run.{Calls}
use Rattle.recorded_lines.specs.declared.readings.Reading.{Reading}
use Rattle.recorded_lines.specs.declared.readings.Reading.TheVariants.{Start, Read}

abbrev pub after_reading : Reading → List Calls
after_reading Start = []
after_reading (Read before stream) = before.value ++ stream.value.trace ∷ []
