use Rattle.std.proofs.Common.{◌≡◌, map, take}
use Rattle.sorted_taps.specs.declared.reader.TapReader.{TapReader}
use Rattle.sorted_taps.proofs.merge.Merge.numbers.Given as goal

abbrev pub invariant-loop-reader : goal.invariant-loop-reader
invariant-loop-reader l =
    l.numbers.items ≡ map (λ (reader : TapReader). reader.passed) (take l.reader-index l.self.readers.items)
