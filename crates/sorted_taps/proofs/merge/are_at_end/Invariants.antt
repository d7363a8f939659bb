use Rattle.std.proofs.Common.{◌≡◌, ◌<◌, ℕ, [], get_or}
use Rattle.sorted_taps.specs.{Readers.ahead, declared.reader.TapReader.TapReader}
use Rattle.sorted_taps.proofs.merge.are_at_end.Given as goal

abbrev pub invariant-loop-reader : goal.invariant-loop-reader
invariant-loop-reader l =
    (k : ℕ) (d : TapReader) → k < l.reader-index → ahead (get_or l.readers k d) ≡ []
