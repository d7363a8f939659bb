use Rattle.std.proofs.Common.{◌<◌, ℕ, get_or}
use Rattle.sorted_taps.specs.{Readers.ahead, declared.reader.TapReader.TapReader}
use Rattle.sorted_taps.specs.inside.Limits.{IsFrontOf}
use Rattle.sorted_taps.proofs.limit.front_of.Given as goal

abbrev pub invariant-loop-reader : goal.invariant-loop-reader
invariant-loop-reader l = (k : ℕ) → k < l.reader-index → (d : TapReader)
    → IsFrontOf l.front (ahead (get_or l.readers k d))
