-- Nothing written yet.
use Rattle.std.proofs.Common.{ℕ, List, [], refl}
use Rattle.std.specs.Prelude.{Option}
use Rattle.std.proofs.KnownBytes.{Appends-nil}
use Rattle.sorted_taps.specs.Written.{IsPartlyWritten}

pub nothing_started : (old : Option (List ℕ)) → IsPartlyWritten old old
nothing_started old = record {
  text = [];
  batches = [];
  are = record { texts = []; each = tt; all_bytes = refl };
  full = tt;
  appended = Appends-nil old;
}
