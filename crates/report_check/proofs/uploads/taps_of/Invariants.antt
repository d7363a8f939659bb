use Rattle.std.proofs.Common.{◌≡◌, ◌*◌, ◌≤◌, ◌^◌, take}
use Rattle.std.specs.Prelude.{sum_by}
use Rattle.tap_views.specs.UploadEnds.{taps_of_end}
use Rattle.report_check.proofs.uploads.taps_of.Given as goal

-- the taps of the first uploads were added
abbrev pub invariant-loop-end : goal.invariant-loop-end
invariant-loop-end l = record {
  taps : l.taps ≡ sum_by taps_of_end (take l.end-index l.ends);
  few : l.taps ≤ l.end-index * 2 ^ 64;
}
