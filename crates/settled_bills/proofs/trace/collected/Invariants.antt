use Rattle.std.proofs.Common.{◌≡◌, List, length, map, take}
use Rattle.std.specs.List.{list_all}
use Rattle.tap_views.specs.Files.{ValidBatchesView}
use Rattle.settled_bills.specs.Traces.{AreReadAs, is_whole, traced_from}
use Rattle.settled_bills.proofs.trace.collected.Given as goal

abbrev pub invariant-loop-upload : goal.invariant-loop-upload
invariant-loop-upload l = record {
  readings : List ValidBatchesView;
  read : AreReadAs (map (λ u. u.items) (take l.upload-index l.uploads)) readings;
  added : l.taps.items ≡ traced_from 0 readings;
  are : l.whole ≡ list_all is_whole readings;
  count : l.number ≡ length readings;
}
