use Rattle.std.proofs.Common.{◌≡◌, length, drop, replicate}
use Rattle.tap_views.specs.declared.upload_end.UploadEnd.TheVariants.{Undrawn}
use Rattle.fare_service.specs.inside.Joining.{with_all_done}
use Rattle.fare_service.proofs.service.gathering.ends_of.Given as goal

abbrev pub invariant-loop-share : goal.invariant-loop-share
invariant-loop-share l = record {
  ends : with_all_done l.ends.items (drop l.share-index l.shares)
      ≡ with_all_done (replicate l.fn.uploads Undrawn) l.shares;
  number : length l.ends.items ≡ l.fn.uploads;
}
