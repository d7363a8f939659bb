-- What contracts see of an outcome.
use Rattle.std.specs.Prelude.{List}
use Rattle.shard_book.specs.Book.{Book}
use Rattle.histories.specs.Sums.{Sums}
use Rattle.tap_views.specs.declared.upload_end.UploadEnd.{UploadEnd}
use Rattle.world.specs.Run.{Run}

-- the book of each shard, the end of each upload, the totals of each worker and of all, and what
-- lending the uploads did
pub record OutcomeView : Type 0 where
  pub books : List Book
  pub ends : List UploadEnd
  pub workers : List Sums
  pub totals : Sums
  pub run : Run
