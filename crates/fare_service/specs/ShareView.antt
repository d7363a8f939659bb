-- What contracts see of a share.
use Rattle.fare_service.specs.declared.service.share.Done.{Done}
use Rattle.histories.specs.Sums.{Sums}
use Rattle.shared_books.specs.{Drawing.DrawerView, Passes.PassView}
use Rattle.std.specs.Prelude.{List}
use Rattle.world.specs.Run.{Run}

-- a share: its drawer, its pass to each shard's book, the totals of its replies, the uploads that
-- it drew with their ends, and what lending them did
pub record ShareView : Type 0 where
  pub drawer : DrawerView
  pub passes : List PassView
  pub totals : Sums
  pub done : List Done
  pub run : Run
