-- What contracts see of a service.
use Rattle.shared_books.specs.{Drawing.Drawing, Passes.SharedBookView}
use Rattle.std.specs.Prelude.{ℕ, List, length}
use Rattle.tariffs.specs.Fares.{Fares}
use Rattle.world.specs.Origins.{Origin}

-- a service: its table, the drawing of its uploads, a shared book for each shard, and where each
-- upload comes from
pub record ServiceView : Type 0 where
  pub table : Fares
  pub drawing : Drawing
  pub books : List SharedBookView
  pub uploads : List Origin

-- how many shards there are
abbrev pub shards_of : ServiceView → ℕ
shards_of service = length service.books
