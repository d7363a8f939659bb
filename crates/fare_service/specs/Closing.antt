-- Books that are closed.
use Rattle.fare_service.specs.Headline.{Signed, by_worker}
use Rattle.fare_service.specs.{Limits.BookKeepsLimits, ShareView.ShareView, Shares.marks_at}
use Rattle.fare_service.specs.{Shares.made_visits_at, declared.faults.GatherFault.GatherFault}
use Rattle.fare_service.specs.declared.faults.GatherFault.TheVariants.{NoMemory, Missing, Drawn}
use Rattle.histories.specs.History.{IsLegal}
use Rattle.shard_book.specs.Book.{Book}
use Rattle.shared_books.specs.{Marks.history_of_visits, Passes.SharedBookView}
use Rattle.std.specs.Prelude.{◌≡◌, ℕ, ◌<◌, ◌≤◌, List, length, map, All, slice_get, Some}

-- The history of a book is its visits. Each was made by one share, and those that a share made are
-- exactly its visits to the shard, in its order. No share has seen a visit more.
pub record IsHistoryOf (opened : List SharedBookView) (shares : List ShareView) (shard : ℕ)
    (book : Book) : Type 0 where
  pub visits : List Signed
  pub history : book.entries ≡ history_of_visits (map (λ v. v.entries) visits)
  pub signed : All (λ v. v.worker < length shares) visits
  pub order : (worker : ℕ) (share : ShareView) → slice_get shares worker ≡ Some share
      → by_worker worker visits ≡ made_visits_at shard share.passes
  pub seen : All (λ share. length (marks_at shard share.passes) ≤ length visits) shares
  pub shared : SharedBookView
  pub at : slice_get opened shard ≡ Some shared
  pub table : book.table ≡ shared.table
  pub its_shard : book.shard ≡ shared.shard
  pub of_shards : book.shards ≡ shared.shards
  pub legal : IsLegal book.table book.entries
  pub limits : BookKeepsLimits book

-- the shares hold all visits to a shard: they are the history of its book
abbrev pub HoldAllVisits : List SharedBookView → List ShareView → ℕ → Type 0
HoldAllVisits opened shares shard = (book : Book) × IsHistoryOf opened shares shard book

-- Of the shards that miss visits the first one is named, and missing uploads are reported if no
-- visits are missing. A count leaves out nothing that a share has seen.
abbrev pub ReportsFirst : List SharedBookView → ℕ → List ShareView → GatherFault → Type 0
ReportsFirst opened uploads shares NoMemory = Unit {0}
ReportsFirst opened uploads shares (Missing shard held kept) =
    ((earlier : ℕ) → earlier < shard → HoldAllVisits opened shares earlier)
    × All (λ share. length (marks_at shard share.passes) ≤ kept) shares
ReportsFirst opened uploads shares (Drawn held drawn) =
    ((shard : ℕ) → shard < length opened → HoldAllVisits opened shares shard)
    × All (λ share. share.drawer.seen ≤ drawn) shares × (drawn ≤ uploads)
