-- What the calls of a shared book return.
use Rattle.histories.specs.{Entry.reply_of, Replies.RepliesView, declared.entry.Entry.Entry}
use Rattle.shard_book.specs.{Book.Book, Visits.IsVisit}
use Rattle.shared_books.specs.Passes.{SharedBookView, PassView, HasSeenMore, Visits, IsFull}
use Rattle.shared_books.specs.declared.turns.results.ReadFault.{ReadFault, TheVariants.Full}
use Rattle.shared_books.specs.declared.turns.results.{ReadFault.TheVariants.NoMemory, Visit.Visit}
use Rattle.std.specs.Prelude.{◌≡◌, ℕ, ◌+◌, List, [], ◌++◌, length, map}
use Rattle.tap_views.specs.Shards.{ShardRun, run_taps}

-- the shared book has the number, and the table, shard and shards of the book that was handed in
pub record IsOpenedAs (first : ℕ) (handed : Book) (o : SharedBookView) : Type 0 where
  pub first_is : o.first ≡ first
  pub table : o.table ≡ handed.table
  pub shard : o.shard ≡ handed.shard
  pub shards : o.shards ≡ handed.shards

-- the pass made a visit of the run, whole or cut, and its replies were appended
pub record MakesVisit (run : ShardRun) (old new : PassView) (replies replied : RepliesView)
    (v : Visit) : Type 0 where
  pub visit : List Entry
  pub holds : Visits old new v.number visit
  pub of_run : IsVisit (run_taps run) v.how visit
  pub items : replied.items ≡ replies.items ++ map reply_of visit
  pub spare : replied.spare + length visit ≡ replies.spare

-- full: the pass made no visit; out of memory: it made an empty one, and the history is as it
-- was
abbrev pub IsReadFault : PassView → PassView → ReadFault → Type 0
IsReadFault old new Full = HasSeenMore old new × IsFull new
IsReadFault old new NoMemory = (number : ℕ) × Visits old new number []
