use Rattle.std.proofs.Common.{refl, ap, ◌∙◌, ℕ, List}
use Rattle.histories.specs.declared.entry.Entry.{Entry}
use Rattle.shard_book.proofs.{AccountsLemmas.further-same, PackedLemmas.history-kept}
use Rattle.shard_book.proofs.SoundLemmas.{book-on}
use Rattle.shard_book.specs.{Book.Book, inside.Packed.tokens_of}
use Rattle.tariffs.specs.Fares.{Fares}
use Rattle.shard_book.proofs.book.ShardBook.open_early.Goals as goal

pub invariant_of-self : goal.invariant_of-self
invariant_of-self c =
    book-on refl c.open_early.ensures.positions c.open_early.ensures.stays
    (λ other. further-same c.self.inside.accounts c.open_early.new.self other
    c.open_early.ensures.further)
    (λ counting. rw c.open_early.ensures.counting at counting) c.self.invariant

abbrev book_of : Fares → ℕ → ℕ → List Entry → Book
book_of table shard shards entries =
    record { table = table; shard = shard; shards = shards; entries = entries }

pub returns : goal.returns
returns c =
    ap (λ (entries : List Entry). book_of c.self.inside.table c.self.inside.shard
    c.self.inside.shards entries)
    (history-kept (tokens_of c.self.inside.accounts) (tokens_of c.open_early.new.self)
    c.self.inside.history.items c.self.invariant.placed c.open_early.ensures.positions)
    ∙ c.self.view_is
