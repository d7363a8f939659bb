-- Passes: what private functions alone cite.
use Rattle.atomic_table.specs.Seated.{TableId}
use Rattle.shared_books.specs.{Passes.SharedBookView, declared.turns.rule.Opening.Opening}

-- what contracts see of a book that was opened so
abbrev pub opened_of : TableId → Opening → SharedBookView
opened_of home k =
    record {
      home = home;
      first = k.first;
      table = k.book.value.table;
      shard = k.book.value.shard;
      shards = k.book.value.shards;
    }
