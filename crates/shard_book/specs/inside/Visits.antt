-- Visits: what private functions alone cite.
use Rattle.histories.specs.Entry.{reply_of, AreEntriesOf}
use Rattle.histories.specs.{Replies.RepliesView, declared.entry.Entry.Entry}
use Rattle.shard_book.specs.Book.{Book, with_entries}
use Rattle.std.specs.Prelude.{◌≡◌, ◌+◌, List, ◌++◌, length, map}
use Rattle.tap_views.specs.Layout.{Tap}

-- one entry for each of the taps was appended to the book, and its reply to the replies, in the
-- room that was there
pub record PostsTaps (taps : List Tap) (book after : Book) (replies replied : RepliesView)
    : Type 0 where
  pub visit : List Entry
  pub of_taps : AreEntriesOf taps visit
  pub appended : after ≡ with_entries book visit
  pub items : replied.items ≡ replies.items ++ map reply_of visit
  pub spare : replied.spare + length visit ≡ replies.spare
