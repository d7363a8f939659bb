-- What one turn appends to a history.
use Rattle.histories.specs.Entry.{AreEntriesOf, reply_of}
use Rattle.histories.specs.{Replies.RepliesView, declared.entry.Entry.Entry}
use Rattle.shard_book.specs.Book.{Book, with_entries}
use Rattle.shard_book.specs.declared.run_end.RunEnd.{RunEnd, TheVariants.Whole, TheVariants.Cut}
use Rattle.std.specs.Prelude.{◌≡◌, ◌+◌, ◌<◌, List, ◌++◌, length, take, map}
use Rattle.tap_views.specs.Layout.{Tap}

-- the visit of a run: of all its taps, or, if it was cut, of its first ones and not of all
abbrev pub IsVisit : List Tap → RunEnd → List Entry → Type 0
IsVisit taps Whole visit = AreEntriesOf taps visit
IsVisit taps (Cut posted) visit = (posted < length taps) × AreEntriesOf (take posted taps) visit

-- the run's visit was appended to the book, and its replies to the replies, in the room that was
-- there
pub record PostsRun (taps : List Tap) (how : RunEnd) (book after : Book)
    (replies replied : RepliesView) : Type 0 where
  pub visit : List Entry
  pub of_run : IsVisit taps how visit
  pub appended : after ≡ with_entries book visit
  pub items : replied.items ≡ replies.items ++ map reply_of visit
  pub spare : replied.spare + length visit ≡ replies.spare
