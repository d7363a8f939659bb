use Rattle.std.proofs.Common.{subst}
use Rattle.fare_caps.specs.{CapMeanings.capped_rules_of, Represents.Represents}
use Rattle.histories.specs.Entry.{taps_of}
use Rattle.shard_book.specs.{Book.Book, inside.Sound.AreKept}
use Rattle.tap_views.specs.Token.{bytes_of}
use Rattle.shard_book.proofs.book.ShardBook.account_of.Goals as goal

pub returns : goal.returns
unfolding AreKept
returns c =
    subst (λ (book : Book). Represents (capped_rules_of book.table (bytes_of c.args.token))
    c.account_of.result
    (taps_of book.table c.args.token book.entries)) c.self.view_is
    (c.account_of.ensures _ _ _ (c.self.invariant.sound.kept c.args.token))
