-- What is at the spots of several books. Private functions alone cite this.
use Rattle.account_rule.specs.declared.reply.Answer.TheVariants.{Unknown}
use Rattle.fare_service.specs.declared.spot.Spot.{Spot}
use Rattle.histories.specs.declared.entry.Entry.{Entry}
use Rattle.shard_book.specs.Book.{Book}
use Rattle.std.specs.Prelude.{ℕ, ◌/◌, ◌%◌, List, Option, map, option_and_then, slice_get, unwrap_or}

-- the place of the book among the books
abbrev pub book_at : Spot → ℕ
book_at spot = spot.bits % 65536

-- the place of the entry in its book
abbrev pub position_at : Spot → ℕ
position_at spot = spot.bits / 65536

-- the entry at a place of a book, if there is one
abbrev pub entry_in : List Book → ℕ → ℕ → Option Entry
entry_in books book position = option_and_then (λ b. slice_get b.entries position) (slice_get books book)

-- what is read if there is none
abbrev pub no_entry : Entry
no_entry = record {
  token = record { high = 0; low = 0 };
  validator = 0;
  moment = 0;
  answer = Unknown;
  cents = 0;
}

-- the entry at a spot
unfoldable pub entry_at_spot : List Book → Spot → Entry
entry_at_spot books spot = unwrap_or (entry_in books (book_at spot) (position_at spot)) no_entry

-- the entries at the spots
abbrev pub entries_at_spots : List Book → List Spot → List Entry
entries_at_spots books spots = map (entry_at_spot books) spots
