-- A book in place of none: what is left of a pass that was joined into another speaks of some
-- book.
use Rattle.shard_book.specs.Book.{Book}
use Rattle.std.specs.Prelude.{[], None}
use Rattle.tariffs.specs.{Fares.Fares, declared.window_span.WindowLength.TheVariants.CalendarDay}

-- a table without modes, ranges and riders
abbrev pub no_fares : Fares
no_fares = record {
  meaning =
      record {
        modes = [];
        transfers = [];
        prices = [];
        classes = [];
        names = [];
        caps = [];
        cap_names = [];
        standard = 0;
        ranges = [];
        riders = [];
        zone = None;
        window = record { length = CalendarDay; day_starts = 0 };
      };
  later = [];
  zone = record { rule = None };
}

-- an empty book under it
abbrev pub no_book : Book
no_book = record { table = no_fares; shard = 0; shards = 1; entries = [] }
