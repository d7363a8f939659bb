use Rattle.std.proofs.Common.{◌≡◌, List, [], ◌∷◌, None, refl, string_bytes, sym, subst}
use Rattle.fare_service.proofs.SpotLines.{ascend_first}
use Rattle.fare_service.specs.{declared.spot.Spot.Spot, inside.Spots.entries_at_spots}
use Rattle.fare_texts.proofs.Beginnings.{goes_nothing}
use Rattle.fare_texts.specs.Lines.{AreLinesAlong, NondecreasingFrom}
use Rattle.histories.specs.declared.entry.Entry.{Entry}
use Rattle.shard_book.specs.Book.{Book}
use Rattle.std.specs.Prelude.{slice_get}
use Rattle.tariffs.specs.Fares.{Fares}
use Rattle.fare_service.proofs.lines.write_some.Goals as goal

pub write_pieces-requires-clause-nondecreasing : goal.write_pieces-requires-clause-nondecreasing
write_pieces-requires-clause-nondecreasing g c =
    subst (λ (e : Entry). NondecreasingFrom e.token
    (entries_at_spots c.args.books.now c.args.spots.now))
    (sym c.entry.ensures)
    (ascend_first c.args.books.now c.args.spots.now c.in-Some.first.now
    (sym c.in-Some.ensures.value)
    c.requires.nondecreasing)

-- no entry has no line
no_lines : (fares : Fares) (books : List Book) (spots : List Spot) → slice_get spots 0 ≡ None
    → AreLinesAlong fares [] (entries_at_spots books spots) []
no_lines fares books [] is = refl
no_lines fares books (spot ∷ spots) is = cc

pub returns-in-None-clause-lines : goal.returns-in-None-clause-lines
returns-in-None-clause-lines g c = (
  [],
  no_lines c.args.table.now c.args.books.now c.args.spots.now (sym c.in-None.ensures.value),
  goes_nothing (g.W.Write.contents c.args.out.now) (string_bytes c.args.text.now),
)
