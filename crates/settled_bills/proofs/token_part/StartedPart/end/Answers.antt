-- The taps that were taken lie between the places of the spans.
use Rattle.std.proofs.Common.{List, arith, subst}
use Rattle.sorted_taps.proofs.{Files.known_number, Placing.taken_between}
use Rattle.sorted_taps.specs.Positions.{DoSpan}
use Rattle.sorted_taps.specs.declared.{positions.Position.Position, reader.TapReader.TapReader}
use Rattle.settled_bills.proofs.token_part.StartedPart.end.Goals as goal

pub returns-in-Some : goal.returns-in-Some
returns-in-Some g c = λ all begin taps are placed taken.
    let positions = c.args.self.positions.items in
    let end = c.args.self.taker.merge.readers.items in
    let spans = c.in-Some.spans.items in
    let number = known_number g.F.Placed.bytes c.args.files.now all are in
    let ready = c.requires.ready.readers in
    let as_many = taken.as_many in
    let many = rw c.in-Some.is at c.in_ok-spans.ensures.number in
    let ends = rw c.in-Some.is at c.in_ok-spans.ensures.spanned in
    let between = taken_between all positions begin end spans taps
    (omega (arith, number, ready, as_many)) (omega (arith, number, many)) placed taken
    (subst (λ (rs : List TapReader). DoSpan all positions rs spans) c.readers-readers.ensures
    (subst (λ (ps : List Position). DoSpan all ps c.readers-readers.result.now spans)
    c.deref.ensures.value (ends all are))) in
    record {
      lists = between.lists;
      spanned = between.spanned;
      counted = between.counted;
      canonical = between.canonical;
    }
