use Rattle.std.proofs.Common.{map}
use Rattle.settled_bills.proofs.Parts.{parts_room}
use Rattle.settled_bills.specs.{declared.part.Part.Part, inside.Charged.IsPart}
use Rattle.std.proofs.lemmas.List.Elements.{All-pop}
use Rattle.std.specs.Prelude.{IfSome, Option}
use Rattle.settled_bills.proofs.by_threads.part_by_threads.Goals as goal

pub loop-init : goal.loop-init
loop-init g c =
    let P : Option Part → Type 0 = λ (part : Option Part).
    IfSome part (IsPart c.args.table.now (map g.F.Placed.bytes c.args.files.now)) in
    let got = All-pop P c.in-Ok-parts_of.made.items c.pop.new.self.items c.pop.result
    c.pop.ensures.items c.in-Ok-parts_of.ensures in
    record { parts = got.0; joined = rw (c.in-Some-Some.is, c.in-Some-Some.field-0-is) at got.1 }

pub append-requires : goal.append-requires
append-requires g c =
    let fares = c.args.table.now in
    let known = map g.F.Placed.bytes c.args.files.now in
    let P : Option Part → Type 0 = λ (part : Option Part). IfSome part (IsPart fares known) in
    let got = All-pop P c.loop.parts.items c.pop-in-loop.new.self.items c.pop-in-loop.result
    c.pop-in-loop.ensures.items c.loop.invariant.parts in
    parts_room fares known c.loop.whole c.in-Some-next.more c.loop.invariant.joined
    (rw (c.in-Some.is, c.in-Some-next.is) at got.1)

pub loop-preserved : goal.loop-preserved
loop-preserved g c =
    let fares = c.args.table.now in
    let known = map g.F.Placed.bytes c.args.files.now in
    let P : Option Part → Type 0 = λ (part : Option Part). IfSome part (IsPart fares known) in
    let got = All-pop P c.loop.parts.items c.pop-in-loop.new.self.items c.pop-in-loop.result
    c.pop-in-loop.ensures.items c.loop.invariant.parts in
    record {
      parts = got.0;
      joined = c.in_default-append.ensures fares known c.loop.invariant.joined
          (rw (c.in-Some.is, c.in-Some-next.is) at got.1);
    }
