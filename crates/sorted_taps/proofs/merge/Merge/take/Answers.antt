use Rattle.std.proofs.Common.{List, ap, arith, drop, length, subst, sym}
use Rattle.sorted_taps.proofs.Taking.{taken_append, taken_none}
use Rattle.sorted_taps.specs.{Merges.AreTaken, declared.reader.TapReader.TapReader}
use Rattle.std.proofs.lemmas.List.{take_at}
use Rattle.tap_views.specs.declared.encoder.TapFields.{TapFields}
use Rattle.sorted_taps.proofs.merge.Merge.take.Goals as goal

pub loop-init : goal.loop-init
loop-init g c =
    let readers = c.args.self.now.readers.items in
    record {
      room = c.requires.window;
      number = c.requires.files;
      taken = λ all are. subst (λ (ts : List TapFields). AreTaken all readers ts readers)
          (sym c.clear.ensures.items) (taken_none all readers);
    }

pub loop-preserved : goal.loop-preserved
loop-preserved g c =
    let inv = c.loop.invariant in
    let old = c.args.self.now.readers.items in
    let readers = c.loop.self.readers in
    let new = c.take_step.new.readers in
    let takes = c.in_ok-take_step.ensures in
    let many = c.take_step.auto.readers in
    let whole = ap length c.deref_mut.ensures.value in
    let ok = readers.ok.0 in
    let is = take_at new (drop (length new) readers.items) readers.len
    (omega (arith, many, whole, ok)) in
    let wide = c.take_step.auto.window in
    let room = inv.room in
    let number = inv.number in
    let same = ap length is in
    record {
      room = omega (arith, wide, room);
      number = omega (arith, same, many, whole, number);
      taken = λ all are.
          subst (λ (rs : List TapReader). AreTaken all old c.take_step.new.taps.items rs) (sym is)
          (subst (λ (ts : List TapFields). AreTaken all old ts new) (sym takes.items)
          (taken_append all old readers.items new c.loop.taps.items takes.more (inv.taken all are)
          (subst (λ (rs : List TapReader). AreTaken all rs takes.more new)
          c.deref_mut.ensures.value (takes.taken all are))));
    }
