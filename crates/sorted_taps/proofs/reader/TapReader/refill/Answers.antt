use Rattle.std.proofs.Common.{◌≡◌, ◌⊎◌, ◌<◌, ◌+◌, [], drop, length, refl, subst, arith, inl, inr}
use Rattle.sorted_taps.proofs.Batches.{end_after, front_append, front_none}
use Rattle.sorted_taps.proofs.Known.{known_all, known_map2}
use Rattle.sorted_taps.proofs.reader.TapReader.refill.Goals.{then-used-eq0-via-then-used-eq0}
use Rattle.sorted_taps.proofs.reader.TapReader.refill.Goals.{then-used-eq0-via-else-used-eq0+then-not-is_empty}
use Rattle.sorted_taps.specs.{Reading.AreTapsBetween, inside.Decoding.IsReadOn}
use Rattle.std.proofs.lemmas.List.{nil_from_length}
use Rattle.sorted_taps.proofs.reader.TapReader.refill.Goals as goal

pub loop-init : goal.loop-init
loop-init g c = record {
  room = c.requires;
  first = refl;
  number = refl;
  between = known_all _ (g.F.Placed.bytes c.args.file.now)
      (λ all. front_none (drop c.args.self.now.offset all));
}

pub loop-preserved : goal.loop-preserved
loop-preserved g c =
    let from = c.args.self.now.offset in
    let at = c.loop.self.offset in
    let used = c.in_ok-used.used in
    let taps = c.read_batches.new.taps.items in
    let e = c.is_empty.ensures in
    let f = c.if-not-is_empty.false in
    let empty : taps ≡ [] = nil_from_length taps (grind arith) in
    let long = c.read_batches.auto.window in
    let room = c.loop.invariant.room in
    record {
      room = omega (arith, long, room);
      first = c.loop.invariant.first;
      number = c.loop.invariant.number;
      between = known_map2 (λ all. AreTapsBetween all from at [])
          (λ all. IsReadOn all at taps used) (λ all. AreTapsBetween all from (at + used) [])
          (g.F.Placed.bytes c.args.file.now)
          (λ all none on. subst (λ t. AreTapsBetween all from (at + used) t) empty
          (front_append (drop from all) (drop at all) (drop (at + used) all) [] taps none
          on.between))
          c.loop.invariant.between c.in_ok-used.ensures.batches;
    }

pub returns-then-used-eq0-clause-kept : goal.returns-then-used-eq0-clause-kept
returns-then-used-eq0-clause-kept g c =
    let from = c.args.self.now.offset in
    let at = c.loop.self.offset in
    let used = c.in_ok-used.used in
    let taps = c.read_batches.new.taps.items in
    let why : (used ≡ 0) ⊎ (0 < length taps) = elim c.then-used-eq0.branch [
      | then-used-eq0-via-then-used-eq0 w ↦ inl w.if-used-eq0.true
      | then-used-eq0-via-else-used-eq0+then-not-is_empty w ↦
          let e = w.is_empty.ensures in
          let f = w.if-not-is_empty.true in
          inr (grind arith)
    ] in
    known_map2 (λ all. AreTapsBetween all from at []) (λ all. IsReadOn all at taps used) _
    (g.F.Placed.bytes c.args.file.now)
    (λ all none on. record {
      between = front_append (drop from all) (drop at all) (drop (at + used) all) [] taps none
          on.between;
      first = c.loop.invariant.first;
      end = end_after all at used taps on why;
      number = c.loop.invariant.number;
    }) c.loop.invariant.between c.in_ok-used.ensures.batches
