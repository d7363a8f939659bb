use Rattle.std.proofs.Common.{◌≡◌, [], ◌∷◌, ◌++◌, length, get_or, arith, sym, subst, ap, ◌∙◌}
use Rattle.std.proofs.Common.{length-append}
use Rattle.sorted_taps.proofs.{Files.known_more, Known.known_map}
use Rattle.sorted_taps.specs.Positions.{ArePlaced, IsPlacedAnew}
use Rattle.sorted_taps.specs.declared.positions.Position.{Position}
use Rattle.std.proofs.lemmas.List.{get_or_append_left, get_or_push}
use Rattle.sorted_taps.proofs.positions.readers_from.Goals as goal

pub loop-file-preserved : goal.loop-file-preserved
loop-file-preserved g c =
    let inv = c.loop-file.invariant in
    let readers = c.loop-file.readers.items in
    let positions = c.loop-file.positions.items in
    let position = c.in_ok-placed.placed.position in
    let reader = c.in_ok-placed.placed.reader in
    let index = c.loop-file.file-index in
    let file = c.file-item.result in
    let long = c.placed_reader.auto.window in
    let room = inv.room in
    let number = inv.number in
    let many = inv.positions in
    let items : c.push-in-loop-file.new.self.items ≡ readers ++ reader ∷ [] =
    c.in_ok-push-2.ensures.items in
    let set : c.push.new.self.items ≡ positions ++ position ∷ [] = c.in_ok-push.ensures.items in
    let more = ap length items ∙ length-append readers (reader ∷ []) in
    let then = ap length set ∙ length-append positions (position ∷ []) in
    record {
      room = omega (arith, long, room);
      number = omega (arith, more, number);
      positions = omega (arith, then, many);
      placed = λ all are. record {
        each = λ k p d inside. known_more g.F.Placed.bytes c.args.files.now
            (λ k a r. (p : Position) → IsPlacedAnew a (get_or c.push.new.self.items k p) r) readers
            reader index file number c.loop-file-test.true c.file-item.is
            (known_map (λ a. IsPlacedAnew a position reader)
            (λ a. (p : Position) → IsPlacedAnew a (get_or c.push.new.self.items index p) reader)
            (g.F.Placed.bytes file)
            (λ a is p. subst (λ q. IsPlacedAnew a q reader)
            (sym (ap (λ l. get_or l index p) set ∙ get_or_push positions position p index many)) is)
            c.in_ok-placed.ensures)
            (λ all are k d low p. subst (λ q. IsPlacedAnew (get_or all k []) q (get_or readers k d))
            (sym (ap (λ l. get_or l k p) set
            ∙ get_or_append_left positions (position ∷ []) p k (omega (arith, low, number, many))))
            ((inv.placed all are).each k p d low))
            c.push-in-loop-file.new.self.items items all are k d inside p;
      };
    }

pub loop-file-init : goal.loop-file-init
loop-file-init g c = record {
  room = c.requires;
  number = ap length c.new-readers.ensures.items;
  positions = ap length c.new-positions.ensures.items;
  placed = λ all are. subst (λ rs. ArePlaced all c.new-positions.result.items rs)
      (sym c.new-readers.ensures.items)
      (record { each = λ k p d inside. absurd (omega (arith, inside)) });
}
