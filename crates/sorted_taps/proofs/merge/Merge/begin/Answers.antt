use Rattle.std.proofs.Common.{◌≡◌, [], ap, arith, length-append, ◌++◌, ◌∷◌, ◌∙◌, length}
use Rattle.sorted_taps.specs.Readers.{IsPositionedIn}
use Rattle.sorted_taps.proofs.Files.{known_more, known_number}
use Rattle.sorted_taps.proofs.merge.Merge.begin.Goals as goal

pub loop-file-preserved : goal.loop-file-preserved
loop-file-preserved g c =
    let inv = c.loop-file.invariant in
    let readers = c.loop-file.readers.items in
    let reader = c.in_ok-at.field-0 in
    let long = c.at.auto.window in
    let room = inv.room in
    let number = inv.number in
    let items : c.push.new.self.items ≡ readers ++ reader ∷ [] = c.in_ok-push.ensures.items in
    let more = ap length items ∙ length-append readers (reader ∷ []) in
    record {
      room = omega (arith, long, room);
      number = omega (arith, more, number);
      each = known_more g.F.Placed.bytes c.args.files.now (λ k a r. IsPositionedIn a 0 [] r) readers
          reader c.loop-file.file-index c.file-item.result number c.loop-file-test.true
          c.file-item.is c.in_ok-at.ensures.holds inv.each c.push.new.self.items items;
    }

pub returns-clause-started : goal.returns-clause-started
returns-clause-started g c =
    let number = c.loop-file.invariant.number in
    let a = c.loop-file.auto.file-index-end in
    let t = c.loop-file-test.false in
    λ all are. record {
      number = let files = known_number g.F.Placed.bytes c.args.files.now all are in
          omega (arith, number, a, t, files);
      each = c.loop-file.invariant.each all are;
    }
