use Rattle.std.proofs.Common.{◌+◌, ◌++◌, ap, append_assoc, drop, subst, sym, take, ◌∙◌}
use Rattle.std.proofs.Math.Seq.{take-add}
use Rattle.settlement.proofs.upload.read_piece.Goals as goal

pub returns-in-Ok-clause-read : goal.returns-in-Ok-clause-read
returns-in-Ok-clause-read g c = λ origin bytes read.
    let have = c.args.have in
    let count = c.in-Ok.count in
    let old = c.args.room.now.items in
    let new = c.read_on.new.room.items in
    let same = c.in-Ok.ensures.kept ∙ c.in_ok-make_room.ensures.kept in
    subst (g.O.Reading.has_read c.read_on.new.self origin)
    (append_assoc bytes (take have old) (take count (drop have new))
    ∙ ap (λ front. bytes ++ (front ++ take count (drop have new))) (sym same)
    ∙ ap (λ all. bytes ++ all) (sym (take-add have count new)))
    (c.in-Ok.ensures.read origin (bytes ++ take have old) read)
