use Rattle.std.proofs.Common.{ℕ, List, ◌++◌, ap, ◌∙◌}
use Rattle.fare_texts.proofs.Beginnings.{goes_grown}
use Rattle.report_texts.proofs.token_lines.push_line.Goals as goal

pub returns-clause-gone : goal.returns-clause-gone
returns-clause-gone g c =
    goes_grown (g.W.Write.contents c.args.out.now) (g.W.Write.contents c.make_room.new.out)
    c.args.text.now.items c.make_room.new.text.items c.extend_from_slice.new.self.items _
    c.args.line.now c.in_ok-make_room.ensures.gone
    (c.in-Ok.ensures.items
    ∙ ap (λ (line : List ℕ). c.make_room.new.text.items ++ line) c.bytes-bytes.ensures.value)
