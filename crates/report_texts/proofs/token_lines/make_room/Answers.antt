use Rattle.std.proofs.Common.{List, ℕ, subst}
use Rattle.std.specs.Io.KnownBytes.{Appends}
use Rattle.fare_texts.proofs.Beginnings.{goes_empty}
use Rattle.report_texts.proofs.token_lines.make_room.Goals as goal

-- all that waits goes out
pub returns-clause-gone : goal.returns-clause-gone
returns-clause-gone g c =
    let before = g.W.Write.contents c.args.out.now in
    let after = g.W.Write.contents c.write_out.new.out in
    goes_empty before after c.args.text.now.items c.clear.new.self.items
    (subst (λ (text : List ℕ). Appends before after text) c.as_slice.ensures.value
    c.in_ok-write_out.ensures.ok) c.clear.ensures.items
