use Rattle.std.proofs.Common.{ℕ, List, ◌++◌, sym, ap, ◌∙◌, subst, append-nil, string_bytes}
use Rattle.std.specs.Io.KnownBytes.{Appends}
use Rattle.std.proofs.KnownBytes.{append_known-moved}
use Rattle.fare_texts.proofs.lines.pass_on.Goals as goal

-- what waits went out, and nothing waits
pub returns-clause-kept : goal.returns-clause-kept
returns-clause-kept g c =
    let before = g.W.Write.contents c.args.out.now in
    let after = g.W.Write.contents c.write_out.new.out in
    let waits = string_bytes c.args.text.now in
    append_known-moved before after waits (string_bytes c.clear.new.self) waits
    (subst (λ (bytes : List ℕ). Appends before after bytes) c.as_bytes.ensures.value
    c.in_ok-write_out.ensures.ok)
    (sym (ap (λ (rest : List ℕ). waits ++ rest) c.clear.ensures.bytes ∙ append-nil waits))
