use Rattle.std.proofs.Common.{◌≡◌, ◌+◌, ◌-◌, ap, arith, drop, sym, take, ◌∙◌}
use Rattle.std.proofs.lemmas.List.{drop-take, length-drop, Edits.take-paste}
use Rattle.std.specs.List.{copy_within}
use Rattle.settlement.proofs.upload.move_rest.Goals as goal

pub returns-clause-rest : goal.returns-clause-rest
returns-clause-rest c =
    let used = c.args.used in
    let have = c.args.have in
    let old = c.args.room.now.items in
    let all : used + (have - used) ≡ have = omega (arith, c.requires.order) in
    let more : have - used ≡ 0 + (have - used) = omega arith in
    ap (take (have - used)) c.copy_within.ensures.items
    ∙ ap (λ n. take n (copy_within old used have 0)) more
    ∙ take-paste old 0 (drop used old) (have - used) (omega arith)
    (omega (arith, c.requires.within, c.args.room.now.ok, length-drop used old))
    ∙ sym (drop-take used (have - used) old)
    ∙ ap (λ n. drop used (take n old)) all
