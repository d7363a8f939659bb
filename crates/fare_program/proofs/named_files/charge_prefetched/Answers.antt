use Rattle.std.proofs.Common.{◌≡◌, ◌∙◌, List, ap}
use Rattle.fare_program.proofs.Ends.{started_of}
use Rattle.world.proofs.Laws.{joined_loads}
use Rattle.world.specs.{Origins.with_loads, Run.Calls, Run.Load, Run.Run, Run.no_calls}
use Rattle.world.specs.Run.{with_all}
use Rattle.fare_program.proofs.named_files.charge_prefetched.Goals as goal

joined : (old new after : Run) (calls : Calls) (loads : List Load) → calls ≡ no_calls
    → new ≡ with_all old after → after ≡ with_loads calls.run loads → new ≡ with_loads old loads
joined old new after calls loads none all is =
    all ∙ ap (with_all old) (is ∙ ap (λ (c : Calls). with_loads c.run loads) none)
    ∙ joined_loads old loads

pub returns-in-Ok-clause-ends : goal.returns-in-Ok-clause-ends
returns-in-Ok-clause-ends g c =
    let (text, (loads, is, charges), written) = c.in-Ok.ensures.ends in (
      text,
      (loads, joined _ _ _ _ loads c.new-calls.ensures c.join.ensures is, charges),
      written,
    )

pub returns-in-Err-Write-clause-ends : goal.returns-in-Err-Write-clause-ends
returns-in-Err-Write-clause-ends g c =
    let (text, right, started) = started_of _ _ _ _ c.in-Err-Write.field-0-is
    c.in-Err-Write.ensures.ends in
    let (success, (loads, is, charges)) = right tt in (
      text,
      (λ given. (
        success,
        (loads, joined _ _ _ _ loads c.new-calls.ensures c.join-in-Err-Write.ensures is, charges),
      )),
      started,
    )
