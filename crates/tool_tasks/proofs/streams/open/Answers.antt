use Rattle.std.proofs.Common.{◌∙◌, ◌∷◌, [], List, Option, ap, arith, option_map, refl, subst, ℕ}
use Rattle.world.specs.{Loads.IsRefused, Run.Run, Run.nothing_yet}
use Rattle.world.specs.declared.faults.LoadFault.{LoadFault}
use Rattle.tool_tasks.proofs.streams.open.Goals as goal

pub returns-in-Ok-clause-named : goal.returns-in-Ok-clause-named
returns-in-Ok-clause-named g c = c.in-Ok.ensures.named ∙ c.file_of.ensures

pub returns-in-Err-Unread-clause-stopped : goal.returns-in-Err-Unread-clause-stopped
returns-in-Err-Unread-clause-stopped g c = λ words has.
    let (calls, all, refused) = c.in-Err-Unread.ensures.refused in
    let unread = ap (λ (r : Run). r.unread) (subst (λ (w : LoadFault).
    IsRefused nothing_yet calls.run (option_map (λ n. n.now) c.file_of.result) w)
    c.in-Err-Unread.field-0-is refused)
    ∙ ap (λ (name : Option (List ℕ)). name ∷ []) c.file_of.ensures in
    (calls ∷ [], all, (c.args.word.now, has, calls, (0, omega arith, refl), unread))

pub returns-in-Err-clause-stopped : goal.returns-in-Err-clause-stopped
returns-in-Err-clause-stopped g c =
    let (calls, all, refused) = c.in-Err.ensures.refused in λ words has. (calls ∷ [], all, tt)
