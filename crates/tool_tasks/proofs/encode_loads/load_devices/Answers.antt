use Rattle.std.proofs.Common.{◌≡◌, List, Option, Some, refl, subst, sym, ℕ}
use Rattle.tool_tasks.specs.{EncodeRows.word_in, inside.Loads.IsNameIn}
use Rattle.world.proofs.Laws.{no_loads}
use Rattle.tool_tasks.proofs.encode_loads.load_devices.Goals as goal

pub returns-in-Err-Unread-clause-loaded : goal.returns-in-Err-Unread-clause-loaded
returns-in-Err-Unread-clause-loaded g c =
    let new = g.W.Inputs.run c.load_word.new.files in
    let named : word_in c.args.words.now.devices ≡ Some c.in-Some.name.now = rw c.in-Some.is refl in
    let unread = rw c.in-Err-Unread.field-0-is at c.in-Err-Unread.ensures.refused in
    (new, (c.if-words.true, c.in-Some.name.now, named, unread), sym (no_loads new))

pub returns-in-Err-clause-stopped : goal.returns-in-Err-clause-stopped
returns-in-Err-clause-stopped g c = λ names has.
    let named : word_in c.args.words.now.devices ≡ Some c.in-Some.name.now = rw c.in-Some.is refl in (
      c.in-Some.name.now,
      subst (λ (o : Option (List ℕ)). IsNameIn names o) named has,
      rw (← c.in-Err.why-is) at c.in-Err.ensures.refused,
    )
