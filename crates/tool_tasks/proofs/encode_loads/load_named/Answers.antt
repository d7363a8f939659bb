use Rattle.std.proofs.Common.{◌≡◌, List, Option, Some, refl, subst, ℕ}
use Rattle.std.proofs.lemmas.Result.{IfErr-weaker}
use Rattle.tool_tasks.specs.{EncodeRows.word_in, inside.Loads.IsNameIn}
use Rattle.tool_tasks.proofs.encode_loads.load_named.Goals as goal

pub returns-in-Some-clause-refused : goal.returns-in-Some-clause-refused
returns-in-Some-clause-refused g c = λ names has.
    let named : word_in c.args.name ≡ Some c.in-Some.name.now = rw c.in-Some.is refl in
    IfErr-weaker c.load_word.result _ _ (λ why refused. (
      c.in-Some.name.now,
      subst (λ (o : Option (List ℕ)). IsNameIn names o) named has,
      refused,
    )) c.load_word.ensures.refused
