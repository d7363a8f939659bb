use Rattle.std.proofs.Common.{[], ◌∷◌, ◌++◌, ◌∙◌, ap, sym, append_assoc}
use Rattle.std.proofs.lemmas.List.Sums.{fold-append}
use Rattle.fare_program.proofs.lister.Lister.list_batch.Goals as goal

pub loop-tap-preserved : goal.loop-tap-preserved
loop-tap-preserved c =
    let before = c.loop-tap.invariant in
    let done = c.loop-tap.yielded in
    let tap = c.in-Some.tap in
    record {
      may = tt;
      ends = tt;
      all = append_assoc done (tap ∷ []) c.next.new.self
          ∙ (ap (λ taps. done ++ taps) (sym c.in-Some.ensures.steps) ∙ before.all);
      lists = λ listed is. rw fold-append
          (c.in_ok-list_tap.ensures _ (before.lists listed is));
    }
