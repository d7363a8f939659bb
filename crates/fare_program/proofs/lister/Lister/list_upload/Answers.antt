use Rattle.std.proofs.{Common.refl, lemmas.List.Sums.fold-append, lemmas.Result.on_ok_weaker}
use Rattle.tap_views.proofs.ParseLemmas.{read_end, read_on, taps_more}
use Rattle.fare_program.proofs.lister.Lister.list_upload.Goals as goal

pub loop-batch-preserved : goal.loop-batch-preserved
loop-batch-preserved c =
    let before = c.loop-batch.invariant in
    record {
      may = tt;
      ends = tt;
      read = read_on _ _ _ _ _ before.read c.in-Some.ensures.steps;
      lists = λ listed is. rw (taps_more c.loop-batch.yielded c.in-Some.batch, fold-append)
          (c.in_ok-list_batch.ensures _ (before.lists listed is));
    }

pub returns : goal.returns
returns c = on_ok_weaker c.end_upload.result
    (λ ends. (
      record {
        file = c.args.file.now;
        batches = c.loop-batch.yielded;
        fault = c.fault.result;
        read = read_end _ _ _ _ _ c.loop-batch.invariant.read c.in_default.ensures.steps c.fault.ensures;
      },
      refl,
      λ listed is. ends _ _ (c.loop-batch.invariant.lists listed is),
    ))
    c.end_upload.ensures
