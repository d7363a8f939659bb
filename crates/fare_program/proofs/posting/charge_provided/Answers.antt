use Rattle.std.proofs.Common.{◌∙◌, ap, refl, sym}
use Rattle.fare_program.proofs.{Choices.if_false, Drawn.each_once, Ends.gives_by}
use Rattle.fare_program.proofs.Ends.{gives_printed}
use Rattle.fare_program.specs.inside.{Fault.ended_as, Options.request_of}
use Rattle.fare_service.specs.Headline.{drawn_by}
use Rattle.tap_views.specs.UploadEnds.{are_posted}
use Rattle.world.specs.Run.{Calls, Run, with_all}
use Rattle.fare_program.proofs.posting.charge_provided.Goals as goal

pub returns-clause-ends : goal.returns-clause-ends
returns-clause-ends g c =
    let job = c.args.job.now in
    let fares = c.args.table.now in
    let outcome = c.in-Ok-run.outcome in
    let opened = c.in-Ok-open.ensures in
    let live = rw (opened.table ∙ c.in-Ok.ensures, opened.shards, opened.uploads)
    at c.in-Ok-run.ensures.headline in
    let success = c.are_posted-success.result in
    let whole = c.are_posted-success.ensures ∙ ap are_posted c.ends.ensures in
    rw c.ended.ensures.ended
    (gives_by _ _ _ _ _ _ (ended_as c.print_requested-printed.result success) (λ given. given)
    (λ text posted is. (
      live.files,
      drawn_by live.run.0,
      record {
        provided = live.provided;
        run = outcome.run;
        loaded = live.loaded;
        appended = ap (λ (k : Calls). k.run) c.join.ensures
            ∙ ap (λ (r : Run). with_all c.args.calls.now.run r) c.into_calls.ensures;
      },
      if_false _ _ c.requires (record {
        outcome = outcome;
        run = live.run;
        drawn_are = refl;
        shows = is.1;
        succeeded = is.0 ∙ whole;
        once = λ all. each_once fares job.options.shards job.options.workers live.files outcome
            live.run (sym (is.0 ∙ whole) ∙ all);
        plain = λ all. c.shows_plain.ensures live.files fares _ _ (request_of job.options) job.token
            text live.run (sym (is.0 ∙ whole) ∙ all) is.1;
      }),
    ))
    (gives_printed g.W.Write.contents _ _ _ c.print_requested-printed.result success
    c.print_requested-printed.ensures.ok c.print_requested-printed.ensures.started
    c.print_requested-printed.ensures.fault))
