use Rattle.std.proofs.Common.{◌∙◌, ap, sym}
use Rattle.tap_views.specs.UploadEnds.{are_posted}
use Rattle.settlement.specs.Posted.{posted}
use Rattle.fare_program.specs.inside.Fault.{ended_as}
use Rattle.fare_program.proofs.Ends.{gives_by, gives_printed}
use Rattle.fare_program.proofs.settle.write_taps.Goals as goal

pub returns-clause-ends : goal.returns-clause-ends
returns-clause-ends g c =
    let fares = c.args.table.now in
    let whole = c.are_posted-is_whole.ensures ∙ ap are_posted c.deref.ensures.value in
    rw c.ended.ensures.ended
    (gives_by _ _ _ _ _ _ (ended_as c.write_text-written.result c.are_posted-is_whole.result) (λ given. given)
    (λ text success is. (
      is.0 ∙ whole,
      λ files ended taps. rw c.requires.token (record {
        history = posted fares taps.order;
        is_settled = c.posted_taps.ensures.history fares files taps.order taps.settled;
        shows = is.1 files (posted fares taps.order)
            (c.posted_taps.ensures.own fares c.args.token taps.order
            ∙ ap (posted fares) (sym taps.own ∙ sym c.deref-2.ensures.value));
        ends = c.args.made.ends.items;
        ended = ended;
        succeeded = is.0 ∙ whole;
      }),
    ))
    (gives_printed g.W.Write.contents _ _ _ c.write_text-written.result c.are_posted-is_whole.result c.write_text-written.ensures.ok
    c.write_text-written.ensures.started c.write_text-written.ensures.fault))
