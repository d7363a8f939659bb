use Rattle.std.proofs.Common.{ap, List, ◌++◌, IfOk, sym, subst}
use Rattle.tap_views.specs.declared.upload_end.UploadEnd.{UploadEnd}
use Rattle.world.specs.Run.{Calls, nothing_yet}
use Rattle.settlement.specs.inside.Taken.{AreInRuns, AreTaken}
use Rattle.settlement.proofs.ReadUploads.{joined_taken}
use Rattle.settlement.proofs.reading.+reads.Goals as goal

pub returns : goal.returns
returns g t c =
    let origin = g.U.Uploads.origin c.args.uploads.now in
    let keeps = g.C.Choice.keeps c.args.choice.now in
    let start = c.args.start in
    let middle = c.middle_of-middle.result in
    let end = c.args.end in
    let made = c.in_ok-made.made in
    let more = c.in_ok-more.more in
    subst (λ ls. AreTaken origin start end (AreInRuns keeps ls) c.append-2.new.self.items
    nothing_yet c.join.new.self.run)
    (sym c.in_ok-append.ensures.items)
    (subst (λ (es : List UploadEnd). AreTaken origin start end
    (AreInRuns keeps (made.lists.items ++ more.lists.items)) es nothing_yet c.join.new.self.run)
    (sym c.in_ok-append-2.ensures.items)
    (joined_taken keeps origin start middle end made.lists.items more.lists.items made.ends.items
    more.ends.items made.calls.run more.calls.run c.join.new.self.run
    (subst (λ r. IfOk r (λ m. AreTaken origin start middle (AreInRuns keeps m.lists.items)
    m.ends.items nothing_yet m.calls.run)) c.in_ok-made.was c.join-made.ensures.first)
    (subst (λ r. IfOk r (λ m. AreTaken origin middle end (AreInRuns keeps m.lists.items)
    m.ends.items nothing_yet m.calls.run)) c.in_ok-more.was c.join-made.ensures.second)
    (ap (λ (calls : Calls). calls.run) c.join.ensures)))
