use Rattle.std.proofs.Common.{◌≡◌, [], ◌∷◌, length, take, ap, ◌∙◌, arith}
use Rattle.std.proofs.lemmas.List.{length-take-le, take_all}
use Rattle.histories.specs.Sums.{Sums, sums_of, sums_of_replies, add_sums}
use Rattle.histories.specs.Tally.{sums_of_tally}
use Rattle.fare_service.proofs.VisitLemmas.{next_reply, taps_of_replies}
use Rattle.fare_service.proofs.service.working.count.Goals as goal

pub add-requires : goal.add-requires
add-requires c =
    let replies = c.args.replies.now.items in
    let count : (sums_of_tally c.loop-position.tally).taps
    ≡ length (take c.loop-position.position replies) =
    ap (λ (s : Sums). s.taps) c.loop-position.invariant
    ∙ taps_of_replies (take c.loop-position.position replies) in
    omega (arith, length-take-le c.loop-position.position replies (omega arith), c.requires)

pub loop-position-preserved : goal.loop-position-preserved
loop-position-preserved c =
    let reply = c.get.result in
    c.add.ensures ∙ ap (λ s. add_sums s (sums_of_replies (reply ∷ []))) c.loop-position.invariant
    ∙ next_reply c.args.replies.now.items c.loop-position.position reply c.get.ensures

pub totals-requires : goal.totals-requires
totals-requires c =
    let replies = c.args.replies.now.items in
    let count : (sums_of_tally c.loop-position.tally).taps
    ≡ length (take c.loop-position.position replies) =
    ap (λ (s : Sums). s.taps) c.loop-position.invariant
    ∙ taps_of_replies (take c.loop-position.position replies) in
    omega (arith, length-take-le c.loop-position.position replies (omega arith), c.requires)

pub add_all-requires : goal.add_all-requires
add_all-requires c =
    let replies = c.args.replies.now.items in
    let count : (sums_of_tally c.loop-position.tally).taps
    ≡ length (take c.loop-position.position replies) =
    ap (λ (s : Sums). s.taps) c.loop-position.invariant
    ∙ taps_of_replies (take c.loop-position.position replies) in
    let same = ap (λ (s : Sums). s.taps) c.totals.ensures in
    omega (arith, length-take-le c.loop-position.position replies (omega arith), c.requires)

pub returns : goal.returns
returns c =
    let replies = c.args.replies.now.items in
    c.add_all.ensures ∙ ap (add_sums (sums_of c.args.totals.now))
    (c.totals.ensures ∙ c.loop-position.invariant
    ∙ ap sums_of_replies (take_all c.loop-position.position replies (omega arith)))
