-- Each round explains one entry more, and keeps the window that it ends.
use Rattle.std.proofs.Common.{List, map, take, sym, ap, subst, ◌∙◌, arith}
use Rattle.fare_caps.proofs.AnswerLemmas.{capped-follows}
use Rattle.fare_caps.specs.{CapMeanings.capped_rules_of, CappedReplies.replied_by}
use Rattle.fare_texts.proofs.Closing.{earlier-none, next_earlier}
use Rattle.fare_texts.proofs.LineLists.{more, taken}
use Rattle.fare_texts.specs.Explainers.{HasExplained}
use Rattle.histories.specs.{Entry.tap_of, declared.entry.Entry.Entry}
use Rattle.std.proofs.lemmas.List.{length-take-le, take_all}
use Rattle.tap_views.specs.Token.{bytes_of}
use Rattle.fare_texts.proofs.explained.windows.windows_of.Goals as goal

pub loop-entry-init : goal.loop-entry-init
loop-entry-init c = record {
  explained = c.of-explainer.ensures.explained c.args.table.now;
  of = c.of-explainer.ensures.token;
  earlier = c.new-earlier.ensures.items ∙ sym (earlier-none _);
}

pub explain_next-requires-clause-explained : goal.explain_next-requires-clause-explained
explain_next-requires-clause-explained c =
    (take c.loop-entry.entry-index c.args.entries.now, c.loop-entry.invariant.explained)

pub explain_next-requires-clause-room : goal.explain_next-requires-clause-room
explain_next-requires-clause-room c =
    omega (
      arith,
      c.loop-entry.invariant.explained.counted,
      length-take-le c.loop-entry.entry-index c.args.entries.now (omega arith),
    )

pub loop-entry-preserved : goal.loop-entry-preserved
unfolding tap_of
loop-entry-preserved c =
    let fares = c.args.table.now in
    let entries = c.args.entries.now in
    let position = c.loop-entry.entry-index in
    let within = c.loop-entry-test.true in
    let so_far = c.loop-entry.invariant in
    let done = take position entries in
    let rules = capped_rules_of fares (bytes_of c.args.token) in
    let taps = map (tap_of fares) done in
    let window = rw so_far.of at (c.window-window.ensures done so_far.explained) in
    let why = rw so_far.of at (c.in_ok-reason.ensures.reason done so_far.explained) in
    let answered = c.reply.ensures ∙ ap replied_by why ∙ sym (capped-follows rules taps _) in
    record {
      explained = subst (λ (es : List Entry). HasExplained fares c.explain_next.new.self es)
          (sym (taken entries position _ within))
          (c.in_ok-reason.ensures.explained done so_far.explained);
      of = c.in_ok-reason.ensures.token ∙ so_far.of;
      earlier = next_earlier rules taps _ c.loop-entry.earlier.items _ c.window-window.result
          c.is_ride.result c.reply.result _ so_far.earlier window answered c.is_ride.ensures
          (sym (more (tap_of fares) entries position _ within)) c.in_ok-keep_ended.ensures;
    }

pub returns-clause-last : goal.returns-clause-last
returns-clause-last c =
    let so_far = c.loop-entry.invariant in
    let all = take_all c.loop-entry.entry-index c.args.entries.now c.loop-entry-test.false in
    rw so_far.of at (c.window.ensures c.args.entries.now
    (subst (λ (es : List Entry). HasExplained c.args.table.now c.loop-entry.explainer es) all
    so_far.explained))
