use Rattle.std.proofs.Common.{ℕ, List, ◌∷◌, ◌++◌, Vec, Global, map}
use Rattle.settlement.proofs.Settlings.{each_once, legal_history, some_history, stale, time_order}
use Rattle.settlement.proofs.SameMoments.{same_moment_is_stale}
use Rattle.settlement.proofs.laws.bill_is_in_time_order.Goals as goal

abbrev bytes_in : Vec ℕ Global → List ℕ
bytes_in upload = upload.items

pub returns-clause-some : goal.returns-clause-some
returns-clause-some c = λ fares.
    let (history, plain) = c.plain_history.ensures.some fares in
    some_history fares (map bytes_in c.args.uploads.now) plain.taps plain.each

pub returns-clause-legal : goal.returns-clause-legal
returns-clause-legal c = λ fares history is. legal_history fares (map bytes_in c.args.uploads.now)
    history is

pub returns-clause-in_time_order : goal.returns-clause-in_time_order
returns-clause-in_time_order c = λ fares history is.
    let (later, plain) = c.plain_history.ensures.some fares in
    time_order fares (map bytes_in c.args.uploads.now) c.unique_parse_each.ensures later plain
    (c.plain_history.ensures.fields fares later plain) history is

pub returns-clause-stale : goal.returns-clause-stale
returns-clause-stale c = λ fares before after entry is answer.
    let (later, plain) = c.plain_history.ensures.some fares in
    stale fares (map bytes_in c.args.uploads.now) c.unique_parse_each.ensures later plain
    (c.plain_history.ensures.fields fares later plain) before entry after is answer

pub returns-clause-once : goal.returns-clause-once
returns-clause-once c = λ fares history taps is each.
    let (later, plain) = c.plain_history.ensures.some fares in
    each_once fares (map bytes_in c.args.uploads.now) c.unique_parse_each.ensures later plain
    (c.plain_history.ensures.fields fares later plain) history taps is each

pub returns-clause-same_moments : goal.returns-clause-same_moments
returns-clause-same_moments c = λ fares before after entry is same_moment known.
    same_moment_is_stale fares before entry after
    (legal_history fares (map bytes_in c.args.uploads.now) (before ++ entry ∷ after) is) same_moment
    known
