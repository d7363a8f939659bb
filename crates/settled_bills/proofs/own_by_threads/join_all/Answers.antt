use Rattle.std.proofs.Common.{ℕ, List, [], Some, arith, get_or, sym, ap, subst, ◌∙◌, take_all}
use Rattle.std.proofs.lemmas.Option.{slice_get-get_or}
use Rattle.tap_views.specs.declared.encoder.TapFields.{TapFields}
use Rattle.sorted_taps.proofs.Files.{known_number}
use Rattle.settled_bills.specs.inside.OwnTaps.{AreOwnOf}
use Rattle.settled_bills.proofs.OwnTaps.{first_refused, known_slice, none_so_far, one_file_more}
use Rattle.settled_bills.proofs.own_by_threads.join_all.Goals as goal

pub loop-index-init : goal.loop-index-init
loop-index-init g c = λ all are.
    subst (λ (taps : List TapFields). AreOwnOf c.args.token [] taps c.new-numbers.result.items)
    (sym c.new-taps.ensures.items)
    (subst (λ (numbers : List ℕ). AreOwnOf c.args.token [] [] numbers)
    (sym c.new-numbers.ensures.items) (none_so_far c.args.token))

pub returns-in-Err-clause-fault : goal.returns-in-Err-clause-fault
returns-in-Err-clause-fault g c = λ all are.
    let index = c.loop-index.index in
    let number = known_number g.F.Placed.bytes c.args.files.now all are in
    let test = c.loop-index-test.true in
    let long = c.requires.len in
    let at = c.requires.each index c.index-owns-index.result
    (slice_get-get_or c.args.owns.now index c.index-owns-index.result test
    ∙ ap Some (sym c.index-owns-index.is)) (Some (get_or all index []))
    (known_slice g.F.Placed.bytes c.args.files.now all index are (omega (arith, long, test))) in
    first_refused c.args.token all (record { index = index; fault = c.in-Err.fault })
    c.loop-index.taps.items c.loop-index.numbers.items (c.loop-index.invariant all are)
    (omega (arith, number, long, test)) (c.in-Err.ensures.fault (get_or all index []) at.1)

pub loop-index-preserved : goal.loop-index-preserved
loop-index-preserved g c = λ all are.
    let index = c.loop-index.index in
    let number = known_number g.F.Placed.bytes c.args.files.now all are in
    let test = c.loop-index-test.true in
    let long = c.requires.len in
    let at = c.requires.each index c.index-owns-index.result
    (slice_get-get_or c.args.owns.now index c.index-owns-index.result test
    ∙ ap Some (sym c.index-owns-index.is)) (Some (get_or all index []))
    (known_slice g.F.Placed.bytes c.args.files.now all index are (omega (arith, long, test))) in
    let (made, is, taps, numbers) = c.in-Ok.ensures.own c.args.token (get_or all index []) at.0 in
    one_file_more c.args.token all index c.loop-index.taps.items c.add_next.new.taps.items
    c.loop-index.numbers.items c.add_next.new.numbers.items made
    (omega (arith, number, long, test)) (c.loop-index.invariant all are) is taps numbers

pub returns-clause-own : goal.returns-clause-own
returns-clause-own g c = λ all are.
    let number = known_number g.F.Placed.bytes c.args.files.now all are in
    let past = c.loop-index-test.false in
    let long = c.requires.len in
    subst (λ (files : List (List ℕ)). AreOwnOf c.args.token files c.loop-index.taps.items
    c.loop-index.numbers.items) (take_all c.loop-index.index all (omega (arith, number, past, long)))
    (c.loop-index.invariant all are)
