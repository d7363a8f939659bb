use Rattle.std.proofs.Common.{List, [], arith, below_more, get_or}
use Rattle.sorted_taps.specs.Sorted.{IsSortedFault, IsSortedFile}
use Rattle.tap_views.specs.declared.encoder.TapFields.{TapFields}
use Rattle.sorted_taps.proofs.Files.{if_known, known_at, known_number}
use Rattle.sorted_taps.proofs.check.check_files.Goals as goal

pub returns-in-Err-clause-fault : goal.returns-in-Err-clause-fault
returns-in-Err-clause-fault g c = λ all are.
    let index = c.loop-index.index in
    let file = c.index-files-index.result in
    let number = known_number g.F.Placed.bytes c.args.files.now all are in
    let test = c.loop-index-test.true in
    record {
      within = omega (arith, number, test);
      earlier = c.loop-index.invariant.sorted all are;
      is_fault = if_known (λ a. IsSortedFault a c.in-Err.fault) (g.F.Placed.bytes file)
          (get_or all index [])
          (known_at g.F.Placed.bytes c.args.files.now all index file are test
          c.index-files-index.is) c.in-Err.ensures.fault;
    }

pub loop-index-preserved : goal.loop-index-preserved
loop-index-preserved g c =
    let index = c.loop-index.index in
    let file = c.index-files-index.result in
    let long = c.check_file.auto.window in
    let room = c.loop-index.invariant.room in
    record {
      room = omega (arith, long, room);
      sorted = λ all are.
          below_more (λ k. (taps : List TapFields) × IsSortedFile (get_or all k []) taps) index
          (c.loop-index.invariant.sorted all are)
          (if_known (λ a. (taps : List TapFields) × IsSortedFile a taps) (g.F.Placed.bytes file)
          (get_or all index [])
          (known_at g.F.Placed.bytes c.args.files.now all index file are c.loop-index-test.true
          c.index-files-index.is) c.in-Ok.ensures.sorted);
    }

pub returns-clause-sorted : goal.returns-clause-sorted
returns-clause-sorted g c = λ all are k inside.
    let number = known_number g.F.Placed.bytes c.args.files.now all are in
    let past = c.loop-index-test.false in
    c.loop-index.invariant.sorted all are k (omega (arith, inside, number, past))
