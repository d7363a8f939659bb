use Rattle.std.proofs.Common.{◌≡◌, List, [], arith, take}
use Rattle.std.proofs.lemmas.Result.{err_from_is_err_and}
use Rattle.tap_views.specs.declared.encoder.TapFields.{TapFields}
use Rattle.sorted_taps.specs.Readers.{ahead, IsPositionedIn, IsAfterFault, IsStepFault}
use Rattle.sorted_taps.specs.Sorted.{IsSortedFault}
use Rattle.sorted_taps.proofs.Known.{at_none, known_map, known_map2}
use Rattle.sorted_taps.proofs.Standing.{opening_fault, positioned_on, sorted_at_end, step_fault}
use Rattle.sorted_taps.proofs.check.check_file.Goals as goal

pub returns-in_err-reader-clause-fault : goal.returns-in_err-reader-clause-fault
returns-in_err-reader-clause-fault g c =
    let p = err_from_is_err_and c.from_residual.result c.from_residual.ensures.1 in
    let fault = c.in_err-reader.field-0.0 in
    rw (p.1, p.2) (known_map (λ all. IsAfterFault all 0 fault) (λ all. IsSortedFault all fault)
    (g.F.Placed.bytes c.args.file.now) (λ all is. opening_fault all fault is)
    c.in_err-reader.ensures.fault)

pub returns-then-is_none-clause-sorted : goal.returns-then-is_none-clause-sorted
returns-then-is_none-clause-sorted g c =
    let reader = c.loop.reader in
    let none = at_none (ahead reader ≡ []) _ c.head.result c.if-is_none.ensures c.head.ensures in
    known_map (λ all. (passed : List TapFields) × IsPositionedIn all 0 passed reader) _
    (g.F.Placed.bytes c.args.file.now)
    (λ all (passed, holds). (passed, sorted_at_end all passed reader holds none))
    c.loop.invariant.holds

pub returns-in_err-advance-clause-fault : goal.returns-in_err-advance-clause-fault
returns-in_err-advance-clause-fault g c =
    let p = err_from_is_err_and c.from_residual-in_err-advance.result
    c.from_residual-in_err-advance.ensures.1 in
    let fault = c.in_err-advance.field-0.0 in
    let old = c.loop.reader in
    rw (p.1, p.2) (known_map2 (λ all. (passed : List TapFields) × IsPositionedIn all 0 passed old)
    (λ all. IsStepFault all old fault) (λ all. IsSortedFault all fault)
    (g.F.Placed.bytes c.args.file.now)
    (λ all holds is. step_fault all holds.0 old fault holds.1 is)
    c.loop.invariant.holds c.in_err-advance.ensures.fault)

pub loop-preserved : goal.loop-preserved
loop-preserved g c =
    let old = c.loop.reader in
    let new = c.advance.new.self in
    let long = c.advance.auto.window in
    let room = c.loop.invariant.room in
    record {
      room = omega (arith, long, room);
      holds = positioned_on 0 old new (g.F.Placed.bytes c.args.file.now) (take 1 (ahead old))
          c.loop.invariant.holds c.in_ok-advance.ensures.kept;
    }
