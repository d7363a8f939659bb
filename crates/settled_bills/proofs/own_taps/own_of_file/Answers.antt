use Rattle.std.proofs.Common.{[], ap, arith, length, take}
use Rattle.settled_bills.proofs.OwnTaps.{IsOwnRead, none_read, one_read, whole_read}
use Rattle.settled_bills.specs.{declared.own_by_threads.OwnTaps.OwnTaps, inside.OwnTaps.IsOwnResult}
use Rattle.sorted_taps.proofs.Known.{known_all, known_map, known_map2}
use Rattle.sorted_taps.proofs.Standing.{opening_fault, step_fault}
use Rattle.sorted_taps.specs.Readers.{ahead, IsAfterFault, IsPassed, IsPositionedIn, IsStepFault}
use Rattle.std.proofs.lemmas.Result.{err_from_is_err_and}
use Rattle.std.specs.Prelude.{Err, Ok}
use Rattle.settled_bills.proofs.own_taps.own_of_file.Goals as goal

pub returns-in_err-reader : goal.returns-in_err-reader
returns-in_err-reader g c =
    let p = err_from_is_err_and c.from_residual.result c.from_residual.ensures.1 in
    let fault = c.in_err-reader.field-0.0 in
    rw (p.1, p.2) (known_map (λ all. IsAfterFault all 0 fault) (IsOwnResult c.args.token (Err fault))
    (g.F.Placed.bytes c.args.file.now) (λ all is. (tt, opening_fault all fault is))
    c.in_err-reader.ensures.fault)

pub loop-init : goal.loop-init
loop-init g c =
    let reader = c.in_ok-reader.reader in
    let taps = c.new-taps.result.items in
    let token = c.args.token in
    let long = c.at.auto.window in
    let room = c.requires in
    record {
      window = omega (arith, long, room);
      read = known_map (λ all. IsPositionedIn all 0 [] reader)
          (λ all. IsOwnRead token all taps reader) (g.F.Placed.bytes c.args.file.now)
          (λ all holds. none_read token all taps reader c.new-taps.ensures.items holds)
          c.in_ok-reader.ensures.holds;
    }

pub returns-in-None : goal.returns-in-None
returns-in-None g c =
    let reader = c.loop.reader in
    let token = c.args.token in
    let own : OwnTaps = record { taps = c.loop.taps; number = c.passed-number.result } in
    known_map (λ all. IsOwnRead token all c.loop.taps.items reader) (IsOwnResult token (Ok own))
    (g.F.Placed.bytes c.args.file.now)
    (λ all read. (
      whole_read token all own reader read c.in-None.ensures c.passed-number.ensures,
      tt,
    )) c.loop.invariant.read

pub advance-requires-clause-head : goal.advance-requires-clause-head
advance-requires-clause-head g c = let one = ap length c.in-Some.ensures.1 in omega (arith, one)

pub loop-preserved : goal.loop-preserved
loop-preserved g c =
    let old = c.loop.reader in
    let new = c.advance.new.self in
    let token = c.args.token in
    let now = c.loop.taps.items in
    let more = c.push_own.new.taps.items in
    let long = c.advance.auto.window in
    let room = c.loop.invariant.window in
    let (rest, stood) = c.in-Some.ensures in
    record {
      window = omega (arith, long, room);
      read = known_map2 (λ all. IsOwnRead token all now old) (λ all. IsPassed all old (take 1 (ahead old)) new)
          (λ all. IsOwnRead token all more new) (g.F.Placed.bytes c.args.file.now)
          (λ all read step. one_read token all now more c.in-Some.tap.now rest old new stood
          c.in_ok-push_own-in-Some.ensures read step)
          c.loop.invariant.read c.in_ok-advance.ensures.kept;
    }

pub returns-in_err-push_own-in-Some : goal.returns-in_err-push_own-in-Some
returns-in_err-push_own-in-Some g c =
    let p = err_from_is_err_and c.from_residual-in_err-push_own-in-Some.result
    c.from_residual-in_err-push_own-in-Some.ensures.1 in
    rw (p.1, p.2) (known_all _ (g.F.Placed.bytes c.args.file.now) (λ all. (tt, tt)))

pub returns-in_err-advance : goal.returns-in_err-advance
returns-in_err-advance g c =
    let p = err_from_is_err_and c.from_residual-in_err-advance.result
    c.from_residual-in_err-advance.ensures.1 in
    let fault = c.in_err-advance.field-0.0 in
    let old = c.loop.reader in
    let token = c.args.token in
    let now = c.loop.taps.items in
    rw (p.1, p.2) (known_map2 (λ all. IsOwnRead token all now old)
    (λ all. IsStepFault all old fault) (IsOwnResult token (Err fault))
    (g.F.Placed.bytes c.args.file.now)
    (λ all read is. (tt, step_fault all read.passed old fault read.holds is))
    c.loop.invariant.read c.in_err-advance.ensures.fault)

pub returns : goal.returns
returns g c = known_all _ (g.F.Placed.bytes c.args.file.now) (λ all. (tt, tt))
