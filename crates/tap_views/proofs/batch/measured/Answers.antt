use Rattle.std.proofs.Common.{◌≤◌, length, arith}
use Rattle.tap_views.specs.Faults.{size_in}
use Rattle.tap_views.proofs.Deciding.{rows_before}
use Rattle.tap_views.proofs.batch.measured.Goals as goal

pub first_late-requires : goal.first_late-requires
first_late-requires c = rw (← c.header_in.ensures, ← c.width_in.ensures) (omega arith)

pub returns-in-None-clause-count : goal.returns-in-None-clause-count
returns-in-None-clause-count c =
    let sound = c.in_ok-count.ensures.count in
    record {
      sound = sound;
      whole = rw (← c.header_in.ensures, ← c.width_in.ensures, ← sound.count) (omega arith);
      early = c.in-None.ensures;
    }

pub returns-in-Some-clause-fault : goal.returns-in-Some-clause-fault
returns-in-Some-clause-fault c =
    let bytes = c.args.bytes.now in
    let sound = c.in_ok-count.ensures.count in
    let late = c.in-Some.ensures in
    let whole : size_in bytes ≤ length bytes =
    rw (← c.header_in.ensures, ← c.width_in.ensures, ← sound.count) (omega arith) in
    record {
      holds = (rw (← sound.count) late.0, late.1, late.2);
      first = rows_before bytes 6 (omega arith) (λ _. sound.whole) (λ _. sound.known) (λ _.
          sound.no_flags) (λ _. rw (← sound.count) sound.most) (λ _. whole);
    }
