use Rattle.std.proofs.Common.{List, arith, ap, subst, sym, take, ◌∙◌}
use Rattle.sorted_taps.proofs.{Known.known_map, Standing.positioned_on}
use Rattle.sorted_taps.specs.Readers.{AreRead, ahead, IsPositionedIn}
use Rattle.sorted_taps.specs.declared.reader.TapReader.{TapReader}
use Rattle.tap_views.specs.declared.encoder.TapFields.{TapFields}
use Rattle.sorted_taps.proofs.ranges.reader_from.Goals as goal

pub loop-preserved : goal.loop-preserved
loop-preserved g c =
    let old = c.loop.reader in
    let long = c.advance.auto.window in
    let room = c.loop.invariant.room in
    record {
      room = omega (arith, long, room);
      holds = positioned_on c.in_ok-offset.offset old c.advance.new.self
          (g.F.Placed.bytes c.args.file.now) (take 1 (ahead old)) c.loop.invariant.holds
          c.in_ok-advance.ensures.kept;
    }

pub returns-in_default : goal.returns-in_default
returns-in_default g c =
    let offset = c.in_ok-offset.offset in
    known_map (λ all. (passed : List TapFields) × IsPositionedIn all offset passed c.loop.reader) _
    (g.F.Placed.bytes c.args.file.now)
    (λ all (passed, (holds, number)). (
      record {
        passed = passed;
        skip = c.passed-skip.ensures ∙ number;
        holds = subst (λ (r : TapReader). AreRead all offset r.offset passed (ahead r))
            (sym c.count_anew.ensures) holds;
      },
      ap (λ (r : TapReader). r.passed) c.count_anew.ensures,
    )) c.loop.invariant.holds
