use Rattle.std.proofs.Common.{◌≡◌, ◌∙◌, SFits, ap, of_z, rules, sym, to_z}
use Rattle.jiff_core.specs.Timestamp.{nanos_of_seconds}
use Rattle.std.proofs.lemmas.Int.{to_z-of_z}
use Rattle.std.specs.{Int.w128, Prelude.◌-ℤ◌}
use Rattle.tap_rows.proofs.LocalLemmas.{nanos_written}
use Rattle.tap_rows.specs.AgencyMoments.{moment_by, moment_of, whole_ms}
use Rattle.tap_rows.specs.{LocalTimes.clock_nanos, inside.WrittenTimes.written_of}
use Rattle.tap_rows.proofs.agency.instant.moment_by.Goals as goal

pub returns-in-Ok-clause-moment : goal.returns-in-Ok-clause-moment
returns-in-Ok-clause-moment c =
    let written = written_of c.args.time in
    let seconds = c.in-Ok.offset.seconds in
    let fits : SFits w128 c.nanos_at.result = search rules in
    let nanos : to_z w128 (of_z w128 c.nanos_at.result)
    ≡ clock_nanos written -ℤ nanos_of_seconds seconds =
    to_z-of_z w128 c.nanos_at.result fits ∙ c.nanos_at.ensures
    ∙ ap (λ n. n -ℤ nanos_of_seconds seconds) (nanos_written c.args.time) in
    c.moment_of.ensures.moment
    ∙ (ap (moment_of c.args.unit) (c.whole_ms.ensures ∙ ap whole_ms nanos)
    ∙ ap (moment_by c.args.unit written) (sym c.in-Ok.is))
