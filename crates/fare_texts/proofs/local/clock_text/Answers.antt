use Rattle.std.proofs.Common.{◌≡◌, ◌+ℤ◌, ◌++◌, ◌∙◌, ap, arith}
use Rattle.std.proofs.lemmas.Int.{ints}
use Rattle.jiff.proofs.SpanFacts.{signed_arith}
use Rattle.jiff_core.specs.Timestamp.{nanos_of_seconds}
use Rattle.jiff_fmt.specs.Text.{offset_text}
use Rattle.tariffs.specs.Until.{moment_nanos}
use Rattle.fare_texts.proofs.LocalLemmas.{shown_is}
use Rattle.fare_texts.proofs.local.clock_text.Goals as goal

pub returns : goal.returns
returns c =
    let shown = c.display_with_offset.ensures in
    let value = rw c.unwrap-instant.ensures at c.from_millisecond.ensures.value in
    let at : c.unwrap-instant.result.nanosecond ≡ moment_nanos c.args.moment =
    omega (arith, ints, signed_arith, value) in
    shown.2 ∙ ap (λ text. text ++ offset_text c.args.offset) (shown_is shown.0 _
    (shown.1 ∙ ap (λ n. n +ℤ nanos_of_seconds c.args.offset.seconds) at))
