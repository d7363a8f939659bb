-- Streams at their end.
use Rattle.std.proofs.Common.{◌≡◌, ◌∙◌, ◌∷◌, [], ℕ, List, Option, None, ap, if◌then◌else◌, subst}
use Rattle.std.proofs.Common.{sym}
use Rattle.std.specs.Prelude.{is_some}
use Rattle.world.specs.Run.{Load, Run, nothing_yet, with_load}
use Rattle.world.specs.Streams.{HasRead, IsWhole}
use Rattle.world.specs.declared.stream.{Opened.Opened, Stream.Stream}

-- what was read of a stream of which nothing is left to be read is whole
pub whole_at_end : (s : Stream) (name : Option (List ℕ)) (bytes : List ℕ)
    → HasRead s name bytes → s.from ≡ None → IsWhole s.trace
whole_at_end s name bytes has none =
    ap (λ (r : Run). r.loads) (subst (λ (from : Option Opened). s.trace.run
    ≡ (if is_some from then nothing_yet else with_load nothing_yet name bytes)) none has.run)
    ∙ ap (λ (x : Load). x ∷ []) (sym has.reading)
