-- Texts of parts as they are printed, and what they are merged into.
use Rattle.histories.specs.Sums.{Sums}
use Rattle.part_texts.specs.Heads.{part_head}
use Rattle.report_texts.specs.Report.{report}
use Rattle.sorted_taps.specs.declared.positions.{FileSpan.FileSpan, Position.Position}
use Rattle.std.specs.Prelude.{◌+◌, ◌<◌, ◌^◌, ℕ, List, [], ◌∷◌, ◌++◌, Option, Some, None, map}
use Rattle.tap_views.specs.declared.{token.Token.Token, upload_end.UploadEnd.TheVariants.Posted}

-- what the report of a part says
pub record PartReport : Type 0 where
  pub spans : List FileSpan
  -- the taps of each upload
  pub taps : List ℕ
  pub totals : Sums
  pub validators : List (ℕ × Sums)
  pub tokens : List (Token × Sums)

-- the text of the part
abbrev pub part_text : PartReport → List ℕ
part_text p = part_head p.spans ++ report (map Posted p.taps) p.totals p.validators p.tokens

abbrev pub PositionFits : Position → Type 0
PositionFits position = (position.offset < 2 ^ 64) × (position.skip < 2 ^ 64)

abbrev pub EndFits : Option Position → Type 0
EndFits None = Unit {0}
EndFits (Some position) = PositionFits position

abbrev pub SpanFits : FileSpan → Type 0
SpanFits span = PositionFits span.from × EndFits span.to

abbrev pub sum_up : List ℕ → ℕ
sum_up [] = 0
sum_up (n ∷ ns) = n + sum_up ns
