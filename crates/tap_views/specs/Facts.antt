-- What an upload has: its batches and taps, their moments, and its valid prefix.
use Rattle.std.specs.{List.AllByRecursion, Prelude.◌≡◌}
use Rattle.std.specs.Prelude.{ℕ, ◌≤◌, List, [], ◌++◌, length, map, Contains, Option, None, Some}
use Rattle.tap_views.specs.Files.{IsFile, IsReadAs, taps_of_batches}
use Rattle.tap_views.specs.Layout.{Tap, num}
use Rattle.tap_views.specs.declared.{facts.Facts.Facts, span.MomentSpan.MomentSpan}

-- the moment of a tap in milliseconds
abbrev pub moment_of : Tap → ℕ
moment_of tap = num tap.moment

-- the moment lies within the span
abbrev pub IsWithin : MomentSpan → ℕ → Type 0
IsWithin span moment = (span.first ≤ moment) × (moment ≤ span.last)

-- the span of these moments: from one of them to one of them, and all lie within; none of no
-- moments
abbrev pub IsSpan : List ℕ → Option MomentSpan → Type 0
IsSpan moments None = moments ≡ []
IsSpan moments (Some span) =
    Contains moments span.first × Contains moments span.last
    × AllByRecursion (IsWithin span) moments

-- the facts are those of the upload
pub record AreFacts (upload : List ℕ) (facts : Facts) : Type 0 where
  pub read_batches : List (List Tap)
  pub read : IsReadAs upload read_batches facts.fault
  pub number : facts.batches ≡ length read_batches
  pub tap_number : facts.taps ≡ length (taps_of_batches read_batches)
  pub moments : IsSpan (map moment_of (taps_of_batches read_batches)) facts.span

-- the upload begins with these bytes, which are its batches without a fault, and what follows
-- begins with no batch
pub record IsValidPrefix (upload front : List ℕ) : Type 0 where
  pub batches : List (List Tap)
  pub rest : List ℕ
  pub of_upload : IsFile upload batches rest
  pub of_front : IsFile front batches []
  pub joined : upload ≡ front ++ rest
