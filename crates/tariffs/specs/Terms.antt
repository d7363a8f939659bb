-- The bounds of what a rider class pays, and of what its rides give.
use Rattle.std.specs.Prelude.{◌≡◌, ◌≤◌, All, length}
use Rattle.tariffs.specs.declared.{class.Class.Class, terms.Terms.Terms}

-- the fare, which may be 0, the limit of rides and the ceiling are within their bounds
pub record AreBoundedTerms (terms : Terms) : Type 0 where
  pub fare : terms.fare ≤ 100_000
  pub rides_low : 1 ≤ terms.rides
  pub rides_high : terms.rides ≤ 60_000
  pub ceiling_low : 1 ≤ terms.ceiling
  pub ceiling_high : terms.ceiling ≤ 100_000_000

-- the numbers of a class are within their bounds, and it has a fare for each mode that there can be
pub record IsBoundedClass (class : Class) : Type 0 where
  pub terms : AreBoundedTerms class.terms
  pub fares : All (λ fare. fare ≤ 100_000) class.fares
  pub modes : length class.fares ≡ 32
  pub caps : All (λ ceiling. ceiling ≤ 100_000_000) class.caps
  pub taps : class.transfers.taps ≤ 255
  pub time : class.transfers.time ≤ 86_400_000
