-- Bills of ranges of the taps: what private functions alone cite.
use Rattle.settlement.specs.{Bills.IsBillOf, Nondecreasing.TapsNondecreasingFrom}
use Rattle.settlement.specs.{Nondecreasing.last_token, OpenBills.IsOpenBill}
use Rattle.settlement.specs.Posted.{HasName, posted, token_of_tap}
use Rattle.settlement.specs.declared.open_bill.OpenBill.{OpenBill}
use Rattle.settled_bills.specs.{declared.part.Part.Part, inside.Taken.AreTapsTaken}
use Rattle.sorted_taps.specs.Positions.{AreSpanned}
use Rattle.sorted_taps.specs.declared.{positions.FileSpan.FileSpan, reader.TapReader.TapReader}
use Rattle.std.specs.Prelude.{◌≡◌, ℕ, ◌^◌, ◌<◌, All, List, [], ◌∷◌, Option, Some, IfSome, flat_map}
use Rattle.std.specs.Prelude.{length, map}
use Rattle.tap_parts.specs.Canonical.{IsCanonical}
use Rattle.tap_views.specs.TokenOrder.{IsUpTo}
use Rattle.tap_views.specs.declared.{encoder.TapFields.TapFields, token.Token.Token}
use Rattle.tariffs.specs.Fares.{Fares}

-- so many taps whose tokens do not fall from this one on were taken, and the bill is theirs
pub record IsCharged (fares : Fares) (known : List (Option (List ℕ))) (old : List TapReader)
    (from : Token) (new : List TapReader) (bill : OpenBill) (count : ℕ) : Type 0 where
  pub taps : List TapFields
  pub taken : AreTapsTaken known old taps new
  pub bill_is : IsOpenBill fares taps bill
  pub nondecreasing : TapsNondecreasingFrom from taps
  pub last : bill.replay.token ≡ last_token from taps
  pub counted : length taps ≡ count
  pub few : count < 2 ^ 64

-- the spans of files from where one begins to where another ends
abbrev pub joined_spans : List FileSpan → List FileSpan → List FileSpan
joined_spans [] others = []
joined_spans (span ∷ spans) [] = []
joined_spans (span ∷ spans) (other ∷ others) =
    record { from = span.from; to = other.to } ∷ joined_spans spans others

-- the files have taps in the spans, so many each, which are these in canonical order
pub record HaveTaps (files : List (List ℕ)) (spans : List FileSpan) (numbers : List ℕ)
    (taps : List TapFields) : Type 0 where
  pub lists : List (List TapFields)
  pub spanned : AreSpanned files spans lists
  pub counted : numbers ≡ map length lists
  pub canonical : IsCanonical (flat_map (λ list. list) lists) taps

-- the part has the taps of its spans, and the bill is theirs; no token is below its first one or
-- above its last one
pub record IsPart (fares : Fares) (known : List (Option (List ℕ))) (part : Part) : Type 0 where
  pub taps : List TapFields
  pub in_files : (files : List (List ℕ)) → known ≡ map Some files
      → HaveTaps files part.spans.items part.numbers.items taps
  pub named : All HasName taps
  pub bill_is : IsBillOf (posted fares taps) part.bill
  pub range : IsUpTo part.first part.last
  pub from : All (λ tap. IsUpTo part.first (token_of_tap tap)) taps
  pub up : All (λ tap. IsUpTo (token_of_tap tap) part.last) taps
  pub counted : length taps ≡ part.count
  pub few : part.count < 2 ^ 64

-- each of the parts that were made is a part of the files
abbrev pub AreParts : Fares → List (Option (List ℕ)) → List (Option Part) → Type 0
AreParts fares known parts = All (λ part. IfSome part (IsPart fares known)) parts
