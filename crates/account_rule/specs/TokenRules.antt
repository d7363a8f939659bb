-- What the rule takes from a fare table for the taps of one token.
use Rattle.account_rule.specs.Taps.{LiveTap}
use Rattle.std.specs.Prelude.{ℕ, Bool, List, length}
use Rattle.tariffs.specs.Fares.{Fares, class_of, is_permitted, meaning_at, ride_terms}
use Rattle.tariffs.specs.{Fares.transfer_terms, Until.until}
use Rattle.tariffs.specs.declared.{mode.Mode.Mode, terms.Terms.Terms}

-- Which taps after a ride are its transfers. What it says of a tap may depend on the tap's moment
-- and mode.
pub record TransferRules : Type 0 where
  -- how many transfers the ride before the tap gives
  pub count : LiveTap → ℕ
  -- for how long it gives them, in milliseconds
  pub time : LiveTap → ℕ
  -- whether there is a transfer from the mode to the tap
  pub permits : Mode → LiveTap → Bool

-- What the rule takes from a table for the taps of one token. What it says of a tap may depend on
-- the tap's moment and mode.
pub record TokenRules : Type 0 where
  -- how many modes there are
  pub modes : ℕ
  -- how many rider classes there are at a moment
  pub classes : ℕ → ℕ
  -- the place of the token's class at a moment
  pub class : ℕ → ℕ
  -- the terms of the class for a ride
  pub terms : LiveTap → Terms
  -- which taps are transfers
  pub transfers : TransferRules
  -- the end of a window whose first ride is at the moment
  pub until : ℕ → ℕ

-- whether what is valid at the tap permits a transfer from the mode to the tap's
unfoldable pub permits_of : Fares → Mode → LiveTap → Bool
permits_of fares from tap = is_permitted (meaning_at fares tap.moment) from.position tap.mode.position

-- the place of the token's class at the moment
unfoldable pub token_class : Fares → List ℕ → ℕ → ℕ
token_class fares token moment = class_of (meaning_at fares moment) token

-- As many transfers as the rides of the token's class give, within their time, if the table permits
-- them: all of this by what is valid at the tap that is asked of.
unfoldable pub transfers_of : Fares → List ℕ → TransferRules
transfers_of fares token = record {
  count = λ tap. (transfer_terms (meaning_at fares tap.moment)
      (token_class fares token tap.moment)).taps;
  time = λ tap. (transfer_terms (meaning_at fares tap.moment)
      (token_class fares token tap.moment)).time;
  permits = permits_of fares;
}

-- The rules of the token. What is asked of a tap is asked of what is valid at the tap's moment, and
-- how long a window is at the moment of its first ride.
unfoldable pub rules_of : Fares → List ℕ → TokenRules
rules_of fares token = record {
  modes = length fares.meaning.modes;
  classes = λ moment. length (meaning_at fares moment).classes;
  class = token_class fares token;
  terms = λ ride. ride_terms (meaning_at fares ride.moment) (token_class fares token ride.moment)
      ride.mode.position;
  transfers = transfers_of fares token;
  until = until fares;
}
