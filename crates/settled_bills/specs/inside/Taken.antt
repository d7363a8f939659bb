-- Taps that are taken of merged files: what private functions alone cite.
use Rattle.settlement.specs.Nondecreasing.{TapsNondecreasingFrom, last_token}
use Rattle.settlement.specs.Posted.{HasName}
use Rattle.settled_bills.specs.declared.taker.Taker.{Taker}
use Rattle.sorted_taps.specs.{Merges.AreTaken, Reading.window_bytes}
use Rattle.sorted_taps.specs.declared.reader.TapReader.{TapReader}
use Rattle.std.specs.Prelude.{◌≡◌, ◌≤◌, ℕ, All, List, Option, Some, length, map}
use Rattle.tap_views.specs.Encoding.{AreEarly}
use Rattle.tap_views.specs.declared.{encoder.TapFields.TapFields, token.Token.Token}

-- these taps were taken of files whose bytes are these if they are known;
-- their moments are before 2100, and the 16 bytes of each token name it
pub record AreTapsTaken (known : List (Option (List ℕ))) (old : List TapReader)
    (taps : List TapFields) (new : List TapReader) : Type 0 where
  pub taken : (files : List (List ℕ)) → known ≡ map Some files → AreTaken files old taps new
  pub early : AreEarly (λ (tap : TapFields). tap.moment) taps
  pub named : All HasName taps

-- taps that can come one after another, the first of them after a tap of one token, and the last of
-- which has the other token
pub record AreFollowing (from : Token) (taps : List TapFields) (last : Token) : Type 0 where
  pub early : AreEarly (λ (tap : TapFields). tap.moment) taps
  pub named : All HasName taps
  pub nondecreasing : TapsNondecreasingFrom from taps
  pub is_last : last ≡ last_token from taps

-- there is a reader of each of the files, and there is room to read
pub record IsReady (files : ℕ) (taker : Taker) : Type 0 where
  pub readers : length taker.merge.readers.items ≡ files
  pub window : window_bytes ≤ length taker.window.items
