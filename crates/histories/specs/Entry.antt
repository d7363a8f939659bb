-- Entries of a history, and the taps of one token among them.
use Rattle.account_rule.specs.declared.{reply.Reply.Reply, tap.TapIn.TapIn}
use Rattle.histories.specs.declared.entry.Entry.{Entry}
use Rattle.std.specs.List.{AllZip}
use Rattle.std.specs.Prelude.{◌≡◌, ℕ, Bool, List, All, option_map, map, filter, ◌==◌}
use Rattle.tap_views.specs.Layout.{Tap, num}
use Rattle.tap_views.specs.{Token.Fits, Token.bytes_of, Token.token_eq, declared.token.Token.Token}
use Rattle.tariffs.specs.{Fares.Fares, Fares.mode_at, declared.mode.Mode.Mode}

-- the entry has the fields of the tap's bytes
pub record IsEntryOf (tap : Tap) (entry : Entry) : Type 0 where
  pub token : bytes_of entry.token ≡ tap.token
  pub validator : entry.validator ≡ num tap.validator
  pub moment : entry.moment ≡ num tap.moment

-- one entry for each tap, in order, with the fields of its bytes
abbrev pub AreEntriesOf : List Tap → List Entry → Type 0
AreEntriesOf taps entries = AllZip IsEntryOf taps entries

-- the reply that an entry keeps
abbrev pub reply_of : Entry → Reply
reply_of entry = record { answer = entry.answer; cents = entry.cents }

-- each entry's token is one of 16 bytes, so that these bytes name it
abbrev pub TokensFit : List Entry → Type 0
TokensFit entries = All (λ entry. Fits entry.token) entries

-- whether an entry is the token's
abbrev pub is_of : Token → Entry → Bool
is_of token entry = token_eq entry.token token

-- whether an entry is the validator's
abbrev pub is_at : ℕ → Entry → Bool
is_at validator entry = entry.validator == validator

-- the token's own entries, in history order
unfoldable pub own : Token → List Entry → List Entry
own token entries = filter (is_of token) entries

-- the mode at a place
abbrev pub mode_of_position : ℕ → Mode
mode_of_position position = record { position = position }

-- the entry as the account rule sees it: the validator's mode is the table's at the moment
unfoldable pub tap_of : Fares → Entry → TapIn
tap_of table entry = record {
  moment = entry.moment;
  mode = option_map mode_of_position (mode_at table entry.moment entry.validator);
}

-- the token's taps, in history order
unfoldable pub taps_of : Fares → Token → List Entry → List TapIn
taps_of table token entries = map (tap_of table) (own token entries)
