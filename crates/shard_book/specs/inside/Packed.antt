-- What a book's entries of 16 bytes represent.
use Rattle.account_rule.specs.declared.reply.Answer.{Answer, TheVariants.Paid}
use Rattle.account_rule.specs.declared.reply.Answer.TheVariants.{Transfer, Capped, Stale, Unknown}
use Rattle.account_rule.specs.declared.reply.Reply.{Reply}
use Rattle.histories.specs.declared.entry.Entry.{Entry}
use Rattle.shard_book.specs.declared.{accounts.Accounts.Accounts, packed.PackedEntry.PackedEntry}
use Rattle.std.specs.{Map.keys_of, Prelude.◌≡◌, Prelude.ℕ, Prelude.◌/◌, Prelude.◌%◌}
use Rattle.std.specs.Prelude.{◌^◌, ◌==◌, if◌then◌else◌, List, Some, map, All, slice_get, unwrap_or}
use Rattle.tap_views.specs.declared.token.Token.{Token}

-- the answer with the number, which is the place of its count
abbrev pub answer_at : ℕ → Answer
answer_at number =
    if number == 0 then Paid else (if number == 1 then Transfer
    else (if number == 2 then Capped else (if number == 3 then Stale else Unknown)))

-- the moment in an entry's bits: its lowest 42 bits
abbrev pub bits_moment : ℕ → ℕ
bits_moment bits = bits % 2 ^ 42

-- the answer in an entry's bits: the three bits above
abbrev pub bits_answer : ℕ → Answer
bits_answer bits = answer_at (bits / 2 ^ 42 % 8)

-- the cents in an entry's bits: all that is above
abbrev pub bits_cents : ℕ → ℕ
bits_cents bits = bits / 2 ^ 42 / 8

-- the tokens of the accounts, by their places
abbrev pub tokens_of : Accounts → List Token
tokens_of accounts = keys_of accounts.map.entries

-- the token that is read if there is none
abbrev pub no_token : Token
no_token = record { high = 0; low = 0 }

-- the entry of a tap with the reply
abbrev pub entry_with : Token → ℕ → ℕ → Reply → Entry
entry_with token validator moment reply = record {
  token = token;
  validator = validator;
  moment = moment;
  answer = reply.answer;
  cents = reply.cents;
}

-- the entry that a packed one represents, if the accounts have these tokens
unfoldable pub entry_of : List Token → PackedEntry → Entry
entry_of tokens packed = record {
  token = unwrap_or (slice_get tokens packed.position) no_token;
  validator = packed.validator;
  moment = bits_moment packed.bits;
  answer = bits_answer packed.bits;
  cents = bits_cents packed.bits;
}

-- the entries that a packed history represents
abbrev pub history_of : List Token → List PackedEntry → List Entry
history_of tokens packed = map (entry_of tokens) packed

-- there is a token at the place
abbrev pub HasToken : List Token → ℕ → Type 0
HasToken tokens position = (token : Token) × (slice_get tokens position ≡ Some token)

-- each packed entry has the place of an account
pub record ArePlaced (tokens : List Token) (packed : List PackedEntry) : Type 0 where
  pub each : All (λ entry. HasToken tokens entry.position) packed

-- no account moved: a token that had a place has it still
pub record KeepPositions (before after : List Token) : Type 0 where
  pub each : (position : ℕ) (token : Token) → slice_get before position ≡ Some token
      → slice_get after position ≡ Some token
