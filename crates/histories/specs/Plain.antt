-- The sequential history of taps: each posted after those before it, with the account rule's reply.
-- It has no shards, no visits and no workers.
use Rattle.account_rule.specs.declared.reply.{Answer.TheVariants.Unknown, Reply.Reply}
use Rattle.fare_caps.specs.{CapMeanings.capped_rules_of, CappedReplies.capped_reply}
use Rattle.histories.specs.{Entry.tap_of, Entry.taps_of, declared.entry.Entry.Entry}
use Rattle.std.specs.{Int.from_be_bytes, Int.w64, List.flat_map}
use Rattle.std.specs.Prelude.{◌≡◌, ℕ, List, [], ◌∷◌, ◌++◌, take, drop}
use Rattle.tap_views.specs.{Files.AreValidTapsOfEach, Layout.Tap, Layout.num, Token.bytes_of}
use Rattle.tap_views.specs.declared.token.Token.{Token}
use Rattle.tariffs.specs.Fares.{Fares}

-- the token that 16 bytes name: its numbers are those of the first eight bytes and of the others
abbrev pub token_of_bytes : List ℕ → Token
token_of_bytes bytes =
    record { high = from_be_bytes w64 (take 8 bytes); low = from_be_bytes w64 (drop 8 bytes) }

-- the fields of a tap, in an entry that has no reply yet
abbrev pub unanswered : Tap → Entry
unanswered tap =
    record {
      token = token_of_bytes tap.token;
      validator = num tap.validator;
      moment = num tap.moment;
      answer = Unknown;
      cents = 0;
    }

-- the entry with another answer and other cents
abbrev pub with_reply : Entry → Reply → Entry
with_reply entry replied =
    record {
      token = entry.token;
      validator = entry.validator;
      moment = entry.moment;
      answer = replied.answer;
      cents = replied.cents;
    }

-- the entry with the reply of the account rule after the earlier taps of its token
unfoldable pub answered : Fares → List Entry → Entry → Entry
answered fares earlier entry =
    with_reply entry (capped_reply (capped_rules_of fares (bytes_of entry.token))
    (taps_of fares entry.token earlier) (tap_of fares entry))

-- the entries of taps that follow earlier ones
unfoldable pub plain_after : Fares → List Entry → List Tap → List Entry
plain_after fares earlier [] = []
plain_after fares earlier (tap ∷ taps) =
    answered fares earlier (unanswered tap)
    ∷ plain_after fares (earlier ++ answered fares earlier (unanswered tap) ∷ []) taps

-- the history of taps that are posted one after the other
abbrev pub plain : Fares → List Tap → List Entry
plain fares taps = plain_after fares [] taps

-- the entry's token is the one that its bytes name
abbrev pub IsNamed : Entry → Type 0
IsNamed entry = entry.token ≡ token_of_bytes (bytes_of entry.token)

-- the history is the plain one of the uploads: their taps before each first layout fault, posted
-- one after the other under the table, without shards or workers
pub record IsPlain (fares : Fares) (uploads : List (List ℕ)) (history : List Entry) : Type 0 where
  pub taps : List (List Tap)
  pub each : AreValidTapsOfEach uploads taps
  pub entries : history ≡ plain fares (flat_map (λ upload. upload) taps)
