-- Legal histories: every reply is the account rule's.
use Rattle.fare_caps.specs.{CapMeanings.capped_rules_of, CappedReplies.capped_reply}
use Rattle.histories.specs.{Entry.reply_of, Entry.tap_of, Entry.taps_of, declared.entry.Entry.Entry}
use Rattle.std.specs.Prelude.{◌≡◌, List, ◌∷◌, ◌++◌}
use Rattle.tap_views.specs.Token.{bytes_of}
use Rattle.tariffs.specs.Fares.{Fares}

-- after these entries, the entry's reply is the account rule's for its token's earlier taps
unfoldable pub IsReplied : Fares → List Entry → Entry → Type 0
IsReplied table before entry =
    reply_of entry ≡ capped_reply (capped_rules_of table (bytes_of entry.token))
    (taps_of table entry.token before) (tap_of table entry)

-- each entry, wherever it is, has the reply that the account rule gives after those before it
pub record IsLegal (table : Fares) (entries : List Entry) : Type 0 where
  pub each : (before : List Entry) (entry : Entry) (after : List Entry)
      → entries ≡ before ++ entry ∷ after → IsReplied table before entry
