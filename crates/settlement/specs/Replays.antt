-- The account of a token whose taps are posted one after another.
use Rattle.fare_caps.specs.{CapMeanings.capped_rules_of, Represents.Represents}
use Rattle.histories.specs.{Entry.taps_of, declared.entry.Entry.Entry}
use Rattle.settlement.specs.declared.replay.Replay.{Replay}
use Rattle.std.specs.Prelude.{List}
use Rattle.tap_views.specs.Token.{bytes_of}
use Rattle.tariffs.specs.Fares.{Fares}

-- the account represents the token's taps among these entries
unfoldable pub HasPosted : Fares → Replay → List Entry → Type 0
HasPosted fares replay entries = Represents (capped_rules_of fares (bytes_of replay.token))
    replay.account (taps_of fares replay.token entries)
