-- What holds of the windows of a token's taps.
use Rattle.account_rule.specs.Laws.{GrowsWithinLimits, charge_reply, is_ride}
use Rattle.account_rule.specs.{Taps.LiveTap, TokenRules.rules_of}
use Rattle.account_rule.specs.Windows.{charges, paid_rides, window_cents, windows}
use Rattle.account_rule.specs.declared.{reply.Reply.Reply, tap.TapIn.TapIn}
use Rattle.fare_caps.specs.{CapMeanings.capped_rules_of, CapWindows.Charged}
use Rattle.fare_caps.specs.CapWindows.{all_caps, cents_for, charged, counted_in, windows_of}
use Rattle.fare_caps.specs.{Caps.CapRules, Caps.CappedRules, Laws.KeepsCeiling}
use Rattle.histories.specs.Entry.{own, taps_of, reply_of}
use Rattle.histories.specs.{Sums.sums_of_replies, declared.entry.Entry.Entry}
use Rattle.std.specs.Prelude.{◌≡◌, ◌≤◌, ℕ, false, List, [], map, filter, flat_map, All, sum_by}
use Rattle.tap_views.specs.{Token.bytes_of, declared.token.Token.Token}
use Rattle.tariffs.specs.Fares.{Fares, has_caps_or_prices, terms_at}
use Rattle.tariffs.specs.{TableMeaning.TableMeaning, declared.terms.Terms.Terms}

-- No window has more paid rides than the ride limit or costs more than the ceiling.
pub record BlocksKeepLimits (terms : LiveTap → Terms) (limits : Terms)
    (blocks : List (List LiveTap))
    : Type 0 where
  pub rides : All (λ window. paid_rides terms window ≤ limits.rides) blocks
  pub ceiling : All (λ window. window_cents terms window ≤ limits.ceiling) blocks

-- The windows of the token's taps keep the limits of its terms, if one table is valid at all times.
-- If others follow it, each window grows within the limits of its rides. The replies to rides are,
-- window by window, those of its charges, so that the windows' paid rides and cents add up to those
-- of all replies.
pub record BlocksAreLimited (terms : LiveTap → Terms) (limits : Terms)
    (later : List (ℕ × TableMeaning))
    (blocks : List (List LiveTap)) (replied : List Reply) : Type 0 where
  pub alone : later ≡ [] → BlocksKeepLimits terms limits blocks
  pub each : All (GrowsWithinLimits terms) blocks
  pub shared : filter is_ride replied
      ≡ flat_map (λ window. map charge_reply (charges terms window)) blocks
  pub paid : (sums_of_replies replied).paid ≡ sum_by (paid_rides terms) blocks
  pub cents : (sums_of_replies replied).cents ≡ sum_by (window_cents terms) blocks

-- No window of a cap, or of `window`, counts more than the highest ceiling of its taps. The rides and
-- transfers cost what the replies say, and the windows of each cap add up to what it counts of them.
pub record CapsAreLimited (rules : CappedRules) (taps : List TapIn) (replied : List Reply)
    : Type 0 where
  pub ceilings : All (KeepsCeiling (charged rules taps)) (all_caps rules)
  pub shared : (cap : CapRules)
      → sum_by (counted_in cap) (windows_of cap (charged rules taps))
      ≡ sum_by (cents_for cap) (charged rules taps)
  pub cents : (sums_of_replies replied).cents
      ≡ sum_by (λ (one : Charged). one.cents) (charged rules taps)

-- The windows of the token's taps keep the limits of its terms, and share what its entries were
-- charged: without caps and prices the windows of `window`, and with them those of each cap.
pub record WindowsKeepLimits (table : Fares) (entries : List Entry) (token : Token)
    : Type 0 where
  pub alone : has_caps_or_prices table ≡ false
      → BlocksAreLimited (rules_of table (bytes_of token)).terms
      (terms_at table.meaning (bytes_of token)) table.later
      (windows (rules_of table (bytes_of token)) (taps_of table token entries))
      (map reply_of (own token entries))
  pub capped : CapsAreLimited (capped_rules_of table (bytes_of token))
      (taps_of table token entries) (map reply_of (own token entries))
