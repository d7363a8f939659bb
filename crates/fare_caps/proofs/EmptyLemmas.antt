-- Under a table with neither caps nor prices, replies are those of `account_rule`.
use Rattle.std.proofs.Common.{◌≡◌, ℕ, false, List}
use Rattle.account_rule.specs.{Replies.replies, TokenRules.rules_of, declared.tap.TapIn.TapIn}
use Rattle.fare_caps.proofs.{ExplainLemmas.plain-rules, NoCapsLemmas.replies-none}
use Rattle.fare_caps.specs.{CapMeanings.capped_rules_of, CappedReplies.capped_replies}
use Rattle.tariffs.specs.Fares.{Fares, has_caps_or_prices}

pub replies-empty : (fares : Fares) (token : List ℕ) (taps : List TapIn)
    → has_caps_or_prices fares ≡ false
    → capped_replies (capped_rules_of fares token) taps ≡ replies (rules_of fares token) taps
replies-empty fares token taps plain =
    rw (plain-rules fares token plain) (replies-none (rules_of fares token) taps)
