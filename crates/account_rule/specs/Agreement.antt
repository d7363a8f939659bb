-- What rules reply alike that say the same of each tap, and that a table waits for its date.
use Rattle.account_rule.specs.{Replies.replies, Taps.LiveTap, Taps.live_at, TokenRules.TokenRules}
use Rattle.account_rule.specs.{TokenRules.rules_of, declared.tap.TapIn.TapIn}
use Rattle.std.specs.Prelude.{◌≡◌, ℕ, ◌<◌, List, Some, All}
use Rattle.tariffs.specs.{Fares.Fares, Following.with_next, TableMeaning.TableMeaning}
use Rattle.tariffs.specs.declared.mode.Mode.{Mode}

-- both rules say the same of the tap
pub record AgreeAt (rules other : TokenRules) (tap : LiveTap) : Type 0 where
  pub terms : rules.terms tap ≡ other.terms tap
  pub count : rules.transfers.count tap ≡ other.transfers.count tap
  pub time : rules.transfers.time tap ≡ other.transfers.time tap
  pub permits : (from : Mode) → rules.transfers.permits from tap ≡ other.transfers.permits from tap
  pub until : rules.until tap.moment ≡ other.until tap.moment

-- both rules say the same of the tap, if its validator is known
abbrev pub AgreeOn : TokenRules → TokenRules → TapIn → Type 0
AgreeOn rules other tap =
    (mode : Mode) → tap.mode ≡ Some mode → AgreeAt rules other (live_at tap.moment mode)

-- rules that say the same of each tap of a list give it the same replies
abbrev pub AgreeingRulesReplyAlike : Type 0
AgreeingRulesReplyAlike =
    (rules other : TokenRules) (taps : List TapIn) → All (AgreeOn rules other) taps
    → replies rules taps ≡ replies other taps

-- taps that are all before a table's date are charged as by the tables before it alone
abbrev pub TablesWaitForTheirDate : Type 0
TablesWaitForTheirDate =
    (fares : Fares) (from : ℕ) (next : TableMeaning) (token : List ℕ) (taps : List TapIn)
    → All (λ tap. tap.moment < from) taps
    → replies (rules_of (with_next fares from next) token) taps
    ≡ replies (rules_of fares token) taps
