-- The reply to each tap of a token, after the taps before it.
use Rattle.account_rule.specs.{Blocks.last_block, Taps.is_later, TokenRules.TokenRules}
use Rattle.account_rule.specs.Trips.{ends_in_transfer}
use Rattle.account_rule.specs.Windows.{charges, paid_by, windows}
use Rattle.account_rule.specs.declared.reply.Answer.{Answer, TheVariants.Paid}
use Rattle.account_rule.specs.declared.reply.Answer.TheVariants.{Transfer, Capped, Stale, Unknown}
use Rattle.account_rule.specs.declared.{reply.Reply.Reply, tap.TapIn.TapIn}
use Rattle.std.specs.{List.last_or, Option.option_and_then}
use Rattle.std.specs.Prelude.{ℕ, if◌then◌else◌, List, [], ◌∷◌, ◌++◌, is_some, Option, Some, None}

-- the reply of this answer and these cents
unfoldable pub reply_with : Answer → ℕ → Reply
reply_with answer cents = record { answer = answer; cents = cents }

-- the reply to a ride that is paid with these cents, if no limit is reached
unfoldable pub ride_reply : Option ℕ → Reply
ride_reply None = reply_with Capped 0
ride_reply (Some cents) = reply_with Paid cents

-- the reply to the last of the taps, which is live: a transfer, or the last ride of its window
unfoldable pub live_reply : TokenRules → List TapIn → Reply
live_reply rules taps =
    if ends_in_transfer rules taps
    then reply_with Transfer 0
    else ride_reply (option_and_then paid_by
    (last_or None (charges rules.terms (last_block (windows rules taps)))))

-- the reply to a tap after the earlier ones of its token
unfoldable pub reply : TokenRules → List TapIn → TapIn → Reply
reply rules earlier tap =
    if is_some tap.mode
    then (if is_later earlier tap.moment then live_reply rules (earlier ++ tap ∷ [])
    else reply_with Stale 0)
    else reply_with Unknown 0

-- the replies to the taps that follow the earlier ones
unfoldable pub replies_after : TokenRules → List TapIn → List TapIn → List Reply
replies_after rules earlier [] = []
replies_after rules earlier (tap ∷ taps) =
    reply rules earlier tap ∷ replies_after rules (earlier ++ tap ∷ []) taps

-- the reply to each tap after those before it
unfoldable pub replies : TokenRules → List TapIn → List Reply
replies rules taps = replies_after rules [] taps
