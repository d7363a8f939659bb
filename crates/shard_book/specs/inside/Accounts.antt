-- What a book's accounts know of a list of taps.
use Rattle.account_rule.specs.declared.{reply.Reply.Reply, tap.TapIn.TapIn}
use Rattle.fare_caps.specs.{CapMeanings.capped_rules_of, CappedReplies.capped_reply}
use Rattle.fare_caps.specs.{Caps.CappedRules, Represents.Represents, Represents.no_further}
use Rattle.fare_caps.specs.declared.capped_account.CappedAccount.{CappedAccount}
use Rattle.fare_caps.specs.declared.further.Further.{Further}
use Rattle.histories.specs.Counts.{sums_of_counts}
use Rattle.histories.specs.Sums.{Sums, add_sums, has_taps, sums_of_replies}
use Rattle.indexmap.specs.IndexMap.{get}
use Rattle.shard_book.specs.declared.accounts.{Accounts.Accounts, KeptAccount.KeptAccount}
use Rattle.std.specs.Prelude.{◌≡◌, ◌≤◌, ℕ, Bool, false, List, [], ◌∷◌, ◌++◌, Option, Some, None}
use Rattle.std.specs.Prelude.{IsTrue, filter, map, slice_get, unwrap_or}
use Rattle.tap_views.specs.{Token.bytes_of, Token.token_eq, declared.token.Token.Token}
use Rattle.tariffs.specs.Fares.{Fares}

-- what is kept of the token
unfoldable pub kept_at : Accounts → Token → Option KeptAccount
kept_at accounts token = get token_eq accounts.map token

-- what is stored beside the account of the token, if the table has caps or prices
unfoldable pub further_at : Accounts → Token → Further
further_at accounts token = unwrap_or (get token_eq accounts.further token) no_further

-- the account with what is stored beside it
abbrev pub capped_of : KeptAccount → Further → CappedAccount
capped_of kept further = record { account = kept.account; further = further }

-- what is kept of the token stayed
pub record StaysKept (old new : Accounts) (token : Token) : Type 0 where
  pub kept : kept_at new token ≡ kept_at old token
  pub further : further_at new token ≡ further_at old token

-- the counts of all tokens are right
abbrev pub IsCounting : Accounts → Type 0
IsCounting accounts = IsTrue accounts.counting

-- the kept account represents the taps; if none is kept there are none
abbrev pub IsKept : CappedRules → Option KeptAccount → Further → List TapIn → Type 0
IsKept rules None further taps = (taps ≡ []) × (further ≡ no_further)
IsKept rules (Some kept) further taps = Represents rules (capped_of kept further) taps

-- the accounts represent the token's taps
abbrev pub HasKept : Fares → Accounts → Token → List TapIn → Type 0
HasKept table accounts token taps = IsKept (capped_rules_of table (bytes_of token))
    (kept_at accounts token) (further_at accounts token) taps

-- what was kept, or else a fresh account and the counts of nothing
abbrev pub IsKeptOrFresh : Option KeptAccount → KeptAccount → Type 0
IsKeptOrFresh None kept =
    ((fares : Fares) (token : List ℕ)
    → Represents (capped_rules_of fares token) (capped_of kept no_further) [])
    × (sums_of_counts kept.counts ≡ sums_of_replies [])
IsKeptOrFresh (Some old) kept = kept ≡ old

-- the token and what is kept of it are at the place
pub record IsPosition (accounts : Accounts) (token : Token) (position : ℕ) : Type 0 where
  pub kept : KeptAccount
  pub at : slice_get accounts.map.entries position ≡ Some (token, kept)
  pub is : kept_at accounts token ≡ Some kept

-- what is kept of the token, or was put there for it, is at the place
pub record HasPositionFor (old new : Accounts) (token : Token) (position : ℕ) : Type 0 where
  pub kept : KeptAccount
  pub at : slice_get new.map.entries position ≡ Some (token, kept)
  pub is : IsKeptOrFresh (kept_at old token) kept
  pub now : kept_at new token ≡ Some kept

-- the kept sums, of nothing if none are kept
abbrev pub counted : Option KeptAccount → Sums
counted None = sums_of_replies []
counted (Some kept) = sums_of_counts kept.counts

-- what is stored now represents the taps that were represented before, and counts the same: it
-- stayed, or is fresh
pub record StillRepresents (old new : Option KeptAccount) : Type 0 where
  pub kept : (fares : Fares) (token : List ℕ) (further : Further) (taps : List TapIn)
      → IsKept (capped_rules_of fares token) old further taps
      → IsKept (capped_rules_of fares token) new further taps
  pub sums : counted new ≡ counted old

-- what is stored of the token stands for what it stood for
pub record StillKept (old new : Accounts) (token : Token) : Type 0 where
  pub still : StillRepresents (kept_at old token) (kept_at new token)
  pub further : further_at new token ≡ further_at old token

-- one tap of the token was posted: the reply, and what is kept, are the rule's
pub record Steps (table : Fares) (token : Token) (tap : TapIn) (old new : Accounts) (given : Reply)
    : Type 0 where
  pub reply : (taps : List TapIn) → HasKept table old token taps
      → given ≡ capped_reply (capped_rules_of table (bytes_of token)) taps tap
  pub kept : (taps : List TapIn) → HasKept table old token taps
      → HasKept table new token (taps ++ tap ∷ [])
  pub counted : IsCounting new
      → counted (kept_at new token)
      ≡ add_sums (counted (kept_at old token)) (sums_of_replies (given ∷ []))
  pub counting : IsCounting new → IsCounting old
  pub few : given.cents ≤ 100_000
  pub others : (other : Token) → token_eq token other ≡ false → StaysKept old new other

-- whether an account has taps; one that was opened ahead has none yet
abbrev pub is_used : Token × KeptAccount → Bool
is_used kept = has_taps (sums_of_counts kept.1.counts)

-- a token with its kept sums
abbrev pub pair_of : Token × KeptAccount → Token × Sums
pair_of kept = (kept.0, sums_of_counts kept.1.counts)

-- each token that has taps, with its kept sums, in the order of the map
unfoldable pub pairs_of : Accounts → List (Token × Sums)
pairs_of accounts = map pair_of (filter is_used accounts.map.entries)
