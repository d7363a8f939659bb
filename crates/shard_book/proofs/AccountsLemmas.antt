-- What is kept of one token changes, the rest stays.
use Rattle.std.proofs.Common.{◌≡◌, ℕ, suc, ◌+◌, ◌<◌, arith, List, [], ◌∷◌, ◌++◌, length, refl}
use Rattle.std.proofs.Common.{Option, Some, None, slice_get, sym, ap, subst, ◌∙◌, Bool, true, false}
use Rattle.std.proofs.Common.{cond, is_some, ⊎_elim}
use Rattle.account_rule.specs.TokenRules.{rules_of}
use Rattle.account_rule.specs.declared.{reply.Reply.Reply, tap.TapIn.TapIn}
use Rattle.fare_caps.specs.{CapMeanings.capped_rules_of, Represents.Represents}
use Rattle.fare_caps.specs.{Represents.no_further, declared.further.Further.Further}
use Rattle.histories.specs.{Counts.sums_of_counts, Sums.Sums, Sums.add_sums, Sums.sums_of_replies}
use Rattle.indexmap.proofs.CallerLemmas.{insert_entry-new, updates-with_value_at}
use Rattle.indexmap.specs.IndexMap.{IsUnique, Updates, get, insert_entry, insert_index}
use Rattle.indexmap.specs.IndexMap.{with_value_at}
use Rattle.shard_book.proofs.PackedLemmas.{keep_entries, keep_same}
use Rattle.shard_book.specs.declared.accounts.{Accounts.Accounts, KeptAccount.KeptAccount}
use Rattle.shard_book.specs.inside.Accounts.{IsKept, IsKeptOrFresh, HasPositionFor, IsPosition}
use Rattle.shard_book.specs.inside.Accounts.{HasKept, StaysKept, Steps, StillKept, StillRepresents}
use Rattle.shard_book.specs.inside.Accounts.{capped_of, counted, further_at, kept_at}
use Rattle.shard_book.specs.inside.Packed.{KeepPositions, tokens_of}
use Rattle.std.proofs.lemmas.{Bool.cases_Bool, Bool.false≢true, Option.slice_get_within}
use Rattle.std.specs.{List.position_or_len, Map.keys_of, Map.lookup, Option.unwrap_or}
use Rattle.tap_views.proofs.TokenLemmas.{same_token, token_eq-laws}
use Rattle.tap_views.specs.{Token.bytes_of, Token.token_eq, declared.token.Token.Token}
use Rattle.tariffs.specs.Fares.{Fares}
use Rattle.account_rule.specs.Represents as plain

-- the kept account, or else a fresh one, stands for the taps
pub holds_or : (fares : Fares) (token : List ℕ) (kept : Option KeptAccount) (here : KeptAccount)
    (further : Further) (taps : List TapIn) → IsKeptOrFresh kept here
    → IsKept (capped_rules_of fares token) kept further taps
    → Represents (capped_rules_of fares token) (capped_of here further) taps
holds_or fares token None here further taps is empty =
    rw (empty.0, empty.1) (is.0 fares token)
holds_or fares token (Some kept) here further taps is holds =
    subst (λ (k : KeptAccount). Represents (capped_rules_of fares token) (capped_of k further) taps)
    (sym is) holds

-- the kept counts, or else those of nothing, are what is counted
pub counted_or : (kept : Option KeptAccount) (here : KeptAccount) → IsKeptOrFresh kept here
    → sums_of_counts here.counts ≡ counted kept
counted_or None here is = is.1
counted_or (Some kept) here is = ap (λ (k : KeptAccount). sums_of_counts k.counts) is

-- what is written at the place is kept of the token from then on, and what is kept of the others
-- stays
pub written : (accounts : Accounts) (position : ℕ) (token : Token) (kept next : KeptAccount)
    → IsUnique token_eq accounts.map → slice_get accounts.map.entries position ≡ Some (token, kept)
    → Updates token_eq accounts.map (with_value_at accounts.map position next) token (Some next)
written accounts position token kept next unique at =
    updates-with_value_at accounts.map position next token_eq-laws unique token kept at

-- the second of a pair, if there is one
kept_in : Option (Token × KeptAccount) → KeptAccount → KeptAccount
kept_in None other = other
kept_in (Some pair) other = pair.1

-- what stands at a token's place is what was kept of it, or fresh
pub found : {old new : Accounts} {token there : Token} {position : ℕ} {here : KeptAccount}
    → HasPositionFor old new token position
    → slice_get new.map.entries position ≡ Some (there, here)
    → IsKeptOrFresh (kept_at old token) here
unfolding kept_in
found {old} {new} {token} {there} {position} {here} made at =
    let same : made.kept ≡ here =
    ap (λ (o : Option (Token × KeptAccount)). kept_in o here) (sym made.at ∙ at) in
    subst (λ (k : KeptAccount). IsKeptOrFresh (kept_at old token) k) same made.is

-- a token is at its place
pub at_position : (accounts : Accounts) (token there : Token) (position : ℕ) (kept : KeptAccount)
    → there ≡ token → slice_get accounts.map.entries position ≡ Some (there, kept)
    → get token_eq accounts.map token ≡ Some kept → IsPosition accounts token position
unfolding kept_at
at_position accounts token there position kept same at is =
    record { kept = kept; at = at ∙ ap (λ (t : Token). Some (t, kept)) same; is = is }

-- what is at its place need not be made
pub made_before : (accounts : Accounts) (token : Token) (position : ℕ)
    → IsPosition accounts token position
    → HasPositionFor accounts accounts token position
made_before accounts token position there =
    record {
      kept = there.kept;
      at = there.at;
      is =
          subst (λ (o : Option KeptAccount). IsKeptOrFresh o there.kept) (sym there.is) refl;
      now =
          there.is;
    }

-- the last one stands behind all others
slice_get-last : {X : Type 0} (xs : List X) (x : X) → slice_get (xs ++ x ∷ []) (length xs) ≡ Some x
slice_get-last [] x = refl
slice_get-last (y ∷ ys) x = slice_get-last ys x

-- an account that is opened stands last
pub made_last : (old new : Accounts) (token : Token) (position : ℕ) (fresh : KeptAccount)
    → position ≡ length old.map.entries → kept_at old token ≡ None → kept_at new token ≡ Some fresh
    → new.map.entries ≡ insert_entry token_eq old.map.entries token fresh
    → ((fares : Fares) (name : List ℕ)
    → Represents (capped_rules_of fares name) (capped_of fresh no_further) [])
    → sums_of_counts fresh.counts ≡ sums_of_replies [] → HasPositionFor old new token position
unfolding kept_at
made_last old new token position fresh at none now entries holds counts =
    let last : new.map.entries ≡ old.map.entries ++ (token, fresh) ∷ [] =
    entries ∙ insert_entry-new token_eq old.map token fresh none in
    record {
      kept = fresh;
      at = rw last (rw at (slice_get-last old.map.entries (token, fresh)));
      is = subst (λ (o : Option KeptAccount). IsKeptOrFresh o fresh) (sym none) (holds, counts);
      now = now;
    }

-- a key that passes stands at its index
record IsAt (token : Token) (es : List (Token × KeptAccount)) (position : ℕ) : Type 0 where
  kept : KeptAccount
  at : slice_get es position ≡ Some (token, kept)
  is : lookup (token_eq token) es ≡ Some kept

slice_get-next : {X : Type 0} (x : X) (xs : List X) (n : ℕ)
    → slice_get (x ∷ xs) (1 + n) ≡ slice_get xs n
slice_get-next x xs n = let same : 1 + n ≡ suc n = omega arith in
    ap (λ (i : ℕ). slice_get (x ∷ xs) i) same

at_index : (token : Token) (es : List (Token × KeptAccount))
    → is_some (lookup (token_eq token) es) ≡ true
    → IsAt token es (position_or_len (token_eq token) (keys_of es))
at_index token [] some = absurd (false≢true some)
at_index token (e ∷ es) some =
    ⊎_elim
    (λ (here : token_eq token e.0 ≡ true). rw here
    (record {
      kept = e.1;
      at =
          ap (λ (t : Token). Some (t, e.1)) (sym (same_token token e.0 here));
      is =
          ap (λ (b : Bool). cond b (Some e.1) (lookup (token_eq token) es)) here;
    }))
    (λ (apart : token_eq token e.0 ≡ false).
    let rest : IsAt token es (position_or_len (token_eq token) (keys_of es)) =
    at_index token es
    (ap (λ (b : Bool). is_some (cond b (Some e.1) (lookup (token_eq token) es))) (sym apart)
    ∙ some) in
    rw apart (record {
      kept = rest.kept;
      at = slice_get-next e es _ ∙ rest.at;
      is =
          ap (λ (b : Bool). cond b (Some e.1) (lookup (token_eq token) es)) apart ∙ rest.is;
    }))
    (cases_Bool (token_eq token e.0))

-- an account that was found stands at the index of its token
pub made_found : (old new : Accounts) (token : Token) (position : ℕ)
    → new.map.entries ≡ old.map.entries → is_some (kept_at old token) ≡ true
    → position ≡ insert_index token_eq old.map token → HasPositionFor old new token position
unfolding kept_at
made_found old new token position same some index =
    let there : IsAt token old.map.entries (insert_index token_eq old.map token) =
    at_index token old.map.entries some in
    record {
      kept = there.kept;
      at = rw same (rw index there.at);
      is = subst (λ (o : Option KeptAccount). IsKeptOrFresh o there.kept) (sym there.is) refl;
      now = ap (λ (es : List (Token × KeptAccount)). lookup (token_eq token) es) same ∙ there.is;
    }

-- so its index is below the number of accounts
pub index-within : (accounts : Accounts) (token : Token) → is_some (kept_at accounts token) ≡ true
    → insert_index token_eq accounts.map token < length accounts.map.entries
unfolding kept_at
index-within accounts token some =
    let there : IsAt token accounts.map.entries (insert_index token_eq accounts.map token) =
    at_index token accounts.map.entries some in
    slice_get_within accounts.map.entries (insert_index token_eq accounts.map token)
    (token, there.kept) there.at

-- what is kept stands on where it stayed
pub on-same : {old new : Option KeptAccount} → new ≡ old → StillRepresents old new
on-same {old} {new} same = record {
  kept = λ fares token further taps kept.
      subst (λ (o : Option KeptAccount). IsKept (capped_rules_of fares token) o further taps)
      (sym same) kept;
  sums = ap counted same;
}

-- no account moves if the entries stayed
pub keep_found : (old new : List (Token × KeptAccount)) → new ≡ old
    → KeepPositions (keys_of old) (keys_of new)
keep_found old new same = keep_same (ap (λ (es : List (Token × KeptAccount)). keys_of es) same)

-- nor if an account is opened
pub keep_opened : (old : Accounts) (new : List (Token × KeptAccount)) (token : Token)
    (fresh : KeptAccount) → kept_at old token ≡ None
    → new ≡ insert_entry token_eq old.map.entries token fresh
    → KeepPositions (tokens_of old) (keys_of new)
unfolding kept_at
keep_opened old new token fresh none entries =
    keep_entries old.map.entries new (token, fresh)
    (entries ∙ insert_entry-new token_eq old.map token fresh none)

-- ---- steps
-- what is stored beside an account stays if the whole of it does
pub further-same : (old new : Accounts) (token : Token) → new.further ≡ old.further
    → further_at new token ≡ further_at old token
unfolding further_at
further-same old new token same = rw same refl

-- the account of a token that was there or was opened stands for its taps
opened-kept : (table : Fares) (old mid : Accounts) (token : Token) (position : ℕ)
    (taps : List TapIn)
    → HasPositionFor old mid token position → mid.further ≡ old.further
    → HasKept table old token taps → HasKept table mid token taps
opened-kept table old mid token position taps made further kept =
    rw (made.now, further-same old mid token further)
    (holds_or table (bytes_of token) (kept_at old token) made.kept (further_at old token) taps
    made.is
    kept)

-- a step after a look-up, of which the token's account came
pub steps-from : (table : Fares) (token : Token) (tap : TapIn) (old mid new : Accounts)
    (reply : Reply) (position : ℕ) → HasPositionFor old mid token position
    → mid.further ≡ old.further → mid.counting ≡ old.counting
    → ((other : Token) → token_eq token other ≡ false → kept_at mid other ≡ kept_at old other)
    → Steps table token tap mid new reply → Steps table token tap old new reply
steps-from table token tap old mid new reply position made further counting others steps = record {
  reply = λ taps kept. steps.reply taps (opened-kept table old mid token position taps made further
      kept);
  kept = λ taps kept. steps.kept taps (opened-kept table old mid token position taps made further
      kept);
  counted = λ counts. steps.counted counts
      ∙ ap (λ (s : Sums). add_sums s (sums_of_replies (reply ∷ [])))
      (ap counted made.now ∙ counted_or (kept_at old token) made.kept made.is);
  counting = λ counts. rw (← counting) (steps.counting counts);
  few = steps.few;
  others = λ other apart.
      let stays = steps.others other apart in
      record {
        kept = stays.kept ∙ others other apart;
        further = stays.further ∙ further-same old mid other further;
      };
}

-- a place at which a token is
pub there-of : {old new : Accounts} {token : Token} {position : ℕ}
    → HasPositionFor old new token position → IsPosition new token position
there-of made = record { kept = made.kept; at = made.at; is = made.now }

-- so its taps are kept there
pub kept-from : (table : Fares) (old mid : Accounts) (token : Token) (position : ℕ)
    → HasPositionFor old mid token position → mid.further ≡ old.further
    → (taps : List TapIn) × HasKept table old token taps
    → (taps : List TapIn) × HasKept table mid token taps
kept-from table old mid token position made further (taps, kept) =
    (taps, opened-kept table old mid token position taps made further kept)

-- what was there stands on, and an account that was opened stands for no taps
still-made : (old : Option KeptAccount) (here : KeptAccount) → IsKeptOrFresh old here
    → StillRepresents old (Some here)
still-made None here is = record {
  kept = λ fares token further taps empty. rw (empty.0, empty.1) (is.0 fares token);
  sums = is.1;
}
still-made (Some old) here is = on-same (ap (λ (k : KeptAccount). Some k) is)

-- after a look-up
pub still-opened : (old mid : Accounts) (token : Token) (position : ℕ)
    → HasPositionFor old mid token position
    → mid.further ≡ old.further
    → ((other : Token) → token_eq token other ≡ false → kept_at mid other ≡ kept_at old other)
    → (other : Token) → StillKept old mid other
still-opened old mid token position made further others other = record {
  still = ⊎_elim
      (λ (same : token_eq token other ≡ true).
      let is : token ≡ other = same_token token other same in
      subst (λ (t : Token). StillRepresents (kept_at old t) (kept_at mid t)) is
      (rw made.now (still-made (kept_at old token) made.kept made.is)))
      (λ (apart : token_eq token other ≡ false). on-same (others other apart))
      (cases_Bool (token_eq token other));
  further = further-same old mid other further;
}

-- and if nothing was written then
pub still-from : (old mid new : Accounts) → ((other : Token) → StillKept old mid other)
    → ((other : Token) → StaysKept mid new other) → (other : Token) → StillKept old new other
still-from old mid new one two other =
    let still = one other in
    let stays = two other in
    record {
      still = rw stays.kept still.still;
      further = stays.further ∙ still.further;
    }

-- the same of accounts that stayed
pub stays-still : (old new : Accounts) → ((other : Token) → kept_at new other ≡ kept_at old other)
    → new.further ≡ old.further → (other : Token) → StillKept old new other
stays-still old new same further other = record {
  still = on-same (same other);
  further = further-same old new other further;
}

-- and of accounts of which the map stayed, and what is stored beside it
pub stays-beside : (old new : Accounts) → new.map ≡ old.map
    → new.further.entries ≡ old.further.entries → (other : Token) → StaysKept old new other
unfolding kept_at further_at
stays-beside old new same beside other = record {
  kept = ap (λ map. get token_eq map other) same;
  further = ap (λ (es : List (Token × Further)).
      unwrap_or (lookup (token_eq other) es) no_further) beside;
}

-- what stands at a token's place is what is kept of it
pub account-at : (accounts : Accounts) (token : Token) (position : ℕ) (here : KeptAccount)
    {there : Token} → IsPosition accounts token position
    → slice_get accounts.map.entries position ≡ Some (there, here)
    → kept_at accounts token ≡ Some here
unfolding kept_in
account-at accounts token position here is at =
    is.is ∙ ap (λ (o : Option (Token × KeptAccount)). Some (kept_in o here)) (sym is.at ∙ at)

-- which stands for the token's taps without caps
pub kept-plain : (table : Fares) (accounts : Accounts) (token : Token) (position : ℕ)
    (here : KeptAccount) (taps : List TapIn) {there : Token} → IsPosition accounts token position
    → slice_get accounts.map.entries position ≡ Some (there, here)
    → HasKept table accounts token taps
    → plain.Represents (rules_of table (bytes_of token)) here.account taps
unfolding capped_rules_of
kept-plain table accounts token position here taps is at kept =
    (rw (account-at accounts token position here is at) at kept).account

-- or, with what is stored beside it, with caps
pub kept-capped : (table : Fares) (accounts : Accounts) (token : Token) (position : ℕ)
    (taps : List TapIn) (is : IsPosition accounts token position)
    → HasKept table accounts token taps
    → Represents (capped_rules_of table (bytes_of token))
    (capped_of is.kept (further_at accounts token)) taps
kept-capped table accounts token position taps is kept = rw is.is at kept

pub same-kept : {one other : KeptAccount} → Some one ≡ Some other → one ≡ other
same-kept same = cc
