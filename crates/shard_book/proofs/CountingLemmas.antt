-- What is kept of the tokens counts their entries.
use Rattle.std.proofs.Common.{◌≡◌, ℕ, suc, ◌==◌, not, length, arith, Bool, true, false, cond, ◌||◌}
use Rattle.std.proofs.Common.{List, [], ◌∷◌, ◌++◌, map, None, refl, sym, ap, ◌∙◌, ⊎_elim}
use Rattle.histories.proofs.SumsLemmas.{sums-append}
use Rattle.histories.specs.Entry.{is_of, own, reply_of}
use Rattle.histories.specs.Sums.{Sums, sums, sums_of_replies, add_sums, has_taps}
use Rattle.histories.specs.{SumsByKey.token_of, declared.entry.Entry.Entry}
use Rattle.shard_book.specs.declared.accounts.Accounts.{Accounts}
use Rattle.shard_book.specs.inside.{Accounts.kept_at, Accounts.counted, Counting.AreCounted}
use Rattle.std.proofs.lemmas.Bool.{cases_Bool, Decides.nat_tests}
use Rattle.std.proofs.lemmas.List.{append-nil, Elements.filter-append}
use Rattle.std.specs.Set.{is_member}
use Rattle.tap_views.proofs.TokenLemmas.{same_token, token_eq-sym}
use Rattle.tap_views.specs.{Token.token_eq, declared.token.Token.Token}

-- the token's own entries after one more
own-push : (token : Token) (entries : List Entry) (entry : Entry)
    → own token (entries ++ entry ∷ [])
    ≡ own token entries ++ cond (is_of token entry) (entry ∷ []) []
unfolding own
own-push token entries entry = filter-append (is_of token) entries (entry ∷ [])

-- nothing is kept and nothing was posted
pub counted-none : (accounts : Accounts) → ((token : Token) → kept_at accounts token ≡ None)
    → AreCounted accounts []
unfolding own
counted-none accounts none = record { sums = λ token. ap counted (none token) }

-- what is kept counts the same
pub counted-same : (accounts after : Accounts) (entries : List Entry) → AreCounted accounts entries
    → ((other : Token) → counted (kept_at after other) ≡ counted (kept_at accounts other))
    → AreCounted after entries
counted-same accounts after entries old others =
    record { sums = λ token. others token ∙ old.sums token }

-- one entry more was counted for its token, and the rest stayed
pub counted-push : (accounts after : Accounts) (entries : List Entry) (entry : Entry)
    → AreCounted accounts entries
    → counted (kept_at after entry.token)
    ≡ add_sums (counted (kept_at accounts entry.token)) (sums_of_replies (reply_of entry ∷ []))
    → ((other : Token) → token_eq entry.token other ≡ false
    → kept_at after other ≡ kept_at accounts other)
    → AreCounted after (entries ++ entry ∷ [])
counted-push accounts after entries entry old added others = record {
  sums = λ token.
      ⊎_elim
      (λ (here : token_eq entry.token token ≡ true).
      let is : entry.token ≡ token = same_token entry.token token here in
      ap (λ (t : Token). counted (kept_at after t)) (sym is)
      ∙ added
      ∙ ap (λ (s : Sums). add_sums s (sums_of_replies (reply_of entry ∷ [])))
      (old.sums entry.token ∙ ap (λ (t : Token). sums (own t entries)) is)
      ∙ sym (sums-append (own token entries) (entry ∷ []))
      ∙ ap (λ (b : Bool). sums (own token entries ++ cond b (entry ∷ []) [])) (sym here)
      ∙ ap sums (sym (own-push token entries entry)))
      (λ (apart : token_eq entry.token token ≡ false).
      ap counted (others token apart)
      ∙ old.sums token
      ∙ ap sums (sym (append-nil (own token entries)))
      ∙ ap (λ (b : Bool). sums (own token entries ++ cond b (entry ∷ []) [])) (sym apart)
      ∙ ap sums (sym (own-push token entries entry)))
      (cases_Bool (token_eq entry.token token));
}

-- one tap and more are some
some-taps : (n : ℕ) → not (suc n == 0) ≡ true
some-taps n = grind (arith, nat_tests)

-- a token has taps exactly if it is one of the entries' tokens
pub own-member : (token : Token) (entries : List Entry)
    → has_taps (sums (own token entries)) ≡ is_member token_eq (map token_of entries) token
unfolding own sums_of_replies
own-member token [] = refl
own-member token (entry ∷ entries) =
    ⊎_elim
    (λ (here : token_eq token entry.token ≡ true).
    ap (λ (b : Bool). has_taps (sums (cond b (entry ∷ own token entries) (own token entries))))
    (token_eq-sym entry.token token ∙ here)
    ∙ some-taps (length (map reply_of (own token entries)))
    ∙ ap (λ (b : Bool). b || is_member token_eq (map token_of entries) token) (sym here))
    (λ (apart : token_eq token entry.token ≡ false).
    ap (λ (b : Bool). has_taps (sums (cond b (entry ∷ own token entries) (own token entries))))
    (token_eq-sym entry.token token ∙ apart)
    ∙ own-member token entries
    ∙ ap (λ (b : Bool). b || is_member token_eq (map token_of entries) token) (sym apart))
    (cases_Bool (token_eq token entry.token))
