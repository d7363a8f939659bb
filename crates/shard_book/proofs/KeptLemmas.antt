-- Accounts that stand for a history.
use Rattle.std.proofs.Common.{◌≡◌, Bool, true, false, cond, List, [], ◌∷◌, ◌++◌, sym, subst, ⊎_elim}
use Rattle.account_rule.specs.declared.tap.TapIn.{TapIn}
use Rattle.histories.proofs.Histories.{taps-push}
use Rattle.histories.specs.{Entry.tap_of, Entry.taps_of, declared.entry.Entry.Entry}
use Rattle.shard_book.specs.declared.accounts.Accounts.{Accounts}
use Rattle.shard_book.specs.inside.{Accounts.HasKept, Accounts.StaysKept, Sound.AreKept}
use Rattle.std.proofs.lemmas.Bool.{cases_Bool}
use Rattle.tap_views.proofs.TokenLemmas.{same_token}
use Rattle.tap_views.specs.{Token.token_eq, declared.token.Token.Token}
use Rattle.tariffs.specs.Fares.{Fares}

-- the accounts stand for the history with one entry more, if its token's account does and the
-- others stayed
pub kept-push : (table : Fares) (accounts after : Accounts) (entries : List Entry) (entry : Entry)
    → AreKept table accounts entries
    → HasKept table after entry.token (taps_of table entry.token entries ++ tap_of table entry ∷ [])
    → ((other : Token) → token_eq entry.token other ≡ false → StaysKept accounts after other)
    → AreKept table after (entries ++ entry ∷ [])
unfolding AreKept
kept-push table accounts after entries entry kept own_kept others = λ token.
    subst (λ (taps : List TapIn). HasKept table after token taps)
    (sym (taps-push table token entries entry))
    (⊎_elim
    (λ (same : token_eq entry.token token ≡ true).
    let is : entry.token ≡ token = same_token entry.token token same in
    subst (λ (b : Bool). HasKept table after token
    (cond b (taps_of table token entries ++ tap_of table entry ∷ []) (taps_of table token entries)))
    (sym same)
    (subst (λ (t : Token). HasKept table after t
    (taps_of table t entries ++ tap_of table entry ∷ [])) is own_kept))
    (λ (apart : token_eq entry.token token ≡ false).
    let stays = others token apart in
    subst (λ (b : Bool). HasKept table after token
    (cond b (taps_of table token entries ++ tap_of table entry ∷ []) (taps_of table token entries)))
    (sym apart)
    (rw (stays.kept, stays.further) (kept token)))
    (cases_Bool (token_eq entry.token token)))
