-- The entries of one token among entries, and what holds of each of them.
use Rattle.std.proofs.Common.{◌≡◌, true, false, List, [], ◌∷◌, ◌++◌, map, refl, sym, ap, subst, ◌∙◌}
use Rattle.std.proofs.Common.{⊎_elim}
use Rattle.fare_caps.specs.{CapMeanings.capped_rules_of, CappedReplies.capped_reply}
use Rattle.histories.proofs.OwnEntries.{own_same, own_other, own_none}
use Rattle.histories.specs.Entry.{is_of, own, tap_of, taps_of}
use Rattle.histories.specs.{History.IsLegal, History.IsReplied, declared.entry.Entry.Entry}
use Rattle.std.proofs.lemmas.{Bool.cases_Bool, Cmp.tied_itself}
use Rattle.std.specs.List.{AllByRecursion}
use Rattle.std.specs.declared.cmp.Ordering.TheVariants.{Less, Equal}
use Rattle.tap_views.proofs.TokenLemmas.{same_token, token_eq-refl, token_cmp-total}
use Rattle.tap_views.specs.Token.{bytes_of, token_cmp, token_eq}
use Rattle.tap_views.specs.declared.token.Token.{Token}
use Rattle.tariffs.specs.Fares.{Fares}

-- each of these is the token's
abbrev pub AllOf : Token → List Entry → Type 0
AllOf token entries = AllByRecursion (λ entry. entry.token ≡ token) entries

pub all_parts : {X : Type 0} (P : X → Type 0) (xs ys : List X) → AllByRecursion P (xs ++ ys)
    → AllByRecursion P xs × AllByRecursion P ys
all_parts P [] ys all = (tt, all)
all_parts P (x ∷ xs) ys all = let rest = all_parts P xs ys all.1 in ((all.0, rest.0), rest.1)

is_own : (token : Token) (entry : Entry) → entry.token ≡ token → is_of token entry ≡ true
is_own token entry is = ap (λ (t : Token). token_eq t token) is ∙ token_eq-refl token

-- entries that are all the token's
pub own_all : (token : Token) (entries : List Entry) → AllOf token entries
    → own token entries ≡ entries
own_all token [] all = own_none token
own_all token (entry ∷ entries) all =
    own_same token entry entries (is_own token entry all.0)
    ∙ ap (λ (es : List Entry). entry ∷ es) (own_all token entries all.1)

-- of the token's own entries holds what holds of all, and they are its
pub own_each : (P : Entry → Type 0) (token : Token) (entries : List Entry)
    → AllByRecursion P entries
    → AllByRecursion P (own token entries) × AllOf token (own token entries)
own_each P token [] all = rw own_none (tt, tt)
own_each P token (entry ∷ entries) all =
    let rest = own_each P token entries all.1 in
    ⊎_elim
    (λ (is : is_of token entry ≡ true). rw (own_same token entry entries is)
    ((all.0, rest.0), (same_token entry.token token is, rest.1)))
    (λ (other : is_of token entry ≡ false). rw (own_other token entry entries other) rest)
    (cases_Bool (is_of token entry))

-- a token below another is another
less_apart : (a b : Token) → token_cmp a b ≡ Less → token_eq a b ≡ false
less_apart a b less =
    ⊎_elim
    (λ (same : token_eq a b ≡ true).
    let tied : token_cmp a a ≡ Less =
    subst (λ (t : Token). token_cmp a t ≡ Less) (sym (same_token a b same)) less in
    let bad : Less ≡ Equal = sym tied ∙ tied_itself token_cmp-total a in
    absurd (cc))
    (λ (apart : token_eq a b ≡ false). apart)
    (cases_Bool (token_eq a b))

-- entries of tokens below one have none of it
pub own_below : (token : Token) (entries : List Entry)
    → AllByRecursion (λ entry. token_cmp entry.token token ≡ Less) entries → own token entries ≡ []
own_below token [] below = own_none token
own_below token (entry ∷ entries) below =
    own_other token entry entries (less_apart entry.token token below.0)
    ∙ own_below token entries below.1

-- ---- legal histories
-- a reply depends on the token's own entries before
pub replied_same : (fares : Fares) (before other : List Entry) (entry : Entry)
    → own entry.token before ≡ own entry.token other
    → IsReplied fares before entry → IsReplied fares other entry
unfolding IsReplied taps_of
replied_same fares before other entry same replied =
    replied ∙ ap
    (λ (es : List Entry). capped_reply (capped_rules_of fares (bytes_of entry.token))
    (map (tap_of fares) es)
    (tap_of fares entry)) same

-- where an entry stands in the history of which it is an own one
record Position (token : Token) (history before : List Entry) (entry : Entry) : Type 0 where
  pub front : List Entry
  pub trailing : List Entry
  pub whole : history ≡ front ++ entry ∷ trailing
  pub own_front : own token front ≡ before
  pub is : entry.token ≡ token

position_of : (token : Token) (history before : List Entry) (entry : Entry) (after : List Entry)
    → own token history ≡ before ++ entry ∷ after
    → Position token history before entry
position_of token [] [] entry after is = let bad : [] ≡ entry ∷ after = sym (own_none token) ∙ is in
    cc
position_of token [] (b ∷ before) entry after is = let bad : [] ≡ b ∷ (before ++ entry ∷ after) =
    sym (own_none token) ∙ is in cc
position_of token (e ∷ history) before entry after is =
    ⊎_elim
    (λ (here : is_of token e ≡ true). at before (sym (own_same token e history here) ∙ is)
    (same_token e.token token here)
    (λ b same. position_of token history b entry after same))
    (λ (other : is_of token e ≡ false).
    let position = position_of token history before entry after
    (sym (own_other token e history other) ∙ is) in
    record {
      front = e ∷ position.front;
      trailing = position.trailing;
      whole = ap (λ (es : List Entry). e ∷ es) position.whole;
      own_front = own_other token e position.front other ∙ position.own_front;
      is = position.is;
    })
    (cases_Bool (is_of token e))
  where
    at : (before : List Entry) → e ∷ own token history ≡ before ++ entry ∷ after → e.token ≡ token
        → ((b : List Entry) → own token history ≡ b ++ entry ∷ after
        → Position token history b entry)
        → Position token (e ∷ history) before entry
    at [] same of further =
        let first : e ≡ entry = cc in
        record {
          front = [];
          trailing = history;
          whole = ap (λ (x : Entry). x ∷ history) first;
          own_front = own_none token;
          is = subst (λ (x : Entry). x.token ≡ token) first of;
        }
    at (b ∷ before) same of further =
        let first : e ≡ b = cc in
        let rest : own token history ≡ before ++ entry ∷ after = cc in
        let position = further before rest in
        record {
          front = e ∷ position.front;
          trailing = position.trailing;
          whole = ap (λ (es : List Entry). e ∷ es) position.whole;
          own_front = own_same token e position.front (is_own token e of)
              ∙ ap (λ (es : List Entry). e ∷ es) position.own_front
              ∙ ap (λ (x : Entry). x ∷ before) first;
          is = position.is;
        }

front_of : (token : Token) (before more whole : List Entry) → whole ≡ before ++ more
    → AllOf token whole → AllOf token before
front_of token before more whole is all =
    (all_parts (λ (e : Entry). e.token ≡ token) before more (subst (AllOf token) is all)).0

none_is : (entries : List Entry) → AllByRecursion (λ entry. entry ≡ entry) entries
none_is [] = tt
none_is (e ∷ entries) = (refl, none_is entries)

pub own_is_legal : (fares : Fares) (history : List Entry) (token : Token) → IsLegal fares history
    → IsLegal fares (own token history)
own_is_legal fares history token legal = record {
  each = λ before entry after is.
      let position = position_of token history before entry after is in
      let all = (own_each (λ (e : Entry). e ≡ e) token history (none_is history)).1 in
      let owned : own token before ≡ before =
      own_all token before (front_of token before (entry ∷ after) (own token history) is all) in
      let same : own token position.front ≡ own token before = position.own_front ∙ sym owned in
      replied_same fares position.front before entry
      (subst (λ (t : Token). own t position.front ≡ own t before) (sym position.is) same)
      (legal.each position.front entry position.trailing position.whole);
}
