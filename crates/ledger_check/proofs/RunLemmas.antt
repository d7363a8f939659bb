-- The entries of the last token, and the entries of all.
use Rattle.std.proofs.Common.{◌≡◌, ℕ, ◌<◌, ◌≤◌, ◌⊎◌, inl, inr, ⊎_elim, Bool, true, false, cond}
use Rattle.std.proofs.Common.{List, [], ◌∷◌, ◌++◌, length, get_or, filter, All, refl, sym, ap}
use Rattle.std.proofs.Common.{subst, ◌∙◌, arith, zero, suc, length-append, le_of_eq}
use Rattle.fare_texts.specs.Explainers.{next_entry}
use Rattle.histories.proofs.OwnEntries.{own_all}
use Rattle.histories.specs.Entry.{is_of, own, reply_of, tap_of, taps_of}
use Rattle.histories.specs.{History.IsReplied, declared.entry.Entry.Entry}
use Rattle.ledger_check.proofs.TokenOrder.{own-above, own-more}
use Rattle.ledger_check.specs.{FullChecks.decreases_after, Ledger.token_number}
use Rattle.std.proofs.lemmas.Bool.{cases_lt, Decides.nat_tests}
use Rattle.std.proofs.lemmas.List.Elements.{All-filter, All-push}
use Rattle.std.specs.Prelude.{nat_lt}
use Rattle.tap_views.proofs.TokenLemmas.{same_token}
use Rattle.tap_views.specs.{Token.Fits, declared.token.Token.Token}
use Rattle.tariffs.specs.Fares.{Fares}

-- a token's entries are the token's
pub own-of : (token : Token) (entries : List Entry)
    → All (λ entry. entry.token ≡ token) (own token entries)
unfolding own
own-of token [] = λ k d within. absurd (omega arith)
own-of token (e ∷ entries) = by_test (is_of token e) refl (own-of token entries)
  where
    by_test : (b : Bool) → is_of token e ≡ b
        → All (λ entry. entry.token ≡ token) (filter (is_of token) entries)
        → All (λ entry. entry.token ≡ token)
        (cond b (e ∷ filter (is_of token) entries) (filter (is_of token) entries))
    by_test true same rest = λ k d within. at k d within
      where
        at : (k : ℕ) (d : Entry) → k < length (e ∷ filter (is_of token) entries)
            → (get_or (e ∷ filter (is_of token) entries) k d).token ≡ token
        at zero d within = same_token e.token token same
        at (suc k) d within = rest k d (omega arith)
    by_test false apart rest = rest

-- the entries of the last token, which are those of the run, if no token falls
pub record LastRun (run entries : List Entry) : Type 0 where
  pub last : Token
  pub fits : Fits last
  pub all : All (λ entry. entry.token ≡ last) run
  pub some : 0 < length run
  pub owned : own last entries ≡ run
  pub up_to : All (λ entry. token_number entry.token ≤ token_number last) entries

abbrev pub State : List Entry → List Entry → Type 0
State run entries = ((run ≡ []) × (entries ≡ [])) ⊎ LastRun run entries

pub decreases_is : (run : List Entry) (last token : Token) → All (λ entry. entry.token ≡ last) run
    → 0 < length run
    → decreases_after run token ≡ nat_lt (token_number token) (token_number last)
decreases_is [] last token all some = absurd (omega (arith, some))
decreases_is (e ∷ run) last token all some =
    ap (λ (t : Token). nat_lt (token_number token) (token_number t)) (all 0 e (omega arith))

number_exact : (a b : Token) → Fits a → Fits b → token_number a ≡ token_number b → a ≡ b
number_exact a b fits_a fits_b same =
    let high : a.high ≡ b.high = grind (arith, nat_tests) in
    let low : a.low ≡ b.low = grind (arith, nat_tests) in
    λ i. record { high = high i; low = low i }

up_run : (run : List Entry) (last : Token) → All (λ entry. entry.token ≡ last) run
    → All (λ entry. token_number entry.token ≤ token_number last) run
up_run run last all = λ k d within. le_of_eq (ap (λ (t : Token). token_number t) (all k d within))

-- if a token does not fall, its entries of the run are all its entries
pub record Unfallen (run entries : List Entry) (token : Token) : Type 0 where
  pub same : own token run ≡ own token entries
  pub up_to : All (λ entry. token_number entry.token ≤ token_number token) entries

pub unfallen : (run entries : List Entry) (token : Token) → State run entries → Fits token
    → decreases_after run token ≡ false → Unfallen run entries token
unfallen run entries token (inl (no_run, none)) fits up = record {
  same = ap (own token) (no_run ∙ sym none);
  up_to = λ k d within. absurd (omega (arith, within, ap (λ (es : List Entry). length es) none));
}
unfallen run entries token (inr last) fits up =
    let not_less : nat_lt (token_number token) (token_number last.last) ≡ false =
    sym (decreases_is run last.last token last.all last.some) ∙ up in
    ⊎_elim
    (λ (less : token_number last.last < token_number token). record {
      same = own-above token run (token_number last.last) (up_run run last.last last.all) less
          ∙ sym (own-above token entries (token_number last.last) last.up_to less);
      up_to = λ k d within. let at = last.up_to k d within in omega (arith, at, less);
    })
    (λ (least : token_number token ≤ token_number last.last).
    let most : token_number last.last ≤ token_number token = grind (arith, nat_tests) in
    let is : last.last ≡ token =
    number_exact last.last token last.fits fits (omega (arith, least, most)) in
    record {
      same = subst (λ (t : Token). own t run ≡ own t entries) is
          (own_all last.last run last.all ∙ sym last.owned);
      up_to = λ k d within. let at = last.up_to k d within in omega (arith, at, most);
    })
    (cases_lt (token_number last.last) (token_number token))

own_still : (token : Token) (entries : List Entry) (other : Token)
    → All (λ entry. token_number entry.token ≤ token_number other) entries
    → All (λ entry. token_number entry.token ≤ token_number other) (own token entries)
unfolding own
own_still token entries other all =
    All-filter (is_of token) (λ (e : Entry). token_number e.token ≤ token_number other) entries all

-- if no entry's token is greater, the token does not fall
pub nondecreasing : (run entries : List Entry) (token : Token) → State run entries
    → All (λ entry. token_number entry.token ≤ token_number token) entries
    → decreases_after run token ≡ false
nondecreasing run entries token (inl (no_run, none)) up_to =
    ap (λ (es : List Entry). decreases_after es token) no_run
nondecreasing run entries token (inr last) up_to =
    decreases_is run last.last token last.all last.some
    ∙ by_test (nat_lt (token_number token) (token_number last.last)) refl
  where
    own_up_to : All (λ entry. token_number entry.token ≤ token_number token) (own last.last entries)
        → token_number last.last ≤ token_number token
    own_up_to all = ends run last.all last.some
        (subst (λ (es : List Entry). All (λ (e : Entry). token_number e.token ≤ token_number token)
        es) last.owned all)
      where
        ends : (es : List Entry) → All (λ entry. entry.token ≡ last.last) es → 0 < length es
            → All (λ entry. token_number entry.token ≤ token_number token) es
            → token_number last.last ≤ token_number token
        ends [] of some up = absurd (omega (arith, some))
        ends (e ∷ es) of some up = let is : e.token ≡ last.last = of 0 e (omega arith) in
            subst (λ (t : Token). token_number t ≤ token_number token) is (up 0 e (omega arith))

    by_test : (b : Bool) → nat_lt (token_number token) (token_number last.last) ≡ b
        → nat_lt (token_number token) (token_number last.last) ≡ false
    by_test true less =
        let least = own_up_to (own_still last.last entries token up_to) in
        absurd (grind (arith, nat_tests))
    by_test false up = up

-- one entry more, whose token does not fall
pub state_push : (run entries : List Entry) (entry : Entry) → State run entries → Fits entry.token
    → decreases_after run entry.token ≡ false
    → State (own entry.token run ++ entry ∷ []) (entries ++ entry ∷ [])
state_push run entries entry state fits up =
    let token = entry.token in
    let is = unfallen run entries token state fits up in
    let size = length-append (own token run) (entry ∷ []) in
    inr (record {
      last = token;
      fits = fits;
      all = All-push (λ (e : Entry). e.token ≡ token) (own token run) entry (own-of token run) refl;
      some = omega (arith, size);
      owned = own-more token entries entry refl
          ∙ ap (λ (es : List Entry). es ++ entry ∷ []) (sym is.same);
      up_to = All-push (λ (e : Entry). token_number e.token ≤ token_number token) entries entry
          is.up_to (le_of_eq refl);
    })

-- the entry that the rules give a tap has the rule's reply
pub ruled_replied : (fares : Fares) (entries : List Entry) (entry : Entry)
    → entry ≡ next_entry fares entry.token (own entry.token entries) entry.validator entry.moment
    → IsReplied fares entries entry
unfolding IsReplied taps_of tap_of
ruled_replied fares entries entry is = ap reply_of is
