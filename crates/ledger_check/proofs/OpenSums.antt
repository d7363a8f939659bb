-- Sums to which entries are added one by one.
use Rattle.std.proofs.Common.{◌≡◌, ◌<◌, ◌≤◌, List, [], ◌∷◌, ◌++◌, length, map, All, sym, ap, subst}
use Rattle.std.proofs.Common.{◌∙◌, arith, append-nil, append_assoc, length-append, suc}
use Rattle.histories.proofs.SumsByToken.{by_token_joined, no_sums, one_token_list, below_same}
use Rattle.histories.proofs.SumsLemmas.{sums-append, sums-taps}
use Rattle.histories.specs.{Entry.reply_of, Sums.Sums, Sums.add_sums, Sums.sums_of_replies}
use Rattle.histories.specs.{SumsByKey.sums_by_token, SumsByKey.token_of, TalliesByKey.AreTallied}
use Rattle.histories.specs.{Tally.sums_of_tally, declared.entry.Entry.Entry}
use Rattle.ledger_check.proofs.TokenOrder.{greater_number}
use Rattle.ledger_check.specs.{Ledger.token_number, OpenSums.AreOpenSums, OpenSums.IsRunOf}
use Rattle.ledger_check.specs.{OpenSums.IsSplitAt, declared.open_sums.OpenSums.OpenSums}
use Rattle.ledger_check.specs.{declared.open_sums.OpenToken.OpenToken, inside.OpenSums.AreUpTo}
use Rattle.std.proofs.lemmas.List.Elements.{All-append, All-cons, All-head, All-map, All-nil}
use Rattle.std.proofs.lemmas.List.Elements.{All-weaker}
use Rattle.std.specs.Prelude.{Option, Some}
use Rattle.std.specs.declared.cmp.Ordering.TheVariants.{Less, Greater}
use Rattle.tap_views.proofs.TokenLemmas.{token_cmp-total}
use Rattle.tap_views.specs.Token.{Fits, token_cmp}
use Rattle.tap_views.specs.{TokenOrder.AreBelow, declared.token.Token.Token}

-- no entries, and none of the token
pub run_of_none : (entries : List Entry) (tokens : List (Token × Sums)) (held : OpenToken)
    → Fits held.token → sums_of_tally held.tally ≡ sums_of_replies [] → entries ≡ [] → tokens ≡ []
    → IsRunOf entries tokens held
run_of_none entries tokens held fits tally none empty = record {
  lower = [];
  run = [];
  both = none;
  fits = fits;
  below = All-nil (λ (e : Entry). token_cmp e.token held.token ≡ Less);
  its = All-nil (λ (e : Entry). e.token ≡ held.token);
  tally = tally;
  tokens_are = no_sums tokens empty;
}

-- the tokens of entries that are below one, as a list
as_below : (token : Token) (entries : List Entry)
    → All (λ (e : Entry). token_cmp e.token token ≡ Less) entries
    → AreBelow (map token_of entries) (token ∷ [])
as_below token entries below =
    All-map (λ (t : Token). All (λ (o : Token). token_cmp t o ≡ Less) (token ∷ [])) token_of entries
    (All-weaker (λ (e : Entry). token_cmp e.token token ≡ Less)
    (λ (e : Entry). All (λ (o : Token). token_cmp e.token o ≡ Less) (token ∷ []))
    (λ e less. All-cons (λ (o : Token). token_cmp e.token o ≡ Less) token [] less
    (All-nil (λ (o : Token). token_cmp e.token o ≡ Less))) entries below)

-- the sums by token, with those of the last
pub closed : (entries : List Entry) (tokens : List (Token × Sums)) (held : OpenToken)
    (is : IsRunOf entries tokens held) → 0 < length is.run
    → tokens ++ (held.token, sums_of_tally held.tally) ∷ [] ≡ sums_by_token entries
closed entries tokens held is some =
    let below : AreBelow (map token_of is.lower) (map token_of is.run) =
    below_same (map token_of is.lower) held.token is.run (as_below held.token is.lower is.below)
    is.its in
    ap (λ (ts : List (Token × Sums)). ts ++ (held.token, sums_of_tally held.tally) ∷ [])
    is.tokens_are
    ∙ ap (λ (s : Sums). sums_by_token is.lower ++ (held.token, s) ∷ []) is.tally
    ∙ ap (λ (ts : List (Token × Sums)). sums_by_token is.lower ++ ts)
    (sym (one_token_list held.token is.run some is.its))
    ∙ sym (by_token_joined is.lower is.run below)
    ∙ ap sums_by_token (sym is.both)

-- all entries are below a higher token
all_below : (entries : List Entry) (tokens : List (Token × Sums)) (held : OpenToken)
    (is : IsRunOf entries tokens held) (next : Token) → token_cmp held.token next ≡ Less
    → All (λ (e : Entry). token_cmp e.token next ≡ Less) entries
all_below entries tokens held is next less =
    let P : Entry → Type 0 = λ e. token_cmp e.token next ≡ Less in
    subst (λ (es : List Entry). All P es) (sym is.both)
    (All-append P is.lower is.run
    (All-weaker (λ (e : Entry). token_cmp e.token held.token ≡ Less) P
    (λ e low. token_cmp-total.trans e.token held.token next low less) is.lower is.below)
    (All-weaker (λ (e : Entry). e.token ≡ held.token) P
    (λ e same. ap (λ (t : Token). token_cmp t next) same ∙ less) is.run is.its))

-- a run that a higher token follows, of which no entry was added yet
pub run_of_next : (entries : List Entry) (tokens tokens' : List (Token × Sums))
    (last held : OpenToken)
    (is : IsRunOf entries tokens last) → 0 < length is.run → token_cmp last.token held.token ≡ Less
    → Fits held.token → sums_of_tally held.tally ≡ sums_of_replies []
    → tokens' ≡ tokens ++ (last.token, sums_of_tally last.tally) ∷ [] → IsRunOf entries tokens' held
run_of_next entries tokens tokens' last held is some less fits tally pushed = record {
  lower = entries;
  run = [];
  both = sym (append-nil entries);
  fits = fits;
  below = all_below entries tokens last is held.token less;
  its = All-nil (λ (e : Entry). e.token ≡ held.token);
  tally = tally;
  tokens_are = pushed ∙ closed entries tokens last is some;
}

-- no token is below the last
pub below_last : (entries : List Entry) (tokens : List (Token × Sums)) (last : OpenToken)
    (token : Token)
    (is : IsRunOf entries tokens last) → 0 < length is.run → Fits token
    → token_cmp last.token token ≡ Greater → AreUpTo token entries → ⊥
below_last entries tokens last token is some fits greater all =
    let P : Entry → Type 0 = λ e. token_number e.token ≤ token_number token in
    let whole : All P (is.lower ++ is.run) = subst (λ (es : List Entry). All P es) is.both all in
    let above = greater_number last.token token is.fits fits greater in
    none is.run some is.its (trailing is.lower is.run whole) above
  where
    trailing : (xs ys : List Entry)
        → All (λ (e : Entry). token_number e.token ≤ token_number token) (xs ++ ys)
        → All (λ (e : Entry). token_number e.token ≤ token_number token) ys
    trailing [] ys all = all
    trailing (x ∷ xs) ys all = trailing xs ys (λ k d within. all (suc k) d (omega arith))

    none : (run : List Entry) → 0 < length run → All (λ (e : Entry). e.token ≡ last.token) run
        → All (λ (e : Entry). token_number e.token ≤ token_number token) run
        → token_number token < token_number last.token → ⊥
    none [] some its all above = omega (arith, some)
    none (e ∷ run) some its all above =
        let here : token_number e.token ≤ token_number token =
        All-head (λ (x : Entry). token_number x.token ≤ token_number token) e run all in
        let same : token_number e.token ≡ token_number last.token =
        ap (λ (t : Token). token_number t)
        (All-head (λ (x : Entry). x.token ≡ last.token) e run its) in
        omega (arith, here, same, above)

-- an entry more of the held token
pub run_more : (entries : List Entry) (tokens : List (Token × Sums)) (held after : OpenToken)
    (entry : Entry)
    → IsRunOf entries tokens held → entry.token ≡ held.token → after.token ≡ held.token
    → sums_of_tally after.tally
    ≡ add_sums (sums_of_tally held.tally) (sums_of_replies (reply_of entry ∷ []))
    → (is : IsRunOf (entries ++ entry ∷ []) tokens after) × (0 < length is.run)
run_more entries tokens held after entry is its same tally =
    let P : Entry → Type 0 = λ e. e.token ≡ after.token in
    let long = length-append is.run (entry ∷ []) in (
      record {
        lower = is.lower;
        run = is.run ++ entry ∷ [];
        both = ap (λ (es : List Entry). es ++ entry ∷ []) is.both
            ∙ append_assoc is.lower is.run (entry ∷ []);
        fits = subst Fits (sym same) is.fits;
        below = subst (λ (t : Token). All (λ (e : Entry). token_cmp e.token t ≡ Less) is.lower)
            (sym same) is.below;
        its = All-append P is.run (entry ∷ [])
            (subst (λ (t : Token). All (λ (x : Entry). x.token ≡ t) is.run) (sym same) is.its)
            (All-cons P entry [] (its ∙ sym same) (All-nil P));
        tally = tally
            ∙ ap (λ (s : Sums). add_sums s (sums_of_replies (reply_of entry ∷ []))) is.tally
            ∙ sym (sums-append is.run (entry ∷ []));
        tokens_are = is.tokens_are;
      },
      omega (arith, long),
    )

-- no more entries are in the run than there are
pub run_few : (entries : List Entry) (tokens : List (Token × Sums)) (held : OpenToken)
    (is : IsRunOf entries tokens held) → (sums_of_tally held.tally).taps ≤ length entries
run_few entries tokens held is =
    let taps = ap (λ (s : Sums). s.taps) is.tally ∙ sums-taps is.run in
    let both = ap (λ (es : List Entry). length es) is.both ∙ length-append is.lower is.run in
    omega (arith, taps, both)

-- an entry more in all sums
pub entry_added : (entries : List Entry) (old new : OpenSums) (held after : OpenToken)
    (entry : Entry)
    → AreOpenSums entries old → IsRunOf entries new.tokens held → held.token ≡ entry.token
    → new.last ≡ Some after → after.token ≡ held.token
    → sums_of_tally after.tally
    ≡ add_sums (sums_of_tally held.tally) (sums_of_replies (reply_of entry ∷ []))
    → AreTallied (entries ++ entry ∷ []) new.validators
    → sums_of_tally new.totals
    ≡ add_sums (sums_of_tally old.totals) (sums_of_replies (reply_of entry ∷ []))
    → AreOpenSums (entries ++ entry ∷ []) new
entry_added entries old new held after entry are run same last kept tally validators totals =
    record {
      split = subst (λ (l : Option OpenToken). IsSplitAt (entries ++ entry ∷ []) new.tokens l)
          (sym last)
          (run_more entries new.tokens held after entry run (sym same) kept tally);
      validators = validators;
      totals = totals
          ∙ ap (λ (s : Sums). add_sums s (sums_of_replies (reply_of entry ∷ []))) are.totals
          ∙ sym (sums-append entries (entry ∷ []));
    }

-- as many taps in all as entries
pub all_few : (entries : List Entry) (held : OpenSums) → AreOpenSums entries held
    → (sums_of_tally held.totals).taps ≡ length entries
all_few entries held are = ap (λ (s : Sums). s.taps) are.totals ∙ sums-taps entries

-- the sums of the tokens of no entries
pub none_closed : (entries : List Entry) (tokens : List (Token × Sums)) → entries ≡ [] → tokens ≡ []
    → tokens ≡ sums_by_token entries
none_closed entries tokens none empty = no_sums tokens empty ∙ ap sums_by_token (sym none)
