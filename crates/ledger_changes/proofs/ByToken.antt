-- The sums of each token: corrections in order are cut where the token changes.
use Rattle.std.proofs.Common.{◌≡◌, ◌+◌, ℕ, suc, List, [], ◌∷◌, ◌++◌, Some, Bool, true, false, cond}
use Rattle.std.proofs.Common.{refl, sym, ap, subst, ◌∙◌, arith, length, length-append, append_assoc}
use Rattle.std.proofs.Common.{append-nil, filter}
use Rattle.ledger_changes.proofs.Keys.{tied}
use Rattle.ledger_changes.specs.Changes.{AreCorrections, Pair, is_changed}
use Rattle.ledger_changes.specs.Rows.{AreInOrder, is_same_text, text_cmp}
use Rattle.ledger_changes.specs.{Texts.cents_of, Texts.is_removed, Tokens.Sums, Tokens.is_added}
use Rattle.ledger_changes.specs.Tokens.{is_kept, is_of_token, of_token, sums_of, token_line}
use Rattle.ledger_changes.specs.Tokens.{tokens_lines, TokenSum, add_changes, add_sums, all_lines}
use Rattle.ledger_changes.specs.Tokens.{last_sums, HasTokens, lines_of_changes, no_sums, sums_line}
use Rattle.ledger_fields.specs.Rows.{Row}
use Rattle.std.proofs.lemmas.Cmp.{tied_itself}
use Rattle.std.proofs.lemmas.List.Elements.{All-filter, All-from_recursion, filter-append}
use Rattle.std.proofs.lemmas.List.{Elements.recursion_from_All, Sorted.ranks_by, Sums.sum_by-append}
use Rattle.std.specs.Cmp.{IsTotalOrder, Lexicographic.on_texts}
use Rattle.std.specs.List.{AllByRecursion, Sorted.IsStrictlySortedBy}
use Rattle.std.specs.Ordering.{is_eq, is_lt, ordering_reverse}
use Rattle.std.specs.{Prelude.⊤, Prelude.Contains, declared.cmp.Ordering.Ordering}
use Rattle.std.specs.declared.cmp.Ordering.TheVariants.{Less, Equal, Greater}
use Rattle.tap_views.proofs.Lists.{each-append, each-weaker}
use Rattle.tap_views.proofs.Orderings.{first_not_less, less_of}

-- ---- tokens
text_total : IsTotalOrder text_cmp
text_total = on_texts (λ (text : List ℕ). text)

same_self : (t : List ℕ) → is_same_text t t ≡ true
same_self t = ap is_eq (tied_itself text_total t)

pub same_is : (t x : List ℕ) → t ≡ x → is_same_text t x ≡ true
same_is t x is = subst (λ (y : List ℕ). is_same_text t y ≡ true) is (same_self t)

less_same : (a b : List ℕ) → text_cmp a b ≡ Less → is_same_text a b ≡ false
less_same a b less = ap is_eq less

pub more_same : (a b : List ℕ) → text_cmp a b ≡ Less → is_same_text b a ≡ false
more_same a b less = ap is_eq (text_total.antisymm b a ∙ ap ordering_reverse less)

-- the token of the later correction is not below the token
abbrev pub NotBelow : List ℕ → Pair → Type 0
NotBelow t later = is_lt (text_cmp later.key.token t) ≡ false

abbrev pub Above : List ℕ → Pair → Type 0
Above t later = text_cmp t later.key.token ≡ Less

above_of : (t x : List ℕ) → is_lt (text_cmp x t) ≡ false → is_same_text t x ≡ false
    → text_cmp t x ≡ Less
above_of t x not other = by_order (text_cmp x t) refl not
  where
    by_order : (r : Ordering) → text_cmp x t ≡ r → is_lt r ≡ false → text_cmp t x ≡ Less
    by_order Less is not = absurd (let h : true ≡ false = not in cc)
    by_order Equal is not =
        absurd (let h : true ≡ false =
        sym (ap is_eq (text_total.antisymm t x ∙ ap ordering_reverse is)) ∙ other in cc)
    by_order Greater is not = text_total.antisymm t x ∙ ap ordering_reverse is

-- below a token, and not above another: below that
below_up : (a b x : List ℕ) → text_cmp a b ≡ Less → is_lt (text_cmp x b) ≡ false
    → text_cmp a x ≡ Less
below_up a b x less not = by (is_lt (text_cmp a x)) refl
  where
    by : (r : Bool) → is_lt (text_cmp a x) ≡ r → text_cmp a x ≡ Less
    by true is = less_of (text_cmp a x) is
    by false is =
        absurd (let h : true ≡ false = sym (ap is_lt less)
        ∙ (ranks_by text_total (λ (text : List ℕ). text)).chain a x b is not in cc)

-- ---- corrections in order
abbrev pub Ascends : List Pair → Type 0
Ascends [] = ⊤
Ascends (change ∷ changes) = AllByRecursion (NotBelow change.key.token) changes × Ascends changes

increases : (changes : List Pair) → AreInOrder (λ change. change.key) changes
    → Ascends (filter is_changed changes)
increases [] up = tt
increases (change ∷ changes) up = by_test (is_changed change) (increases changes up.1)
  where
    below : Pair → Type 0
    below = NotBelow change.key.token

    kept : AllByRecursion below (filter is_changed changes)
    kept = recursion_from_All below (filter is_changed changes)
        (All-filter is_changed below changes (All-from_recursion below changes
        (each-weaker _ below changes (λ later not. first_not_less _ _ not) up.0)))

    by_test : (b : Bool) → Ascends (filter is_changed changes)
        → Ascends (cond b (change ∷ filter is_changed changes) (filter is_changed changes))
    by_test true more = (kept, more)
    by_test false more = more

pub corrections_ascend : (old new : List Row) (changes : List Pair) → AreCorrections old new changes
    → Ascends changes
corrections_ascend old new changes are =
    subst Ascends (sym are.listed) (increases are.pairs are.beside.sorted)

-- ---- sums
count_append : (p : Pair → Bool) (xs ys : List Pair)
    → length (filter p xs) + length (filter p ys) ≡ length (filter p (xs ++ ys))
count_append p xs ys =
    sym (ap length (filter-append p xs ys) ∙ length-append (filter p xs) (filter p ys))

sums_add : (xs ys : List Pair) → add_sums (sums_of xs) (sums_of ys) ≡ sums_of (xs ++ ys)
sums_add xs ys =
    let added = count_append is_added xs ys in
    let removed = count_append is_removed xs ys in
    let changed = count_append is_kept xs ys in
    let before = sym (sum_by-append (λ (change : Pair). cents_of change.before) xs ys) in
    let after = sym (sum_by-append (λ (change : Pair). cents_of change.after) xs ys) in
    λ i. record {
      added = added i;
      removed = removed i;
      changed = changed i;
      before = before i;
      after = after i;
    }

abbrev pub sum_with : List ℕ → List Pair → TokenSum
sum_with t changes = record { token = t; sums = sums_of changes }

-- ---- the corrections of a token among all
none_above : (t : List ℕ) (changes : List Pair) → AllByRecursion (Above t) changes
    → of_token t changes ≡ []
none_above t [] all = refl
none_above t (change ∷ changes) all =
    rw (less_same t change.key.token all.0) (none_above t changes all.1)

all_of : (t : List ℕ) (run : List Pair) → AllByRecursion (λ change. t ≡ change.key.token) run
    → of_token t run ≡ run
all_of t [] all = refl
all_of t (change ∷ run) all =
    rw (same_is t change.key.token all.0, all_of t run all.1)

none_of_run : (s t : List ℕ) (run : List Pair) → text_cmp t s ≡ Less
    → AllByRecursion (λ change. t ≡ change.key.token) run → of_token s run ≡ []
none_of_run s t [] less all = refl
none_of_run s t (change ∷ run) less all =
    rw (subst (λ (x : List ℕ). is_same_text s x ≡ false) all.0 (more_same t s less))
    (none_of_run s t run less all.1)

-- behind a run of a lower token a token has the corrections that it has without the run
past_run : (s t : List ℕ) (run rest : List Pair) → text_cmp t s ≡ Less
    → AllByRecursion (λ change. t ≡ change.key.token) run
    → of_token s rest ≡ of_token s (run ++ rest)
past_run s t run rest less all =
    rw (filter-append (is_of_token s) run rest, none_of_run s t run less all)

run_only : (t : List ℕ) (run rest : List Pair)
    → AllByRecursion (λ change. t ≡ change.key.token) run → AllByRecursion (Above t) rest
    → of_token t (run ++ rest) ≡ run
run_only t run rest all above =
    rw (filter-append (is_of_token t) run rest, all_of t run all, none_above t rest above)
    (append-nil run)

-- ---- lists of tokens
here : (t : List ℕ) (tokens : List (List ℕ)) → Contains (t ∷ tokens) t
here t tokens = (0, omega arith, refl)

there : (t x : List ℕ) (tokens : List (List ℕ)) → Contains tokens x → Contains (t ∷ tokens) x
there t x tokens is = (suc is.0, omega (arith, is.1), is.2)

abbrev pub Listed : List (List ℕ) → Pair → Type 0
Listed tokens change = Contains tokens change.key.token

listed_run : (t : List ℕ) (tokens : List (List ℕ)) (run : List Pair)
    → AllByRecursion (λ change. t ≡ change.key.token) run → AllByRecursion (Listed (t ∷ tokens)) run
listed_run t tokens run all =
    each-weaker _ _ run (λ change is. subst (Contains (t ∷ tokens)) is (here t tokens)) all

tokens_above : (t s : List ℕ) (tokens : List (List ℕ)) → text_cmp t s ≡ Less
    → AllByRecursion (λ later. text_cmp s later ≡ Less) tokens
    → AllByRecursion (λ later. text_cmp t later ≡ Less) tokens
tokens_above t s tokens less all =
    each-weaker _ _ tokens (λ later above. text_total.trans t s later less above) all

abbrev pub Has : List Pair → List ℕ → Type 0
Has changes token = ¬ (of_token token changes ≡ [])

-- behind a run of a lower token these tokens have the lines that they have without the run
lines_past : (t : List ℕ) (run rest : List Pair)
    → AllByRecursion (λ change. t ≡ change.key.token) run → (tokens : List (List ℕ))
    → AllByRecursion (λ later. text_cmp t later ≡ Less) tokens
    → tokens_lines rest tokens ≡ tokens_lines (run ++ rest) tokens
lines_past t run rest all [] above = refl
lines_past t run rest all (s ∷ tokens) above =
    rw (← (past_run s t run rest above.0 all), lines_past t run rest all tokens above.1)

has_past : (t : List ℕ) (run rest : List Pair)
    → AllByRecursion (λ change. t ≡ change.key.token) run → (tokens : List (List ℕ))
    → AllByRecursion (λ later. text_cmp t later ≡ Less) tokens
    → AllByRecursion (Has rest) tokens → AllByRecursion (Has (run ++ rest)) tokens
has_past t run rest all [] above has = tt
has_past t run rest all (s ∷ tokens) above has = (
  λ none. has.0 (past_run s t run rest above.0 all ∙ none),
  has_past t run rest all tokens above.1 has.1,
)

-- ---- from a run of a token on
pub record IsCut (t : List ℕ) (changes : List Pair) (text : List ℕ) : Type 0 where
  pub more : List (List ℕ)
  pub above : AllByRecursion (λ later. text_cmp t later ≡ Less) more
  pub increasing : IsStrictlySortedBy text_cmp more
  pub some : AllByRecursion (Has changes) (t ∷ more)
  pub all : AllByRecursion (Listed (t ∷ more)) changes
  pub shown : text ≡ tokens_lines changes (t ∷ more)

not_nil : (change : Pair) (changes : List Pair) → change ∷ changes ≡ [] → ⊥
not_nil change changes e = cc

-- the text from these open sums on
abbrev pub text_from : TokenSum → List Pair → List ℕ
text_from sum rest =
    lines_of_changes true (Some sum) rest ++ sums_line (last_sums true (Some sum) rest)

cut_last : (t : List ℕ) (run : List Pair) → AllByRecursion (λ change. t ≡ change.key.token) run
    → ¬ (run ≡ []) → IsCut t run (token_line t (sums_of run))
unfolding IsStrictlySortedBy
cut_last t run all some = record {
  more = [];
  above = tt;
  increasing = tt;
  some = (λ none. some (sym (all_of t run all) ∙ none), tt);
  all = listed_run t [] run all;
  shown = ap (λ (some : List Pair). token_line t (sums_of some)) (sym (all_of t run all))
      ∙ sym (append-nil (token_line t (sums_of (of_token t run))));
}

-- a run, and what follows from the run of a higher token on
cut_more : (t : List ℕ) (run rest : List Pair) (s text : List ℕ)
    → AllByRecursion (λ change. t ≡ change.key.token) run → ¬ (run ≡ [])
    → text_cmp t s ≡ Less → AllByRecursion (Above t) rest → IsCut s rest text
    → IsCut t (run ++ rest) (token_line t (sums_of run) ++ text)
unfolding IsStrictlySortedBy
cut_more t run rest s text all some less above cut =
    let tokens = s ∷ cut.more in
    let higher : AllByRecursion (λ later. text_cmp t later ≡ Less) tokens =
    (less, tokens_above t s cut.more less cut.above) in
    let mine = run_only t run rest all above in
    record {
      more = tokens;
      above = higher;
      increasing = (cut.above, cut.increasing);
      some = (λ none. some (sym mine ∙ none), has_past t run rest all tokens higher cut.some);
      all = each-append (Listed (t ∷ tokens)) run rest (listed_run t tokens run all)
          (each-weaker _ _ rest (λ change is. there t change.key.token tokens is) cut.all);
      shown = ap (λ (lines : List ℕ). token_line t (sums_of run) ++ lines)
          (cut.shown ∙ lines_past t run rest all tokens higher)
          ∙ ap (λ (some : List Pair). token_line t (sums_of some)
          ++ tokens_lines (run ++ rest) tokens) (sym mine);
    }

all_above : (t s : List ℕ) (rest : List Pair) → text_cmp t s ≡ Less
    → AllByRecursion (NotBelow s) rest → AllByRecursion (Above t) rest
all_above t s rest less all =
    each-weaker _ _ rest (λ change not. below_up t s change.key.token less not) all

run_longer : (run : List Pair) (change : Pair) → ¬ (run ++ change ∷ [] ≡ [])
run_longer [] change = not_nil change []
run_longer (first ∷ run) change = not_nil first (run ++ change ∷ [])

cut : (t : List ℕ) (run rest : List Pair) → AllByRecursion (λ change. t ≡ change.key.token) run
    → ¬ (run ≡ []) → AllByRecursion (NotBelow t) rest → Ascends rest
    → IsCut t (run ++ rest) (text_from (sum_with t run) rest)
cut t run [] all some up order =
    subst (λ (changes : List Pair). IsCut t changes (token_line t (sums_of run)))
    (sym (append-nil run)) (cut_last t run all some)
cut t run (change ∷ rest) all some up order =
    by_test (is_same_text t change.key.token) refl
    (λ is. cut t (run ++ change ∷ []) rest
    (each-append (λ change. t ≡ change.key.token) run (change ∷ []) all (is, tt))
    (run_longer run change) up.1 order.1)
    (cut change.key.token (change ∷ []) rest (refl, tt) (not_nil change []) order.0 order.1)
  where
    one : List Pair
    one = change ∷ []

    s : List ℕ
    s = change.key.token

    by_test : (b : Bool) → is_same_text t s ≡ b
        → (t ≡ s → IsCut t ((run ++ one) ++ rest) (text_from (sum_with t (run ++ one)) rest))
        → IsCut s (one ++ rest) (text_from (sum_with s one) rest)
        → IsCut t (run ++ change ∷ rest)
        ((cond b [] (token_line t (sums_of run))
        ++ lines_of_changes true (Some (add_changes (cond b (sum_with t run) (no_sums s)) one))
        rest)
        ++ sums_line
        (last_sums true (Some (add_changes (cond b (sum_with t run) (no_sums s)) one)) rest))
    by_test true is same other =
        subst (λ (changes : List Pair).
        IsCut t changes (text_from (add_changes (sum_with t run) one) rest))
        (append_assoc run one rest)
        (subst (λ (sums : Sums). IsCut t ((run ++ one) ++ rest)
        (text_from (record { token = t; sums = sums }) rest)) (sym (sums_add run one))
        (same (tied t s is)))
    by_test false is same other =
        let less = above_of t s up.0 is in
        let line = token_line t (sums_of run) in
        let sum = add_changes (no_sums s) one in
        subst (IsCut t (run ++ change ∷ rest))
        (sym (append_assoc line (lines_of_changes true (Some sum) rest)
        (sums_line (last_sums true (Some sum) rest))))
        (cut_more t run (change ∷ rest) s (text_from sum rest) all some less
        (less, all_above t s rest less order.0)
        (subst (λ (sums : Sums). IsCut s (one ++ rest)
        (text_from (record { token = s; sums = sums }) rest)) (sym (sums_add [] one)) other))

-- ---- all corrections
pub tokens_by : (changes : List Pair) → Ascends changes
    → HasTokens changes (all_lines true changes)
unfolding IsStrictlySortedBy
tokens_by [] order = record {
  tokens = [];
  are = record {
    increasing = tt;
    some = tt;
    all = tt;
  };
  shown = refl;
}
tokens_by (change ∷ changes) order =
    let s = change.key.token in
    let one = change ∷ [] in
    let from = subst (λ (sums : Sums). IsCut s (change ∷ changes)
    (text_from (record { token = s; sums = sums }) changes)) (sym (sums_add [] one))
    (cut s one changes (refl, tt) (not_nil change []) order.0 order.1) in
    record {
      tokens = s ∷ from.more;
      are = record {
        increasing = (from.above, from.increasing);
        some = from.some;
        all = from.all;
      };
      shown = from.shown;
    }
