-- A stable sort by token.
use Rattle.std.proofs.Common.{◌≡◌, suc, ◌+◌, Bool, true, false, cond, ◌&&◌, ◌||◌, not, List, []}
use Rattle.std.proofs.Common.{◌∷◌, get_or, refl, sym, ap, subst, ◌∙◌, arith}
use Rattle.fare_service.specs.declared.spot.Spot.{Spot}
use Rattle.fare_service.specs.inside.Spots.{entry_at_spot, entries_at_spots}
use Rattle.fare_texts.specs.{ByToken.IsByToken, Lines.Nondecreasing, Lines.NondecreasingFrom}
use Rattle.histories.specs.{Entry.is_of, Entry.own, declared.entry.Entry.Entry}
use Rattle.shard_book.specs.Book.{Book}
use Rattle.std.proofs.lemmas.Bool.{false≢true, Decides.nat_tests}
use Rattle.std.proofs.lemmas.List.Sorted.{IsPermutation-map, list_any-IsPermutation}
use Rattle.std.specs.List.{filter, list_any, Sorted.IsPermutation, Sorted.IsSortedByKey}
use Rattle.std.specs.{List.Sorted.IsStableByKey, List.Sorted.ties, Ordering.is_lt}
use Rattle.tap_views.proofs.TokenLemmas.{same_token}
use Rattle.tap_views.specs.{Token.token_cmp, Token.token_eq, declared.token.Token.Token}

abbrev pub key : List Book → Spot → Token
key books spot = (entry_at_spot books spot).token

ascend_from : (books : List Book) (first : Spot) (list : List Spot)
    → IsSortedByKey (key books) token_cmp (first ∷ list)
    → NondecreasingFrom (key books first) (entries_at_spots books list)
ascend_from books first [] sorted = tt
ascend_from books first (next ∷ list) sorted = (
  sorted 0 first (omega arith) (omega arith),
  ascend_from books next list (λ k d low within.
      let step : suc k + 1 ≡ suc (k + 1) = omega arith in
      subst (λ n. is_lt
      (token_cmp (key books (get_or (first ∷ next ∷ list) n d))
      (key books (get_or (next ∷ list) k d))) ≡ false) step
      (sorted (suc k) d (omega arith) (omega (arith, within)))),
)

nondecreasing : (books : List Book) (list : List Spot) → IsSortedByKey (key books) token_cmp list
    → Nondecreasing (entries_at_spots books list)
nondecreasing books [] sorted = tt
nondecreasing books (first ∷ list) sorted = ascend_from books first list sorted

-- tokens tie in the order if they are the same
tied : (a b : Token) → (not (is_lt (token_cmp a b)) && not (is_lt (token_cmp b a))) ≡ token_eq b a
tied a b = grind (arith, nat_tests)

-- whether the entry at a spot is the token's
abbrev is_at : List Book → Token → Spot → Bool
is_at books token spot = token_eq (key books spot) token

-- the entries of a token at spots
own_seen : (books : List Book) (token : Token) (list : List Spot)
    → own token (entries_at_spots books list)
    ≡ entries_at_spots books (filter (is_at books token) list)
unfolding own
own_seen books token [] = refl
own_seen books token (first ∷ list) =
    by (token_eq (key books first) token) (own_seen books token list)
  where
    by : (b : Bool) → filter (is_of token) (entries_at_spots books list)
        ≡ entries_at_spots books (filter (is_at books token) list)
        → cond b (entry_at_spot books first ∷ filter (is_of token) (entries_at_spots books list))
        (filter (is_of token) (entries_at_spots books list))
        ≡ entries_at_spots books
        (cond b (first ∷ filter (is_at books token) list) (filter (is_at books token) list))
    by true rest = ap (λ (es : List Entry). entry_at_spot books first ∷ es) rest
    by false rest = rest

-- one of a list that passes a test, if some element does
some_passes : {X : Type 0} (test : X → Bool) (list : List X) → list_any test list ≡ true
    → (x : X) × (test x ≡ true)
some_passes test [] is = absurd (false≢true is)
some_passes {X} test (x ∷ list) is =
    by (test x) refl
    (λ not_here. some_passes test list
    (ap (λ (b : Bool). b || list_any test list) (sym not_here) ∙ is))
  where
    by : (b : Bool) → test x ≡ b → (test x ≡ false → (y : X) × (test y ≡ true))
        → (y : X) × (test y ≡ true)
    by true here rest = (x, here)
    by false not_here rest = rest not_here

-- nothing is kept if no element passes
none_pass : {X : Type 0} (test : X → Bool) (list : List X) → list_any test list ≡ false
    → filter test list ≡ []
none_pass test [] none = refl
none_pass {X} test (x ∷ list) none =
    by (test x) refl
    (λ not_here. none_pass test list
    (ap (λ (b : Bool). b || list_any test list) (sym not_here) ∙ none))
  where
    by : (b : Bool) → test x ≡ b → (test x ≡ false → filter test list ≡ [])
        → cond (test x) (x ∷ filter test list) (filter test list) ≡ []
    by true here rest = absurd
        (false≢true (sym none ∙ ap (λ (b : Bool). b || list_any test list) here))
    by false not_here rest =
        ap (λ (b : Bool). cond b (x ∷ filter test list) (filter test list)) not_here ∙ rest not_here

-- if a spot has an entry of the token, the sort keeps the order of the token's
kept_some : (books : List Book) (token : Token) (old new : List Spot) (one : Spot)
    → key books one ≡ token → IsStableByKey (key books) token_cmp old new
    → filter (is_at books token) new ≡ filter (is_at books token) old
kept_some books token old new one is stable =
    let alike : is_at books token
    ≡ ties (λ (x y : Spot). is_lt (token_cmp (key books x) (key books y))) one =
    λ i spot.
    (ap (token_eq (key books spot)) (sym is) ∙ sym (tied (key books one) (key books spot))) i in
    ap (λ (p : Spot → Bool). filter p new) alike ∙ stable one
    ∙ ap (λ (p : Spot → Bool). filter p old) (sym alike)

kept : (books : List Book) (token : Token) (old new : List Spot) → IsPermutation old new
    → IsStableByKey (key books) token_cmp old new
    → own token (entries_at_spots books new) ≡ own token (entries_at_spots books old)
kept books token old new moved stable =
    own_seen books token new
    ∙ ap (entries_at_spots books) (by (list_any (is_at books token) old) refl)
    ∙ sym (own_seen books token old)
  where
    by : (b : Bool) → list_any (is_at books token) old ≡ b
        → filter (is_at books token) new ≡ filter (is_at books token) old
    by true some =
        let one = some_passes (is_at books token) old some in
        kept_some books token old new one.0 (same_token (key books one.0) token one.1) stable
    by false none =
        none_pass (is_at books token) new
        (sym (list_any-IsPermutation (is_at books token) old new moved) ∙ none)
        ∙ sym (none_pass (is_at books token) old none)

pub sorted_by_token : (books : List Book) (old new : List Spot) → IsPermutation old new
    → IsSortedByKey (key books) token_cmp new → IsStableByKey (key books) token_cmp old new
    → IsByToken (entries_at_spots books old) (entries_at_spots books new)
sorted_by_token books old new moved sorted stable = record {
  moved = IsPermutation-map (entry_at_spot books) old new moved;
  nondecreasing = nondecreasing books new sorted;
  kept = λ token. kept books token old new moved stable;
}
