-- What is merged of ledgers of parts of a history is the ledger of the whole history.
use Rattle.std.proofs.Common.{◌≡◌, ◌∙◌, ◌<◌, ◌^◌, ◌||◌, ℕ, true, false, List, [], ◌∷◌, ◌++◌, length}
use Rattle.std.proofs.Common.{map, Option, None, Ok, refl, sym, ap, subst, arith, append_assoc}
use Rattle.std.proofs.Common.{append-nil, All, Bool}
use Rattle.fare_texts.specs.{Ledger.AreLinesOfEach, Ledger.IsLedgerOver, LedgerLines.AreLedgerLines}
use Rattle.histories.proofs.OwnEntries.{own-append}
use Rattle.histories.proofs.SumsByToken.{by_token_joined, none_of}
use Rattle.histories.specs.{Entry.own, Increasing.increasing, Sums.Sums, Sums.sums}
use Rattle.histories.specs.SumsByKey.{sums_by_token, token_of, tokens}
use Rattle.histories.specs.declared.entry.Entry.{Entry}
use Rattle.part_texts.proofs.HistoryParts.{Join, OfEach, all_ascending, ends_length, part_joins}
use Rattle.part_texts.proofs.HistoryParts.{spans_of, to_ends}
use Rattle.part_texts.proofs.ShownLedgers.{ledgers_merge}
use Rattle.part_texts.specs.HistoryParts.{AreIncreasing, HistoryPart, histories_of, whole_history}
use Rattle.part_texts.specs.LedgerParts.{DoJoinUp, IsPartLedger}
use Rattle.part_texts.specs.{Merged.is_none_left, Merged.merge_of, Shown.SpanFits}
use Rattle.part_texts.specs.inside.Shown.{are_joined, are_next}
use Rattle.part_texts.specs.inside.ShownLedgers.{IsNextLedger, PartLedger, all_lines, ledger_text}
use Rattle.sorted_taps.specs.declared.positions.Position.{Position}
use Rattle.std.proofs.lemmas.List.{map-append}
use Rattle.std.proofs.lemmas.List.Elements.{All-head, All-tail, All-weaker}
use Rattle.std.specs.{List.AllByRecursion, List.AllZip, declared.cmp.Ordering.TheVariants.Less}
use Rattle.tap_views.proofs.TokenLemmas.{less_apart, token_eq-sym}
use Rattle.tap_views.specs.Token.{token_cmp, token_eq}
use Rattle.tap_views.specs.{TokenOrder.AreBelow, declared.token.Token.Token}
use Rattle.tariffs.specs.Fares.{Fares}

-- ---- ledgers of histories, one behind the other
keys_back : (f : Token → Sums) (keys : List Token)
    → map (λ (s : Token × Sums). s.0) (map (λ t. (t, f t)) keys) ≡ keys
keys_back f [] = refl
keys_back f (k ∷ keys) = ap (λ (ks : List Token). k ∷ ks) (keys_back f keys)

tokens_back : (history : List Entry)
    → map (λ (s : Token × Sums). s.0) (sums_by_token history) ≡ tokens history
unfolding sums_by_token
tokens_back history = keys_back (λ t. sums (own t history)) (tokens history)

tokens_joined : (xs ys : List Entry) → AreBelow (map token_of xs) (map token_of ys)
    → tokens (xs ++ ys) ≡ tokens xs ++ tokens ys
tokens_joined xs ys below =
    let first : Token × Sums → Token = λ s. s.0 in
    sym (tokens_back (xs ++ ys)) ∙ ap (map first) (by_token_joined xs ys below)
    ∙ map-append first (sums_by_token xs) (sums_by_token ys)
    ∙ ap (λ (ks : List Token). ks ++ map first (sums_by_token ys)) (tokens_back xs)
    ∙ ap (λ (ks : List Token). tokens xs ++ ks) (tokens_back ys)

own_front : (xs ys : List Entry) → AreBelow (map token_of xs) (map token_of ys)
    → All (λ t. own t (xs ++ ys) ≡ own t xs) (tokens xs)
unfolding tokens
own_front xs ys below =
    let later = map token_of ys in
    All-weaker (λ t. All (λ o. token_cmp t o ≡ Less) later) (λ t. own t (xs ++ ys) ≡ own t xs)
    (λ t all. own-append t xs ys
    ∙ ap (λ (es : List Entry). own t xs ++ es)
    (none_of t ys
    (All-weaker (λ o. token_cmp t o ≡ Less) (λ o. token_eq o t ≡ false)
    (λ o less. less_apart t o less) later all))
    ∙ append-nil (own t xs)) (increasing token_cmp (map token_of xs))
    (all_ascending token_cmp (λ t. All (λ o. token_cmp t o ≡ Less) later) (map token_of xs) below)

-- the later tokens are above all earlier ones
turned : (xs ys : List Token) → AreBelow xs ys → All (λ y. All (λ x. token_cmp x y ≡ Less) xs) ys
turned xs ys below = λ j e g i d h. below i d h j e g

own_after : (xs ys : List Entry) → AreBelow (map token_of xs) (map token_of ys)
    → All (λ t. own t (xs ++ ys) ≡ own t ys) (tokens ys)
unfolding tokens
own_after xs ys below =
    let earlier = map token_of xs in
    All-weaker (λ t. All (λ x. token_cmp x t ≡ Less) earlier) (λ t. own t (xs ++ ys) ≡ own t ys)
    (λ t all. own-append t xs ys
    ∙ ap (λ (es : List Entry). es ++ own t ys)
    (none_of t xs
    (All-weaker (λ x. token_cmp x t ≡ Less) (λ x. token_eq x t ≡ false)
    (λ x less. token_eq-sym x t ∙ less_apart x t less) earlier all)))
    (increasing token_cmp (map token_of ys))
    (all_ascending token_cmp (λ t. All (λ x. token_cmp x t ≡ Less) earlier) (map token_of ys)
    (turned earlier (map token_of ys) below))

module _ (fares : Fares) where
  lines_moved : (history other : List Entry) (keys : List Token) (text : List ℕ)
      → All (λ t. own t other ≡ own t history) keys
      → AreLinesOfEach fares history keys text → AreLinesOfEach fares other keys text
  lines_moved history other [] text same none = none
  lines_moved history other (k ∷ keys) text same (lines, rest, are, each, shown) = (
    lines,
    rest,
    subst (λ (es : List Entry). AreLedgerLines fares k es lines)
        (sym (All-head (λ t. own t other ≡ own t history) k keys same)) are,
    lines_moved history other keys rest (All-tail (λ t. own t other ≡ own t history) k keys same)
        each,
    shown,
  )

  lines_append : (history : List Entry) (keys others : List Token) (a b : List ℕ)
      → AreLinesOfEach fares history keys a → AreLinesOfEach fares history others b
      → AreLinesOfEach fares history (keys ++ others) (a ++ b)
  lines_append history [] others a b none also =
      subst (λ (x : List ℕ). AreLinesOfEach fares history others (x ++ b)) (sym none) also
  lines_append history (k ∷ keys) others a b (lines, rest, are, each, shown) also = (
    lines,
    rest ++ b,
    are,
    lines_append history keys others rest b each also,
    ap (λ (x : List ℕ). x ++ b) shown ∙ append_assoc lines rest b,
  )

  joined_lines : (xs ys : List Entry) (a b : List ℕ) → AreBelow (map token_of xs) (map token_of ys)
      → AreLinesOfEach fares xs (tokens xs) a → AreLinesOfEach fares ys (tokens ys) b
      → AreLinesOfEach fares (xs ++ ys) (tokens (xs ++ ys)) (a ++ b)
  joined_lines xs ys a b below one two =
      subst (λ (ks : List Token). AreLinesOfEach fares (xs ++ ys) ks (a ++ b))
      (sym (tokens_joined xs ys below))
      (lines_append (xs ++ ys) (tokens xs) (tokens ys) a b
      (lines_moved xs (xs ++ ys) (tokens xs) a (own_front xs ys below) one)
      (lines_moved ys (xs ++ ys) (tokens ys) b (own_after xs ys below) two))

  no_lines : AreLinesOfEach fares [] (tokens []) []
  unfolding tokens increasing
  no_lines = refl

  -- ---- the parts' ledgers
  abbrev pub ledgers_of : (parts : List HistoryPart) (texts : List (List ℕ))
      → AllZip (IsPartLedger fares) parts texts → List PartLedger
  ledgers_of [] texts are = []
  ledgers_of (p ∷ ps) [] are = []
  ledgers_of (p ∷ ps) (t ∷ ts) are =
      record { spans = p.spans; lines = are.0.over.lines } ∷ ledgers_of ps ts are.1

  pub texts_are : (parts : List HistoryPart) (texts : List (List ℕ))
      (are : AllZip (IsPartLedger fares) parts texts)
      → map ledger_text (ledgers_of parts texts are) ≡ texts
  texts_are [] [] are = refl
  texts_are [] (t ∷ ts) are = absurd are
  texts_are (p ∷ ps) [] are = absurd are
  texts_are (p ∷ ps) (t ∷ ts) are =
      rw (← are.0.over.whole, ← are.0.shown, texts_are ps ts are.1)

  none_after_too : (parts : List HistoryPart) (texts : List (List ℕ))
      (are : AllZip (IsPartLedger fares) parts texts)
      → is_none_left (spans_of parts) ≡ is_none_left (ledgers_of parts texts are)
  none_after_too [] [] are = refl
  none_after_too [] (t ∷ ts) are = absurd are
  none_after_too (p ∷ ps) [] are = absurd are
  none_after_too (p ∷ ps) (t ∷ ts) are = refl

  next_ledgers : (first is_ledger : Bool) (files : ℕ) (ends : List (Option Position))
      (parts : List HistoryPart) (texts : List (List ℕ)) (are : AllZip (IsPartLedger fares) parts texts)
      → (first || is_ledger) ≡ true → OfEach first files ends → files < 2 ^ 64
      → AllByRecursion (λ (p : HistoryPart). length p.spans ≡ files) parts
      → AllByRecursion (λ (p : HistoryPart). AllByRecursion SpanFits p.spans) parts
      → Join first ends (spans_of parts) → (all : Bool × List (Option Position))
      × are_next IsNextLedger first (is_ledger, ends) (ledgers_of parts texts are) all
  next_ledgers first is_ledger files ends [] [] are kind number few lengths positions join =
      ((is_ledger, ends), refl)
  next_ledgers first is_ledger files ends [] (t ∷ ts) are kind number few lengths positions join =
      absurd are
  next_ledgers first is_ledger files ends (p ∷ ps) [] are kind number few lengths positions join =
      absurd are
  next_ledgers first is_ledger files ends (p ∷ ps) (t ∷ ts) are kind number few lengths positions join =
      let size : length p.spans ≡ files = lengths.0 in
      let (same, joined, later) =
      part_joins first files ends p.spans (spans_of ps) number size join in
      let (all, more) = next_ledgers false true files (to_ends p.spans) ps ts are.1 refl
      (ends_length p.spans ∙ size) few lengths.1 positions.1 later in (
        all,
        (
          (true, to_ends p.spans),
          record {
            few = omega (arith, size, few);
            fit = positions.0;
            kind = kind;
            files = same;
            joined = subst (λ b. are_joined first b ends p.spans (to_ends p.spans))
                (none_after_too ps ts are.1) joined;
            ledger = refl;
          },
          more,
        ),
      )

  pub whole_lines : (parts : List HistoryPart) (texts : List (List ℕ))
      (are : AllZip (IsPartLedger fares) parts texts) → AreIncreasing (histories_of parts)
      → AreLinesOfEach fares (whole_history parts) (tokens (whole_history parts))
      (all_lines (ledgers_of parts texts are))
  whole_lines [] [] are increase = no_lines
  whole_lines [] (t ∷ ts) are increase = absurd are
  whole_lines (p ∷ ps) [] are increase = absurd are
  whole_lines (p ∷ ps) (t ∷ ts) are increase =
      joined_lines p.history (whole_history ps) are.0.over.lines
      (all_lines (ledgers_of ps ts are.1))
      increase.0 are.0.over.of_each (whole_lines ps ts are.1 increase.1)

  -- THE law: what is merged is the ledger of the whole history
  pub merged_is_whole : (files : ℕ) (p : HistoryPart) (ps : List HistoryPart)
      (texts : List (List ℕ)) → DoJoinUp files (p ∷ ps) → AllZip (IsPartLedger fares) (p ∷ ps) texts
      → (text : List ℕ) → merge_of texts ≡ Ok text
      → IsLedgerOver fares (whole_history (p ∷ ps)) None text
  merged_is_whole files p ps [] join are text is = absurd are
  merged_is_whole files p ps (t ∷ ts) join are text is = record {
    lines = all_lines (ledgers_of (p ∷ ps) (t ∷ ts) are);
    of_each = whole_lines (p ∷ ps) (t ∷ ts) are join.increase;
    whole = let (all, next) = next_ledgers true false files [] (p ∷ ps) (t ∷ ts) are refl refl
        join.few join.number join.positions join.whole in
        ledgers_merge (record { spans = p.spans; lines = are.0.over.lines })
        (ledgers_of ps ts are.1) all next text
        (ap merge_of (texts_are (p ∷ ps) (t ∷ ts) are) ∙ is);
  }
