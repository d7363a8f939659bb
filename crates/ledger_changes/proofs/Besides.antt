-- Two bills side by side: the pairs are those of both lists, in order, as long as both have one.
use Rattle.std.proofs.Common.{◌≡◌, List, [], ◌∷◌, ◌++◌, Option, Some, None, true, false, refl, sym}
use Rattle.std.proofs.Common.{ap, subst, ◌∙◌, All, flat_map, map}
use Rattle.ledger_changes.proofs.Keys.{key_cmp_exact, key_cmp_total}
use Rattle.ledger_changes.proofs.{Listed.kept, Sorted.AreNondecreasing}
use Rattle.ledger_changes.specs.Changes.{AreCorrections, AreSideBySide, IsSameOrListed, IsSomeLine}
use Rattle.ledger_changes.specs.Changes.{Pair, UsesUp, afters, befores, beside, both_rows}
use Rattle.ledger_changes.specs.Changes.{changes_between, only_new, only_old, pairs_by, pairs_with}
use Rattle.ledger_changes.specs.{Changes.row_of, Rows.key_cmp}
use Rattle.ledger_fields.specs.Rows.{Charge, Key, Row}
use Rattle.std.proofs.lemmas.{Cmp.tied_itself, List.Sorted.ranks_by}
use Rattle.std.specs.{List.AllByRecursion, Ordering.is_lt, Ordering.ordering_reverse}
use Rattle.std.specs.{Prelude.option_to_list, declared.cmp.Ordering.Ordering}
use Rattle.std.specs.declared.cmp.Ordering.TheVariants.{Less, Equal, Greater}
use Rattle.tap_views.proofs.Lists.{each-weaker}

-- ---- keys
abbrev pub Le : Key → Key → Type 0
Le key later = is_lt (key_cmp later key) ≡ false

-- it is not below, and not the same
abbrev pub Lt : Key → Key → Type 0
Lt key later = Le key later × (key ≡ later → ⊥)

-- ---- one pair and those that follow
abbrev UsesAll : Pair → List Pair → Type 0
UsesAll pair pairs = AllByRecursion (UsesUp pair) pairs

-- a pair has a line of one of the bills
up_all : (key : Key) (pairs : List Pair)
    → AllByRecursion (λ pair. IsSomeLine pair.before pair.after) pairs
    → AllByRecursion (λ row. Le key row.key) (befores pairs)
    → AllByRecursion (λ row. Le key row.key) (afters pairs)
    → AllByRecursion (λ later. Le key later.key) pairs
up_all key [] some olds news = tt
up_all key (pair ∷ pairs) some olds news =
    by_sides pair.before pair.after some.0 (up_all key pairs some.1) olds news
  where
    by_sides : (b a : Option Charge) → IsSomeLine b a
        → (AllByRecursion (λ row. Le key row.key) (befores pairs)
        → AllByRecursion (λ row. Le key row.key) (afters pairs)
        → AllByRecursion (λ later. Le key later.key) pairs)
        → AllByRecursion (λ row. Le key row.key) (row_of pair.key b ++ befores pairs)
        → AllByRecursion (λ row. Le key row.key) (row_of pair.key a ++ afters pairs)
        → Le key pair.key × AllByRecursion (λ later. Le key later.key) pairs
    by_sides None None some more olds news = absurd some
    by_sides (Some b) None some more olds news = (olds.0, more olds.1 news)
    by_sides None (Some a) some more olds news = (news.0, more olds news.1)
    by_sides (Some b) (Some a) some more olds news = (olds.0, more olds.1 news.1)

abbrev pub NoneOf : (Pair → Option Charge) → Key → List Pair → Type 0
NoneOf side key pairs = AllByRecursion (λ later. key ≡ later.key → side later ≡ None) pairs

none_of : (side : Pair → Option Charge) (key : Key) (pairs : List Pair)
    → AllByRecursion (λ row. Lt key row.key) (flat_map (λ pair. row_of pair.key (side pair)) pairs)
    → NoneOf side key pairs
none_of side key [] all = tt
none_of side key (pair ∷ pairs) all =
    by_side (side pair) refl (none_of side key pairs) all
  where
    by_side : (s : Option Charge) → side pair ≡ s
        → (AllByRecursion (λ row. Lt key row.key)
        (flat_map (λ pair. row_of pair.key (side pair)) pairs) → NoneOf side key pairs)
        → AllByRecursion (λ row. Lt key row.key)
        (row_of pair.key s ++ flat_map (λ pair. row_of pair.key (side pair)) pairs)
        → (key ≡ pair.key → side pair ≡ None) × NoneOf side key pairs
    by_side None is more all = (λ same. is, more all)
    by_side (Some charge) is more all = (λ same. absurd (all.0.1 same), more all.1)

uses_all : (pair : Pair) (pairs : List Pair)
    → (pair.before ≡ None → NoneOf (λ later. later.before) pair.key pairs)
    → (pair.after ≡ None → NoneOf (λ later. later.after) pair.key pairs) → UsesAll pair pairs
uses_all pair [] olds news = tt
uses_all pair (later ∷ pairs) olds news = (
  record {
    before = λ same none. (olds none).0 same;
    after = λ same none. (news none).0 same;
  },
  uses_all pair pairs (λ none. (olds none).1) (λ none. (news none).1),
)

-- ---- one pair more
pub record IsFirst (b a : Option Row) (pair : Pair) (olds news : List Row) : Type 0 where
  pub old : row_of pair.key pair.before ≡ option_to_list b
  pub new : row_of pair.key pair.after ≡ option_to_list a
  pub some : IsSomeLine pair.before pair.after
  pub olds_up : AllByRecursion (λ row. Le pair.key row.key) olds
  pub news_up : AllByRecursion (λ row. Le pair.key row.key) news
  pub olds_past : pair.before ≡ None → AllByRecursion (λ row. Lt pair.key row.key) olds
  pub news_past : pair.after ≡ None → AllByRecursion (λ row. Lt pair.key row.key) news

pub paired_more : (b a : Option Row) (pair : Pair) (olds news : List Row) (pairs : List Pair)
    → IsFirst b a pair olds news → AreSideBySide olds news pairs
    → AreSideBySide (option_to_list b ++ olds) (option_to_list a ++ news) (pair ∷ pairs)
paired_more b a pair olds news pairs first is = record {
  olds = ap (λ (rows : List Row). rows ++ befores pairs) first.old
      ∙ ap (λ (rows : List Row). option_to_list b ++ rows) is.olds;
  news = ap (λ (rows : List Row). rows ++ afters pairs) first.new
      ∙ ap (λ (rows : List Row). option_to_list a ++ rows) is.news;
  some = (first.some, is.some);
  sorted = (up_all pair.key pairs is.some (rw is.olds first.olds_up) (rw is.news first.news_up), is.sorted);
  tight = (
    uses_all pair pairs
        (λ none. none_of (λ later. later.before) pair.key pairs (rw is.olds (first.olds_past none)))
        (λ none. none_of (λ later. later.after) pair.key pairs (rw is.news (first.news_past none))),
    is.tight,
  );
}

-- ---- the first pair of two bills
lt_le : (a b c : Key) → key_cmp a b ≡ Less → Le b c → Lt a c
lt_le a b c less up =
    let order = ranks_by key_cmp_total (λ (k : Key). k) in
    let back : is_lt (key_cmp b a) ≡ false = order.one_way a b (ap is_lt less) in (
      order.chain c b a up back,
      λ same.
          let here : is_lt (key_cmp a b) ≡ false =
          subst (λ (k : Key). is_lt (key_cmp k b) ≡ false) (sym same) up in
          absurd (let t : true ≡ false = sym (ap is_lt less) ∙ here in cc),
    )

-- behind the first row, and past the key
past_first : (key : Key) (row : Row) (rows : List Row) → key_cmp key row.key ≡ Less
    → AreNondecreasing (row ∷ rows)
    → AllByRecursion (λ later. Lt key later.key) (row ∷ rows)
past_first key row rows less up = (
  lt_le key row.key row.key less (ap is_lt (tied_itself key_cmp_total row.key)),
  each-weaker _ _ rows (λ later up. lt_le key row.key later.key less up) up.0,
)

ups : (key : Key) (rows : List Row) → AllByRecursion (λ later. Lt key later.key) rows
    → AllByRecursion (λ later. Le key later.key) rows
ups key rows all = each-weaker _ _ rows (λ later past. past.0) all

first_old : (old : Row) (olds news : List Row) → AreNondecreasing (old ∷ olds)
    → AllByRecursion (λ later. Lt old.key later.key) news
    → IsFirst (Some old) None (only_old old) olds news
first_old old olds news up past = record {
  old = refl;
  new = refl;
  some = tt;
  olds_up = up.0;
  news_up = ups old.key news past;
  olds_past = λ none. absurd (cc);
  news_past = λ none. past;
}

first_new : (new : Row) (olds news : List Row) → AreNondecreasing (new ∷ news)
    → AllByRecursion (λ later. Lt new.key later.key) olds
    → IsFirst None (Some new) (only_new new) olds news
first_new new olds news up past = record {
  old = refl;
  new = refl;
  some = tt;
  olds_up = ups new.key olds past;
  news_up = up.0;
  olds_past = λ none. past;
  news_past = λ none. absurd (cc);
}

first_both : (old new : Row) (olds news : List Row) → old.key ≡ new.key
    → AreNondecreasing (old ∷ olds)
    → AreNondecreasing (new ∷ news) → IsFirst (Some old) (Some new) (both_rows old new) olds news
first_both old new olds news same up also = record {
  old = refl;
  new = ap (λ (key : Key). record { key = key; charge = new.charge } ∷ []) same;
  some = tt;
  olds_up = up.0;
  news_up = subst (λ (key : Key). AllByRecursion (λ later. Le key later.key) news) (sym same)
      also.0;
  olds_past = λ none. absurd (cc);
  news_past = λ none. absurd (cc);
}

greater_less : (a b : Key) → key_cmp a b ≡ Greater → key_cmp b a ≡ Less
greater_less a b e = key_cmp_total.antisymm b a ∙ ap ordering_reverse e

-- ---- all pairs
paired_news : (news : List Row) → AreNondecreasing news → AreSideBySide [] news (map only_new news)
paired_news [] up = record { olds = refl; news = refl; some = tt; sorted = tt; tight = tt }
paired_news (new ∷ news) up =
    paired_more None (Some new) (only_new new) [] news (map only_new news)
    (first_new new [] news up tt)
    (paired_news news up.1)

paired_with : (old : Row) (olds news : List Row) → AreNondecreasing (old ∷ olds)
    → AreNondecreasing news
    → ((rest : List Row) → AreNondecreasing rest → AreSideBySide olds rest (beside olds rest))
    → AreSideBySide (old ∷ olds) news (pairs_with (λ rest. beside olds rest) old news)
paired_with old olds [] up also more =
    paired_more (Some old) None (only_old old) olds [] (beside olds [])
    (first_old old olds [] up tt) (more [] tt)
paired_with old olds (new ∷ news) up also more =
    by_order (key_cmp old.key new.key) refl
    (paired_with old olds news up also.1 more)
  where
    by_order : (order : Ordering) → key_cmp old.key new.key ≡ order
        → AreSideBySide (old ∷ olds) news (pairs_with (λ rest. beside olds rest) old news)
        → AreSideBySide (old ∷ olds) (new ∷ news) (pairs_by order old new (beside olds (new ∷ news))
        (beside olds news) (pairs_with (λ rest. beside olds rest) old news))
    by_order Less e rest =
        paired_more (Some old) None (only_old old) olds (new ∷ news) (beside olds (new ∷ news))
        (first_old old olds (new ∷ news) up (past_first old.key new news e also))
        (more (new ∷ news) also)
    by_order Equal e rest =
        paired_more (Some old) (Some new) (both_rows old new) olds news (beside olds news)
        (first_both old new olds news (key_cmp_exact old.key new.key e) up also)
        (more news also.1)
    by_order Greater e rest =
        paired_more None (Some new) (only_new new) (old ∷ olds) news
        (pairs_with (λ rest. beside olds rest) old news)
        (first_new new (old ∷ olds) news also
        (past_first new.key old olds (greater_less old.key new.key e) up)) rest

paired : (olds news : List Row) → AreNondecreasing olds → AreNondecreasing news
    → AreSideBySide olds news (beside olds news)
paired [] news up also = paired_news news also
paired (old ∷ olds) news up also =
    paired_with old olds news up also
    (λ rest increases. paired olds rest up.1 increases)

pub are_corrections : (olds news : List Row) → AreNondecreasing olds → AreNondecreasing news
    → AreCorrections olds news (changes_between olds news)
are_corrections olds news up also =
    record { pairs = beside olds news; beside = paired olds news up also; listed = refl }

pub are_alike : (olds news : List Row)
    → All (IsSameOrListed (changes_between olds news)) (beside olds news)
are_alike olds news = kept (beside olds news)
