-- What changed from one bill to the next.
use Rattle.ledger_changes.specs.Rows.{AreInOrder, is_same_charge, key_cmp}
use Rattle.ledger_fields.specs.Rows.{Charge, Key, Row}
use Rattle.std.specs.List.{AllByRecursion}
use Rattle.std.specs.Prelude.{◌≡◌, ◌+◌, ℕ, Bool, true, false, not, List, [], ◌∷◌, filter, flat_map}
use Rattle.std.specs.Prelude.{map, Option, None, Some, ⊤, sum_by, Contains, ◌⊎◌}
use Rattle.std.specs.declared.cmp.Ordering.{Ordering}
use Rattle.std.specs.declared.cmp.Ordering.TheVariants.{Less, Equal, Greater}

-- a line of one bill beside the line of the other that has the same key; a line that has none
-- beside it is alone
pub record Pair : Type 0 where
  pub key : Key
  pub before : Option Charge
  pub after : Option Charge

abbrev pub row_of : Key → Option Charge → List Row
row_of key None = []
row_of key (Some charge) = record { key = key; charge = charge } ∷ []

-- the lines of the one bill
abbrev pub befores : List Pair → List Row
befores pairs = flat_map (λ pair. row_of pair.key pair.before) pairs

-- those of the other
abbrev pub afters : List Pair → List Row
afters pairs = flat_map (λ pair. row_of pair.key pair.after) pairs

-- the pair has a line of a bill
abbrev pub IsSomeLine : Option Charge → Option Charge → Type 0
IsSomeLine None None = ⊥
IsSomeLine None (Some after) = Unit {0}
IsSomeLine (Some before) after = Unit {0}

-- once lines of a key are used up in a bill, none of it follows
pub record UsesUp (pair later : Pair) : Type 0 where
  pub before : pair.key ≡ later.key → pair.before ≡ None → later.before ≡ None
  pub after : pair.key ≡ later.key → pair.after ≡ None → later.after ≡ None

abbrev pub UseUp : List Pair → Type 0
UseUp [] = ⊤
UseUp (pair ∷ pairs) = AllByRecursion (UsesUp pair) pairs × UseUp pairs

-- The lines of both bills, side by side in the order of their keys: each line is there once, in its
-- bill's order, and lines of one key are paired as long as both bills have one.
pub record AreSideBySide (old new : List Row) (pairs : List Pair) : Type 0 where
  pub olds : befores pairs ≡ old
  pub news : afters pairs ≡ new
  pub some : AllByRecursion (λ pair. IsSomeLine pair.before pair.after) pairs
  pub sorted : AreInOrder (λ pair. pair.key) pairs
  pub tight : UseUp pairs

-- the pair of a row of the one and a row of the other
abbrev pub only_old : Row → Pair
only_old row = record { key = row.key; before = Some row.charge; after = None }

abbrev pub only_new : Row → Pair
only_new row = record { key = row.key; before = None; after = Some row.charge }

abbrev pub both_rows : Row → Row → Pair
both_rows old new = record { key = old.key; before = Some old.charge; after = Some new.charge }

abbrev pub pairs_by : Ordering → Row → Row → List Pair → List Pair → List Pair → List Pair
pairs_by Less old new after_old after_both after_new = only_old old ∷ after_old
pairs_by Equal old new after_old after_both after_new = both_rows old new ∷ after_both
pairs_by Greater old new after_old after_both after_new = only_new new ∷ after_new

-- the pairs of a row and these new ones, if `more` gives those of the old rows after it
abbrev pub pairs_with : (List Row → List Pair) → Row → List Row → List Pair
pairs_with more old [] = only_old old ∷ more []
pairs_with more old (new ∷ news) =
    pairs_by (key_cmp old.key new.key) old new (more (new ∷ news)) (more news) (pairs_with more old news)

-- THE lines of both bills, side by side in the order of their keys
abbrev pub beside : List Row → List Row → List Pair
beside [] news = map only_new news
beside (old ∷ olds) news = pairs_with (λ rest. beside olds rest) old news

-- whether both bills charge the same
abbrev pub agree : Option Charge → Option Charge → Bool
agree None None = true
agree None (Some after) = false
agree (Some before) None = false
agree (Some before) (Some after) = is_same_charge before after

abbrev pub is_changed : Pair → Bool
is_changed pair = not (agree pair.before pair.after)

-- the corrections from the one bill to the other: the pairs that do not agree
abbrev pub changes_between : List Row → List Row → List Pair
changes_between old new = filter is_changed (beside old new)

-- the corrections: the pairs that do not agree
pub record AreCorrections (old new : List Row) (changes : List Pair) : Type 0 where
  pub pairs : List Pair
  pub beside : AreSideBySide old new pairs
  pub listed : changes ≡ filter is_changed pairs

-- the lines of the pair are charged the same, or the pair is a correction
abbrev pub IsSameOrListed : List Pair → Pair → Type 0
IsSameOrListed changes pair = (pair.before ≡ pair.after) ⊎ Contains changes pair

-- what a weight gives a side of a pair
abbrev pub weight_of : (Key → Charge → ℕ) → Key → Option Charge → ℕ
weight_of weight key None = 0
weight_of weight key (Some charge) = weight key charge

-- The corrections add up, whatever is weighed: the cents of all lines, those of one token, the
-- rides of one validator. What the old bill has and what the corrections bring is what the new bill
-- has and what they take away.
abbrev pub AddUp : List Row → List Row → List Pair → Type 0
AddUp old new changes =
    (weight : Key → Charge → ℕ)
    → sum_by (λ row. weight row.key row.charge) old
    + sum_by (λ pair. weight_of weight pair.key pair.after) changes
    ≡ sum_by (λ row. weight row.key row.charge) new
    + sum_by (λ pair. weight_of weight pair.key pair.before) changes
