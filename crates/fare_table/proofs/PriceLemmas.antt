-- A transfer pays what a pair of its modes says that the text lists.
use Rattle.std.proofs.Common.{◌≡◌, ℕ, ◌==◌, ◌&&◌, Bool, true, false, List, [], ◌∷◌, ◌++◌}
use Rattle.std.proofs.Common.{Option, None, Some, Ok, refl, sym, ap, ◌∙◌, subst, arith, cond}
use Rattle.std.proofs.Common.{⊎_elim, inl, inr, option_map}
use Rattle.fare_table.proofs.PairLemmas.{added, between, cons_cases, lists, next, pair_by}
use Rattle.fare_table.proofs.PartLemmas.{parts}
use Rattle.fare_table.specs.{TableMeaning.meaning_of_tree, Transfers.ListsPair}
use Rattle.fare_table.specs.Transfers.{NamedPair, at_positions, is_other_price, positions_of}
use Rattle.fare_table.specs.Transfers.{price_of, prices_of, same_modes, same_pays, transfers_from}
use Rattle.fare_table.specs.declared.read.transfers.TextTransfer.{TextTransfer}
use Rattle.std.proofs.lemmas.Bool.{and_parts, cases_Bool, eq-eqb, eqb-true, false≢true, not-false}
use Rattle.std.proofs.lemmas.{Bool.Decides.nat_tests, List.Folds.find-append}
use Rattle.std.specs.List.{cons_option, find}
use Rattle.std.specs.{Option.option_and_then, Option.option_or, Prelude.Contains}
use Rattle.tariffs.specs.{Fares.price_of as paid_for, Prices.price_in, TableMeaning.TableMeaning}
use Rattle.tariffs.specs.declared.price.Pays.{Pays, TheVariants.Difference, TheVariants.More}
use Rattle.tariffs.specs.declared.price.Price.{Price}
use Rattle.toml.specs.Data.{Members}

-- ---- options
or_none : {A : Type 0} (o : Option A) → option_or o None ≡ o
or_none None = refl
or_none (Some x) = refl

map-or : {A B : Type 0} (f : A → B) (o other : Option A)
    → option_map f (option_or o other) ≡ option_or (option_map f o) (option_map f other)
map-or f None other = refl
map-or f (Some x) other = refl

cons_option-append : {A : Type 0} (o : Option A) (xs ys : List A)
    → cons_option o (xs ++ ys) ≡ cons_option o xs ++ ys
cons_option-append None xs ys = refl
cons_option-append (Some x) xs ys = refl

-- ---- the prices of transfers
-- what the first transfer between the modes pays
abbrev paid_in : List TextTransfer → ℕ → ℕ → Option Pays
paid_in found from to =
    option_and_then (λ (t : TextTransfer). t.pays) (find (between from to) found)

-- the prices are what the transfers pay
abbrev ArePriced : List TextTransfer → Type 0
ArePriced found = (from to : ℕ) → price_in (prices_of found) from to ≡ paid_in found from to

turned : (a b : ℕ) → (a == b) ≡ (b == a)
turned a b = grind (arith, nat_tests)

free_if : (b : Bool) (f t : ℕ)
    → None ≡ option_and_then (λ (t : TextTransfer). t.pays)
    (cond b (Some (at_positions (f, t) None)) None)
free_if true f t = refl
free_if false f t = refl

priced_if : (b : Bool) (f t : ℕ) (pays : Pays) (price : Price) → price.pays ≡ pays
    → option_map (λ (p : Price). p.pays) (cond b (Some price) None)
    ≡ option_and_then (λ (t : TextTransfer). t.pays)
    (cond b (Some (at_positions (f, t) (Some pays))) None)
priced_if true f t pays price same = ap (λ (p : Pays). Some p) same
priced_if false f t pays price same = refl

alone_of : (pays : Option Pays) (f t from to : ℕ)
    → price_in (prices_of (at_positions (f, t) pays ∷ [])) from to
    ≡ paid_in (at_positions (f, t) pays ∷ []) from to
alone_of None f t from to = free_if ((from == f) && (to == t)) f t
alone_of (Some pays) f t from to =
    rw (turned f from, turned t to) (priced_if ((from == f) && (to == t)) f t pays _ refl)

prices_of-append : (xs ys : List TextTransfer) → prices_of (xs ++ ys) ≡ prices_of xs ++ prices_of ys
prices_of-append [] ys = refl
prices_of-append (x ∷ xs) ys =
    ap (cons_option (price_of x)) (prices_of-append xs ys)
    ∙ cons_option-append (price_of x) (prices_of xs) (prices_of ys)

apart : (found : List TextTransfer) (one first : TextTransfer) (from to : ℕ)
    → find (between from to) found ≡ Some first → find (same_modes one) found ≡ None
    → between from to one ≡ false
apart found one first from to is new = elim (cases_Bool (between from to one)) [
  | inl here ↦
      let both = and_parts (from == one.from) (to == one.to) here in
      let same : find (between from to) found ≡ find (same_modes one) found =
      ap (λ f. find (between f to) found) (eqb-true from one.from both.0)
      ∙ ap (λ t. find (between one.from t) found) (eqb-true to one.to both.1) in
      let no : Some first ≡ None = sym is ∙ same ∙ new in
      absurd (cc (no))
  | inr none ↦ none
]

-- one more transfer, of modes that no other has, pays after the others
or_alone : (o : Option TextTransfer) (found : List TextTransfer) (one : TextTransfer) (from to : ℕ)
    → find (between from to) found ≡ o → find (same_modes one) found ≡ None
    → option_or (paid_in found from to) (paid_in (one ∷ []) from to)
    ≡ option_and_then (λ (t : TextTransfer). t.pays)
    (option_or (find (between from to) found) (find (between from to) (one ∷ [])))
or_alone None found one from to is new = rw is refl
or_alone (Some first) found one from to is new =
    rw (is, apart found one first from to is new) (or_none first.pays)

added_priced : (earlier : Option TextTransfer) (found : List TextTransfer) (one : TextTransfer)
    → find (same_modes one) found ≡ earlier → ArePriced found → ArePriced (added earlier found one)
added_priced None found one is priced = λ from to.
    ap (λ (ps : List Price). price_in ps from to) (prices_of-append found (one ∷ []))
    ∙ ap (option_map (λ (p : Price). p.pays)) (find-append _ (prices_of found) (prices_of (one ∷ [])))
    ∙ map-or (λ (p : Price). p.pays) _ _
    ∙ ap (λ o. option_or o (price_in (prices_of (one ∷ [])) from to)) (priced from to)
    ∙ ap (option_or (paid_in found from to)) (alone_of one.pays one.from one.to from to)
    ∙ or_alone (find (between from to) found) found one from to refl is
    ∙ ap (option_and_then (λ (t : TextTransfer). t.pays))
    (sym (find-append (between from to) found (one ∷ [])))
added_priced (Some earlier) found one is priced = priced

all_priced : (modes : List (List ℕ)) (found : List TextTransfer) (names : List NamedPair)
    (all : List TextTransfer) → transfers_from modes found names ≡ Ok all → ArePriced found
    → ArePriced all
all_priced modes found [] all is priced = let same : found ≡ all = cc in
    subst (λ (them : List TextTransfer). ArePriced them) same priced
all_priced modes found (pair ∷ more) all is priced =
    let n = next modes found pair more all is in
    let one = at_positions n.positions pair.1 in
    all_priced modes (added (find (same_modes one) found) found one) more all n.rest
    (added_priced (find (same_modes one) found) found one refl priced)

-- ---- what a pair that is listed pays
-- the first transfer between the modes pays this
abbrev FirstPays : List TextTransfer → ℕ → ℕ → Option Pays → Type 0
FirstPays found from to pays =
    (first : TextTransfer) × (find (between from to) found ≡ Some first) × (first.pays ≡ pays)

same_price : (one other : Option Pays) → same_pays one other ≡ true → one ≡ other
same_price None None is = refl
same_price (Some Difference) (Some Difference) is = refl
same_price (Some (More cents)) (Some (More other)) is =
    ap (λ (n : ℕ). Some (More n)) (eqb-true cents other is)
same_price _ _ is = absurd (false≢true is)

first_pays : (earlier : Option TextTransfer) (found : List TextTransfer) (one : TextTransfer)
    → find (same_modes one) found ≡ earlier → is_other_price one earlier ≡ false
    → FirstPays (added earlier found one) one.from one.to one.pays
first_pays None found one is agrees = (
  one,
  find-append (between one.from one.to) found (one ∷ [])
      ∙ rw (is, eq-eqb one.from one.from refl, eq-eqb one.to one.to refl) refl,
  refl,
)
first_pays (Some earlier) found one is agrees =
    (earlier, is, same_price earlier.pays one.pays (not-false _ agrees))

still_pays : (modes : List (List ℕ)) (found : List TextTransfer) (names : List NamedPair)
    (all : List TextTransfer) → transfers_from modes found names ≡ Ok all → (from to : ℕ)
    (pays : Option Pays) → FirstPays found from to pays → FirstPays all from to pays
still_pays modes found [] all is from to pays first = let same : found ≡ all = cc in
    subst (λ (them : List TextTransfer). FirstPays them from to pays) same first
still_pays modes found (pair ∷ more) all is from to pays first =
    let n = next modes found pair more all is in
    let one = at_positions n.positions pair.1 in
    still_pays modes (added (find (same_modes one) found) found one) more all n.rest from to pays
    (first.0, kept (find (same_modes one) found) found one first.0 first.1, first.2)
  where
    kept : (earlier : Option TextTransfer) (found : List TextTransfer) (one first : TextTransfer)
        → find (between from to) found ≡ Some first
        → find (between from to) (added earlier found one) ≡ Some first
    kept None found one first at =
        find-append (between from to) found (one ∷ [])
        ∙ ap (λ o. option_or o (find (between from to) (one ∷ []))) at
    kept (Some earlier) found one first at = at

listed_pays : (modes : List (List ℕ)) (found : List TextTransfer) (names : List NamedPair)
    (all : List TextTransfer) → transfers_from modes found names ≡ Ok all
    → (from to : ℕ) (pair : NamedPair) → Contains names pair
    → positions_of modes pair.0 ≡ Ok (pair_by from to) → FirstPays all from to pair.1
listed_pays modes found [] all is from to pair at positions = absurd (omega (arith, at.1))
listed_pays modes found (first ∷ more) all is from to pair at positions =
    let n = next modes found first more all is in
    let one = at_positions n.positions first.1 in
    let kept = added (find (same_modes one) found) found one in
    ⊎_elim
    (λ same.
    let both : Ok n.positions ≡ Ok (pair_by from to) =
    sym n.known ∙ ap (λ (p : NamedPair). positions_of modes p.0) same ∙ positions in
    let here : n.positions ≡ pair_by from to = cc in
    still_pays modes kept more all n.rest from to pair.1
    (subst (λ (p : NamedPair). FirstPays kept from to p.1) same
    (subst (λ (p : ℕ × ℕ). FirstPays kept p.0 p.1 first.1) here
    (first_pays (find (same_modes one) found) found one refl n.agrees))))
    (λ later. listed_pays modes kept more all n.rest from to pair later positions)
    (cons_cases first more pair at.0 at.1 at.2)

-- the law
pub listed-price : (tree : Members) (meaning : TableMeaning) (from to : ℕ)
    → meaning_of_tree tree ≡ Ok meaning → (listed : ListsPair meaning.modes tree from to)
    → paid_for meaning from to ≡ listed.pair.1
listed-price tree meaning from to is listed =
    let text = lists meaning.modes tree meaning.transfers meaning.prices
    (parts tree meaning is).transfers in
    let both : Ok listed.pairs ≡ Ok text.names = sym listed.listed ∙ text.listed in
    let same : listed.pairs ≡ text.names = cc in
    let C : List NamedPair → Type 0 = λ names. Contains names listed.pair in
    let first = listed_pays meaning.modes [] text.names text.all text.found from to listed.pair
    (subst C same listed.is_one) listed.positions in
    ap (λ (ps : List Price). price_in ps from to) (sym text.same_prices)
    ∙ all_priced meaning.modes [] text.names text.all text.found (λ from to. refl) from to
    ∙ ap (option_and_then (λ (t : TextTransfer). t.pays)) first.1 ∙ first.2
