-- The pairs of places of a table are those of the pairs of names that its text lists.
use Rattle.std.proofs.Common.{◌≡◌, ◌⊎◌, ◌↔◌, ℕ, ◌<◌, ◌==◌, ◌||◌, Bool, true, false, List, [], ◌∷◌}
use Rattle.std.proofs.Common.{◌++◌, length, Err, Ok, refl, sym, ap, ◌∙◌, subst, arith, inl, inr}
use Rattle.std.proofs.Common.{⊎_elim, slice_index_or, zero, suc, ◌&&◌, not, Option, None, Some}
use Rattle.fare_table.proofs.PartLemmas.{bind_ok, parts}
use Rattle.fare_table.specs.TableMeaning.{meaning_of_tree}
use Rattle.fare_table.specs.Transfers.{ListsPair, NamedPair, TextTransfers, at_positions, is_new}
use Rattle.fare_table.specs.Transfers.{is_other_price, named_pairs, pairs_with, positions_of}
use Rattle.fare_table.specs.Transfers.{prices_of, same_modes, text_transfers, transfers_from}
use Rattle.fare_table.specs.{Transfers.transfers_of, declared.fault.TableFault.TheVariants.Range}
use Rattle.fare_table.specs.declared.read.transfers.TextTransfer.{TextTransfer}
use Rattle.std.proofs.lemmas.Bool.{and_from, and_parts, eq-eqb, eqb-true, or_cases, or_left}
use Rattle.std.proofs.lemmas.{Bool.or_right, List.Elements.Contains-append_right}
use Rattle.std.proofs.lemmas.List.{Elements.Contains-get_or, Folds.list_any-append}
use Rattle.std.specs.{List.find, List.list_any, Option.is_some}
use Rattle.std.specs.Prelude.{Contains, if◌then◌else◌}
use Rattle.tariffs.specs.{TableMeaning.TableMeaning, Transfers.has_pair, Transfers.joins}
use Rattle.tariffs.specs.{Transfers.with_pair, declared.price.Price.Price}
use Rattle.toml.specs.Data.{Members}
use Rattle.fare_table.specs.declared.fault.Key.TheVariants as the_key

abbrev pub pair_by : ℕ → ℕ → ℕ × ℕ
pair_by a b = (a, b)

same_pair : (a b c d : ℕ) → a ≡ c → b ≡ d → pair_by a b ≡ pair_by c d
same_pair a b c d one other = cc

-- what stands in a list stands first, or among the others
pub cons_cases : {X : Type 0} (x : X) (xs : List X) (y : X) (k : ℕ) → k < length (x ∷ xs)
    → slice_index_or (x ∷ xs) k y ≡ y → (x ≡ y) ⊎ Contains xs y
cons_cases x xs y zero below is = inl is
cons_cases x xs y (suc k) below is = inr (k, omega arith, is)

keeps_if : (b : Bool) (pairs : List (ℕ × ℕ)) (f t from to : ℕ) → has_pair pairs from to ≡ true
    → has_pair (if b then pairs else pairs ++ (f, t) ∷ []) from to ≡ true
keeps_if true pairs f t from to has = has
keeps_if false pairs f t from to has =
    list_any-append (joins from to) pairs ((f, t) ∷ []) ∙ or_left _ _ has

-- one more pair leaves the others
keeps : (pairs : List (ℕ × ℕ)) (f t from to : ℕ) → has_pair pairs from to ≡ true
    → has_pair (with_pair pairs f t) from to ≡ true
keeps pairs f t from to has = keeps_if (has_pair pairs f t) pairs f t from to has

adds_if : (b : Bool) (pairs : List (ℕ × ℕ)) (f t : ℕ) → has_pair pairs f t ≡ b
    → has_pair (if b then pairs else pairs ++ (f, t) ∷ []) f t ≡ true
adds_if true pairs f t is = is
adds_if false pairs f t is =
    list_any-append (joins f t) pairs ((f, t) ∷ [])
    ∙ or_right (has_pair pairs f t) _
    (or_left (joins f t (pair_by f t)) false
    (and_from (f == f) (t == t) (eq-eqb f f refl) (eq-eqb t t refl)))

-- one more pair is one of them
adds : (pairs : List (ℕ × ℕ)) (f t : ℕ) → has_pair (with_pair pairs f t) f t ≡ true
adds pairs f t = adds_if (has_pair pairs f t) pairs f t refl

only_if : (b : Bool) (pairs : List (ℕ × ℕ)) (f t from to : ℕ)
    → has_pair (if b then pairs else pairs ++ (f, t) ∷ []) from to ≡ true
    → (has_pair pairs from to ≡ true) ⊎ (pair_by f t ≡ pair_by from to)
only_if true pairs f t from to has = inl has
only_if false pairs f t from to has =
    let one_of : (has_pair pairs from to || (joins from to (pair_by f t) || false)) ≡ true =
    sym (list_any-append (joins from to) pairs ((f, t) ∷ [])) ∙ has in
    ⊎_elim (λ old. inl old)
    (λ last. ⊎_elim
    (λ joined. inr
    (same_pair f t from to (eqb-true f from (and_parts (f == from) (t == to) joined).0)
    (eqb-true t to (and_parts (f == from) (t == to) joined).1)))
    (λ none. absurd (cc (none)))
    (or_cases (joins from to (pair_by f t)) false last))
    (or_cases (has_pair pairs from to) (joins from to (pair_by f t) || false) one_of)

-- of one pair more, each is that one or an earlier one
only : (pairs : List (ℕ × ℕ)) (f t from to : ℕ) → has_pair (with_pair pairs f t) from to ≡ true
    → (has_pair pairs from to ≡ true) ⊎ (pair_by f t ≡ pair_by from to)
only pairs f t from to has = only_if (has_pair pairs f t) pairs f t from to has

-- the transfer goes between the modes of these places
abbrev pub between : ℕ → ℕ → TextTransfer → Bool
between from to other = (from == other.from) && (to == other.to)

-- ---- the pairs of transfers
pairs-still : (pairs : List (ℕ × ℕ)) (found : List TextTransfer) (from to : ℕ)
    → has_pair pairs from to ≡ true → has_pair (pairs_with pairs found) from to ≡ true
pairs-still pairs [] from to has = has
pairs-still pairs (one ∷ more) from to has =
    pairs-still (with_pair pairs one.from one.to) more from to
    (keeps pairs one.from one.to from to has)

pairs-there : (pairs : List (ℕ × ℕ)) (found : List TextTransfer) (from to : ℕ)
    → list_any (between from to) found ≡ true → has_pair (pairs_with pairs found) from to ≡ true
pairs-there pairs [] from to is = absurd (cc)
pairs-there pairs (one ∷ more) from to is =
    let next = with_pair pairs one.from one.to in
    ⊎_elim
    (λ here.
    let both = and_parts (from == one.from) (to == one.to) here in
    let from_is = eqb-true from one.from both.0 in
    let to_is = eqb-true to one.to both.1 in
    pairs-still next more from to (rw (from_is, to_is) (adds pairs one.from one.to)))
    (λ later. pairs-there next more from to later)
    (or_cases (between from to one) (list_any (between from to) more) is)

same_modes_of : (a b from to : ℕ) → pair_by a b ≡ pair_by from to
    → ((from == a) && (to == b)) ≡ true
same_modes_of a b from to same =
    let f : a ≡ from = ap (λ (p : ℕ × ℕ). p.0) same in
    let t : b ≡ to = ap (λ (p : ℕ × ℕ). p.1) same in
    and_from (from == a) (to == b) (eq-eqb from a (sym f)) (eq-eqb to b (sym t))

pairs-came : (pairs : List (ℕ × ℕ)) (found : List TextTransfer) (from to : ℕ)
    → has_pair (pairs_with pairs found) from to ≡ true
    → (has_pair pairs from to ≡ true) ⊎ (list_any (between from to) found ≡ true)
pairs-came pairs [] from to has = inl has
pairs-came pairs (one ∷ more) from to has =
    ⊎_elim
    (λ before. ⊎_elim (λ old. inl old)
    (λ same. inr (or_left _ _ (same_modes_of one.from one.to from to same)))
    (only pairs one.from one.to from to before))
    (λ later. inr (or_right (between from to one) _ later))
    (pairs-came (with_pair pairs one.from one.to) more from to has)

-- ---- the transfers of pairs of names
abbrev pub added : Option TextTransfer → List TextTransfer → TextTransfer → List TextTransfer
added earlier found one = if not (is_some earlier) then found ++ one ∷ [] else found

added-keeps : (earlier : Option TextTransfer) (found : List TextTransfer) (one : TextTransfer)
    (from to : ℕ) → list_any (between from to) found ≡ true
    → list_any (between from to) (added earlier found one) ≡ true
added-keeps None found one from to is =
    list_any-append (between from to) found (one ∷ []) ∙ or_left _ _ is
added-keeps (Some earlier) found one from to is = is

find_if : (b : Bool) (first one : TextTransfer) (o : Option TextTransfer) (rest : Bool)
    → (if b then Some first else o) ≡ Some one → (o ≡ Some one → rest ≡ true) → (b || rest) ≡ true
find_if true first one o rest is later = refl
find_if false first one o rest is later = later is

find_any : (test : TextTransfer → Bool) (found : List TextTransfer) (one : TextTransfer)
    → find test found ≡ Some one → list_any test found ≡ true
find_any test [] one is = absurd (cc)
find_any test (first ∷ more) one is =
    find_if (test first) first one (find test more) (list_any test more) is
    (λ later. find_any test more one later)

added-adds : (earlier : Option TextTransfer) (found : List TextTransfer) (one : TextTransfer)
    → find (same_modes one) found ≡ earlier
    → list_any (between one.from one.to) (added earlier found one) ≡ true
added-adds None found one is =
    list_any-append (between one.from one.to) found (one ∷ [])
    ∙ or_right (list_any (between one.from one.to) found) _
    (or_left (between one.from one.to one) false
    (and_from (one.from == one.from) (one.to == one.to) (eq-eqb one.from one.from refl)
    (eq-eqb one.to one.to refl)))
added-adds (Some earlier) found one is = find_any (same_modes one) found earlier is

added-only : (earlier : Option TextTransfer) (found : List TextTransfer) (one : TextTransfer)
    (from to : ℕ) → list_any (between from to) (added earlier found one) ≡ true
    → (list_any (between from to) found ≡ true) ⊎ (between from to one ≡ true)
added-only None found one from to is =
    ⊎_elim (λ old. inl old)
    (λ last. ⊎_elim (λ here. inr here) (λ none. absurd (cc (none)))
    (or_cases (between from to one) false last))
    (or_cases (list_any (between from to) found) (between from to one || false)
    (sym (list_any-append (between from to) found (one ∷ [])) ∙ is))
added-only (Some earlier) found one from to is = inl is

-- the next pair was read, and the others
pub record Next (modes : List (List ℕ)) (found : List TextTransfer) (pair : NamedPair)
    (more : List NamedPair) (all : List TextTransfer) : Type 0 where
  pub positions : ℕ × ℕ
  pub known : positions_of modes pair.0 ≡ Ok positions
  pub agrees : is_other_price (at_positions positions pair.1)
      (find (same_modes (at_positions positions pair.1)) found) ≡ false
  pub rest : transfers_from modes (added (find (same_modes (at_positions positions pair.1)) found)
      found (at_positions positions pair.1)) more ≡ Ok all

new_if : (b new is_new : Bool) → (if b then Err (Range the_key.Transfers) else Ok new) ≡ Ok is_new
    → (b ≡ false) × (new ≡ is_new)
new_if true new is_new is = absurd (cc)
new_if false new is_new is = (refl, cc)

pub next : (modes : List (List ℕ)) (found : List TextTransfer) (pair : NamedPair)
    (more : List NamedPair) (all : List TextTransfer)
    → transfers_from modes found (pair ∷ more) ≡ Ok all → Next modes found pair more all
next modes found pair more all is =
    let at = bind_ok _ _ _ is in
    let one = at_positions at.0 pair.1 in
    let kept = bind_ok _ _ _ at.2 in
    let new = bind_ok _ _ _ kept.1 in
    let is_new = new_if (is_other_price one (find (same_modes one) found))
    (not (is_some (find (same_modes one) found))) new.0 new.1 in
    let same : Ok (if new.0 then found ++ one ∷ [] else found) ≡ Ok kept.0 = new.2 in
    let whole : (if new.0 then found ++ one ∷ [] else found) ≡ kept.0 = cc in
    record {
      positions = at.0;
      known = at.1;
      agrees = is_new.0;
      rest = ap (λ (b : Bool). transfers_from modes (if b then found ++ one ∷ [] else found) more)
          is_new.1
          ∙ ap (λ (all : List TextTransfer). transfers_from modes all more) whole ∙ kept.2;
    }

-- the transfers found stay
still : (modes : List (List ℕ)) (found : List TextTransfer) (names : List NamedPair)
    (all : List TextTransfer) → transfers_from modes found names ≡ Ok all
    → (from to : ℕ) → list_any (between from to) found ≡ true
    → list_any (between from to) all ≡ true
still modes found [] all is from to has = let same : found ≡ all = cc in
    subst (λ (them : List TextTransfer). list_any (between from to) them ≡ true) same has
still modes found (pair ∷ more) all is from to has =
    let n = next modes found pair more all is in
    let one = at_positions n.positions pair.1 in
    still modes (added (find (same_modes one) found) found one) more all n.rest from to
    (added-keeps (find (same_modes one) found) found one from to has)

-- a pair of names that is listed comes in
there : (modes : List (List ℕ)) (found : List TextTransfer) (names : List NamedPair)
    (all : List TextTransfer) → transfers_from modes found names ≡ Ok all
    → (from to : ℕ) (pair : NamedPair) → Contains names pair
    → positions_of modes pair.0 ≡ Ok (pair_by from to) → list_any (between from to) all ≡ true
there modes found [] all is from to pair at positions = absurd (omega (arith, at.1))
there modes found (first ∷ more) all is from to pair at positions =
    let n = next modes found first more all is in
    let one = at_positions n.positions first.1 in
    let kept = added (find (same_modes one) found) found one in
    ⊎_elim
    (λ same.
    let both : Ok n.positions ≡ Ok (pair_by from to) =
    sym n.known ∙ ap (λ (p : NamedPair). positions_of modes p.0) same ∙ positions in
    let here : n.positions ≡ pair_by from to = cc in
    still modes kept more all n.rest from to
    (subst (λ (p : ℕ × ℕ). list_any (between p.0 p.1) kept ≡ true) here
    (added-adds (find (same_modes one) found) found one refl)))
    (λ later. there modes kept more all n.rest from to pair later positions)
    (cons_cases first more pair at.0 at.1 at.2)

-- a pair of names of these places is listed
abbrev IsListed : List (List ℕ) → List NamedPair → ℕ → ℕ → Type 0
IsListed modes names from to =
    (pair : NamedPair) × Contains names pair × (positions_of modes pair.0 ≡ Ok (pair_by from to))

-- each transfer was found before, or its pair is listed
came : (modes : List (List ℕ)) (found : List TextTransfer) (names : List NamedPair)
    (all : List TextTransfer) → transfers_from modes found names ≡ Ok all
    → (from to : ℕ) → list_any (between from to) all ≡ true
    → (list_any (between from to) found ≡ true) ⊎ IsListed modes names from to
came modes found [] all is from to has = let same : found ≡ all = cc in
    inl (subst (λ (them : List TextTransfer). list_any (between from to) them ≡ true) (sym same) has)
came modes found (first ∷ more) all is from to has =
    let n = next modes found first more all is in
    let one = at_positions n.positions first.1 in
    ⊎_elim
    (λ before. ⊎_elim (λ old. inl old)
    (λ here.
    let both = and_parts (from == one.from) (to == one.to) here in
    let same : n.positions ≡ pair_by from to =
    same_pair n.positions.0 n.positions.1 from to (sym (eqb-true from one.from both.0))
    (sym (eqb-true to one.to both.1)) in
    inr (
      first,
      Contains-get_or (first ∷ more) 0 first (omega arith),
      n.known ∙ ap (λ (p : ℕ × ℕ). Ok p) same,
    ))
    (added-only (find (same_modes one) found) found one from to before))
    (λ later. inr (later.0, Contains-append_right (first ∷ []) more later.0 later.1, later.2))
    (came modes (added (find (same_modes one) found) found one) more all n.rest from to has)

-- the transfers of a text, and the names that it lists
pub record Lists (modes : List (List ℕ)) (tree : Members) (pairs : List (ℕ × ℕ))
    (prices : List Price) : Type 0 where
  pub names : List NamedPair
  pub listed : named_pairs tree ≡ Ok names
  pub all : List TextTransfer
  pub found : transfers_from modes [] names ≡ Ok all
  pub same : pairs_with [] all ≡ pairs
  pub same_prices : prices_of all ≡ prices

pub lists : (modes : List (List ℕ)) (tree : Members) (pairs : List (ℕ × ℕ)) (prices : List Price)
    → transfers_of modes tree ≡ Ok (text_transfers pairs prices) → Lists modes tree pairs prices
unfolding transfers_of
lists modes tree pairs prices is =
    let named = bind_ok _ _ _ is in
    let read = bind_ok _ _ _ named.2 in
    let both : Ok (text_transfers (pairs_with [] read.0) (prices_of read.0))
    ≡ Ok (text_transfers pairs prices) = read.2 in
    let same : text_transfers (pairs_with [] read.0) (prices_of read.0) ≡ text_transfers pairs prices =
    cc in
    record {
      names = named.0;
      listed = named.1;
      all = read.0;
      found = read.1;
      same = ap (λ (t : TextTransfers). t.pairs) same;
      same_prices = ap (λ (t : TextTransfers). t.prices) same;
    }

-- a table's pairs are exactly those that are listed
pairs-listed : (modes : List (List ℕ)) (tree : Members) (pairs : List (ℕ × ℕ)) (prices : List Price)
    (from to : ℕ) → transfers_of modes tree ≡ Ok (text_transfers pairs prices)
    → (has_pair pairs from to ≡ true) ↔ ListsPair modes tree from to
pairs-listed modes tree pairs prices from to is =
    let text = lists modes tree pairs prices is in (
      λ has. ⊎_elim (λ none. absurd (cc (none)))
          (λ found. ⊎_elim (λ none. absurd (cc (none)))
          (λ listed. record {
            pairs = text.names;
            listed = text.listed;
            pair = listed.0;
            is_one = listed.1;
            positions = listed.2;
          })
          (came modes [] text.names text.all text.found from to found))
          (pairs-came [] text.all from to
          (subst (λ (ps : List (ℕ × ℕ)). has_pair ps from to ≡ true) (sym text.same) has)),
      λ listed.
          let both : Ok listed.pairs ≡ Ok text.names = sym listed.listed ∙ text.listed in
          let same : listed.pairs ≡ text.names = cc in
          let C : List NamedPair → Type 0 = λ names. Contains names listed.pair in
          subst (λ (ps : List (ℕ × ℕ)). has_pair ps from to ≡ true) text.same
          (pairs-there [] text.all from to
          (there modes [] text.names text.all text.found from to listed.pair
          (subst C same listed.is_one) listed.positions)),
    )

-- the law
pub permitted-listed : (tree : Members) (meaning : TableMeaning) (from to : ℕ)
    → meaning_of_tree tree ≡ Ok meaning → (has_pair meaning.transfers from to ≡ true)
    ↔ ListsPair meaning.modes tree from to
permitted-listed tree meaning from to is =
    pairs-listed meaning.modes tree meaning.transfers meaning.prices from to
    (parts tree meaning is).transfers
