-- Tallies that are added key by key to those of other entries.
use Rattle.std.proofs.Common.{◌≡◌, ◌+◌, ◌≤◌, ◌^◌, Bool, true, false, cond, ◌||◌, List, [], ◌∷◌}
use Rattle.std.proofs.Common.{Option, Some, None, refl, sym, ap, ◌∙◌, ⊎_elim, arith}
use Rattle.histories.proofs.{ByKeyLemmas.kept-or, SumsLemmas.add_none}
use Rattle.histories.specs.Sums.{Sums, sums_of_replies, add_sums}
use Rattle.histories.specs.{TalliesByKey.kept_as, TalliesByKey.kept_sums, Tally.sums_of_tally}
use Rattle.histories.specs.{declared.sums.tally.Tally.Tally, inside.Added.AreAdded}
use Rattle.std.proofs.{Math.Bool.or-false, Math.Bool.or-true, lemmas.Bool.cases_Bool}
use Rattle.std.specs.{Cmp.IsEquivalence, HashMap.HashMap, HashMap.get, HashMap.Updates}
use Rattle.std.specs.{List.IsDistinct, Map.lookup, Map.keys_of, Option.is_some, Option.unwrap_or}

-- what is kept of each key now and what is left to add make up what was kept at first and all that
-- is to be added
pub record IsAdding {K V : Type 0} (eq : K → K → Bool) (summed : V → Sums)
    (first : List (K × Tally)) (all : List (K × V)) (now : List (K × Tally)) (left : List (K × V))
    : Type 0 where
  pub sums : (key : K)
      → add_sums (kept_sums (lookup (eq key) now)) (kept_as summed (lookup (eq key) left))
      ≡ add_sums (kept_sums (lookup (eq key) first)) (kept_as summed (lookup (eq key) all))
  pub keys : (key : K)
      → (is_some (lookup (eq key) now) || is_some (lookup (eq key) left))
      ≡ (is_some (lookup (eq key) first) || is_some (lookup (eq key) all))
  pub distinct : IsDistinct eq (keys_of left)

-- a map's entry, once a tally was added to its value
pub tally-written : {K S : Type 0} (eq : K → K → Bool) (key : K) (old next : HashMap K Tally S)
    (pairs : List (K × Tally)) (kept fresh total more : Tally)
    → pairs ≡ next.entries
    → Updates eq old next key (Some total)
    → kept ≡ unwrap_or (get eq old key) fresh
    → sums_of_tally fresh ≡ sums_of_replies []
    → sums_of_tally total ≡ add_sums (sums_of_tally kept) (sums_of_tally more)
    → (sum : Tally)
    × (sums_of_tally sum ≡ add_sums (kept_sums (get eq old key)) (sums_of_tally more))
    × ((other : K) → lookup (eq other) pairs ≡ cond (eq key other) (Some sum) (get eq old other))
tally-written {K = K} eq key old next pairs kept fresh total more same_pairs updates is_kept none
    added = (
      total,
      added ∙ ap (λ (s : Sums). add_sums s (sums_of_tally more))
          (kept-or sums_of_tally (get eq old key) fresh kept is_kept none),
      λ other. ap (λ (es : List (K × Tally)). lookup (eq other) es) same_pairs ∙ updates.0 other,
    )

module _ {K V : Type 0} {eq : K → K → Bool} (laws : IsEquivalence eq)
    (same : (a b : K) → eq a b ≡ true → a ≡ b) (summed : V → Sums) where
  -- a key that is apart from all others is not found among them
  not-found : (key : K) (rest : List (K × V)) → IsDistinct eq (key ∷ keys_of rest)
      → lookup (eq key) rest ≡ None
  unfolding IsDistinct
  not-found key [] apart = refl
  not-found key (pair ∷ rest) apart =
      ap (λ (b : Bool). cond b (Some pair.1) (lookup (eq key) rest)) (apart.0.0)
      ∙ not-found key rest (apart.0.1, apart.1.1)

  -- one key more is added
  pub adding-more : (first : List (K × Tally)) (all : List (K × V)) (now new : List (K × Tally))
      (rest : List (K × V)) (key : K) (counted : V) (sum : Tally)
      → sums_of_tally sum ≡ add_sums (kept_sums (lookup (eq key) now)) (summed counted)
      → ((other : K) → lookup (eq other) new
      ≡ cond (eq key other) (Some sum) (lookup (eq other) now))
      → IsAdding eq summed first all now ((key, counted) ∷ rest)
      → IsAdding eq summed first all new rest
  unfolding IsDistinct
  adding-more first all now new rest key counted sum added updates before = record {
    sums = λ q.
        ⊎_elim
        (λ (here : eq key q ≡ true).
        let is : key ≡ q = same key q here in
        let none : lookup (eq q) rest ≡ None =
        ap (λ (k : K). lookup (eq k) rest) (sym is) ∙ not-found key rest before.distinct in
        ap (λ (o : Option Tally). add_sums (kept_sums o) (kept_as summed (lookup (eq q) rest)))
        (updates q)
        ∙ ap (λ (b : Bool). add_sums (kept_sums (cond b (Some sum) (lookup (eq q) now)))
        (kept_as summed (lookup (eq q) rest))) here
        ∙ ap (λ (o : Option V). add_sums (sums_of_tally sum) (kept_as summed o)) none
        ∙ add_none (sums_of_tally sum)
        ∙ added
        ∙ ap (λ (k : K). add_sums (kept_sums (lookup (eq k) now)) (summed counted)) is
        ∙ ap (λ (b : Bool). add_sums (kept_sums (lookup (eq q) now))
        (kept_as summed (cond b (Some counted) (lookup (eq q) rest))))
        (sym (laws.symm q key ∙ here))
        ∙ before.sums q)
        (λ (apart : eq key q ≡ false).
        ap (λ (o : Option Tally). add_sums (kept_sums o) (kept_as summed (lookup (eq q) rest)))
        (updates q)
        ∙ ap (λ (b : Bool). add_sums (kept_sums (cond b (Some sum) (lookup (eq q) now)))
        (kept_as summed (lookup (eq q) rest))) apart
        ∙ ap (λ (b : Bool). add_sums (kept_sums (lookup (eq q) now))
        (kept_as summed (cond b (Some counted) (lookup (eq q) rest))))
        (sym (laws.symm q key ∙ apart))
        ∙ before.sums q)
        (cases_Bool (eq key q));
    keys = λ q.
        ⊎_elim
        (λ (here : eq key q ≡ true).
        ap (λ (o : Option Tally). is_some o || is_some (lookup (eq q) rest)) (updates q)
        ∙ ap (λ (b : Bool). is_some (cond b (Some sum) (lookup (eq q) now)) || is_some
        (lookup (eq q) rest)) here
        ∙ sym (or-true (is_some (lookup (eq q) now)))
        ∙ ap (λ (b : Bool). is_some (lookup (eq q) now) || is_some
        (cond b (Some counted) (lookup (eq q) rest))) (sym (laws.symm q key ∙ here))
        ∙ before.keys q)
        (λ (apart : eq key q ≡ false).
        ap (λ (o : Option Tally). is_some o || is_some (lookup (eq q) rest)) (updates q)
        ∙ ap (λ (b : Bool). is_some (cond b (Some sum) (lookup (eq q) now)) || is_some
        (lookup (eq q) rest)) apart
        ∙ ap (λ (b : Bool). is_some (lookup (eq q) now) || is_some
        (cond b (Some counted) (lookup (eq q) rest))) (sym (laws.symm q key ∙ apart))
        ∙ before.keys q)
        (cases_Bool (eq key q));
    distinct = before.distinct.1;
  }

  module _ (first : List (K × Tally)) (all : List (K × V)) (now : List (K × Tally)) where
    -- there is room for each key
    pub room-adding : (rest : List (K × V)) (key : K) (counted : V)
        → ((key : K) → (kept_sums (lookup (eq key) first)).taps
        + (kept_as summed (lookup (eq key) all)).taps ≤ 2 ^ 95)
        → IsAdding eq summed first all now ((key, counted) ∷ rest)
        → (kept_sums (lookup (eq key) now)).taps + (summed counted).taps ≤ 2 ^ 95
    room-adding rest key counted room adding =
        let here : add_sums (kept_sums (lookup (eq key) now)) (summed counted)
        ≡ add_sums (kept_sums (lookup (eq key) first)) (kept_as summed (lookup (eq key) all)) =
        ap (λ (b : Bool). add_sums (kept_sums (lookup (eq key) now))
        (kept_as summed (cond b (Some counted) (lookup (eq key) rest)))) (sym (laws.refl key))
        ∙ adding.sums key in
        let taps = ap (λ (s : Sums). s.taps) here in
        omega (arith, taps, room key)

    -- once nothing is left, all are added
    pub adding-done : IsAdding eq summed first all now [] → AreAdded eq summed first all now
    adding-done adding = record {
      sums = λ q. sym (add_none (kept_sums (lookup (eq q) now))) ∙ adding.sums q;
      keys = λ q. sym (or-false (is_some (lookup (eq q) now))) ∙ adding.keys q;
    }
