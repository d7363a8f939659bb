-- What tallies by key know of the entries that were added to them.
use Rattle.histories.specs.{ByKey.with_key, Counts.sums_of_counts}
use Rattle.histories.specs.Sums.{Sums, add_sums, sums, sums_of_replies}
use Rattle.histories.specs.{SumsByKey.validator_of, Tally.sums_of_tally, declared.entry.Entry.Entry}
use Rattle.histories.specs.declared.sums.{counts.Counts.Counts, tally.Tally.Tally}
use Rattle.std.specs.Map.{lookup}
use Rattle.std.specs.Prelude.{◌≡◌, ◌==◌, ◌||◌, ℕ, ◌+◌, ◌≤◌, ◌^◌, Bool, List, [], Option, Some, None}
use Rattle.std.specs.{Prelude.length, Prelude.map, Prelude.is_some, Set.is_member}

-- the sums that are kept for a key, of nothing if there are none
abbrev pub kept_as : {V : Type 0} → (V → Sums) → Option V → Sums
kept_as summed None = sums_of_replies []
kept_as summed (Some counted) = summed counted

-- those that a tally keeps
abbrev pub kept_sums : Option Tally → Sums
kept_sums kept = kept_as sums_of_tally kept

-- the tallies by key have the keys of the entries, and for each key the sums of its entries
pub record AreByKey {K : Type 0} (eq : K → K → Bool) (key_of : Entry → K) (entries : List Entry)
    (tallies : List (K × Tally)) : Type 0 where
  pub sums : (key : K) → kept_sums (lookup (eq key) tallies) ≡ sums (with_key eq key_of key entries)
  pub keys : (key : K) → is_some (lookup (eq key) tallies) ≡ is_member eq (map key_of entries) key

-- they represent some entries, and there is room for this number more
unfoldable pub MapHasRoom : {K : Type 0} → (K → K → Bool) → (Entry → K) → List (K × Tally) → ℕ
    → Type 0
MapHasRoom eq key_of tallies more =
    (entries : List Entry) × AreByKey eq key_of entries tallies × (length entries + more ≤ 2 ^ 95)

-- the tallies of validators: small counts, and what was taken from them when they were full
pub record Tallies : Type 0 where
  pub small : List (ℕ × Counts)
  pub wide : List (ℕ × Tally)

-- the sums that both keep of a validator
abbrev pub sums_at : Tallies → ℕ → Sums
sums_at tallies validator =
    add_sums (kept_sums (lookup (λ other. validator == other) tallies.wide))
    (kept_as sums_of_counts (lookup (λ other. validator == other) tallies.small))

-- whether either has the validator
abbrev pub has_validator : Tallies → ℕ → Bool
has_validator tallies validator =
    is_some (lookup (λ other. validator == other) tallies.wide)
    || is_some (lookup (λ other. validator == other) tallies.small)

-- they have the validators of the entries, and for each validator the sums of its entries
pub record AreTallied (entries : List Entry) (tallies : Tallies) : Type 0 where
  pub sums : (validator : ℕ)
      → sums_at tallies validator ≡ sums (with_key ◌==◌ validator_of validator entries)
  pub keys : (validator : ℕ)
      → has_validator tallies validator ≡ is_member ◌==◌ (map validator_of entries) validator

-- they represent some entries, and there is room for this number more
unfoldable pub HasRoom : Tallies → ℕ → Type 0
HasRoom tallies more =
    (entries : List Entry) × AreTallied entries tallies × (length entries + more ≤ 2 ^ 95)

-- both represent some entries, and there is room for all of them together
unfoldable pub HaveRoom : Tallies → Tallies → Type 0
HaveRoom tallies more =
    (before : List Entry) × (after : List Entry) × AreTallied before tallies
    × AreTallied after more × (length before + length after ≤ 2 ^ 95)
