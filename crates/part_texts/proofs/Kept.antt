-- The sums of validators, as the program keeps them.
use Rattle.std.proofs.Common.{◌≡◌, ◌∙◌, ℕ, Bool, List, [], ◌∷◌, Option, Some, option_map, refl, sym}
use Rattle.std.proofs.Common.{ap}
use Rattle.histories.specs.{Sums.Sums, Sums.sums_of, declared.sums.totals.Totals.Totals}
use Rattle.part_texts.specs.Fronts.{no_sums, sums_within, with_validator}
use Rattle.part_texts.specs.inside.Fronts.{shown_sums}
use Rattle.std.proofs.lemmas.Map.Made.{lookup-map_values}
use Rattle.std.specs.{BTreeMap.insert_entry, BTreeMap.is_at, Map.lookup, Ordering.match_ordering}
use Rattle.std.specs.{Ordering.nat_cmp, Prelude.unwrap_or, declared.cmp.Ordering.Ordering}
use Rattle.std.specs.declared.cmp.Ordering.TheVariants.{Less, Equal, Greater}

pub kept_is : (test : ℕ → Bool) (entries : List (ℕ × Totals)) (found : Option Totals) (kept : Sums)
    → found ≡ lookup test entries → kept ≡ unwrap_or (option_map sums_of found) no_sums
    → kept ≡ unwrap_or (lookup test (shown_sums sums_of entries)) no_sums
kept_is test entries found kept is has =
    has ∙ ap (λ o. unwrap_or (option_map sums_of o) no_sums) is
    ∙ ap (λ o. unwrap_or o no_sums) (sym (lookup-map_values sums_of test entries))

-- one more is shown as one more
inserted_shown : (v : ℕ) (totals : Totals) (entries : List (ℕ × Totals))
    → shown_sums sums_of (insert_entry nat_cmp entries v totals)
    ≡ insert_entry nat_cmp (shown_sums sums_of entries) v (sums_of totals)
inserted_shown v totals [] = refl
inserted_shown v totals (e ∷ entries) = by (inserted_shown v totals entries) (nat_cmp v e.0)
  where
    by : shown_sums sums_of (insert_entry nat_cmp entries v totals)
        ≡ insert_entry nat_cmp (shown_sums sums_of entries) v (sums_of totals)
        → (order : Ordering)
        → shown_sums sums_of
        (match_ordering order ((v, totals) ∷ e ∷ entries) ((e.0, totals) ∷ entries)
        (e ∷ insert_entry nat_cmp entries v totals))
        ≡ match_ordering order
        ((v, sums_of totals) ∷ (e.0, sums_of e.1) ∷ shown_sums sums_of entries)
        ((e.0, sums_of totals) ∷ shown_sums sums_of entries)
        ((e.0, sums_of e.1) ∷ insert_entry nat_cmp (shown_sums sums_of entries) v (sums_of totals))
    by rest Less = refl
    by rest Equal = refl
    by rest Greater = ap (λ (more : List (ℕ × Sums)). (e.0, sums_of e.1) ∷ more) rest

pub added_one : (v : ℕ) (old new : List (ℕ × Totals)) (kept sum : Sums) (all : Totals)
    → kept ≡ unwrap_or (lookup (is_at (nat_cmp v)) (shown_sums sums_of old)) no_sums
    → Some (sums_of all) ≡ sums_within kept sum → new ≡ insert_entry nat_cmp old v all
    → with_validator (shown_sums sums_of old) (v, sum) ≡ Some (shown_sums sums_of new)
added_one v old new kept sum all is fits put =
    rw (← is, ← fits) (ap Some (sym (inserted_shown v all old) ∙ ap (shown_sums sums_of) (sym put)))
