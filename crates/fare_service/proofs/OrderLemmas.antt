-- The posting order has each tap of the batches, once.
use Rattle.std.proofs.Common.{refl, sym, ◌∙◌, ap, inl, inr, append-nil, arith, eq-eqb, ne_eqb}
use Rattle.fare_service.proofs.AddingLemmas.{sum_below, sum_by_key, length_sum}
use Rattle.fare_service.proofs.OwnVisits.{filter_all, filter_none, own_taps}
use Rattle.fare_service.specs.Placing.{in_posting_order, in_file_order, IsReordered}
use Rattle.fare_service.specs.Runs.{PostedRun, if_any, runs_below, runs_of}
use Rattle.std.proofs.lemmas.{Bool.cases_lt, Bool.Decides.eqb_tells, List.Concat.flat_map-append}
use Rattle.std.proofs.lemmas.List.Elements.{All-nil, All-cons, All-weaker, filter-append}
use Rattle.std.specs.List.{flat_map}
use Rattle.std.specs.Prelude.{ℕ, zero, suc, ◌≡◌, ◌≢◌, ◌⊎◌, ◌<◌, ◌≤◌, ◌==◌, true, false, cond, List}
use Rattle.std.specs.Prelude.{[], ◌∷◌, ◌++◌, All, sum_by}
use Rattle.tap_views.specs.{Layout.Tap, Shards.shard_of_token, Shards.run_of}

any_taps : (shard : ℕ) (taps : List Tap) → flat_map (λ r. r.taps) (if_any shard taps) ≡ taps
any_taps shard [] = refl
any_taps shard (p ∷ taps) = append-nil (p ∷ taps)

run_of-append : (shard shards : ℕ) (xs ys : List Tap)
    → run_of shard shards (xs ++ ys) ≡ run_of shard shards xs ++ run_of shard shards ys
run_of-append shard shards xs ys =
    filter-append (λ p. shard_of_token p.token shards == shard) xs ys

abbrev taps_below : ℕ → ℕ → List Tap → List Tap
taps_below shards n taps = flat_map (λ r. r.taps) (runs_below shards n taps)

below_step : (shards n : ℕ) (taps : List Tap)
    → taps_below shards (suc n) taps ≡ taps_below shards n taps ++ run_of n shards taps
below_step shards n taps =
    flat_map-append (λ (r : PostedRun). r.taps) (runs_below shards n taps)
    (if_any n (run_of n shards taps))
    ∙ ap (λ ts. taps_below shards n taps ++ ts) (any_taps n (run_of n shards taps))

same_shard : (shard shards : ℕ) (taps : List Tap)
    → run_of shard shards (run_of shard shards taps) ≡ run_of shard shards taps
same_shard shard shards taps =
    filter_all (λ p. shard_of_token p.token shards == shard) (run_of shard shards taps)
    (All-weaker (λ p. shard_of_token p.token shards ≡ shard)
    (λ p. (shard_of_token p.token shards == shard) ≡ true)
    (λ p h. eq-eqb (shard_of_token p.token shards) shard h)
    (run_of shard shards taps) (own_taps shard shards taps))

other_shard : (shard other shards : ℕ) (taps : List Tap) → other ≢ shard
    → run_of shard shards (run_of other shards taps) ≡ []
other_shard shard other shards taps ne =
    filter_none (λ p. shard_of_token p.token shards == shard) (run_of other shards taps)
    (All-weaker (λ p. shard_of_token p.token shards ≡ other)
    (λ p. (shard_of_token p.token shards == shard) ≡ false)
    (λ p h. ne_eqb (shard_of_token p.token shards) shard (λ e. ne (sym h ∙ e)))
    (run_of other shards taps) (own_taps other shards taps))

not_below : (shard shards n : ℕ) (taps : List Tap) → n ≤ shard
    → run_of shard shards (taps_below shards n taps) ≡ []
not_below shard shards zero taps past = refl
not_below shard shards (suc n) taps past =
    ap (run_of shard shards) (below_step shards n taps)
    ∙ (run_of-append shard shards (taps_below shards n taps) (run_of n shards taps)
    ∙ (ap (λ ts. ts ++ run_of shard shards (run_of n shards taps))
    (not_below shard shards n taps (omega (arith, past)))
    ∙ other_shard shard n shards taps (λ e. omega (arith, e, past))))

-- the runs of the first shards have the taps of each of them
below_same : (shard shards n : ℕ) (taps : List Tap) → shard < n
    → run_of shard shards (taps_below shards n taps) ≡ run_of shard shards taps
below_same shard shards zero taps within = absurd (omega (arith, within))
below_same shard shards (suc n) taps within =
    ap (run_of shard shards) (below_step shards n taps)
    ∙ (run_of-append shard shards (taps_below shards n taps) (run_of n shards taps)
    ∙ by_position (λ h. below_same shard shards n taps h) (eqb_tells n shard))
  where
    by_position : (shard < n
        → run_of shard shards (taps_below shards n taps) ≡ run_of shard shards taps)
        → (((n == shard) ≡ true) × (n ≡ shard)) ⊎ (((n == shard) ≡ false) × (n ≢ shard))
        → run_of shard shards (taps_below shards n taps) ++ run_of shard shards
        (run_of n shards taps) ≡ run_of shard shards taps
    by_position before (inl (b, e)) =
        ap (λ ts. ts ++ run_of shard shards (run_of n shards taps))
        (not_below shard shards n taps (omega (arith, e)))
        ∙ (ap (λ s. run_of shard shards (run_of s shards taps)) e
        ∙ same_shard shard shards taps)
    by_position before (inr (b, ne)) =
        let less : shard < n = by_order (cases_lt shard n) in
        ap (λ ts. ts ++ run_of shard shards (run_of n shards taps)) (before less)
        ∙ (ap (λ ts. run_of shard shards taps ++ ts) (other_shard shard n shards taps ne)
        ∙ append-nil (run_of shard shards taps))
      where
        by_order : (shard < n) ⊎ (n ≤ shard) → shard < n
        by_order (inl h) = h
        by_order (inr h) = let e : n ≡ shard = omega (arith, h, within) in absurd (ne e)

-- shard by shard the order is that of the file
order_same : (shard shards : ℕ) (batches : List (List Tap)) → shard < shards
    → run_of shard shards (flat_map (λ r. r.taps) (runs_of shards batches))
    ≡ run_of shard shards (flat_map (λ batch. batch) batches)
order_same shard shards [] within = refl
order_same shard shards (batch ∷ batches) within =
    let rest = flat_map (λ (r : PostedRun). r.taps)
    (runs_of shards batches) in
    ap (run_of shard shards)
    (flat_map-append (λ (r : PostedRun). r.taps)
    (runs_below shards shards batch)
    (runs_of shards batches))
    ∙ (run_of-append shard shards (taps_below shards shards batch) rest
    ∙ (ap (λ ts. ts ++ run_of shard shards rest)
    (below_same shard shards shards batch within)
    ∙ (ap (λ ts. run_of shard shards batch ++ ts)
    (order_same shard shards batches within)
    ∙ sym (run_of-append shard shards batch (flat_map (λ b. b) batches)))))

all_shards : (shards : ℕ) (placed : List Tap) → 0 < shards
    → All (λ p. shard_of_token p.token shards < shards) placed
all_shards shards [] some = All-nil (λ (p : Tap). shard_of_token p.token shards < shards)
all_shards shards (p ∷ placed) some =
    All-cons (λ (q : Tap). shard_of_token q.token shards < shards) p placed (omega arith)
    (all_shards shards placed some)

-- every sum over the taps is the same in both orders
same_by_shards : (f : Tap → ℕ) (shards : ℕ) (xs ys : List Tap) → 0 < shards
    → ((shard : ℕ) → shard < shards → run_of shard shards xs ≡ run_of shard shards ys)
    → sum_by f xs ≡ sum_by f ys
same_by_shards f shards xs ys some same =
    sum_by_key (λ p. shard_of_token p.token shards) f shards xs (all_shards shards xs some)
    ∙ (below_agree shards (λ s. sum_by f (run_of s shards xs))
    (λ s. sum_by f (run_of s shards ys)) (λ s h. ap (sum_by f) (same s h))
    ∙ sym (sum_by_key (λ p. shard_of_token p.token shards) f shards ys
    (all_shards shards ys some)))
  where
    below_agree : (n : ℕ) (g h : ℕ → ℕ) → ((i : ℕ) → i < n → g i ≡ h i)
        → sum_below g n ≡ sum_below h n
    below_agree zero g h e = refl
    below_agree (suc n) g h e =
        let first : g 0 ≡ h 0 = e 0 (omega arith) in
        let rest : sum_below (λ i. g (suc i)) n ≡ sum_below (λ i. h (suc i)) n =
        below_agree n (λ i. g (suc i)) (λ i. h (suc i)) (λ i k. e (suc i) (omega (arith, k))) in
        omega arith

-- the posting order has the taps of the file, in another order
pub reordered : (shards : ℕ) (batches : List (List Tap)) → 0 < shards
    → IsReordered shards (in_file_order batches) (in_posting_order shards batches)
reordered shards batches some =
    let same : (shard : ℕ) → shard < shards
    → run_of shard shards (in_posting_order shards batches)
    ≡ run_of shard shards (in_file_order batches) =
    λ shard within. order_same shard shards batches within in
    record {
      same = same;
      within = all_shards shards (in_file_order batches) some;
      number = length_sum (in_posting_order shards batches)
          ∙ (same_by_shards (λ p. 1) shards (in_posting_order shards batches)
          (in_file_order batches) some same ∙ sym (length_sum (in_file_order batches)));
      counts = λ kind. same_by_shards (λ tap. cond (kind tap) 1 0) shards
          (in_posting_order shards batches) (in_file_order batches) some same;
    }
