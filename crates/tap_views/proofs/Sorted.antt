-- The places of a shard's taps, as a batch is gone over.
use Rattle.std.proofs.Common.{◌≡◌, ◌≢◌, ◌∙◌, sym, refl, subst, ℕ, suc, ◌+◌, ◌==◌, ◌<◌, ◌≤◌, ◌++◌}
use Rattle.std.proofs.Common.{List, [], ◌∷◌, length, set, get_or, Bool, true, false, cond, ap}
use Rattle.std.proofs.Common.{arith, get_or-set_same, get_or-set_other}
use Rattle.std.proofs.{Math.Seq.get_or-append_seam, lemmas.Bool.eqb-true, lemmas.List.append-nil}
use Rattle.std.proofs.lemmas.{List.length-append, List.append_assoc, Option.slice_get-get_or}
use Rattle.std.specs.{Borrow.Bor, List.AllByRecursion}
use Rattle.std.specs.Prelude.{slice_get, Option, Some, None, flat_map, option_to_list}
use Rattle.tap_views.specs.{Layout.Tap, Runs.positions_from, Shards.shard_of_token, Shards.run_of}
use Rattle.tap_views.specs.inside.Runs.{ArePositionsKept, ArePositionsBelow, left_of}

-- no more places than taps
pub positions_few : (shard shards at : ℕ) (taps : List Tap)
    → length (positions_from shard shards at taps) ≤ length taps
positions_few shard shards at [] = omega arith
positions_few shard shards at (tap ∷ taps) =
    let rest : length (positions_from shard shards (suc at) taps) ≤ length taps =
    positions_few shard shards (suc at) taps in
    grind (arith, rest)

-- one tap more adds its place to its shard's list
abbrev pub position_of : ℕ → ℕ → ℕ → Tap → List ℕ
position_of shard shards at tap = cond (shard_of_token tap.token shards == shard) (at ∷ []) []

pub positions_more : (shard shards at : ℕ) (taps : List Tap) (tap : Tap)
    → positions_from shard shards at (taps ++ tap ∷ []) ≡ positions_from shard shards at taps
    ++ position_of shard shards (at + length taps) tap
positions_more shard shards at [] tap = grind arith
positions_more shard shards at (first ∷ taps) tap =
    let rest : positions_from shard shards (suc at) (taps ++ tap ∷ [])
    ≡ positions_from shard shards (suc at) taps ++ position_of shard shards (suc at + length taps)
    tap
    = positions_more shard shards (suc at) taps tap in
    grind (arith, rest)

-- the lists hold the places of the taps so far; with the next tap's place in its shard's list they
-- hold those of one more
abbrev pub Hold : ℕ → List (List ℕ) → List Tap → Type 0
Hold shards lists taps = (shard : ℕ) → shard < shards
    → get_or lists shard [] ≡ positions_from shard shards 0 taps

pub hold_more : (n : ℕ) (lists : List (List ℕ)) (taps : List Tap) (tap : Tap) (own : ℕ)
    (grown : List ℕ)
    → length lists ≡ n → own ≡ shard_of_token tap.token n → own < n
    → grown ≡ get_or lists own [] ++ length taps ∷ []
    → Hold n lists taps → Hold n (set lists own grown) (taps ++ tap ∷ [])
hold_more n lists taps tap own grown number is below grows held shard within =
    step (own == shard) refl
  where
    inside : own < length lists
    inside = omega (arith, number, below)

    step : (same : Bool) → (own == shard) ≡ same
        → get_or (set lists own grown) shard [] ≡ positions_from shard n 0 (taps ++ tap ∷ [])
    step true equal = grind (
      arith,
      eqb-true _ _ equal,
      get_or-set_same lists own grown [] inside,
      held own below,
      grows,
      is,
      positions_more own n 0 taps tap,
    )
    step false other =
        let differ : shard ≢ own = grind (arith, other) in
        let no : (shard_of_token tap.token n == shard) ≡ false =
        ap (λ s. s == shard) (sym is) ∙ other in
        get_or-set_other lists own shard grown [] differ ∙ held shard within
        ∙ sym (positions_more shard n 0 taps tap ∙ rw (no, append-nil) refl)

-- places in a batch give the shard's taps again
-- the taps of `all` at places
abbrev at_positions : List Tap → List ℕ → List Tap
at_positions all positions =
    flat_map (λ position. option_to_list (slice_get all position)) positions

-- if the first tap stands at its place in all
run_step : (shard shards : ℕ) (before taps : List Tap) (tap : Tap) (own : Bool)
    → at_positions (before ++ tap ∷ taps) (positions_from shard shards (suc (length before)) taps)
    ≡ run_of shard shards taps
    → at_positions (before ++ tap ∷ taps)
    (cond own (length before ∷ positions_from shard shards (suc (length before)) taps)
    (positions_from shard shards (suc (length before)) taps))
    ≡ cond own (tap ∷ run_of shard shards taps) (run_of shard shards taps)
run_step shard shards before taps tap true rest =
    let within : length before < length (before ++ tap ∷ taps) = rw length-append (omega arith) in
    let here : slice_get (before ++ tap ∷ taps) (length before) ≡ Some tap
    = slice_get-get_or (before ++ tap ∷ taps) (length before) tap within
    ∙ ap (λ t. Some t) (get_or-append_seam before tap taps tap) in
    rw here (ap (λ run. tap ∷ run) rest)
run_step shard shards before taps tap false rest = rest

pub positions_run : (shard shards : ℕ) (before taps : List Tap)
    → at_positions (before ++ taps) (positions_from shard shards (length before) taps)
    ≡ run_of shard shards taps
positions_run shard shards before [] = refl
positions_run shard shards before (tap ∷ taps) =
    let all : (before ++ tap ∷ []) ++ taps ≡ before ++ tap ∷ taps =
    append_assoc before (tap ∷ []) taps in
    let count : length (before ++ tap ∷ []) ≡ suc (length before) =
    rw length-append (omega arith) in
    let rest : at_positions (before ++ tap ∷ taps)
    (positions_from shard shards (suc (length before)) taps) ≡ run_of shard shards taps
    = sym (ap (λ list. at_positions list (positions_from shard shards (suc (length before)) taps))
    all)
    ∙ sym (ap
    (λ at. at_positions ((before ++ tap ∷ []) ++ taps) (positions_from shard shards at taps))
    count)
    ∙ positions_run shard shards (before ++ tap ∷ []) taps in
    run_step shard shards before taps tap (shard_of_token tap.token shards == shard) rest

below_step : (shard shards at count : ℕ) (taps : List Tap) → at < count → (own : Bool)
    → AllByRecursion (λ position. position < count) (positions_from shard shards (suc at) taps)
    → AllByRecursion (λ position.
    position < count) (cond own (at ∷ positions_from shard shards (suc at) taps)
    (positions_from shard shards (suc at) taps))
below_step shard shards at count taps below true more = (below, more)
below_step shard shards at count taps below false more = more

-- places that are kept are below the number of taps
pub positions_below : (shard shards at count : ℕ) (taps : List Tap) → at + length taps ≤ count
    → AllByRecursion (λ position. position < count) (positions_from shard shards at taps)
positions_below shard shards at count [] few = tt
positions_below shard shards at count (tap ∷ taps) few =
    below_step shard shards at count taps (omega (arith, few))
    (shard_of_token tap.token shards == shard)
    (positions_below shard shards (suc at) count taps (omega (arith, few)))

count_step : (shard shards at : ℕ) (tap : Tap) (taps : List Tap) (own : Bool)
    → length (positions_from shard shards (suc at) taps) ≡ length (run_of shard shards taps)
    → length (cond own (at ∷ positions_from shard shards (suc at) taps)
    (positions_from shard shards (suc at) taps))
    ≡ length (cond own (tap ∷ run_of shard shards taps) (run_of shard shards taps))
count_step shard shards at tap taps true rest = omega (arith, rest)
count_step shard shards at tap taps false rest = rest

-- as many places as taps
pub positions_count : (shard shards at : ℕ) (taps : List Tap)
    → length (positions_from shard shards at taps) ≡ length (run_of shard shards taps)
positions_count shard shards at [] = refl
positions_count shard shards at (tap ∷ taps) =
    count_step shard shards at tap taps (shard_of_token tap.token shards == shard)
    (positions_count shard shards (suc at) taps)

pub kept_left : (positions : Option (Bor (List ℕ))) (shard shards : ℕ) (taps : List Tap)
    → ArePositionsKept positions (positions_from shard shards 0 taps)
    → left_of positions shard shards taps ≡ run_of shard shards taps
kept_left None shard shards taps kept = refl
kept_left (Some positions) shard shards taps kept = rw kept (positions_run shard shards [] taps)

pub kept_below : (positions : Option (Bor (List ℕ))) (shard shards : ℕ) (taps : List Tap)
    → ArePositionsKept positions (positions_from shard shards 0 taps)
    → ArePositionsBelow positions (length taps)
kept_below None shard shards taps kept = tt
kept_below (Some positions) shard shards taps kept =
    rw kept (positions_below shard shards 0 (length taps) taps (omega arith))

pub kept_count : (positions : Option (Bor (List ℕ))) (kept : Bor (List ℕ)) (shard shards : ℕ)
    (taps : List Tap) → positions ≡ Some kept
    → ArePositionsKept positions (positions_from shard shards 0 taps)
    → length kept.now ≡ length (run_of shard shards taps)
kept_count positions kept shard shards taps is all =
    ap length (subst (λ o. ArePositionsKept o (positions_from shard shards 0 taps)) is all)
    ∙ positions_count shard shards 0 taps
