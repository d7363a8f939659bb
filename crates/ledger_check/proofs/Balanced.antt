-- What a balance is after one tap more, and what it finds.
use Rattle.std.proofs.Common.{◌≡◌, ℕ, ◌+◌, ◌<◌, Bool, true, false, List, [], ◌∷◌, ◌++◌, cond}
use Rattle.std.proofs.Common.{Option, Some, None, is_some, refl, sym, ap, ◌∙◌, arith}
use Rattle.ledger_check.proofs.SameTaps.{same_exact}
use Rattle.ledger_check.proofs.Times.{one_self, permutation_of_times, times_push}
use Rattle.ledger_check.specs.Balances.{IsMore, copies_among, left_at}
use Rattle.std.specs.{BTreeMap.BTreeMap, List.Sorted.IsPermutation, Option.unwrap_or}
use Rattle.std.specs.{Ordering.is_eq, Prelude.IfSome, Prelude.MatchOption}
use Rattle.tap_views.specs.{TapOrder.tap_cmp, declared.encoder.TapFields.TapFields}

-- IsBalance, of a balance's two fields
abbrev pub Balances : BTreeMap TapFields ℕ → Option TapFields → List TapFields → List TapFields
    → Type 0
Balances left surplus valid subtracted =
    MatchOption surplus ((tap : TapFields)
    → copies_among tap valid ≡ left_at left tap + copies_among tap subtracted)
    (IsMore valid subtracted)

-- in the one map one more is left of the tap than in the other
abbrev pub HasOneMore : BTreeMap TapFields ℕ → BTreeMap TapFields ℕ → TapFields → Type 0
HasOneMore more less key =
    (other : TapFields) → left_at more other
    ≡ left_at less other + cond (is_eq (tap_cmp key other)) 1 0

pub added : (old new : BTreeMap TapFields ℕ) (surplus : Option TapFields) (valid : List TapFields)
    (tap : TapFields) → HasOneMore new old tap
    → Balances old surplus valid [] → Balances new surplus (valid ++ tap ∷ []) []
added old new None valid tap more is = λ t.
    let push = times_push t valid tap in
    let here = more t in
    let before = is t in
    omega (arith, push, here, before)
added old new (Some s) valid tap more is = absurd (omega (arith, is))

pub none_left : (left : BTreeMap TapFields ℕ) (valid subtracted : List TapFields) (tap : TapFields)
    → left_at left tap ≡ 0
    → Balances left None valid subtracted → IsMore valid (subtracted ++ tap ∷ []) tap
none_left left valid subtracted tap none is =
    let push = times_push tap subtracted tap in
    let self = one_self tap in
    let here = is tap in
    omega (arith, push, self, here, none)

-- a tap that is surplus stays so
pub still_more : (valid subtracted : List TapFields) (surplus tap : TapFields)
    → IsMore valid subtracted surplus → IsMore valid (subtracted ++ tap ∷ []) surplus
still_more valid subtracted surplus tap is =
    let push = times_push surplus subtracted tap in omega (arith, is, push)

pub all_subtracted : (left : BTreeMap TapFields ℕ) (valid subtracted : List TapFields)
    → ((key : TapFields) → left_at left key ≡ 0)
    → Balances left None valid subtracted → IsPermutation valid subtracted
all_subtracted left valid subtracted none is =
    permutation_of_times valid subtracted (λ t.
    let here = none t in let before = is t in omega (arith, here, before))

pub some_left : (left : BTreeMap TapFields ℕ) (valid subtracted : List TapFields) (tap : TapFields)
    → 0 < left_at left tap → Balances left None valid subtracted → IsMore subtracted valid tap
some_left left valid subtracted tap some is = let reported = is tap in omega (arith, some, reported)

pub unfound : (left : BTreeMap TapFields ℕ) (surplus : Option TapFields)
    (valid subtracted : List TapFields)
    → is_some surplus ≡ false
    → Balances left surplus valid subtracted → Balances left None valid subtracted
unfound left None valid subtracted none is = is
unfound left (Some s) valid subtracted none is = absurd cc

-- a number was put at the key, or raised by one
pub one_more : (new old : TapFields → Option ℕ) (key : TapFields) (count more : ℕ)
    → ((q : TapFields) → new q ≡ cond (is_eq (tap_cmp key q)) (Some more) (old q))
    → unwrap_or (old key) 0 ≡ count → more ≡ count + 1
    → (other : TapFields) → unwrap_or (new other) 0
    ≡ unwrap_or (old other) 0 + cond (is_eq (tap_cmp key other)) 1 0
one_more new old key count more up was is other = by_test (is_eq (tap_cmp key other)) refl
  where
    by_test : (b : Bool) → is_eq (tap_cmp key other) ≡ b
        → unwrap_or (new other) 0 ≡ unwrap_or (old other) 0 + cond (is_eq (tap_cmp key other)) 1 0
    by_test true e =
        let now : unwrap_or (new other) 0 ≡ more =
        ap (λ (o : Option ℕ). unwrap_or o 0) (up other
        ∙ ap (λ (b : Bool). cond b (Some more) (old other)) e) in
        let before : unwrap_or (old other) 0 ≡ count =
        ap (λ (k : TapFields). unwrap_or (old k) 0) (sym (same_exact key other e)) ∙ was in
        let step : ◌≡◌ {A = ℕ} (cond (is_eq (tap_cmp key other)) 1 0) 1 =
        ap (λ (b : Bool). cond b 1 0) e in
        omega (arith, now, before, step, is)
    by_test false e =
        let now : unwrap_or (new other) 0 ≡ unwrap_or (old other) 0 =
        ap (λ (o : Option ℕ). unwrap_or o 0) (up other
        ∙ ap (λ (b : Bool). cond b (Some more) (old other)) e) in
        let step : ◌≡◌ {A = ℕ} (cond (is_eq (tap_cmp key other)) 1 0) 0 =
        ap (λ (b : Bool). cond b 1 0) e in
        omega (arith, now, step)

-- the number at the key was lowered by one
pub one_fewer : (new old : TapFields → Option ℕ) (key : TapFields) (count less : ℕ)
    → ((q : TapFields) → new q ≡ cond (is_eq (tap_cmp key q)) (Some less) (old q))
    → unwrap_or (old key) 0 ≡ count → count ≡ less + 1
    → (other : TapFields) → unwrap_or (old other) 0
    ≡ unwrap_or (new other) 0 + cond (is_eq (tap_cmp key other)) 1 0
one_fewer new old key count less up was is other = by_test (is_eq (tap_cmp key other)) refl
  where
    by_test : (b : Bool) → is_eq (tap_cmp key other) ≡ b
        → unwrap_or (old other) 0 ≡ unwrap_or (new other) 0 + cond (is_eq (tap_cmp key other)) 1 0
    by_test true e =
        let now : unwrap_or (new other) 0 ≡ less =
        ap (λ (o : Option ℕ). unwrap_or o 0) (up other
        ∙ ap (λ (b : Bool). cond b (Some less) (old other)) e) in
        let before : unwrap_or (old other) 0 ≡ count =
        ap (λ (k : TapFields). unwrap_or (old k) 0) (sym (same_exact key other e)) ∙ was in
        let step : ◌≡◌ {A = ℕ} (cond (is_eq (tap_cmp key other)) 1 0) 1 =
        ap (λ (b : Bool). cond b 1 0) e in
        omega (arith, now, before, step, is)
    by_test false e =
        let now : unwrap_or (new other) 0 ≡ unwrap_or (old other) 0 =
        ap (λ (o : Option ℕ). unwrap_or o 0) (up other
        ∙ ap (λ (b : Bool). cond b (Some less) (old other)) e) in
        let step : ◌≡◌ {A = ℕ} (cond (is_eq (tap_cmp key other)) 1 0) 0 =
        ap (λ (b : Bool). cond b 1 0) e in
        omega (arith, now, step)

pub zero_or_none : (found : Option ℕ) → IfSome found (λ n. n ≡ 0) → unwrap_or found 0 ≡ 0
zero_or_none None is = refl
zero_or_none (Some n) is = is
