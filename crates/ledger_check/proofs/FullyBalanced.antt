-- What a full balance is after one tap more, and what it lacks.
use Rattle.std.proofs.Common.{◌≡◌, ℕ, ◌⊎◌, inl, inr, ⊎_elim, Bool, true, false, cond, List, [], ◌∷◌}
use Rattle.std.proofs.Common.{◌++◌, Option, Some, None, refl, sym, ap, ◌∙◌, arith}
use Rattle.ledger_check.proofs.Balanced.{Balances, HasOneMore}
use Rattle.ledger_check.proofs.{SameTaps.same_exact, Times.times_push}
use Rattle.ledger_check.specs.Balances.{copies_among, left_at}
use Rattle.ledger_check.specs.FullBalances.{AreLacking, IsFullBalance}
use Rattle.ledger_check.specs.declared.full_balance.FullBalance.{FullBalance}
use Rattle.std.specs.{BTreeMap.BTreeMap, Ordering.is_eq}
use Rattle.tap_views.specs.{TapOrder.tap_cmp, declared.encoder.TapFields.TapFields}

-- nothing was struck out yet
pub started : (left : BTreeMap TapFields ℕ) (surplus : Option TapFields) (full : FullBalance)
    (valid : List TapFields) → full.missing ≡ left
    → ((key : TapFields) → left_at full.surplus key ≡ 0)
    → Balances left surplus valid [] → IsFullBalance full valid []
started left None full valid same none is = record {
  sums = λ tap.
      let here = is tap in
      let zero = none tap in
      let kept : left_at full.missing tap ≡ left_at left tap =
      ap (λ (m : BTreeMap TapFields ℕ). left_at m tap) same in
      omega (arith, here, zero, kept);
  one_side = λ tap. inr (none tap);
}
started left (Some s) full valid same none is = absurd (omega (arith, is))

-- one that was left was struck out
pub subtracted_missing : (old new : FullBalance) (valid subtracted : List TapFields)
    (tap : TapFields)
    → new.surplus ≡ old.surplus → HasOneMore old.missing new.missing tap
    → IsFullBalance old valid subtracted → IsFullBalance new valid (subtracted ++ tap ∷ [])
subtracted_missing old new valid subtracted tap kept more is = record {
  sums = λ t.
      let push = times_push t subtracted tap in
      let here = more t in
      let before = is.sums t in
      let same : left_at new.surplus t ≡ left_at old.surplus t =
      ap (λ (m : BTreeMap TapFields ℕ). left_at m t) kept in
      omega (arith, push, here, before, same);
  one_side = λ t.
      let here = more t in
      let same : left_at new.surplus t ≡ left_at old.surplus t =
      ap (λ (m : BTreeMap TapFields ℕ). left_at m t) kept in
      ⊎_elim (λ (none : left_at old.missing t ≡ 0). inl (omega (arith, none, here)))
      (λ (none : left_at old.surplus t ≡ 0). inr (same ∙ none)) (is.one_side t);
}

-- one that was not left was struck out
pub subtracted_surplus : (old new : FullBalance) (valid subtracted : List TapFields)
    (tap : TapFields)
    → new.missing ≡ old.missing → left_at old.missing tap ≡ 0
    → HasOneMore new.surplus old.surplus tap
    → IsFullBalance old valid subtracted → IsFullBalance new valid (subtracted ++ tap ∷ [])
subtracted_surplus old new valid subtracted tap kept none more is = record {
  sums = λ t.
      let push = times_push t subtracted tap in
      let here = more t in
      let before = is.sums t in
      let same : left_at new.missing t ≡ left_at old.missing t =
      ap (λ (m : BTreeMap TapFields ℕ). left_at m t) kept in
      omega (arith, push, here, before, same);
  one_side = λ t. by_test t (is_eq (tap_cmp tap t)) refl;
}
  where
    by_test : (t : TapFields) (b : Bool) → is_eq (tap_cmp tap t) ≡ b
        → (left_at new.missing t ≡ 0) ⊎ (left_at new.surplus t ≡ 0)
    by_test t true e =
        let same : tap ≡ t = same_exact tap t e in
        inl (ap (λ (m : BTreeMap TapFields ℕ). left_at m t) kept
        ∙ ap (left_at old.missing) (sym same) ∙ none)
    by_test t false e =
        let here = more t in
        let step : ◌≡◌ {A = ℕ} (cond (is_eq (tap_cmp tap t)) 1 0) 0 =
        ap (λ (b : Bool). cond b 1 0) e in
        let same : left_at new.missing t ≡ left_at old.missing t =
        ap (λ (m : BTreeMap TapFields ℕ). left_at m t) kept in
        ⊎_elim (λ (z : left_at old.missing t ≡ 0). inl (same ∙ z))
        (λ (z : left_at old.surplus t ≡ 0). inr (omega (arith, z, here, step)))
        (is.one_side t)

-- what is left is what the others lack
pub lacking_missing : (full : FullBalance) (valid subtracted taps : List TapFields)
    → ((tap : TapFields) → copies_among tap taps ≡ left_at full.missing tap)
    → IsFullBalance full valid subtracted → AreLacking valid subtracted taps
lacking_missing full valid subtracted taps copies is = record {
  copies = λ tap.
      let here = copies tap in
      let sums = is.sums tap in
      ⊎_elim (λ (z : left_at full.missing tap ≡ 0). omega (arith, here, sums, z))
      (λ (z : left_at full.surplus tap ≡ 0). omega (arith, here, sums, z))
      (is.one_side tap);
}

-- what was struck out beyond is what the good taps lack
pub lacking_surplus : (full : FullBalance) (valid subtracted taps : List TapFields)
    → ((tap : TapFields) → copies_among tap taps ≡ left_at full.surplus tap)
    → IsFullBalance full valid subtracted → AreLacking subtracted valid taps
lacking_surplus full valid subtracted taps copies is = record {
  copies = λ tap.
      let here = copies tap in
      let sums = is.sums tap in
      ⊎_elim (λ (z : left_at full.missing tap ≡ 0). omega (arith, here, sums, z))
      (λ (z : left_at full.surplus tap ≡ 0). omega (arith, here, sums, z))
      (is.one_side tap);
}
