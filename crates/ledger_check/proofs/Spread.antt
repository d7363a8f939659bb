-- Taps spread from a map's entries, each as often as its entry counts.
use Rattle.std.proofs.Common.{◌≡◌, ◌+◌, ◌*◌, ℕ, Bool, true, false, cond, List, [], ◌∷◌, Option}
use Rattle.std.proofs.Common.{refl, sym, ap, subst, ◌∙◌, arith}
use Rattle.ledger_check.proofs.{SameTaps.same_exact, Times.one, Times.one_self}
use Rattle.ledger_check.specs.Balances.{copies_among, is_same}
use Rattle.std.proofs.{Math.ListN.replicate, lemmas.Cmp.eq_by_cmp_equiv}
use Rattle.std.proofs.lemmas.List.{Concat.flat_map-cons, Folds.sum_by-replicate, Sums.sum_by-append}
use Rattle.std.proofs.lemmas.Map.{lookup-none}
use Rattle.std.proofs.lemmas.Map.Entries.{lookup_head, lookup_tail, none_past_head}
use Rattle.std.proofs.lemmas.Map.Keys.{IsDistinct-from_sorted, sorted_tail}
use Rattle.std.specs.{BTreeMap.is_at, List.flat_map, List.Sorted.IsStrictlySortedBy, Map.keys_of}
use Rattle.std.specs.{Map.lookup, Option.unwrap_or}
use Rattle.tap_views.proofs.TapOrders.{tap_cmp_total}
use Rattle.tap_views.specs.{TapOrder.tap_cmp, declared.encoder.TapFields.TapFields}

-- the tap of an entry, as often as the entry counts
abbrev pub times : TapFields × ℕ → List TapFields
times entry = replicate entry.1 entry.0

abbrev pub spread : List (TapFields × ℕ) → List TapFields
spread entries = flat_map times entries

-- a tap of another key
one_other : (tap : TapFields) (key : TapFields) → is_at (tap_cmp tap) key ≡ false
    → one tap key ≡ 0
one_other tap key apart = by_test (is_same key tap) refl
  where
    by_test : (b : Bool) → is_same key tap ≡ b → one tap key ≡ 0
    by_test true e =
        let same : key ≡ tap = same_exact key tap e in
        let self : is_at (tap_cmp tap) tap ≡ true =
        (eq_by_cmp_equiv tap_cmp_total).refl tap in
        let here : is_at (tap_cmp tap) tap ≡ false =
        subst (λ (k : TapFields). is_at (tap_cmp tap) k ≡ false) same apart in
        absurd (let both : true ≡ false = sym self ∙ here in cc)
    by_test false e = ap (λ (b : Bool). cond b 1 0) e

pub copies-spread : (entries : List (TapFields × ℕ)) (tap : TapFields)
    → IsStrictlySortedBy tap_cmp (keys_of entries)
    → copies_among tap (spread entries) ≡ unwrap_or (lookup (is_at (tap_cmp tap)) entries) 0
copies-spread [] tap sorted = refl
copies-spread (entry ∷ rest) tap sorted =
    by_test (is_at (tap_cmp tap) entry.0) refl
    (copies-spread rest tap (sorted_tail tap_cmp entry.0 (keys_of rest) sorted))
  where
    parts : copies_among tap (spread (entry ∷ rest))
        ≡ entry.1 * one tap entry.0 + copies_among tap (spread rest)
    parts = ap (copies_among tap) (flat_map-cons times entry rest)
        ∙ sum_by-append (one tap) (times entry) (spread rest)
        ∙ ap (λ (n : ℕ). n + copies_among tap (spread rest))
        (sum_by-replicate (one tap) entry.1 entry.0)

    by_test : (b : Bool) → is_at (tap_cmp tap) entry.0 ≡ b
        → copies_among tap (spread rest) ≡ unwrap_or (lookup (is_at (tap_cmp tap)) rest) 0
        → copies_among tap (spread (entry ∷ rest))
        ≡ unwrap_or (lookup (is_at (tap_cmp tap)) (entry ∷ rest)) 0
    by_test true e later =
        let same : tap ≡ entry.0 = same_exact tap entry.0 e in
        let self : one tap entry.0 ≡ 1 =
        subst (λ (k : TapFields). one tap k ≡ 1) same (one_self tap) in
        let here : unwrap_or (lookup (is_at (tap_cmp tap)) (entry ∷ rest)) 0 ≡ entry.1 =
        ap (λ (o : Option ℕ). unwrap_or o 0)
        (lookup_head (is_at (tap_cmp tap)) entry rest e) in
        let none : unwrap_or (lookup (is_at (tap_cmp tap)) rest) 0 ≡ 0 =
        ap (λ (o : Option ℕ). unwrap_or o 0) (lookup-none (is_at (tap_cmp tap)) rest
        (none_past_head (eq_by_cmp_equiv tap_cmp_total) tap entry rest
        (IsDistinct-from_sorted tap_cmp (keys_of (entry ∷ rest)) sorted) e)) in
        let front : entry.1 * one tap entry.0 ≡ entry.1 * 1 =
        ap (λ (n : ℕ). entry.1 * n) self in
        omega (arith, parts, front, later, here, none)
    by_test false e later =
        let other = one_other tap entry.0 e in
        let here : unwrap_or (lookup (is_at (tap_cmp tap)) (entry ∷ rest)) 0
        ≡ unwrap_or (lookup (is_at (tap_cmp tap)) rest) 0 =
        ap (λ (o : Option ℕ). unwrap_or o 0)
        (lookup_tail (is_at (tap_cmp tap)) entry rest e) in
        let front : entry.1 * one tap entry.0 ≡ entry.1 * 0 =
        ap (λ (n : ℕ). entry.1 * n) other in
        omega (arith, parts, front, later, here)
