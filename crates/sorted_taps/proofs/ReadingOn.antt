-- Batches that are decoded at an offset of a file.
use Rattle.std.proofs.Common.{◌≡◌, ◌⊎◌, ◌∙◌, ℕ, ◌+◌, ◌<◌, ◌≤◌, List, [], ◌++◌, ap, append_assoc}
use Rattle.std.proofs.Common.{arith, drop, drop_at, drop-drop, inl, inr, length, length-append}
use Rattle.std.proofs.Common.{None, Some, subst, sym, take, take_all, take-append-drop}
use Rattle.std.proofs.Common.{length-take-le, ◌*◌, codes, refl}
use Rattle.sorted_taps.proofs.{Batches.front_cut, Batches.front_longer, Files.if_known}
use Rattle.sorted_taps.specs.{Reading.AreBatches, declared.decoded_taps.Decoded.Decoded}
use Rattle.sorted_taps.specs.inside.Decoding.{IsDecodedAt, IsReadOn}
use Rattle.std.proofs.lemmas.Bool.{cases_lt}
use Rattle.std.proofs.lemmas.List.{drop-take, nil_from_length, take-append-le, take-take}
use Rattle.std.specs.{Cmp.Lexicographic.pointwise, List.starts_with}
use Rattle.std.specs.Prelude.{nat_eq, if◌then◌else◌}
use Rattle.tap_views.specs.Faults.{IsFault, header, width, layout_in, count_in, moment_in, Row}
use Rattle.tap_views.specs.Faults.{fault_order}
use Rattle.tap_views.specs.Layout.{Tap, num, moment_limit, Layout, Tap1, Tap2}
use Rattle.tap_views.specs.declared.{encoder.TapFields.TapFields, fault.LayoutFault.LayoutFault}
use Rattle.tap_views.specs.declared.fault.LayoutFault.TheVariants.{Short, Magic, Flags, TooMany}
use Rattle.tap_views.specs.declared.fault.LayoutFault.TheVariants.{Length, Moment}

-- ---- A fault of as many bytes as the longest batch has is a fault of more bytes.
header_most : (layout : Layout) → header layout ≤ 12
header_most Tap1 = omega arith
header_most (Tap2 validator) = omega arith

size_most : (layout : Layout) (count : ℕ) → count ≤ 4096
    → header layout + width layout * count ≤ 114696
size_most Tap1 count few = omega (arith, few)
size_most (Tap2 validator) count few = omega (arith, few)

moment_within : (layout : Layout) (index : ℕ) → index < 4096
    → (28 + width layout * index) + 8 ≤ 114696
moment_within Tap1 index few = omega (arith, few)
moment_within (Tap2 validator) index few = omega (arith, few)

-- bytes with the same first ones, as many as the longest batch has
module _ (xs ys : List ℕ) (long : 114696 ≤ length xs) (same : take 114696 xs ≡ take 114696 ys) where
  same_part : (at n : ℕ) → at + n ≤ 114696 → take n (drop at xs) ≡ take n (drop at ys)
  same_part at n within =
      sym (drop-take at n xs)
      ∙ ap (drop at) (sym (take-take (at + n) 114696 xs within) ∙ ap (take (at + n)) same
      ∙ take-take (at + n) 114696 ys within)
      ∙ drop-take at n ys

  layout : layout_in xs ≡ layout_in ys
  layout =
      ap (λ b. if b then Tap2 (take 4 (drop 8 xs)) else Tap1)
      (ap (pointwise nat_eq (codes "TAP2")) (same_part 0 4 (omega arith)))
      ∙ ap (λ name. if starts_with nat_eq ys (codes "TAP2") then Tap2 name else Tap1)
      (same_part 8 4 (omega arith))

  count : count_in xs ≡ count_in ys
  count = ap num (same_part 4 2 (omega arith))

  moment : (index : ℕ) → index < 4096 → moment_in xs index ≡ moment_in ys index
  moment index few =
      ap (λ l. num (take 8 (drop (28 + width l * index) xs))) layout
      ∙ ap num (same_part (28 + width (layout_in ys) * index) 8
      (moment_within (layout_in ys) index few))

  same_row : (fault : LayoutFault) → (4 < fault_order fault → count_in xs ≤ 4096) → Row fault xs
      → Row fault ys
  same_row (Short have) few (is, less) =
      let most = header_most (layout_in xs) in absurd (omega (arith, less, most, long))
  same_row Magic few row =
      subst (λ t. ¬ (t ≡ codes "TAP1") × ¬ (t ≡ codes "TAP2")) (same_part 0 4 (omega arith)) row
  same_row Flags few row = subst (λ n. ¬ (n ≡ 0)) (ap num (same_part 6 2 (omega arith))) row
  same_row (TooMany n) few (is, many) = (is ∙ count, many)
  same_row (Length want have) few (wanted, had, less) =
      let most = size_most (layout_in xs) (count_in xs) (few (omega arith)) in
      absurd (omega (arith, wanted, had, less, most, long))
  same_row (Moment index) few (inside, at, earlier) =
      let most = few (omega arith) in (
        subst (λ n. index < n) count inside,
        subst (λ n. moment_limit ≤ n) (moment index (omega (arith, inside, most))) at,
        λ k before. subst (λ n. n < moment_limit)
            (moment k (omega (arith, before, inside, most))) (earlier k before),
      )

few_of : (front : List ℕ) (fault : LayoutFault) → IsFault front fault → 4 < fault_order fault
    → count_in front ≤ 4096
few_of front fault is late = by_count (cases_lt 4096 (count_in front))
  where
    by_count : (4096 < count_in front) ⊎ (count_in front ≤ 4096) → count_in front ≤ 4096
    by_count (inl many) = absurd (is.first (TooMany (count_in front)) late (refl, many))
    by_count (inr few) = few

fault_of_front : (front more : List ℕ) → 114696 ≤ length front → (fault : LayoutFault)
    → IsFault front fault → IsFault (front ++ more) fault
fault_of_front front more long fault is =
    let same = take-append-le 114696 front more long in
    let all = length-append front more in
    let few = few_of front fault is in
    record {
      holds = same_row front (front ++ more) long (sym same) fault few is.holds;
      first = λ other before row. is.first other before
          (same_row (front ++ more) front (omega (arith, all, long)) same other
          (λ late. subst (λ n. n ≤ 4096) (count front (front ++ more) long (sym same))
          (few (omega (arith, before, late)))) row);
    }

-- ---- what was decoded at an offset
module _ (all : List ℕ) (offset room : ℕ) (taps : List TapFields) (decoded : Decoded)
    (at : IsDecodedAt all offset room taps decoded) where
  abbrev left : List ℕ
  left = drop offset all

  abbrev more : List ℕ
  more = drop at.count left

  abbrev some_batches : List (List Tap)
  some_batches = at.is_decoded.front_taps.batches

  joined : take at.count left ++ more ≡ left
  joined = take-append-drop at.count left

  -- what follows what was decoded
  follows : at.is_decoded.rest ++ more ≡ drop (offset + decoded.used) all
  follows =
      let rest = at.is_decoded.rest in
      let (front, cut) = front_cut (take at.count left) rest some_batches
      at.is_decoded.front_taps.are in
      let size = at.is_decoded.size in
      let long = ap length cut ∙ length-append front rest in
      sym (drop_at front (rest ++ more) decoded.used (omega (arith, size, long)))
      ∙ ap (drop decoded.used) (sym (append_assoc front rest more)
      ∙ ap (λ l. l ++ more) (sym cut) ∙ joined)
      ∙ drop-drop decoded.used offset all

  -- batches were decoded, or the file ends
  pub read_on : 0 < room → (decoded.used ≡ 0 → decoded.fault ≡ None)
      → IsReadOn all offset taps decoded.used
  read_on some_room sound =
      let d = at.is_decoded in
      record {
        between = record {
          batches = some_batches;
          are = subst (λ l. AreBatches left some_batches l) follows
              (subst (λ l. AreBatches l some_batches (d.rest ++ more)) joined
              (front_longer (take at.count left) d.rest more some_batches d.front_taps.are));
          read = d.front_taps.read;
        };
        end = λ none.
            let nothing = ap length (d.some none (sound none)) in
            let count = length-take-le at.count left at.within in
            let short = at.short (omega (arith, nothing, count, some_room)) in
            nil_from_length left (omega (arith, nothing, count, short));
      }

  -- nothing was decoded for a fault
  pub read_fault : (fault : LayoutFault) → 114696 ≤ room → decoded.used ≡ 0
      → decoded.fault ≡ Some fault → IsFault left fault × (0 < length left)
  read_fault fault much none is = (by_count (cases_lt at.count room), some)
    where
      found : IsFault (take at.count left) fault × (0 < length (take at.count left))
      found =
          let rest = at.is_decoded.rest in
          let (front, cut) = front_cut (take at.count left) rest some_batches
          at.is_decoded.front_taps.are in
          let size = at.is_decoded.size in
          let long = ap length cut ∙ length-append front rest in
          let nothing : front ≡ [] = nil_from_length front (omega (arith, size, long, none)) in
          subst (λ r. IsFault r fault × (0 < length r))
          (sym (cut ∙ ap (λ f. f ++ rest) nothing))
          (if_known (λ f. IsFault rest f × (0 < length rest)) decoded.fault fault is
          at.is_decoded.fault)

      some : 0 < length left
      some =
          let few = found.1 in
          let count = length-take-le at.count left at.within in
          let within = at.within in
          omega (arith, few, count, within)

      by_count : (at.count < room) ⊎ (room ≤ at.count) → IsFault left fault
      by_count (inl less) =
          let short = at.short less in
          subst (λ l. IsFault l fault) (take_all at.count left (omega (arith, short))) found.0
      by_count (inr full) =
          let count = length-take-le at.count left at.within in
          subst (λ l. IsFault l fault) joined
          (fault_of_front (take at.count left) more (omega (arith, count, full, much)) fault
          found.0)
