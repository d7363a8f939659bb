-- Taps that are taken of files, also from their begins to their ends.
use Rattle.std.proofs.Common.{◌≡◌, ℕ, zero, suc, ◌<◌, List, [], ◌∷◌, ◌++◌, All, length, map, take}
use Rattle.std.proofs.Common.{drop, refl, sym, ap, subst, ◌∙◌, arith, append_assoc, get_or}
use Rattle.std.proofs.Common.{append-nil, length-append, replicate}
use Rattle.sorted_taps.proofs.Batches.{front_append, front_none}
use Rattle.sorted_taps.proofs.Joining.{first_only, inner_swap, none_before, one_sorted}
use Rattle.sorted_taps.proofs.Joining.{sorted_across, sorted_then}
use Rattle.sorted_taps.proofs.Standing.{positioned_further, sorted_at_end}
use Rattle.sorted_taps.specs.Merged.{BeginsNotBefore, IsNotBefore}
use Rattle.sorted_taps.specs.Merges.{AreAtEnd, AreStarted, AreSortedFiles, AreTaken}
use Rattle.sorted_taps.specs.{Readers.IsPassed, Readers.ahead, declared.reader.TapReader.TapReader}
use Rattle.std.proofs.lemmas.List.{get_or-replicate, length-replicate, Elements.All-append}
use Rattle.std.proofs.lemmas.List.{Elements.All-head, Elements.All-nil, Sorted.All-permutation}
use Rattle.std.proofs.lemmas.List.Sorted.{IsPermutation-append, IsPermutation-append_right}
use Rattle.std.proofs.lemmas.List.Sorted.{IsPermutation-refl, IsPermutation-trans}
use Rattle.std.specs.{List.Sorted.IsPermutation, List.Sorted.IsSorted, Prelude.flat_map}
use Rattle.tap_parts.specs.Canonical.{tap_cmp, IsCanonical}
use Rattle.tap_views.proofs.Lists.{All-back, All-front}
use Rattle.tap_views.specs.declared.encoder.TapFields.{TapFields}

-- the taps of all lists
abbrev pub all_of : List (List TapFields) → List TapFields
all_of lists = flat_map (λ list. list) lists

-- what holds of the taps of each list holds of all
pub all_of_each : (P : TapFields → Type 0) (lists : List (List TapFields))
    → ((k : ℕ) → k < length lists → All P (get_or lists k [])) → All P (all_of lists)
all_of_each P [] each = All-nil P
all_of_each P (list ∷ lists) each =
    All-append P list (all_of lists) (each zero (omega arith))
    (all_of_each P lists (λ k inside. each (suc k) (omega (arith, inside))))

-- ---- lists that go on, each with the one at its index
abbrev pub both : List (List TapFields) → List (List TapFields) → List (List TapFields)
both [] ys = ys
both (x ∷ xs) [] = x ∷ xs
both (x ∷ xs) (y ∷ ys) = (x ++ y) ∷ both xs ys

both_long : (xs ys : List (List TapFields)) → length ys ≡ length xs
    → length (both xs ys) ≡ length xs
both_long [] ys same = same
both_long (x ∷ xs) [] same = refl
both_long (x ∷ xs) (y ∷ ys) same =
    let rest = both_long xs ys (omega (arith, same)) in omega (arith, rest)

both_at : (xs ys : List (List TapFields)) (k : ℕ)
    → get_or (both xs ys) k [] ≡ get_or xs k [] ++ get_or ys k []
both_at [] ys k = refl
both_at (x ∷ xs) [] k = sym (append-nil (get_or (x ∷ xs) k []))
both_at (x ∷ xs) (y ∷ ys) zero = refl
both_at (x ∷ xs) (y ∷ ys) (suc k) = both_at xs ys k

pub both_moved : (xs ys : List (List TapFields))
    → IsPermutation (all_of (both xs ys)) (all_of xs ++ all_of ys)
both_moved [] ys = IsPermutation-refl (all_of ys)
both_moved (x ∷ xs) [] =
    subst (λ l. IsPermutation (all_of (x ∷ xs)) l) (sym (append-nil (all_of (x ∷ xs))))
    (IsPermutation-refl (all_of (x ∷ xs)))
both_moved (x ∷ xs) (y ∷ ys) =
    IsPermutation-trans ((x ++ y) ++ all_of (both xs ys)) ((x ++ y) ++ (all_of xs ++ all_of ys))
    ((x ++ all_of xs) ++ (y ++ all_of ys))
    (IsPermutation-append_right (x ++ y) (all_of (both xs ys)) (all_of xs ++ all_of ys)
    (both_moved xs ys))
    (inner_swap x y (all_of xs) (all_of ys))

-- ---- one reader
begins_alike : (a : TapFields) (xs ys : List TapFields) → take 1 xs ≡ take 1 ys
    → BeginsNotBefore a ys → BeginsNotBefore a xs
begins_alike a [] ys same begins = tt
begins_alike a (x ∷ xs) [] same begins = absurd (cc)
begins_alike a (x ∷ xs) (y ∷ ys) same begins =
    let one : y ≡ x = cc in subst (IsNotBefore a) one begins

first_both : (one mid two rest old : List TapFields) → take 1 (one ++ mid) ≡ take 1 old
    → take 1 (two ++ rest) ≡ take 1 mid → take 1 ((one ++ two) ++ rest) ≡ take 1 old
first_both [] mid two rest old first then = then ∙ first
first_both (x ∷ one) mid two rest old first then = first

begins_of : (a : TapFields) (list : List TapFields) → All (IsNotBefore a) (take 1 list)
    → BeginsNotBefore a list
begins_of a [] all = tt
begins_of a (x ∷ list) all = All-head (IsNotBefore a) x [] all

pub passed_none : (all : List ℕ) (reader : TapReader) → IsPassed all reader [] reader
passed_none all reader = record {
  read = [];
  between = front_none (drop reader.offset all);
  goes_on = append-nil (ahead reader);
  first = refl;
  sorted = one_sorted (ahead reader);
  end = λ was. was;
  number = omega arith;
}

passed_both : (all : List ℕ) (old mid new : TapReader) (one two : List TapFields)
    → IsPassed all old one mid → IsPassed all mid two new → IsPassed all old (one ++ two) new
passed_both all old mid new one two p q =
    let long = length-append one two in
    let first = p.number in
    let then = q.number in
    record {
      read = p.read ++ q.read;
      between = front_append (drop old.offset all) (drop mid.offset all) (drop new.offset all)
          p.read q.read p.between q.between;
      goes_on = sym (append_assoc (ahead old) p.read q.read)
          ∙ ap (λ l. l ++ q.read) p.goes_on ∙ append_assoc one (ahead mid) q.read
          ∙ ap (λ l. one ++ l) q.goes_on ∙ sym (append_assoc one two (ahead new));
      first = first_both one (ahead mid) two (ahead new) (ahead old) p.first q.first;
      sorted = sorted_then one two (ahead new)
          (subst (λ l. IsSorted tap_cmp (one ++ l)) (sym q.first) p.sorted) q.sorted;
      end = λ was none. q.end (p.end was) none;
      number = omega (arith, first, then, long);
    }

-- a reader passes none, and comes to none, that is before a tap before which it was not
passed_after : (all : List ℕ) (old new : TapReader) (run : List TapFields)
    → IsPassed all old run new → (a : TapFields) → BeginsNotBefore a (ahead old)
    → All (IsNotBefore a) (run ++ take 1 (ahead new))
passed_after all old new run p a begins =
    none_before a (run ++ take 1 (ahead new)) p.sorted
    (begins_alike a (run ++ take 1 (ahead new)) (ahead old)
    (first_only run (ahead new) ∙ p.first) begins)

-- ---- all readers
-- an element of a list that has one
pub some_of : (readers : List TapReader) (k : ℕ) → k < length readers → TapReader
some_of [] k inside = absurd (omega (arith, inside))
some_of (reader ∷ readers) k inside = reader

pub taken_none : (files : List (List ℕ)) (readers : List TapReader)
    → AreTaken files readers [] readers
taken_none files readers = record {
  runs = replicate (length readers) [];
  number = length-replicate (length readers) [];
  as_many = refl;
  each = λ k d inside.
      subst (λ run. IsPassed (get_or files k []) (get_or readers k d) run (get_or readers k d))
      (sym (get_or-replicate (length readers) k [] [] inside))
      (passed_none (get_or files k []) (get_or readers k d));
  canonical = record {
    moved = subst (λ l. IsPermutation l []) (sym (empty (length readers))) (IsPermutation-refl []);
    sorted = λ k d low high. absurd (omega (arith, high));
  };
  left = λ k d inside. All-nil (λ tap. BeginsNotBefore tap (ahead (get_or readers k d)));
}
  where
    empty : (n : ℕ) → all_of (replicate n []) ≡ []
    empty zero = refl
    empty (suc n) = empty n

-- taps that were taken, and then more
pub taken_append : (files : List (List ℕ)) (old mid new : List TapReader) (xs ys : List TapFields)
    → AreTaken files old xs mid → AreTaken files mid ys new → AreTaken files old (xs ++ ys) new
taken_append files old mid new xs ys one two =
    let first = one.number in
    let many = one.as_many in
    let then = two.number in
    let after : (k : ℕ) (d : TapReader) → k < length old → (a : TapFields)
    → BeginsNotBefore a (ahead (get_or mid k d))
    → All (IsNotBefore a) (get_or two.runs k [] ++ take 1 (ahead (get_or new k d))) =
    λ k d inside a begins. passed_after (get_or files k []) (get_or mid k d) (get_or new k d)
    (get_or two.runs k []) (two.each k d (omega (arith, inside, many))) a begins in
    record {
      runs = both one.runs two.runs;
      number = let long = both_long one.runs two.runs (omega (arith, first, many, then)) in
          omega (arith, long, first);
      as_many = two.as_many ∙ many;
      each = λ k d inside.
          subst (λ run. IsPassed (get_or files k []) (get_or old k d) run (get_or new k d))
          (sym (both_at one.runs two.runs k))
          (passed_both (get_or files k []) (get_or old k d) (get_or mid k d) (get_or new k d)
          (get_or one.runs k []) (get_or two.runs k []) (one.each k d inside)
          (two.each k d (omega (arith, inside, many))));
      canonical = record {
        moved = IsPermutation-trans (all_of (both one.runs two.runs))
            (all_of one.runs ++ all_of two.runs) (xs ++ ys) (both_moved one.runs two.runs)
            (IsPermutation-append (all_of one.runs) xs (all_of two.runs) ys one.canonical.moved
            two.canonical.moved);
        sorted = sorted_across xs ys (λ j d inside.
            All-permutation (IsNotBefore (get_or xs j d)) (all_of two.runs) ys two.canonical.moved
            (all_of_each (IsNotBefore (get_or xs j d)) two.runs (λ k low.
            let here : k < length old = omega (arith, low, then, many) in
            let reader = some_of old k here in
            All-front (IsNotBefore (get_or xs j d)) (get_or two.runs k [])
            (take 1 (ahead (get_or new k reader)))
            (after k reader here (get_or xs j d) (one.left k reader here j d inside)))))
            one.canonical.sorted two.canonical.sorted;
      };
      left = λ k d inside. All-append (λ tap. BeginsNotBefore tap (ahead (get_or new k d))) xs ys
          (λ j e low. begins_of (get_or xs j e) (ahead (get_or new k d))
          (All-back (IsNotBefore (get_or xs j e)) (get_or two.runs k [])
          (take 1 (ahead (get_or new k d)))
          (after k d inside (get_or xs j e) (one.left k d inside j e low))))
          (two.left k d (omega (arith, inside, many)));
    }

-- ---- from the begins to the ends
-- a list has one first tap
pub same_head : (was : List TapFields) (one other : TapFields) (rest more : List TapFields)
    → was ≡ one ∷ rest → was ≡ other ∷ more → one ≡ other
same_head was one other rest more e f = let h : one ∷ rest ≡ other ∷ more = sym e ∙ f in cc

pub passed_lengths : (end : List TapReader) (lists : List (List TapFields))
    → length lists ≡ length end
    → ((k : ℕ) (d : TapReader) → k < length end
    → (get_or end k d).passed ≡ length (get_or lists k []))
    → map (λ (reader : TapReader). reader.passed) end ≡ map length lists
passed_lengths [] [] number each = refl
passed_lengths [] (list ∷ lists) number each = absurd (omega (arith, number))
passed_lengths (reader ∷ end) [] number each = absurd (omega (arith, number))
passed_lengths (reader ∷ end) (list ∷ lists) number each =
    let first : reader.passed ≡ length list = each 0 reader (omega arith) in
    let rest = passed_lengths end lists (omega (arith, number))
    (λ k d inside. each (suc k) d (omega (arith, inside))) in
    ap (λ n. n ∷ map (λ (reader : TapReader). reader.passed) end) first
    ∙ ap (λ l. length list ∷ l) rest

-- sorted files, their taps in canonical order, and readers that have passed them
pub record AreMerged (files : List (List ℕ)) (end : List TapReader) (taps : List TapFields)
    : Type 0 where
  pub lists : List (List TapFields)
  pub sorted : AreSortedFiles files lists
  pub counted : map (λ (reader : TapReader). reader.passed) end ≡ map length lists
  pub canonical : IsCanonical (flat_map (λ list. list) lists) taps

-- from the begin to the end they are the canonical list of sorted files
pub taken_merged : (files : List (List ℕ)) (started end : List TapReader) (taps : List TapFields)
    → AreStarted files started → AreTaken files started taps end → AreAtEnd end
    → AreMerged files end taps
taken_merged files started end taps is taken at_end =
    let number = is.number in
    let lists = taken.runs in
    let many = taken.number in
    let end_many = taken.as_many in
    record {
      lists = lists;
      sorted = record {
        number = omega (arith, number, many);
        each = λ k inside.
            let here : k < length started = omega (arith, inside, number) in
            let d = some_of started k here in
            let all = get_or files k [] in
            let run = get_or lists k [] in
            sorted_at_end all run (get_or end k d)
            (positioned_further all 0 [] run (get_or started k d) (get_or end k d)
            (is.each k d here) (taken.each k d here)) (at_end k d (omega (arith, here, end_many)));
      };
      counted = passed_lengths end lists (omega (arith, many, end_many)) (λ k d inside.
          let here : k < length started = omega (arith, inside, end_many) in
          let all = (taken.each k d here).number in
          let none : (get_or started k d).passed ≡ 0 = (is.each k d here).1 in
          omega (arith, all, none));
      canonical = taken.canonical;
    }
