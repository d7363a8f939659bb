-- Taps up to a limit, which readers pass in a step of a merge.
use Rattle.std.proofs.Common.{◌≡◌, ℕ, ◌+◌, ◌-◌, ◌<◌, ◌≤◌, List, [], ◌∷◌, ◌++◌, inl, inr, ap, arith}
use Rattle.std.proofs.Common.{append-nil, get_or, length, length-take-le, refl, subst, sym, take}
use Rattle.std.proofs.Common.{◌∙◌, length-append}
use Rattle.sorted_taps.proofs.Joining.{last_taken, one_sorted, ranked, sorted_glue, sorted_more}
use Rattle.sorted_taps.proofs.Taking.{all_of, all_of_each, passed_none, some_of, taken_none}
use Rattle.sorted_taps.specs.{Merged.BeginsNotBefore, Merged.IsNotBefore, Merges.AreTaken}
use Rattle.sorted_taps.specs.{Readers.IsPassed, Readers.ahead, declared.reader.TapReader.TapReader}
use Rattle.sorted_taps.specs.inside.Limits.{IsLimitOf, DoMeet, IsPassedUpTo, IsRunIn, IsRunUpTo}
use Rattle.sorted_taps.specs.inside.Limits.{TakesTaps, no_tap}
use Rattle.std.proofs.{Math.Seq.get_or-append_seam, lemmas.Bool.cases_lt}
use Rattle.std.proofs.lemmas.List.{get_or-append-add, get_or_append_left, get_or_at, take_more}
use Rattle.std.proofs.lemmas.List.{get_or-take, get_or_default, Elements.All-more, Elements.All-nil}
use Rattle.std.proofs.lemmas.List.{Kept.IsSortedBy-push, Sorted.All-permutation, Sorted.sorted_far}
use Rattle.std.specs.{List.Sorted.IsSorted, Ordering.is_lt, Prelude.Option}
use Rattle.tap_parts.specs.Canonical.{IsCanonical, tap_cmp}
use Rattle.tap_views.specs.declared.encoder.TapFields.{TapFields}

-- a list that begins with no tap before one begins with none before those that are not after it
begins_far : (limit tap : TapFields) (list : List TapFields) → IsNotBefore limit tap
    → BeginsNotBefore tap list → BeginsNotBefore limit list
begins_far limit tap [] not begins = tt
begins_far limit tap (x ∷ list) not begins = ranked.chain x tap limit begins not

run_none : (limit : TapFields) (list : List TapFields) → IsRunIn limit list 0
run_none limit list = record {
  within = omega arith;
  not_after = All-nil (λ tap. IsNotBefore tap limit);
  sorted = one_sorted [];
}

-- one tap more in order
pub taken_more : (list : List TapFields) (n : ℕ) → n < length list
    → IsSorted tap_cmp (take n list)
    → (0 < n → IsNotBefore (get_or list (n - 1) no_tap) (get_or list n no_tap))
    → IsSorted tap_cmp (take (n + 1) list)
taken_more list n within up order =
    subst (λ l. IsSorted tap_cmp l) (sym (take_more list n no_tap within))
    (IsSortedBy-push (λ a b. is_lt (tap_cmp a b)) (take n list) (get_or list n no_tap) up
    (λ d least.
    let long = length-take-le n list (omega (arith, within)) in
    let some : 0 < n = omega (arith, least, long) in
    subst (λ t. IsNotBefore t (get_or list n no_tap))
    (sym (last_taken n list d no_tap some (omega (arith, within)))) (order some)))

-- one tap more
pub run_more : (limit : TapFields) (list : List TapFields) (n : ℕ) → n < length list
    → IsRunIn limit list n → IsNotBefore (get_or list n no_tap) limit
    → (0 < n → IsNotBefore (get_or list (n - 1) no_tap) (get_or list n no_tap))
    → IsRunIn limit list (n + 1)
run_more limit list n within run last order = record {
  within = omega (arith, within);
  not_after = All-more (λ tap. IsNotBefore tap limit) list n no_tap within run.not_after last;
  sorted = taken_more list n within run.sorted order;
}

-- taps in order, of which the last is not after the limit
pub run_known : (limit : TapFields) (list : List TapFields) (n : ℕ) → 0 < n → n ≤ length list
    → IsSorted tap_cmp (take n list) → IsNotBefore (get_or list (n - 1) no_tap) limit
    → IsRunIn limit list n
run_known limit list n some within up last = record {
  within = within;
  not_after = λ j d inside.
      let long = length-take-le n list within in
      ranked.chain limit (get_or (take n list) (n - 1) d) (get_or (take n list) j d)
      (subst (λ t. IsNotBefore t limit)
      (sym (get_or-take n list (n - 1) d (omega (arith, some))
      ∙ get_or_default list (n - 1) d no_tap (omega (arith, some, within)))) last)
      (sorted_far (λ a b. is_lt (tap_cmp a b)) ranked (take n list) up j (n - 1) d
      (omega (arith, long, inside)) (omega (arith, long, some)));
  sorted = up;
}

-- the first one
pub run_first : (limit : TapFields) (list : List TapFields) → 0 < length list
    → IsNotBefore (get_or list 0 no_tap) limit → IsRunIn limit list 1
run_first limit list some first =
    run_more limit list 0 some (run_none limit list) first (λ none. absurd (omega (arith, none)))

-- no tap is up to the limit if the first one is after it
pub none_before_limit : (limit : TapFields) (list : List TapFields)
    → ((d : TapFields) → 0 < length list → IsNotBefore limit (get_or list 0 d))
    → IsRunUpTo limit list 0
none_before_limit limit list first = record {
  run = run_none limit list;
  stop = λ d some order. first d some;
}

-- no tap in front is up to the limit
pub none_up_to : (all : List ℕ) (limit : TapFields) (reader : TapReader) (number : ℕ)
    → number ≡ 0 → IsRunUpTo limit (ahead reader) number → IsPassedUpTo all limit reader [] reader
none_up_to all limit reader number none is = record {
  passed = passed_none all reader;
  within = All-nil (λ tap. IsNotBefore tap limit);
  left = λ ends. first (ahead reader) (subst (IsRunUpTo limit (ahead reader)) none is);
}
  where
    first : (list : List TapFields) → IsRunUpTo limit list 0 → BeginsNotBefore limit list
    first [] run = tt
    first (x ∷ list) run = run.stop x (omega arith) (λ some. absurd (omega (arith, some)))

-- the taps in front up to the limit are passed
pub run_up_to : (all : List ℕ) (limit : TapFields) (old new : TapReader) (number : ℕ)
    → IsRunUpTo limit (ahead old) number → 0 < number
    → IsPassed all old (take number (ahead old)) new
    → ((d : TapFields) → BeginsNotBefore (get_or (ahead old) (number - 1) d) (ahead new))
    → IsPassedUpTo all limit old (take number (ahead old)) new
run_up_to all limit old new number is some passed order = record {
  passed = passed;
  within = is.run.not_after;
  left = λ ends. elim (cases_lt number (length (ahead old))) [
    | inl less ↦ follows (ahead new) refl less
    | inr whole ↦
        let within = is.run.within in
        let last : length (ahead old) - 1 ≡ number - 1 = omega (arith, within, whole) in
        begins_far limit (get_or (ahead old) (number - 1) no_tap) (ahead new)
        (subst (λ n. IsNotBefore limit (get_or (ahead old) n no_tap)) last
        (ends no_tap (omega (arith, within, some)))) (order no_tap)
  ];
}
  where
    follows : (list : List TapFields) → ahead new ≡ list → number < length (ahead old)
        → BeginsNotBefore limit (ahead new)
    follows [] e less = subst (BeginsNotBefore limit) (sym e) tt
    follows (x ∷ list) e less =
        let long = length-take-le number (ahead old) is.run.within in
        let same : get_or (ahead old) number x ≡ x =
        sym (get_or_append_left (ahead old) passed.read x number less)
        ∙ ap (λ l. get_or l number x)
        (passed.goes_on ∙ ap (λ l. take number (ahead old) ++ l) e)
        ∙ get_or_at (take number (ahead old)) x list x number long in
        subst (BeginsNotBefore limit) (sym e) (subst (IsNotBefore limit) same
        (is.stop x less (λ _. subst (IsNotBefore (get_or (ahead old) (number - 1) x)) (sym same)
        (subst (BeginsNotBefore (get_or (ahead old) (number - 1) x)) e (order x)))))

-- runs, and one more after them, that are in order and meet so
pub sorted_meeting : (before one two : List TapFields) (begin at : ℕ) → begin ≡ length before
    → at ≡ length before + length one → IsSorted tap_cmp one → IsSorted tap_cmp two
    → DoMeet begin (before ++ (one ++ two)) at → IsSorted tap_cmp (one ++ two)
sorted_meeting before one [] begin at first last up over meet =
    subst (λ l. IsSorted tap_cmp l) (sym (append-nil one)) up
sorted_meeting before one (x ∷ rest) begin at first last up over meet =
    sorted_glue one (x ∷ rest) (sorted_more one (x ∷ rest) up (λ d some.
    let list = one ++ x ∷ rest in
    let all = length-append before list in
    let long = length-append one (x ∷ rest) in
    let back : at - 1 ≡ length before + (length one - 1) = omega (arith, last, some) in
    let item : List TapFields → ℕ → TapFields = λ l k. get_or l k d in
    subst (λ t. IsNotBefore t x)
    (ap (item (before ++ list)) back ∙ get_or-append-add before list (length one - 1) d
    ∙ get_or_append_left one (x ∷ rest) d (length one - 1) (omega (arith, some)))
    (subst (IsNotBefore (get_or (before ++ list) (at - 1) d))
    (ap (item (before ++ list)) last ∙ get_or-append-add before list (length one) d
    ∙ get_or-append_seam one x rest d)
    (meet d (omega (arith, first, last, some)) (omega (arith, last, all, long)))))) over

pub takes_none : (known : List (Option (List ℕ))) (readers : List TapReader)
    (taps : List TapFields) → TakesTaps known readers taps taps readers
takes_none known readers taps = record {
  more = [];
  items = sym (append-nil taps);
  taken = λ files are. taken_none files readers;
}

-- runs up to a limit, in canonical order, are taken
pub taken_up_to : (files : List (List ℕ)) (last limit : TapFields) (old new : List TapReader)
    (runs : List (List TapFields)) (taps : List TapFields) → IsLimitOf old last
    → IsNotBefore limit last → length runs ≡ length old → length new ≡ length old
    → ((k : ℕ) (d : TapReader) → k < length old → IsPassedUpTo (get_or files k []) limit
    (get_or old k d) (get_or runs k []) (get_or new k d))
    → IsCanonical (all_of runs) taps → AreTaken files old taps new
taken_up_to files last limit old new runs taps bound least number as_many each canonical = record {
  runs = runs;
  number = number;
  as_many = as_many;
  each = λ k d inside. (each k d inside).passed;
  canonical = canonical;
  left = λ k d inside j e low.
      begins_far (get_or taps j e) limit (ahead (get_or new k d))
      (All-permutation (λ tap. IsNotBefore tap limit) (all_of runs) taps canonical.moved
      (all_of_each (λ tap. IsNotBefore tap limit) runs (λ i low.
      let here : i < length old = omega (arith, low, number) in
      (each i (some_of old i here) here).within)) j e low)
      ((each k d inside).left
      (λ f some. ranked.chain _ last limit (bound k d inside f some) least));
}
