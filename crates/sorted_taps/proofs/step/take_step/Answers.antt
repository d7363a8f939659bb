use Rattle.std.proofs.Common.{◌≡◌, ◌++◌, ◌∙◌, ℕ, List, ap, arith, drop, length, subst, sym, take}
use Rattle.std.specs.List.Sorted.{IsSorted}
use Rattle.sorted_taps.proofs.{Limits.taken_up_to, Taking.all_of}
use Rattle.sorted_taps.specs.inside.Limits.{IsSortedFrom}
use Rattle.std.proofs.Math.Seq.{drop-append_seam, take-append_seam}
use Rattle.tap_parts.specs.{Canonical.IsCanonical, Canonical.tap_cmp, Keys.tap_of_key}
use Rattle.tap_views.specs.declared.encoder.TapFields.{TapFields}
use Rattle.sorted_taps.proofs.step.take_step.Goals as goal

-- the taps from the begin on were sorted
sorted_back : (begin : ℕ) (before more mid new : List TapFields) → mid ≡ before ++ more
    → begin ≡ length before → (is : IsSortedFrom begin mid new)
    → (new ≡ before ++ is.list) × IsCanonical more is.list
sorted_back begin before more mid new whole long is = (
  is.items ∙ ap (λ l. take begin l ++ is.list) whole
      ∙ ap (λ n. take n (before ++ more) ++ is.list) long
      ∙ ap (λ l. l ++ is.list) (take-append_seam before more),
  subst (λ l. IsCanonical l is.list)
      (ap (drop begin) whole ∙ ap (λ n. drop n (before ++ more)) long
      ∙ drop-append_seam before more) is.canonical,
)

pub returns : goal.returns
returns g c =
    let runs = c.in_ok-in_order.ensures in
    let begin = c.len-before.ensures in
    let ok = c.args.taps.now.ok.0 in
    let (items, canonical) = sorted_back c.len-before.result c.args.taps.now.items (all_of runs.runs)
    c.take_runs.new.taps.items c.sort_from.new.taps.items runs.items (omega (arith, begin, ok))
    c.sort_from.ensures in
    record {
      more = c.sort_from.ensures.list;
      items = items;
      taken = λ files are. taken_up_to files (tap_of_key c.in-Some.front.last)
          (tap_of_key c.limit-limit.result) c.args.readers.now c.take_runs.new.readers runs.runs
          c.sort_from.ensures.list c.in-Some.ensures c.limit-limit.ensures runs.number
          c.take_runs.auto.readers (runs.each files are) canonical;
    }

pub sort_from-requires-clause-order : goal.sort_from-requires-clause-order
sort_from-requires-clause-order g c = λ all.
    let runs = c.in_ok-in_order.ensures in
    let begin = c.len-before.ensures in
    let ok = c.args.taps.now.ok.0 in
    let before = c.args.taps.now.items in
    let long : c.len-before.result ≡ length before = omega (arith, begin, ok) in
    subst (λ l. IsSorted tap_cmp l)
    (sym (ap (drop c.len-before.result) runs.items
    ∙ ap (λ n. drop n (before ++ all_of runs.runs)) long
    ∙ drop-append_seam before (all_of runs.runs))) (runs.sorted all)
