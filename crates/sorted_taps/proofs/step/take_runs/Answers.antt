use Rattle.std.proofs.Common.{◌≡◌, ◌<◌, ◌++◌, ◌∷◌, ◌∙◌, List, [], ap, append_assoc, arith}
use Rattle.std.proofs.Common.{below_more, get_or, length, length-append, set, subst}
use Rattle.sorted_taps.proofs.{Files.if_known, Files.known_at, Limits.sorted_meeting, Taking.all_of}
use Rattle.sorted_taps.specs.declared.reader.TapReader.{TapReader}
use Rattle.sorted_taps.specs.inside.Limits.{DoMeet, IsPassedUpTo}
use Rattle.std.proofs.lemmas.List.{flat_map_more, get_or_append_left, get_or_default, get_or_push}
use Rattle.std.proofs.lemmas.List.{get_or-set_other, get_or-set_same}
use Rattle.std.specs.List.Sorted.{IsSorted}
use Rattle.tap_parts.specs.{Canonical.tap_cmp, Keys.tap_of_key}
use Rattle.tap_views.specs.declared.encoder.TapFields.{TapFields}
use Rattle.sorted_taps.proofs.step.take_runs.Goals as goal

pub loop-at-preserved : goal.loop-at-preserved
loop-at-preserved g c =
    let inv = c.loop-at.invariant in
    let at = c.loop-at.at in
    let old = c.args.readers.now in
    let mid = c.loop-at.readers in
    let limit = tap_of_key c.args.limit in
    let reader = c.index-readers-at.result in
    let file = c.index-files-at.result in
    let new = c.take_run.new.reader in
    let taken = c.in_ok-take_run.ensures in
    let runs = inv.runs ++ taken.run ∷ [] in
    let wide = c.take_run.auto.window in
    let room = inv.room in
    let number = inv.number in
    let more = length-append inv.runs (taken.run ∷ []) in
    let many = c.loop-at.auto.readers in
    let files = c.requires.files in
    let test = c.loop-at-test.true in
    let inside : at < length mid = omega (arith, test, many) in
    let was : (d : TapReader) → get_or mid at reader ≡ get_or old at d =
    λ d. get_or_default mid at reader d inside ∙ inv.rest at d (omega arith) in
    record {
      room = omega (arith, wide, room);
      runs = runs;
      number = omega (arith, more, number);
      items = taken.items ∙ ap (λ (l : List TapFields). l ++ taken.run) inv.items
          ∙ flat_map_more (λ (run : List TapFields). run) c.args.taps.now.items inv.runs taken.run;
      sorted = λ all.
          let before = c.args.taps.now.items in
          let last = c.len-met.ensures in
          let short = c.loop-at.taps.ok.0 in
          let end = ap length inv.items ∙ length-append before (all_of inv.runs) in
          subst (λ l. IsSorted tap_cmp l)
          (flat_map_more (λ (run : List TapFields). run) [] inv.runs taken.run)
          (sorted_meeting before (all_of inv.runs) taken.run c.len-begin.result c.len-met.result
          (omega (arith, c.len-begin.ensures, c.args.taps.now.ok.0)) (omega (arith, last, short, end))
          (inv.sorted (c.are_still_in_order-in_order.ensures.were all)) taken.sorted
          (subst (λ l. DoMeet c.len-begin.result l c.len-met.result)
          (c.deref.ensures.value ∙ taken.items
          ∙ ap (λ (l : List TapFields). l ++ taken.run) inv.items
          ∙ append_assoc before (all_of inv.runs) taken.run)
          (c.are_still_in_order-in_order.ensures.meet all)));
      rest = λ k d from.
          get_or-set_other mid at k new d (omega (arith, from)) ∙ inv.rest k d (omega (arith, from));
      each = λ all are k d low. below_more (λ k. (d : TapReader)
          → IsPassedUpTo (get_or all k []) limit (get_or old k d) (get_or runs k [])
          (get_or (set mid at new) k d)) at
          (λ k less d. rw (
            get_or_append_left inv.runs (taken.run ∷ []) [] k (omega (arith, less, number)),
            get_or-set_other mid at k new d (omega (arith, less)),
          ) (inv.each all are k d less))
          (λ d. rw (
            get_or_push inv.runs taken.run [] at number,
            get_or-set_same mid at new d inside,
          ) (subst (λ (r : TapReader). IsPassedUpTo (get_or all at []) limit r taken.run new) (was d)
          (if_known (λ a. IsPassedUpTo a limit (get_or mid at reader) taken.run new)
          (g.F.Placed.bytes file)
          (get_or all at [])
          (known_at g.F.Placed.bytes c.args.files.now all at file are
          (omega (arith, test, files)) c.index-files-at.is) taken.passed))) k low d;
    }

pub returns : goal.returns
returns g c =
    let inv = c.loop-at.invariant in
    let number = inv.number in
    let last = c.loop-at.auto.at-end in
    let stop = c.loop-at-test.false in
    record {
      runs = inv.runs;
      number = omega (arith, number, last, stop);
      items = inv.items;
      sorted = inv.sorted;
      each = λ files are k d low. inv.each files are k d (omega (arith, low, stop));
    }
