use Rattle.std.proofs.Common.{◌≡◌, ◌∙◌, [], Bor, IfSome, List, Option, Some, ap, arith, map, refl}
use Rattle.std.proofs.Common.{subst, sym, ℕ}
use Rattle.frame.proofs.Outcomes.{halted_by, halted_loading}
use Rattle.frame.specs.Outsides.{Stops}
use Rattle.tool_tasks.proofs.{KnownBytes.some_known, MergedUploads.whole_file}
use Rattle.tool_tasks.proofs.Preparing.{carried, halted_early}
use Rattle.tool_tasks.specs.MergeSorted.{IsMergeOf, IsUnsorted, Merges}
use Rattle.tool_tasks.specs.{Sort.names_of, declared.stops.Halt.Halt}
use Rattle.tool_words.specs.Tasks.{sorting_of}
use Rattle.world.proofs.Laws.{no_loads}
use Rattle.tool_tasks.proofs.merge_sorted.merge.Goals as goal

pub returns-in-Err : goal.returns-in-Err
returns-in-Err g c =
    let request = sorting_of c.args.words.now in
    halted_early (Merges request _) _ (names_of request) (g.W.Inputs.run c.args.world.now) _ _
    (request.out, (0, omega arith, refl), c.in-Err.ensures.unmade)

pub make_sorted-requires : goal.make_sorted-requires
make_sorted-requires g c = some_known _ c.into_file-file.ensures.known

pub returns-in-Ok-merged : goal.returns-in-Ok-merged
returns-in-Ok-merged g c =
    let request = sorting_of c.args.words.now in
    let old = g.W.Inputs.run c.args.world.now in
    let under = g.D.PlacedFiles.bytes_under c.args.disk.now in
    let known = map under request.uploads in
    let contents = g.W.File.Write.contents in
    let some = some_known (contents c.into_file-file.result) c.into_file-file.ensures.known in
    let ends = c.in-Ok-merged.ends.items in
    let whole : (uploads : List (List ℕ)) → known ≡ map Some uploads → IsMergeOf uploads ends some.0 =
    λ uploads is.
    let merged = c.in-Ok-merged.ensures.merged uploads (ap (λ (ws : List (Bor (List ℕ))).
    map under (map (λ w. w.now) ws)) c.deref.ensures.value ∙ is) in
    whole_file uploads merged.0 ends (contents c.new-known.result.file)
    (contents c.merge_all-merged.new.file.file) some.0 merged.2 merged.1
    (ap contents c.new-known.ensures ∙ c.in-Ok.ensures.empty)
    (sym (ap contents c.into_file-file.ensures.file) ∙ some.1) in
    carried (Merges request known) _ (names_of request) old _ _ _ c.make_sorted.result
    (c.make_sorted.ensures old [] some.0 (c.in-Ok.ensures.unchanged ∙ sym (no_loads old)) some.1)
    (record {
      unloaded = refl;
      ends = c.deref-in-Ok-merged.result.now;
      file = some.0;
      whole = λ uploads is. subst (λ es. IsMergeOf uploads es some.0)
          (sym c.deref-in-Ok-merged.ensures.value) (whole uploads is);
      made = refl;
      text = refl;
      success = refl;
    })

pub returns-in-None : goal.returns-in-None
returns-in-None g c =
    let request = sorting_of c.args.words.now in let old = g.W.Inputs.run c.args.world.now in
    halted_loading (Merges request _) _ (names_of request) old _ _ [] c.failed.result.0
    (c.in-Ok.ensures.unchanged ∙ sym (no_loads old))
    (c.failed.ensures (names_of request) (0, omega arith, refl))

pub returns-in-Some : goal.returns-in-Some
returns-in-Some g c =
    let request = sorting_of c.args.words.now in let old = g.W.Inputs.run c.args.world.now in
    let under = g.D.PlacedFiles.bytes_under c.args.disk.now in
    let known = map under request.uploads in
    let words = c.deref.result.now in let halt = c.in-Some.halt in
    let so = λ (h : Halt). Stops (IsUnsorted (map (λ w. w.now) words)
    (map under (map (λ w. w.now) words))) h.0 in
    let stopped = subst (λ (o : Option Halt). IfSome o so) c.in-Some.is
    c.in-Err-merged.ensures.stopped in
    let stops = subst (λ (ws : List (Bor (List ℕ))). Stops (IsUnsorted (map (λ w. w.now) ws)
    (map under (map (λ w. w.now) ws))) halt.0) c.deref.ensures.value stopped in
    halted_by (Merges request known) (λ loads. IsUnsorted request.uploads known) (names_of request)
    old _ _ [] halt.0 (c.in-Ok.ensures.unchanged ∙ sym (no_loads old))
    (rw c.discard.ensures (stops (names_of request) _))
