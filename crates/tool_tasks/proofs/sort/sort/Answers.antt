use Rattle.std.proofs.Common.{◌∙◌, Bor, List, ap, arith, map, refl, subst, sym, ℕ}
use Rattle.frame.proofs.Outcomes.{halted_loading}
use Rattle.frame.specs.{Outsides.Leaves}
use Rattle.tool_tasks.proofs.{Loading.upload_named, Preparing.halted_early}
use Rattle.tool_tasks.specs.{Sort.Sorts, Sort.names_of, inside.Loads.LoadsAll}
use Rattle.tool_words.specs.Tasks.{sorting_of}
use Rattle.world.specs.{Origins.with_loads, Run.Run}
use Rattle.tool_tasks.proofs.sort.sort.Goals as goal

pub returns-in-Err : goal.returns-in-Err
returns-in-Err g c =
    let request = sorting_of c.args.words.now in let old = g.W.Inputs.run c.args.world.now in
    halted_early (Sorts request) (λ loads. ⊥) (names_of request) old _ _
    (request.out, (0, omega arith, refl), c.in-Err.ensures.unmade)

pub returns-in-Ok-loaded : goal.returns-in-Ok-loaded
returns-in-Ok-loaded g c =
    let request = sorting_of c.args.words.now in
    let run = g.W.Inputs.run in
    let old = run c.args.world.now in
    let texts = map (λ upload. upload.items) c.in-Ok-loaded.uploads.items in
    let loaded = subst (λ (ws : List (Bor (List ℕ))). LoadsAll (map (λ w. w.now) ws)
    (run c.begin.new.self) (run c.load_all-loaded.new.files) texts) c.deref.ensures.value
    c.in-Ok-loaded.ensures.loaded in
    c.write_sorted.ensures old
    (subst (λ (r : Run). LoadsAll request.uploads old r texts) (sym c.end_count.ensures)
    (subst (λ (r : Run). LoadsAll request.uploads r (run c.load_all-loaded.new.files) texts)
    c.in-Ok.ensures.unchanged loaded))

pub returns-in-Err-loaded : goal.returns-in-Err-loaded
returns-in-Err-loaded g c =
    let request = sorting_of c.args.words.now in
    let run = g.W.Inputs.run in
    let old = run c.args.world.now in
    let why = c.in-Err-loaded.halt.0 in
    let (loads, leaves) = c.in-Err-loaded.ensures.stopped (names_of request)
    (upload_named request c.deref.result.now (ap (map (λ w. w.now)) (sym c.deref.ensures.value))) in
    halted_loading (Sorts request) (λ loads. ⊥) (names_of request) old (with_loads (run c.begin.new.self) loads) _
    loads why (ap (λ (r : Run). with_loads r loads) c.in-Ok.ensures.unchanged)
    (subst (λ (r : Run). Leaves (names_of request) why (with_loads (run c.begin.new.self) loads) r)
    (sym (c.discard.ensures ∙ c.end_count.ensures)) leaves)
