use Rattle.std.proofs.Common.{◌∙◌, ◌≡◌, [], List, Option, arith, map, refl, subst, sym, true, ℕ}
use Rattle.frame.specs.declared.outside.Outside.TheVariants.{Unread}
use Rattle.std.proofs.lemmas.Result.{err_from_is_err_and}
use Rattle.tool_tasks.proofs.EncodingRows.{is_in, later_csv, zone_in}
use Rattle.frame.proofs.Outcomes.{loads_more}
use Rattle.tool_tasks.proofs.Loading.{stops_after}
use Rattle.tool_tasks.specs.EncodeRows.{loads_in, names_of, word_in}
use Rattle.world.proofs.Laws.{no_loads}
use Rattle.world.specs.Origins.{with_loads}
use Rattle.tool_tasks.proofs.encode_loads.load_texts.Goals as goal

pub returns-in_err-path-clause-stopped : goal.returns-in_err-path-clause-stopped
returns-in_err-path-clause-stopped g c =
    let e = err_from_is_err_and c.from_residual.result c.from_residual.ensures.1 in
    let old = g.W.Inputs.run c.args.world.now in
    rw (e.1, e.2) (true, old, refl, ([], sym (no_loads old)))

pub returns-in_err-found-clause-stopped : goal.returns-in_err-found-clause-stopped
returns-in_err-found-clause-stopped g c =
    let e = err_from_is_err_and c.from_residual-in_err-found.result
    c.from_residual-in_err-found.ensures.1 in
    let old = g.W.Inputs.run c.args.world.now in let words = c.args.words.now in
    let names = names_of words (map (λ w. w.now) c.args.csvs.now) in
    rw (e.1, e.2) (
      true,
      old,
      refl,
      stops_after names old _ _ [] _ (sym (no_loads old))
          (c.in_err-found.ensures.stopped names (is_in words (map (λ w. w.now) c.args.csvs.now) (word_in words.devices) (0, omega arith, refl))),
    )

pub returns-in-Err-clause-stopped : goal.returns-in-Err-clause-stopped
returns-in-Err-clause-stopped g c =
    let words = c.args.words.now in
    let names = names_of words (map (λ w. w.now) c.args.csvs.now) in
    let (started, tried, was) = c.in_ok-found.ensures.loaded in (
      c.in_ok-found.found.0,
      started,
      tried,
      stops_after names started _ (g.W.Inputs.run c.load_named.new.world) _
          (Unread c.in-Err.why) was
          (c.in-Err.ensures.refused names (is_in words (map (λ w. w.now) c.args.csvs.now) (word_in words.key) (2, omega arith, refl))),
    )

pub returns-in-Err-load_named-clause-stopped : goal.returns-in-Err-load_named-clause-stopped
returns-in-Err-load_named-clause-stopped g c =
    let words = c.args.words.now in
    let names = names_of words (map (λ w. w.now) c.args.csvs.now) in
    let (started, tried, was) = c.in_ok-found.ensures.loaded in (
      c.in_ok-found.found.0,
      started,
      tried,
      stops_after names started _ (g.W.Inputs.run c.load_named-2.new.world) _
          (Unread c.in-Err-load_named.why)
          (loads_more started _ _ _ _ was c.in-Ok.ensures.loaded)
          (c.in-Err-load_named.ensures.refused names (zone_in words (map (λ w. w.now) c.args.csvs.now)
          (word_in c.name_in.result) (c.name_in.ensures ∙ c.in_ok-path.ensures))),
    )

pub returns-in_err-csvs-clause-stopped : goal.returns-in_err-csvs-clause-stopped
returns-in_err-csvs-clause-stopped g c =
    let e = err_from_is_err_and c.from_residual-in_err-csvs.result
    c.from_residual-in_err-csvs.ensures.1 in
    let words = c.args.words.now in let csvs = map (λ w. w.now) c.args.csvs.now in
    let names = names_of words csvs in
    let (started, tried, was) = c.in_ok-found.ensures.loaded in
    let last = loads_more started _ _ _ _ (loads_more started _ _ _ _ was c.in-Ok.ensures.loaded)
    c.in-Ok-load_named.ensures.loaded in
    let (more, leaves) = c.in_err-csvs.ensures.stopped names (later_csv words csvs) in
    rw (e.1, e.2) (
      c.in_ok-found.found.0,
      started,
      tried,
      stops_after names started _ _ _ _
          (loads_more started _ _ _ more last refl) leaves,
    )

pub returns-clause-loaded : goal.returns-clause-loaded
returns-clause-loaded g c =
    let (started, tried, was) = c.in_ok-found.ensures.loaded in
    let then = loads_more started _ _ _ _ was c.in-Ok.ensures.loaded in
    let zone = subst (λ (o : Option (List ℕ)). g.W.Inputs.run c.load_named-2.new.world
    ≡ with_loads (g.W.Inputs.run c.load_named.new.world)
    (loads_in o c.in-Ok-load_named.zone.items)) (c.name_in.ensures ∙ c.in_ok-path.ensures)
    c.in-Ok-load_named.ensures.loaded in
    let all = c.in_ok-csvs.ensures.loaded in (
      started,
      _,
      tried,
      loads_more started _ _ _ all.loads (loads_more started _ _ _ _ then zone) all.all,
      record { csv_loads = all.loads; read = all.are; all = refl },
    )
