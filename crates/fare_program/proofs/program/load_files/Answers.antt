use Rattle.std.proofs.Common.{◌≡◌, ◌∙◌, ◌<◌, ◌++◌, ◌∷◌, [], Some, List, ℕ, length, map, take, ap}
use Rattle.std.proofs.Common.{get_or, Bor, ◌+◌, Result, Ok, Err, None, arith, refl}
use Rattle.std.proofs.Common.{rules}
use Rattle.std.proofs.Common.{suc, sym, true, zero}
use Rattle.frame.proofs.Outcomes.{one_loaded}
use Rattle.fare_program.proofs.Loads.{input_read, names_to_load_are, refused_one}
use Rattle.fare_program.specs.FilesLoaded.{names_to_load}
use Rattle.std.proofs.lemmas.List.{map-append, take_all, take_more}
use Rattle.std.specs.Prelude.{Contains, IfOk, is_ok}
use Rattle.tap_views.proofs.Choices.{IfErr_handed_on}
use Rattle.world.proofs.Laws.{more_loads, no_loads}
use Rattle.world.specs.{Origins.with_loads, Run.Load, Run.Run}
use Rattle.fare_program.proofs.program.load_files.Goals as goal

abbrev no_name : Bor (List ℕ)
no_name = record { ref_ptr = (0, 0); now = [] }

both_of : {A E : Type 0} (r : Result A E) (P Q : A → Type 0) → is_ok r ≡ true → IfOk r P → IfOk r Q
    → (x : A) × P x × Q x
both_of (Ok x) P Q ok p q = (x, p, q)
both_of (Err e) P Q ok p q = absurd (cc)

pub loop-name-init : goal.loop-name-init
loop-name-init g c =
    let none : c.new-files.result.items ≡ [] = search rules in
    ([], sym (no_loads _), record { named = refl; bytes = ap (map (λ f. f.items)) (sym none) })

pub loop-name-preserved : goal.loop-name-preserved
loop-name-preserved g c =
    let value = c.deref-name-items.ensures.value in
    let names = c.deref-name-items.result.now in
    let index = c.loop-name.name-index in
    let (file, pushed, loaded) = both_of c.load_next.result _ _ c.in_ok-add-2.ensures.ok.1
    c.in_ok-add-2.ensures.ok.0 c.load_next.ensures.loaded in
    let (loads, is, all) = c.loop-name.invariant in
    let more : map (λ n. Some n.now) (take (index + 1) names)
    ≡ map (λ n. Some n.now) (take index names) ++ Some (get_or names index no_name).now ∷ [] =
    ap (map (λ n. Some n.now)) (take_more names index no_name c.loop-name-test.true)
    ∙ map-append (λ n. Some n.now) (take index names) _ in
    let bytes : map (λ f. f.items) c.add-in-loop-name.new.files.items
    ≡ map (λ f. f.items) c.loop-name.files.items ++ file.items ∷ [] =
    ap (map (λ f. f.items)) pushed ∙ map-append (λ f. f.items) c.loop-name.files.items _ in
    let load : Load = record {
      name = Some (get_or names index no_name).now;
      bytes = file.items;
    } in (
      loads ++ load ∷ [],
      loaded ∙ ap (λ (r : Run). with_loads r (load ∷ [])) is ∙ more_loads _ loads (load ∷ []),
      rw (← value, more, bytes) (one_loaded _ loads _ load (rw (← value) at all)),
    )

pub returns-clause-ok : goal.returns-clause-ok
returns-clause-ok g c =
    let names = c.args.job.now.options.files.items in
    let some : 0 < length names = search rules in
    let all : take c.loop-name.name-index names ≡ names =
    take_all _ names (rw c.deref-name-items.ensures.value at c.loop-name-test.false) in
    let (loads, is, read) = c.loop-name.invariant in
    (loads, is, rw (← names_to_load_are names some) (rw all at read))

-- a file at a place is one of those that are loaded
named_in : (names : List (Bor (List ℕ))) (index : ℕ) (d : Bor (List ℕ)) → index < length names
    → Contains (map Some (map (λ n. n.now) names)) (Some (get_or names index d).now)
named_in [] index d within = absurd (omega arith)
named_in (n ∷ names) zero d within = (0, omega arith, refl)
named_in (n ∷ names) (suc index) d within =
    let (k, few, is) = named_in names index d (omega arith) in (suc k, omega (arith, few), is)

named_at : (names : List (Bor (List ℕ))) (index : ℕ) (d : Bor (List ℕ)) → index < length names
    → Contains (names_to_load (map (λ n. n.now) names)) (Some (get_or names index d).now)
named_at [] index d within = absurd (omega arith)
named_at (n ∷ names) index d within = named_in (n ∷ names) index d within

pub returns-in_err-add-2-clause-unread : goal.returns-in_err-add-2-clause-unread
returns-in_err-add-2-clause-unread g c =
    let file = c.in_err-add-2.field-0.0 in
    let (loads, is, read) = c.loop-name.invariant in
    IfErr_handed_on c.from_residual-in_err-add-2.result file _ c.from_residual-in_err-add-2.ensures.1
    (refused_one _ _ _ loads _ _ c.load_next.result file.fault
    (rw (← c.deref-name-items.ensures.value) (named_at c.deref-name-items.result.now
    c.loop-name.name-index no_name c.loop-name-test.true))
    is c.load_next.ensures.loaded c.load_next.ensures.refused c.in_err-add-2.ensures.unread
    c.in_err-add-2.ensures.full)

-- ---- standard input
empty_of : {A : Type 0} (xs : List A) → length xs ≡ 0 → xs ≡ []
empty_of [] none = refl
empty_of (x ∷ xs) none = absurd (omega (arith, none))

pub returns-then-is_empty-clause-ok : goal.returns-then-is_empty-clause-ok
returns-then-is_empty-clause-ok g c =
    let (file, pushed, loaded) = both_of c.input.result _ _ c.in_ok-add.ensures.ok.1
    c.in_ok-add.ensures.ok.0 c.input.ensures.loaded in
    let none : c.new-files.result.items ≡ [] = search rules in
    let unnamed : length c.args.job.now.options.files.items ≡ 0 = search rules in
    let load : Load = record { name = None; bytes = file.items } in (
      load ∷ [],
      loaded,
      input_read c.args.job.now.options.files.items file _ _ unnamed none pushed,
    )

pub returns-in_err-add-clause-unread : goal.returns-in_err-add-clause-unread
returns-in_err-add-clause-unread g c =
    let file = c.in_err-add.field-0.0 in
    let unnamed : length c.args.job.now.options.files.items ≡ 0 = search rules in
    let start = g.I.Inputs.run c.args.inputs.now in
    IfErr_handed_on c.from_residual.result file _ c.from_residual.ensures.1
    (rw (empty_of c.args.job.now.options.files.items unnamed)
    (refused_one start start _ [] (None ∷ []) None c.input.result file.fault (0, omega arith, refl)
    (sym (no_loads start)) c.input.ensures.loaded c.input.ensures.refused
    c.in_err-add.ensures.unread c.in_err-add.ensures.full))
