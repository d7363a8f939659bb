use Rattle.std.proofs.Common.{◌≡◌, ◌∙◌, ◌++◌, [], ℕ, Bool, List, Option, Some, ap, arith, inl, inr}
use Rattle.std.proofs.Common.{append-nil, length, map, option_map, refl, subst, sym, true}
use Rattle.fare_program.proofs.{Causes.can_stop, Causes.leaves_by, Causes.many_named, Choices.if_false}
use Rattle.fare_program.proofs.{Choices.if_some, Choices.if_true, Ends.gives_kept}
use Rattle.fare_program.proofs.Works.{IsPartOf, whole, works_after, works_then, works_unread}
use Rattle.fare_program.proofs.Works.{works_within}
use Rattle.fare_program.specs.Causes.{HasWrongClass, IsWrong, RefusesClass, names_of_tables}
use Rattle.fare_program.specs.{FilesLoaded.names_to_load, Options.Request}
use Rattle.fare_program.specs.Program.{Does, DoesBy, IsTokenIn}
use Rattle.fare_program.specs.inside.{Ends.Aim, Options.request_of}
use Rattle.frame.specs.declared.outside.Outside.TheVariants.{Untraced}
use Rattle.program_manners.specs.{TableLoads.LoadsTables, TableViews.names_of}
use Rattle.program_manners.specs.{TableWords.TableNames, TableWords.table_files}
use Rattle.program_manners.specs.TablesFaults.{RefusesTable, outside_of}
use Rattle.program_manners.specs.declared.table_loads.TablesFault.{TablesFault, TheVariants.File}
use Rattle.program_manners.specs.declared.table_loads.TablesFault.TheVariants.{NoMemory}
use Rattle.std.proofs.{KnownBytes.Keeps-refl, lemmas.List.length-map, lemmas.Result.IfErr-weaker}
use Rattle.std.proofs.lemmas.List.Elements.{Contains-append_left, Contains-append_right}
use Rattle.std.specs.Prelude.{Contains}
use Rattle.tap_views.proofs.Choices.{MatchOption_none}
use Rattle.tap_views.specs.declared.token.Token.{Token}
use Rattle.tariffs.specs.Fares.{Fares}
use Rattle.world.proofs.Laws.{more_loads, no_loads}
use Rattle.world.specs.{Origins.Origin, Origins.with_loads, Run.Load, Run.Run}
use Rattle.fare_program.proofs.program.work.Goals as goal

-- a class that is wrong
wrong_class : (request : Request) (known : List ℕ → Option (List ℕ)) (tables : TableNames)
    (of_tables more : List Load) (texts : List (List ℕ)) (fares : Fares)
    → request.table ≡ Some tables → request.traced ≡ true → LoadsTables tables of_tables texts fares
    → (more ≡ []) × HasWrongClass texts → IsWrong request known (of_tables ++ more)
wrong_class request known tables of_tables more texts fares named traced loads (none, wrong) =
    rw (none, append-nil of_tables)
    (inr (inl (traced, if_some _ (RefusesClass of_tables) tables named (texts, fares, loads, wrong))))

module _ (request : Request) (known : List ℕ → Option (List ℕ)) (origin : List ℕ → Origin)
    (tables : TableNames) (of_tables : List Load) (texts : List (List ℕ)) (fares : Fares)
    (token : Option Token) (named : request.table ≡ Some tables)
    (loads : LoadsTables tables of_tables texts fares) (is : IsTokenIn request.token token) where
  by_tables : (of_files : List Load) (text : List ℕ) (success : Bool)
      → DoesBy request known origin texts fares token of_files text success
      → Does request known origin (of_tables ++ of_files) text success
  by_tables of_files text success does = if_some _ _ tables named (record {
    texts = texts;
    fares = fares;
    of_tables = of_tables;
    loads_tables = loads;
    token = token;
    is_token = is;
    of_files = of_files;
    does = does;
    all = refl;
  })

  -- the same where no file is loaded
  alone : (text : List ℕ) (success : Bool)
      → DoesBy request known origin texts fares token [] text success
      → Does request known origin of_tables text success
  alone text success does =
      subst (λ (l : List Load). Does request known origin l text success) (append-nil of_tables)
      (by_tables [] text success does)

  -- what follows the tables
  part : (A : Aim) → A.Given
      → ((more : List Load) (text : List ℕ) (success : Bool) → A.Right more text success
      → DoesBy request known origin texts fares token more text success)
      → ((more : List Load) → A.Wrong more → IsWrong request known (of_tables ++ more))
      → (A.Late → ⊥)
      → ((name : Option (List ℕ)) → Contains A.names name
      → Contains (names_to_load request.files) name)
      → IsPartOf A (whole request known origin) of_tables
  part A given does wrong late among = record {
    given = λ more. given;
    right = λ more text success it. by_tables more text success (does more text success it);
    wrong = wrong;
    late = λ it. absurd (late it);
    named = λ name it. Contains-append_right (map Some (names_of_tables request.table)) _ name
        (among name it);
  }

never_late : (fault : TablesFault) → outside_of fault ≡ Untraced → ⊥
never_late (File file) untraced = cc
never_late NoMemory untraced = cc
never_late _ untraced = cc

pub load_tables-requires : goal.load_tables-requires
load_tables-requires g c = rw c.in-Some.is at c.requires.dates

pub returns-in_default : goal.returns-in_default
returns-in_default g c =
    let request = request_of c.args.job.now.options in
    works_after _ (whole request _ _) [] _ _ _ _ _ c.list_files.result (sym (no_loads _)) (record {
      given = λ given. tt;
      right = λ loads text success lists.
          MatchOption_none _ _ _ (ap (option_map names_of) c.in_default.is) lists;
      wrong = λ loads wrong. absurd wrong;
      late = λ late. absurd late;
      named = λ name among. Contains-append_right (map Some (names_of_tables request.table)) _ name among;
    }) c.list_files.ensures

pub returns-in-Err : goal.returns-in-Err
returns-in-Err g c =
    let request = request_of c.args.job.now.options in
    let named = ap (option_map names_of) c.in-Some.is in
    let stops = c.in-Err.ensures.right in (
      stops.loads,
      record {
        late = λ untraced. absurd (never_late c.in-Err.fault untraced);
        left = leaves_by _ _ (map Some (table_files (names_of c.in-Some.words))) _ _ _
            (λ refuses. inl (if_some _ (λ t. RefusesTable t stops.loads) _ named refuses))
            (λ name among. Contains-append_left (map Some (names_of_tables request.table)) _ name
            (subst (λ (t : Option TableNames). Contains (map Some (names_of_tables t)) name)
            (sym named) among)) (outside_of c.in-Err.fault) stops.leaves;
      },
      Keeps-refl _,
    )

pub returns-then-options : goal.returns-then-options
returns-then-options g c =
    let request = request_of c.args.job.now.options in
    let read = c.in-Ok.ensures.ok in
    works_after _ (whole request _ _) read.loads _ _ _ _ _ c.list_files-then-options.result read.only
    (part request _ _ _ _ _ _ _ (ap (option_map names_of) c.in-Some.is) read.are c.requires.token _
    tt (λ more text success is. if_true _ _ c.if-options.true is) (λ more wrong. absurd wrong)
    (λ late. late) (λ name among. among)) c.list_files-then-options.ensures

pub write_traced-requires-clause-loaded : goal.write_traced-requires-clause-loaded
write_traced-requires-clause-loaded g c κs within =
    (c.in-Ok.ensures.ok.loads, c.in-Ok.ensures.ok.are)

pub returns-then-options-2 : goal.returns-then-options-2
returns-then-options-2 g c =
    let request = request_of c.args.job.now.options in
    let read = c.in-Ok.ensures.ok in
    let named = ap (option_map names_of) c.in-Some.is in
    works_after _ (whole request _ _) read.loads _ _ _ _ _ c.write_traced.result read.only
    (part request _ _ _ _ _ _ _ named read.are c.requires.token _ tt
    (λ more text success is. if_false _ _ c.if-options.false (if_true _ _ c.if-options-2.true is))
    (λ more wrong. wrong_class request _ _ _ more _ _ named c.if-options-2.true read.are wrong)
    (λ late. late) (λ name among. among)) c.write_traced.ensures

pub returns-then-options-3 : goal.returns-then-options-3
returns-then-options-3 g c =
    let request = request_of c.args.job.now.options in
    let read = c.in-Ok.ensures.ok in
    works_then (whole request _ _) _ _ _ read.loads _ _ _ _ c.work_sorted.result read.only
    (λ given. given)
    (λ text success is. alone request _ _ _ _ _ _ _ (ap (option_map names_of) c.in-Some.is)
    read.are c.requires.token text success (if_false _ _ c.if-options.false
    (if_false _ _ c.if-options-2.false (if_true _ _ c.if-options-3.true (refl, is)))))
    (λ wrong. inr (inr (inr (c.if-options-3.true, wrong)))) c.work_sorted.ensures.ends
    (IfErr-weaker c.work_sorted.result _ _ (can_stop _ _ _ _ (λ wrong. wrong)
    (λ late. c.if-options-3.true)) c.work_sorted.ensures.stop)

pub returns-in-Some-charge_prefetched : goal.returns-in-Some-charge_prefetched
returns-in-Some-charge_prefetched g c =
    let request = request_of c.args.job.now.options in
    let read = c.in-Ok.ensures.ok in
    let ended = c.in-Some-charge_prefetched.ended in
    works_after _ (whole request _ _) read.loads _ _ _ _ _ ended read.only
    (part request _ _ _ _ _ _ _ (ap (option_map names_of) c.in-Some.is) read.are c.requires.token _
    tt (λ more text success is. if_false _ _ c.if-options.false (if_false _ _ c.if-options-2.false
    (if_false _ _ c.if-options-3.false is))) (λ more wrong. absurd wrong) (λ late. late)
    (λ name among. absurd (omega (arith, among.1))))
    (works_within _ _ _ _ _ ended c.in-Some-charge_prefetched.ensures.fault
    c.in-Some-charge_prefetched.ensures.ends)

-- files that are loaded in their turns
pub returns-in-Ok-load_files : goal.returns-in-Ok-load_files
returns-in-Ok-load_files g c =
    let request = request_of c.args.job.now.options in
    let read = c.in-Ok.ensures.ok in
    let (loads, is, files) = c.in-Ok-load_files.ensures.ok in
    works_then (whole request _ _) _ _ _ (read.loads ++ loads) _ _ _ _ c.charge.result
    (is ∙ ap (λ (r : Run). with_loads r loads) (c.in-None.ensures.unloaded refl ∙ read.only)
    ∙ more_loads _ read.loads loads) (λ given. tt)
    (λ text success is. by_tables request _ _ _ _ _ _ _ (ap (option_map names_of) c.in-Some.is)
    read.are c.requires.token loads text success (if_false _ _ c.if-options.false
    (if_false _ _ c.if-options-2.false (if_false _ _ c.if-options-3.false (record {
      files = map (λ f. f.items) c.in-Ok-load_files.files.items;
      drawn = is.0;
      loads_files = λ of_system. inl files;
      shows = rw c.deref.ensures.value at is.1;
    })))))
    (λ many. inr (inr (inl (many_named _ (omega (
      arith,
      many,
      ap length c.deref.ensures.value,
      ap length files.named,
      ap length files.bytes,
      length-map loads (λ (l : Load). l.name),
      length-map loads (λ (l : Load). l.bytes),
      length-map c.in-Ok-load_files.files.items (λ f. f.items),
    ))))))
    (gives_kept _ _ _ _ c.charge.result (c.in-None.ensures.none refl) c.charge.ensures.ends)
    (IfErr-weaker c.charge.result _ _ (can_stop _ _ _ _ (λ many. many) (λ late. absurd late))
    c.charge.ensures.stop)

pub returns : goal.returns
returns g c =
    let request = request_of c.args.job.now.options in
    let disk = c.args.job.now.disk.now in
    let read = c.in-Ok.ensures.ok in
    works_unread (whole request (g.D.Disk.bytes_under disk) (g.D.Disk.origin disk))
    (names_to_load request.files) read.loads _ _ _ _ _ c.in-Err-load_files.file
    (c.in-None.ensures.unloaded refl ∙ read.only)
    (λ name among. Contains-append_right (map Some (names_of_tables request.table)) _ name among)
    c.in-Err-load_files.ensures.unread (c.in-None.ensures.none refl)
