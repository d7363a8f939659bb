use Rattle.std.proofs.Common.{◌<◌, [], List, Bor, arith, ap, flat_map, inl, inr, length, map}
use Rattle.std.proofs.Common.{subst, ℕ}
use Rattle.fare_program.proofs.{Causes.can_stop, Choices.if_true, Ends.gives_by}
use Rattle.fare_program.proofs.Prefetched.{drawn_files, provided_loads, read_files}
use Rattle.fare_program.specs.FilesLoaded.{LoadsDrawn, names_to_load, text_at}
use Rattle.fare_program.specs.inside.PostedFiles.{unless_memory}
use Rattle.fare_service.specs.Headline.{loads_at}
use Rattle.frame.specs.Given.{LoadsFiles}
use Rattle.settlement.specs.Reading.{loads_in_order}
use Rattle.std.proofs.lemmas.Result.{IfErr-weaker}
use Rattle.world.specs.Run.{Load}
use Rattle.fare_program.proofs.named_files.charge_named.Goals as goal

abbrev names_in : List (Bor (List ℕ)) → List (List ℕ)
names_in words = map (λ w. w.now) words

pub returns-then-options-clause-ends : goal.returns-then-options-clause-ends
returns-then-options-clause-ends g c =
    let origin = g.D.Disk.origin c.args.job.now.disk.now in
    let words = c.as_slice.result.now in
    let some : 0 < length words = omega (arith, c.requires, ap length c.as_slice.ensures.value) in
    let read : List (List ℕ) → List Load = λ files.
    loads_in_order (λ number. origin (text_at (names_in words) number)) 0 files in
    gives_by _ _ _ _ _ _ c.charge_settled.result (λ given. given)
    (λ text success is. (
      read is.0,
      is.1.loads,
      record {
        files = is.0;
        drawn = [];
        loads_files = λ of_system. inl (subst
            (λ (ws : List (Bor (List ℕ))). LoadsFiles (names_to_load (names_in ws)) (read is.0) is.0)
            c.as_slice.ensures.value
            (read_files origin of_system words is.0 some (omega (arith, is.1.number))));
        shows = if_true _ _ c.if-options.true is.2;
      },
    ))
    c.charge_settled.ensures.ends

pub returns-clause-ends : goal.returns-clause-ends
returns-clause-ends g c =
    let origin = g.D.Disk.origin c.args.job.now.disk.now in
    let words = c.as_slice.result.now in
    let provided : List (List ℕ) → List ℕ → List Load = λ files drawn.
    flat_map (loads_at (map (λ w. unless_memory (origin w.now)) words) files) drawn in
    gives_by _ _ _ _ _ _ c.charge_provided.result (λ given. given)
    (λ text success is. (
      provided is.0 is.1,
      provided_loads _ is.0 is.1 _ _ is.2,
      record {
        files = is.0;
        drawn = is.1;
        loads_files = λ of_system. inr (
          c.if-options.false,
          subst (λ (ws : List (Bor (List ℕ))). LoadsDrawn (names_in ws) (provided is.0 is.1) is.0 is.1)
              c.as_slice.ensures.value (drawn_files origin of_system words is.0 _ _ is.1 is.2),
        );
        shows = is.3;
      },
    ))
    c.charge_provided.ensures.ends

pub returns-then-options-clause-stop : goal.returns-then-options-clause-stop
returns-then-options-clause-stop g c =
    IfErr-weaker c.charge_settled.result _ _
    (can_stop _ _ _ _ (λ none. absurd none) (λ late. late)) c.charge_settled.ensures.stop

pub returns-clause-stop : goal.returns-clause-stop
returns-clause-stop g c =
    IfErr-weaker c.charge_provided.result _ _ (can_stop _ _ _ _ (λ many. tt) (λ late. late))
    c.charge_provided.ensures.stop
