-- The first table was loaded, or its text is no table.
use Rattle.std.proofs.Common.{◌∷◌, [], ap, append-nil, rules, subst, sym, tests}
use Rattle.fare_table.specs.declared.fault.TableFault.TheVariants as table
use Rattle.program_manners.specs.{TableLoads.loads_first}
use Rattle.program_manners.specs.TablesFaults.{StopsTables, refuses_first}
use Rattle.program_manners.specs.declared.table_loads.TablesFault.TheVariants.{NoMemory}
use Rattle.program_manners.specs.{TableViews.names_of}
use Rattle.program_manners.proofs.TablesRefused.{no_table}
use Rattle.std.proofs.lemmas.List.Elements.{Contains-append_left, Contains-push}
use Rattle.std.specs.Prelude.{◌≢◌, Some}
use Rattle.tap_views.proofs.Choices.{IfErr_handed_on}
use Rattle.world.specs.{Loads.IsRefused, Run.Run}
use Rattle.program_manners.proofs.table_loads.load_first.Goals as goal

pub returns-in-Err-clause-right : goal.returns-in-Err-clause-right
returns-in-Err-clause-right g c =
    let run = g.S.Inputs.run c.args.source.now in
    let name = Some c.args.words.now.first.now in record {
      loads = [];
      leaves = (
        name,
        Contains-append_left (name ∷ []) _ _ (Contains-push [] name),
        subst (λ (r : Run). IsRefused r (g.S.Inputs.run c.load_named.new.source) name
            c.in-Err.file.fault) (ap (λ xs. record run { loads = xs }) (sym (append-nil run.loads)))
            c.in-Err.ensures.refused,
      );
    }

pub returns-in_err-push-in-Ok-read-clause-right : goal.returns-in_err-push-in-Ok-read-clause-right
returns-in_err-push-in-Ok-read-clause-right g c =
    IfErr_handed_on c.from_residual.result NoMemory
    (StopsTables (g.S.Inputs.run c.args.source.now) (g.S.Inputs.run c.load_named.new.source)
    (names_of c.args.words.now)) c.from_residual.ensures.1
    (record { loads = _; leaves = c.in-Ok.ensures.ok })

pub returns-in-Ok-read-clause-ok : goal.returns-in-Ok-read-clause-ok
returns-in-Ok-read-clause-ok g c =
    let (utf8, means) = rw c.deref.ensures.value at c.in-Ok-read.ensures.ok in
    rw (c.in_ok-push-in-Ok-read.ensures, c.new-texts.ensures.items) (record {
      loads = _;
      only = c.in-Ok.ensures.ok;
      are = loads_first _ _ _ utf8 (means, c.in-Ok-read.ensures.zone, c.in-Ok-read.ensures.alone);
    })

pub returns-in-Err-read : goal.returns-in-Err-read
returns-in-Err-read g c =
    let some : c.in-Err-read.fault ≢ table.NoMemory =
    λ same. absurd (first_of (cc, search (rules, tests))) in record {
      ok = tt;
      right = record {
        loads = _;
        leaves = (
          refuses_first c.in-Ok.text.items (no_table _ c.in-Err-read.fault
              (rw c.deref.ensures.value at (c.in-Err-read.ensures.fault some))),
          c.in-Ok.ensures.ok,
        );
      };
    }

pub returns : goal.returns
returns g c =
    let some : c.in-Err-read.fault ≢ table.NoMemory =
    λ same. absurd (first_of (cc, search (rules, tests))) in record {
      ok = tt;
      right = record {
        loads = _;
        leaves = (
          refuses_first c.in-Ok.text.items (no_table _ c.in-Err-read.fault
              (rw c.deref.ensures.value at (c.in-Err-read.ensures.fault some))),
          c.in-Ok.ensures.ok,
        );
      };
    }
