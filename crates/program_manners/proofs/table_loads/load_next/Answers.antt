-- The next table was loaded and follows those before it, or its fault is the right one.
use Rattle.std.proofs.Common.{◌∙◌, [], refl, rules, sym, tests}
use Rattle.std.proofs.lemmas.List.{map-append}
use Rattle.fare_table.specs.declared.fault.TableFault.TheVariants as table
use Rattle.program_manners.proofs.TablesRefused.{next_loaded, none_follows, stops_memory}
use Rattle.program_manners.proofs.TablesRefused.{stops_unread, stops_wrong}
use Rattle.program_manners.specs.declared.table_loads.TablesFault.TheVariants.{NoMemory}
use Rattle.std.specs.Prelude.{◌≢◌}
use Rattle.tap_views.proofs.Choices.{IfErr_handed_on}
use Rattle.tariffs.specs.declared.follow_fault.FollowFault.TheVariants as follow
use Rattle.program_manners.proofs.table_loads.load_next.Goals as goal

pub returns-in-Err-clause-right : goal.returns-in-Err-clause-right
returns-in-Err-clause-right g c = λ start words trailing has.
    stops_unread start _ _ words _ trailing _ _ has c.in-Err.file _ c.of-parts.ensures.name
    c.in-Err.ensures.refused

pub returns-in_err-push-in-Ok-table_after-clause-right : goal.returns-in_err-push-in-Ok-table_after-clause-right
returns-in_err-push-in-Ok-table_after-clause-right g c =
    IfErr_handed_on c.from_residual.result NoMemory _ c.from_residual.ensures.1
    (λ start words trailing has. stops_memory start _ _ words _ trailing _ _ has _
    (rw c.of-parts.ensures.name at c.in-Ok.ensures.ok))

pub returns-in-Ok-table_after-clause-ok : goal.returns-in-Ok-table_after-clause-ok
returns-in-Ok-table_after-clause-ok g c = λ start words has.
    rw (
      c.in_ok-push-in-Ok-table_after.ensures,
      map-append (λ t. t.items) c.args.tables.texts.items _,
    ) (next_loaded start _ _ words _ [] _ _ has _ (rw c.of-parts.ensures.name at c.in-Ok.ensures.ok) _ (
      c.in-Some.date,
      sym c.of-parts.ensures.date ∙ c.in-Some.is,
      rw c.deref.ensures.value at c.in-Ok-table_after.ensures.follows,
    ))

pub returns-in-Err-Table : goal.returns-in-Err-Table
returns-in-Err-Table g c =
    let some : c.in-Err-Table.fault ≢ table.NoMemory =
    λ same. absurd (first_of (cc, search (rules, tests))) in record {
      ok = tt;
      right = λ start words trailing has.
          let wrong = rw (c.in-Err-Table.field-0-is, c.deref.ensures.value)
          at c.in-Err-Table.ensures.fault in
          stops_wrong start _ _ words _ trailing _ c.args.word.now has _
          (rw c.of-parts.ensures.name at c.in-Ok.ensures.ok) _ refl
          (none_follows _ c.args.word.now _ c.in-Some.date
          (sym c.of-parts.ensures.date ∙ c.in-Some.is) (wrong some));
    }

pub returns : goal.returns
returns g c =
    let some : c.in-Err-Follow.fault ≢ follow.NoMemory =
    λ same. absurd (first_of (cc, search (rules, tests))) in record {
      ok = tt;
      right = λ start words trailing has.
          let wrong = rw (c.in-Err-Follow.field-0-is, c.deref.ensures.value)
          at c.in-Err-Follow.ensures.fault in
          stops_wrong start _ _ words _ trailing _ c.args.word.now has _
          (rw c.of-parts.ensures.name at c.in-Ok.ensures.ok) _ refl
          (none_follows _ c.args.word.now _ c.in-Some.date
          (sym c.of-parts.ensures.date ∙ c.in-Some.is) (wrong some));
    }
