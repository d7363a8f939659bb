use Rattle.std.proofs.Common.{◌≡◌, ◌∙◌, Bool, Global, List, Some, Vec, ap, length, map, refl}
use Rattle.std.proofs.Common.{rules, subst, sym, tests, true, ℕ}
use Rattle.class_names.proofs.Classes.{class_kept}
use Rattle.class_names.specs.{ClassFaults.IsWrongAt, Classes.AreTrees}
use Rattle.ledger_check.specs.Columns.{has_traced_head}
use Rattle.omny_audit.specs.{Program.AreWanted, Traced.Wanted}
use Rattle.omny_audit.specs.inside.Traced.{uploads_in, wanted_of}
use Rattle.program_manners.proofs.NextTables.{tables_counted}
use Rattle.program_manners.specs.TableViews.{names_of}
use Rattle.std.proofs.lemmas.List.{length-map}
use Rattle.omny_audit.proofs.program.trace_of.Goals as goal

pub of_texts-requires : goal.of_texts-requires
of_texts-requires c =
    let texts = c.args.tables.now.texts.items in
    let counted = (tables_counted (names_of c.args.words.now) _ _ _ c.requires.loaded.1).0 in
    ap (λ (ts : List (Vec ℕ Global)). length ts) c.deref.ensures.value
    ∙ sym (length-map texts (λ (t : Vec ℕ Global). t.items)) ∙ counted

pub returns-in-Ok-clause-wanted : goal.returns-in-Ok-clause-wanted
returns-in-Ok-clause-wanted c =
    let traced : has_traced_head c.args.head.now ≡ true =
    sym c.has_traced_head.ensures ∙ (first_of (cc, search (rules, tests))) in
    let named = c.in-Ok.ensures.classes in
    let uploads = uploads_in c.args.positions in
    let fares = c.args.tables.now.fares in
    let texts = map (λ t. t.items) c.args.tables.now.texts.items in
    subst (λ (b : Bool). AreWanted fares texts b uploads (Some (wanted_of c.new.result.so_far)))
    (sym traced)
    (subst (λ (w : Wanted). AreWanted fares texts true uploads (Some w))
    (sym c.new.ensures.wanted) (
      named.0,
      named.1,
      subst (λ (ts : List (Vec ℕ Global)). AreTrees fares (map (λ t. t.items) ts) named.0 named.1)
          c.deref.ensures.value named.2,
      λ moment token. class_kept c.in-Ok.names named.0 named.1 named.3 moment token,
      refl,
    ))

pub returns-in-Err-clause-fault : goal.returns-in-Err-clause-fault
returns-in-Err-clause-fault c = c.of_names.ensures _
    (subst (λ (ts : List (Vec ℕ Global)). IsWrongAt (map (λ t. t.items) ts) c.in-Err.wrong)
    c.deref.ensures.value c.in-Err.ensures.fault)
