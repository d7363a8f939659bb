use Rattle.std.proofs.Common.{◌∙◌, [], ap, length, refl, sym}
use Rattle.class_names.proofs.Classes.{class_kept}
use Rattle.class_names.specs.Names.{class_by}
use Rattle.fare_program.proofs.Works.{works_then, works_unread}
use Rattle.fare_program.specs.{FilesLoaded.names_to_load, inside.Options.request_of}
use Rattle.program_manners.proofs.NextTables.{tables_counted}
use Rattle.std.proofs.{KnownBytes.Keeps-refl, lemmas.List.length-map}
use Rattle.world.proofs.Laws.{no_loads}
use Rattle.fare_program.proofs.traced.write_traced.Goals as goal

-- there is a text for each table
pub of_texts-requires : goal.of_texts-requires
of_texts-requires g c =
    let (texts, words) = tables_counted _ _ _ _ c.requires.loaded.1 in
    ap length c.deref.ensures.value
    ∙ sym (length-map c.args.tables.now.texts.items (λ t. t.items)) ∙ texts

pub returns-in-Err : goal.returns-in-Err
returns-in-Err g c = (
  [],
  record {
    late = λ untraced. absurd (cc);
    left = (
      (
        refl,
        record {
          wrong = c.in-Err.wrong;
          names = rw c.deref.ensures.value at c.in-Err.ensures.fault;
          kind = c.in-Some.ensures;
        },
      ),
      sym (no_loads _),
    );
  },
  Keeps-refl _,
)

pub returns-in_default : goal.returns-in_default
returns-in_default g c =
    ([], record { late = λ untraced. absurd (cc); left = sym (no_loads _) }, Keeps-refl _)

pub returns-in-Err-load_files : goal.returns-in-Err-load_files
returns-in-Err-load_files g c =
    works_unread _ (names_to_load (request_of c.args.job.now.options).files) [] _ _ _ _ _
    c.in-Err-load_files.file (sym (no_loads _)) (λ name among. among)
    c.in-Err-load_files.ensures.unread (Keeps-refl _)

pub returns : goal.returns
returns g c =
    let names = c.in-Ok.ensures.classes in
    let (loads, is, read) = c.in-Ok-load_files.ensures.ok in
    works_then _ _ _ _ loads _ _ _ _ c.print_traced.result is (λ given. given)
    (λ text success traced. record {
      tree = names.0;
      later = names.1;
      parsed = rw c.deref.ensures.value at names.2;
      classes = class_by c.in-Ok.names;
      are_classes = class_kept c.in-Ok.names names.0 names.1 names.3;
      files = _;
      loads_files = read;
      shows = rw c.deref-2.ensures.value at traced;
    })
    (λ wrong. absurd wrong) c.print_traced.ensures.ends c.print_traced.ensures.stop
