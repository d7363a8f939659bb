use Rattle.std.proofs.Common.{◌∙◌, List, ap, arith, if◌then◌else◌, refl, sym}
use Rattle.frame.proofs.{Giving.known_whole, Outcomes.halted_loading}
use Rattle.frame.specs.declared.outside.Outside.TheVariants.{NoMemory}
use Rattle.tap_views.specs.{UploadEnds.are_posted, declared.upload_end.UploadEnd.UploadEnd}
use Rattle.tool_tasks.proofs.Preparing.{carried}
use Rattle.tool_tasks.specs.Sort.{Sorts, names_of}
use Rattle.tool_words.specs.Tasks.{sorting_of}
use Rattle.tool_tasks.proofs.sort.write_sorted.Goals as goal

pub returns-in-Err : goal.returns-in-Err
returns-in-Err g c = λ start all.
    let request = sorting_of c.args.words.now in
    halted_loading (Sorts request) (λ loads. ⊥) (names_of request) start _ _ all.loads _ all.all
    (c.failed.ensures (names_of request) (0, omega arith, refl))

pub make_sorted-requires : goal.make_sorted-requires
make_sorted-requires g c =
    let sorted = c.in-Ok.ensures.sorted in
    (sorted.written.file, known_whole _ _ sorted.written.file c.requires sorted.written.appended)

pub returns-in-Ok-note_of : goal.returns-in-Ok-note_of
returns-in-Ok-note_of g c = λ start all.
    let request = sorting_of c.args.words.now in
    let sorted = c.in-Ok.ensures.sorted in
    let same = c.deref-in-Ok-note_of.ensures.value in
    carried (Sorts request) (λ loads. ⊥) (names_of request) start _ _ _ c.make_sorted.result
    (c.make_sorted.ensures start all.loads sorted.written.file all.all
    (known_whole _ _ sorted.written.file c.requires sorted.written.appended))
    (record {
      uploads = _;
      loaded = all.are;
      ends = c.deref-in-Ok-note_of.result.now;
      plain = rw same c.in-Ok.ensures.ended;
      file = sorted.written.file;
      sorted = record {
        order = sorted.order;
        settled = sorted.settled;
        in_batches = sorted.written.is_file;
      };
      made = refl;
      text = refl;
      success = c.status_of.ensures ∙ ap (λ (es : List UploadEnd). if are_posted es then 0 else 3)
          (c.deref-in-Ok-note_of-2.ensures.value ∙ sym same);
    })

pub returns : goal.returns
returns g c = λ start all.
    let request = sorting_of c.args.words.now in
    halted_loading (Sorts request) (λ loads. ⊥) (names_of request) start _ _ all.loads NoMemory all.all
    c.discard.ensures
