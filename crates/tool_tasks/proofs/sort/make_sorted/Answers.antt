use Rattle.std.proofs.Common.{◌∙◌, List, ap, arith, refl, string_bytes, subst, ℕ}
use Rattle.frame.proofs.Giving.{part_files, part_note, stopped_at}
use Rattle.frame.proofs.Outcomes.{gave_loads, loaded_of, stopped_early}
use Rattle.frame.specs.Given.{Given, with_files, with_note}
use Rattle.frame.specs.declared.outside.Outside.TheVariants.{NoMemory}
use Rattle.std.specs.{Prelude.Vec, declared.alloc.Global.Global}
use Rattle.tool_tasks.proofs.Making.{ends_given, first_named}
use Rattle.tool_tasks.specs.{Files.named_files, Sort.names_of}
use Rattle.tool_tasks.specs.inside.{Prepared.Carries, Sort.sorted_given}
use Rattle.tool_words.specs.Tasks.{sorting_of}
use Rattle.tool_tasks.proofs.sort.make_sorted.Goals as goal

pub returns-in_default : goal.returns-in_default
returns-in_default g c = λ start loads bytes was known.
    let request = sorting_of c.args.words.now in
    let note = string_bytes c.args.note in
    let files = (sorted_given request loads note c.args.ends.now bytes).files in
    stopped_early (names_of request) start _ (loaded_of loads)
    (λ given. with_note (with_files given files) note) NoMemory (λ part given is_part.
    part_note part (with_files given files) note (part_files part given files is_part))
    (stopped_at (names_of request) start _ _ (loaded_of loads) NoMemory
    (was ∙ gave_loads start loads) c.discard.ensures)

pub returns : goal.returns
returns g c = λ start loads bytes was known.
    let request = sorting_of c.args.words.now in
    let made = c.new_file.ensures ∙ ap (λ (t : List ℕ). named_files request.ends t)
    (ap (λ (v : Vec ℕ Global). v.items) c.into_bytes.ensures.value ∙ c.in-Ok.ensures) in
    subst (λ (whole : Given). Carries (names_of request) start whole c.args.status
    (g.W.Inputs.run c.carry.new.world) c.carry.result)
    (ends_given request c.args.ends.now loads (string_bytes c.args.note) _ bytes
    c.new_file.result (g.W.File.Write.contents c.args.file) c.new.ensures.items made known)
    (c.carry.ensures (names_of request) start loads was (record {
      first = first_named request.out request.ends request.uploads _ c.new_file.result made;
      upload = tt;
      held = tt;
    }) (0, omega arith, refl))
