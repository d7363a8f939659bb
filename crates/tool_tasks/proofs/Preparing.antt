-- What was prepared is done, or a part of it.
use Rattle.std.proofs.Common.{◌≡◌, ℕ, List, [], Err, Ok, Result, inl, inr, string_bytes, subst, sym}
use Rattle.frame.proofs.Giving.{part_files, part_note, part_text, stopped_at}
use Rattle.frame.proofs.Outcomes.{halted_in, halted_loading, loaded_of, stopped_early}
use Rattle.frame.specs.Given.{Given, gave, with_files, with_note, with_text}
use Rattle.frame.specs.Outcome.{Ends, IsHalted, Rule, rule_of}
use Rattle.frame.specs.{Outsides.IsStoppedIn, Outsides.Leaves, declared.outside.Outside.Outside}
use Rattle.tool_tasks.specs.declared.{prepared.Prepared.Prepared, stops.Halt.Halt}
use Rattle.tool_tasks.specs.inside.Does.{Does, IsEnded}
use Rattle.tool_tasks.specs.inside.Prepared.{Carries, files_in, given_of, with_prepared}
use Rattle.world.proofs.Laws.{no_loads}
use Rattle.world.specs.Run.{Load, Named, Run}

-- the first file was not made
pub stopped_first : (words : List (List ℕ)) (start old new : Run) (g : Given) (p : Prepared)
    (why : Outside) → old ≡ gave start g → Leaves words why old new
    → IsStoppedIn words start new (with_prepared g p) why
stopped_first words start old new g p why is leaves =
    stopped_early words start new g (λ g. with_prepared g p) why (λ part g is_part.
    part_files part (with_text (with_files g (files_in p.first)) p.text.items) (files_in p.upload)
    (part_text part (with_files g (files_in p.first)) p.text.items
    (part_files part g (files_in p.first) is_part)))
    (stopped_at words start old new g why is leaves)

-- what was prepared was not all given
pub stopped_whole : (words : List (List ℕ)) (start new : Run) (loads : List Load) (p : Prepared)
    (files : List Named) (why : Outside)
    → IsStoppedIn words start new (with_prepared (loaded_of loads) p) why
    → IsStoppedIn words start new (given_of loads p files) why
stopped_whole words start new loads p files why =
    stopped_early words start new (with_prepared (loaded_of loads) p)
    (λ g. with_note (with_files g files) (string_bytes p.note)) why (λ part g is_part.
    part_note part (with_files g files) (string_bytes p.note) (part_files part g files is_part))

-- it came before anything was loaded
pub halted_early : (right : Given → ℕ → Type 0) (wrong : List Load → Type 0) (words : List (List ℕ))
    (old new : Run) (why : Outside) → Leaves words why old new
    → IsHalted (rule_of right wrong words) old new why
halted_early right wrong words old new why leaves =
    halted_loading right wrong words old old new [] why (sym (no_loads old)) leaves

-- all of it was done, or a part
pub carried : (right : Given → ℕ → Type 0) (wrong : List Load → Type 0) (words : List (List ℕ))
    (start new : Run) (whole : Given) (status : ℕ) (result : Result ℕ Halt)
    → Carries words start whole status new result → right whole status
    → Does (rule_of right wrong words) start new result
carried right wrong words start new whole status (Ok given) (same, all) is = record {
  given = whole;
  right = subst (right whole) (sym same) is;
  all = all;
}
carried right wrong words start new whole status (Err halt) stopped is =
    halted_in right wrong words start new whole status halt.0 is stopped

-- what was done, or what stopped it, ends so
pub ends : (rule : Rule) (old mid new : Run) (done : Result ℕ Halt) (result : ℕ)
    → Does rule old mid done → IsEnded done mid new result → Ends rule old new result
ends rule old mid new (Ok status) result is (same, kept) = inl (rw (same, kept) is)
ends rule old mid new (Err halt) result is (reported, failed) = inr (record {
  why = halt.0;
  before = mid;
  halted = is;
  reported = reported;
  failed = failed;
})
