use Rattle.std.proofs.Common.{◌≡◌, ◌≢◌, ◌∙◌, sym}
use Rattle.sorted_taps.specs.declared.merged_file.MergeStop.{MergeStop}
use Rattle.sorted_taps.specs.declared.merged_file.MergeStop.TheVariants.{NoMemory, Refused, Write}
use Rattle.sorted_taps.proofs.merged_file.merge_sorted.Goals as goal

memory_only : (stop : MergeStop) → stop ≡ NoMemory → stop ≢ Write
memory_only stop is wrong = let h : NoMemory ≡ Write = sym is ∙ wrong in cc

refused_only : (stop : MergeStop) → stop ≡ Refused → stop ≢ Write
refused_only stop is wrong = let h : Refused ≡ Write = sym is ∙ wrong in cc

pub returns-in-Err-NoMemory-clause-started : goal.returns-in-Err-NoMemory-clause-started
returns-in-Err-NoMemory-clause-started g c = λ other.
    c.in-Err-NoMemory.ensures.started (memory_only _ c.in-Err-NoMemory.field-0-is)

pub returns-in-Ok-check_files-clause-started : goal.returns-in-Ok-check_files-clause-started
returns-in-Ok-check_files-clause-started g c = λ other.
    c.in-Err-Refused.ensures.started (refused_only _ c.in-Err-Refused.field-0-is)

pub returns-clause-started : goal.returns-clause-started
returns-clause-started g c = λ other.
    c.in-Err-Refused.ensures.started (refused_only _ c.in-Err-Refused.field-0-is)
