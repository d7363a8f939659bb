use Rattle.std.proofs.Common.{map, subst, sym}
use Rattle.sorted_taps.specs.{Checked.IsMergeFault, declared.fault.MergeFault.MergeFault}
use Rattle.tool_tasks.proofs.MergedUploads.{stops_file}
use Rattle.tool_tasks.proofs.merge_sorted.halt_of_merge.Goals as goal

pub returns-in-Some : goal.returns-in-Some
returns-in-Some c = λ known all.
    stops_file (map (λ w. w.now) c.args.uploads.now) known c.in-File.unsorted.index
    c.in-Some.word.now (sym c.in-Some.ensures) c.in-File.unsorted.fault c.halt_of_file.result.0
    (λ files are. subst (λ (f : MergeFault). IsMergeFault files f) c.in-File.is (all files are))
    c.halt_of_file.ensures
