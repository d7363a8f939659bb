use Rattle.std.proofs.Common.{◌∙◌, ap, map}
use Rattle.std.proofs.lemmas.Option.{IfSome_then}
use Rattle.frame.proofs.Outcomes.{stops_weaker}
use Rattle.tool_tasks.proofs.merge_sorted.merge_all.Goals as goal

pub returns-in-Err-clause-stopped : goal.returns-in-Err-clause-stopped
returns-in-Err-clause-stopped g c =
    stops_weaker (λ none. absurd none) c.in-Err.halt.0 c.in-Err.ensures.stopped

pub returns-clause-stopped : goal.returns-clause-stopped
returns-clause-stopped g c =
    let known = map (g.D.PlacedFiles.bytes_under c.args.disk.now) (map (λ w. w.now) c.args.uploads.now) in
    IfSome_then c.halt_of_merge.result c.halt_of_merge.ensures
    (λ halt stops. stops known (λ files are. c.in-Err-merge_sorted.ensures.refused files
    (ap (map g.D.File.Placed.bytes) c.deref.ensures.value ∙ c.in-Ok.ensures.opened ∙ are)))
