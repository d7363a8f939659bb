use Rattle.std.proofs.Common.{map}
use Rattle.tool_tasks.proofs.{Preparing.ends, Streaming.streamed}
use Rattle.tool_tasks.specs.Merge.{merge_stream}
use Rattle.tool_tasks.proofs.merge.merge_over.Goals as goal

pub returns : goal.returns
returns g c =
    let (calls, all, is) = c.merge_parts-streamed.ensures in (
      calls,
      all,
      ends _ _ _ _ _ _ (streamed (merge_stream (map (λ w. w.now) c.args.words.now) calls)
          _ _ _ _ _ is c.finish-done.ensures) c.ended.ensures,
    )
