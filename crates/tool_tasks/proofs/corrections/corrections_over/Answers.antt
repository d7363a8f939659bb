use Rattle.tool_words.specs.Tasks.{corrections_of}
use Rattle.tool_tasks.proofs.{Preparing.ends, Streaming.streamed}
use Rattle.tool_tasks.specs.Corrections.{corrections_stream}
use Rattle.tool_tasks.proofs.corrections.corrections_over.Goals as goal

pub returns : goal.returns
returns g c =
    let (calls, all, is) = c.correct-streamed.ensures in (
      calls,
      all,
      ends _ _ _ _ _ _
          (streamed (corrections_stream (corrections_of c.args.words.now) calls) _ _ _ _ _ is
          c.finish-done.ensures) c.ended.ensures,
    )
