use Rattle.std.proofs.Common.{drop}
use Rattle.tool_tasks.specs.EncodeRows.{AddsCsv, Chain, Encoded, nothing_encoded}
use Rattle.tool_tasks.specs.inside.EncodeRows.{csvs_of, encoded_of}
use Rattle.tool_tasks.proofs.encode_csvs.prepare_csvs.Given as goal

-- what the rest adds to what was encoded makes what all are encoded as
abbrev pub invariant-loop-number : goal.invariant-loop-number
invariant-loop-number l = (final : Encoded)
    → Chain (AddsCsv l.words l.choice) (csvs_of (drop l.number l.csvs)) (encoded_of l.all) final
    → Chain (AddsCsv l.words l.choice) (csvs_of l.csvs) nothing_encoded final
