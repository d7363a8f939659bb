use Rattle.std.proofs.Common.{◌≡◌, ◌++◌, [], string_bytes, take}
use Rattle.fare_texts.specs.{ExplainedJson.entries_json, Explainers.HasExplained}
use Rattle.fare_texts.proofs.explained.json.write_entries.Given as goal

-- the token's entries so far were explained, and their lines were written
abbrev pub invariant-loop-entry : goal.invariant-loop-entry
invariant-loop-entry l = record {
  explained : HasExplained l.table l.explainer (take l.entry-index l.entries);
  of : l.explainer.token ≡ l.fn.token;
  whole : string_bytes l.text ≡ string_bytes l.fn.text
      ++ entries_json l.table l.fn.token [] (take l.entry-index l.entries);
}
