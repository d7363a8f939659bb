use Rattle.std.proofs.Common.{◌≡◌, ◌++◌, string_bytes, take}
use Rattle.std.specs.List.{flat_map}
use Rattle.fare_texts.specs.ExplainedJson.{later_json}
use Rattle.fare_texts.proofs.explained.json.write_later.Given as goal

abbrev pub invariant-loop-position : goal.invariant-loop-position
invariant-loop-position l =
    string_bytes l.text ≡ string_bytes l.fn.text
    ++ flat_map (later_json l.clock l.token) (take l.position l.table.later)
