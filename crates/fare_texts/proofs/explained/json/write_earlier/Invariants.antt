use Rattle.std.proofs.Common.{◌≡◌, ◌++◌, string_bytes, take}
use Rattle.std.specs.Prelude.{codes, flat_map}
use Rattle.fare_texts.specs.ExplainedJson.{window_json}
use Rattle.fare_texts.proofs.explained.json.write_earlier.Given as goal

abbrev pub invariant-loop-window : goal.invariant-loop-window
invariant-loop-window l =
    string_bytes l.text ≡ string_bytes l.fn.text
    ++ flat_map (window_json l.clock (codes ",")) (take l.window-index l.windows)
