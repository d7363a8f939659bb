use Rattle.std.proofs.Common.{◌++◌, refl, string_bytes}
use Rattle.fare_texts.proofs.Parts.{in_parts}
use Rattle.fare_texts.specs.{Local.local_words, StatementText.window_words}
use Rattle.std.specs.Prelude.{codes}
use Rattle.fare_texts.proofs.explained.window_lines.write_line.Goals as goal

-- the eight parts of the line
pub returns : goal.returns
returns c =
    let start = c.in_ok-write_moment.ensures in
    let until = c.in_ok-write_moment-2.ensures in
    let words = window_words c.args.window in
    let clocks = c.args.clock.now in
    let from = local_words clocks (codes " because it lasts from local ") c.args.window.start in
    let to = local_words clocks (codes " until local ") c.args.window.until in
    let word = c.args.word.now in
    let gap = codes " " in
    let last = codes "\n" in
    let done = string_bytes c.push_str-3.new.self in (
      word ++ (start.0 ++ (gap ++ (until.0 ++ (words ++ (from ++ (to ++ last)))))),
      record {
        start = start.0;
        starts = start.1;
        until = until.0;
        ends = until.1;
        shown = refl;
      },
      in_parts (string_bytes c.args.text.now) (string_bytes c.push_str.new.self) done word (start.0
          ++ (gap ++ (until.0 ++ (words ++ (from ++ (to ++ last))))))
          c.in_ok-push_str.ensures.bytes
          (in_parts (string_bytes c.push_str.new.self) (string_bytes c.write_moment.new.text) done
          start.0 (gap ++ (until.0 ++ (words ++ (from ++ (to ++ last))))) start.2
          (in_parts (string_bytes c.write_moment.new.text) (string_bytes c.push_str-2.new.self) done
          gap (until.0 ++ (words ++ (from ++ (to ++ last))))
          c.in_ok-push_str-2.ensures.bytes
          (in_parts (string_bytes c.push_str-2.new.self) (string_bytes c.write_moment-2.new.text)
          done until.0 (words ++ (from ++ (to ++ last))) until.2
          (in_parts (string_bytes c.write_moment-2.new.text)
          (string_bytes c.write_window_words.new.text)
          done words (from ++ (to ++ last)) c.in_ok-write_window_words.ensures
          (in_parts (string_bytes c.write_window_words.new.text)
          (string_bytes c.write_local.new.text) done
          from (to ++ last) c.in_ok-write_local.ensures
          (in_parts (string_bytes c.write_local.new.text) (string_bytes c.write_local-2.new.text)
          done to last c.in_ok-write_local-2.ensures c.in_ok-push_str-3.ensures.bytes)))))),
    )
