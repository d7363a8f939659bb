use Rattle.std.proofs.Common.{refl, ◌++◌, string_bytes}
use Rattle.fare_texts.specs.StatementText.{entry_words}
use Rattle.std.specs.Prelude.{codes}
use Rattle.fare_texts.proofs.Parts.{in_parts}
use Rattle.fare_texts.proofs.statement.write_entry.Goals as goal

pub returns : goal.returns
returns c =
    let moment = c.in_ok-write_moment.ensures in
    let words = entry_words c.args.table.now c.args.entry.now in
    let last = codes "\n" in (
      moment.0 ++ (words ++ last),
      record { moment = moment.0; is = moment.1; shown = refl },
      in_parts (string_bytes c.args.text.now) (string_bytes c.write_moment.new.text)
          (string_bytes c.push_str.new.self) moment.0 (words ++ last) moment.2
          (in_parts (string_bytes c.write_moment.new.text)
          (string_bytes c.write_entry_words.new.text) (string_bytes c.push_str.new.self) words last
          c.in_ok-write_entry_words.ensures c.in_ok-push_str.ensures.bytes),
    )
