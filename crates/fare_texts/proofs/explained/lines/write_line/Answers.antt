use Rattle.std.proofs.Common.{◌++◌, refl, string_bytes}
use Rattle.fare_texts.proofs.Parts.{in_parts}
use Rattle.fare_texts.specs.{Local.local_words, StatementText.entry_words}
use Rattle.std.specs.Prelude.{codes}
use Rattle.fare_texts.proofs.explained.lines.write_line.Goals as goal

-- the six parts of the line
pub returns : goal.returns
returns c =
    let moment = c.in_ok-write_moment.ensures in
    let words = entry_words c.args.table.now c.args.entry.now in
    let reason_words = c.in_ok-write_reason_words.ensures in
    let lack = c.in_ok-write_no_transfer.ensures in
    let local = local_words c.args.table.now.zone (codes ", local ") c.args.entry.now.moment in
    let done = string_bytes c.push_str.new.self in
    let last = codes "\n" in (
      moment.0 ++ (words ++ (reason_words.0 ++ (lack.0 ++ (local ++ last)))),
      record {
        moment = moment.0;
        is = moment.1;
        reason_words = reason_words.0;
        explained = reason_words.1;
        lack = lack.0;
        lacks = lack.1;
        shown = refl;
      },
      in_parts (string_bytes c.args.text.now) (string_bytes c.write_moment.new.text) done moment.0
          (words ++ (reason_words.0 ++ (lack.0 ++ (local ++ last)))) moment.2
          (in_parts (string_bytes c.write_moment.new.text)
          (string_bytes c.write_entry_words.new.text) done words
          (reason_words.0 ++ (lack.0 ++ (local ++ last))) c.in_ok-write_entry_words.ensures
          (in_parts (string_bytes c.write_entry_words.new.text)
          (string_bytes c.write_reason_words.new.text) done reason_words.0
          (lack.0 ++ (local ++ last)) reason_words.2
          (in_parts (string_bytes c.write_reason_words.new.text)
          (string_bytes c.write_no_transfer.new.text) done lack.0 (local ++ last) lack.2
          (in_parts (string_bytes c.write_no_transfer.new.text)
          (string_bytes c.write_local.new.text)
          done local last (rw c.requires.clock at c.in_ok-write_local.ensures) c.in_ok-push_str.ensures.bytes)))),
    )
