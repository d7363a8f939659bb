use Rattle.std.proofs.Common.{◌++◌, refl, string_bytes}
use Rattle.std.specs.Prelude.{codes}
use Rattle.fare_texts.specs.ReasonWords.{giver_start, transfer_end}
use Rattle.fare_texts.proofs.Parts.{in_parts}
use Rattle.fare_texts.proofs.reason_words.write_paid_transfer.Goals as goal

pub returns : goal.returns
returns c =
    let giver = giver_start c.args.mode.now in
    let moment = c.in_ok-write_moment.ensures in
    let gives = codes " gives it" in
    let end = transfer_end c.args.table.now.meaning.cap_names c.args.charge in
    let given = string_bytes c.write_giver.new.text in
    let dated = string_bytes c.write_moment.new.text in
    let done = string_bytes c.write_transfer_end.new.text in (
      giver ++ (moment.0 ++ (gives ++ end)),
      record { moment = moment.0; is = moment.1; shown = refl },
      in_parts (string_bytes c.args.text.now) given done giver (moment.0 ++ (gives ++ end))
          c.in_ok-write_giver.ensures
          (in_parts given dated done moment.0 (gives ++ end) moment.2
          (in_parts dated (string_bytes c.push_str.new.self) done gives end
          c.in_ok-push_str.ensures.bytes c.in_ok-write_transfer_end.ensures)),
    )
