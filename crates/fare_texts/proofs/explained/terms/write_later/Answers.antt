use Rattle.std.proofs.Common.{◌++◌, refl, string_bytes}
use Rattle.std.specs.Prelude.{codes}
use Rattle.fare_texts.specs.Explained.{terms_words}
use Rattle.fare_texts.proofs.Parts.{in_parts}
use Rattle.fare_texts.proofs.explained.terms.write_later.Goals as goal

pub returns : goal.returns
returns c =
    let head = codes "terms from " in
    let moment = c.in_ok-write_moment.ensures in
    let words = terms_words c.args.terms in
    let done = string_bytes c.write_words.new.text in (
      head ++ (moment.0 ++ words),
      record { moment = moment.0; is = moment.1; shown = refl },
      in_parts (string_bytes c.args.text.now) (string_bytes c.push_str.new.self) done head
          (moment.0 ++ words) c.in_ok-push_str.ensures.bytes
          (in_parts (string_bytes c.push_str.new.self) (string_bytes c.write_moment.new.text) done
          moment.0 words moment.2 c.in_ok-write_words.ensures),
    )
