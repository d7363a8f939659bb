use Rattle.std.proofs.Common.{◌++◌, ◌∙◌, ap, refl, string_bytes}
use Rattle.tariffs.specs.Fares.{terms_at}
use Rattle.fare_texts.specs.Explained.{terms_line}
use Rattle.fare_texts.proofs.Parts.{in_parts}
use Rattle.fare_texts.proofs.explained.terms.write_terms.Goals as goal

pub returns : goal.returns
returns c =
    let first = terms_line (terms_at c.args.table.now.meaning c.args.token.now) in
    let written = c.in_ok-write_first.ensures
    ∙ ap (λ t. string_bytes c.args.text.now ++ terms_line t) c.terms_of.ensures.terms in
    let later = c.in_ok-write_all_later.ensures in (
      first ++ later.0,
      record { later = later.0; of_later = later.1; whole = refl },
      in_parts (string_bytes c.args.text.now) (string_bytes c.write_first.new.text)
          (string_bytes c.write_all_later.new.text) first later.0 written later.2,
    )
