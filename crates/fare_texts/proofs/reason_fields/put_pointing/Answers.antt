use Rattle.std.proofs.Common.{◌++◌, List, ℕ, ap, append_assoc, refl, sym, ◌∙◌}
use Rattle.fare_texts.proofs.reason_fields.put_pointing.Goals as goal

pub returns-clause-put : goal.returns-clause-put
returns-clause-put c =
    let moment = c.put_moment.ensures.put in
    let words = c.args.words.now in (
      words ++ moment.0,
      record { moment = moment.0; is = moment.1; shown = refl },
      c.put.ensures.put ∙ ap (λ (back : List ℕ). words ++ back) moment.2
          ∙ sym (append_assoc words moment.0 c.args.line.now),
    )
