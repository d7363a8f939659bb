use Rattle.std.proofs.Common.{◌++◌, List, ℕ, ap, append_assoc, codes, refl, sym, ◌∙◌}
use Rattle.fare_texts.proofs.LinePuts.{window_shown}
use Rattle.fare_texts.specs.LedgerLines.{transfer_words}
use Rattle.fare_texts.proofs.reason_fields.put_paid_transfer.Goals as goal

pub returns-clause-put : goal.returns-clause-put
returns-clause-put c =
    let at = c.put_moment.ensures.put in
    let to = c.put_moment-2.ensures.put in
    let from = c.put_moment-3.ensures.put in
    let words = transfer_words c.args.table.now.meaning.cap_names c.args.charge in
    let rest = words ++ at.0 in (
      rest,
      from.0 ++ (codes "," ++ (to.0 ++ rest)),
      record { moment = at.0; is = at.1; shown = refl },
      record { from = from.0; starts = from.1; to = to.0; ends = to.1; shown = refl },
      window_shown c.args.line.now c.put_transfer_words.new.line c.put_moment-2.new.line
          c.put.new.self c.put_moment-3.new.line rest to.0 from.0
          (c.put_transfer_words.ensures.put ∙ ap (λ (back : List ℕ). words ++ back) at.2
          ∙ sym (append_assoc words at.0 c.args.line.now))
          to.2 c.put.ensures.put from.2,
    )
