use Rattle.std.proofs.{Common.ap, Common.sym, Common.length, Common.◌∙◌, lemmas.Bool.eqb-false}
use Rattle.tap_views.proofs.Reading.{valid-batch, valid-fault}
use Rattle.tap_views.proofs.upload.ValidBatches.fault.Goals as goal

pub returns-in-Ok : goal.returns-in-Ok
returns-in-Ok c =
    let (front, batch, whole) = c.in-Ok.ensures.found in
    let left = valid-batch c.self.inside.at _ front _ _ batch whole in
    absurd (let none = sym (ap (λ g. g.batches) (sym c.self.view_is ∙ left)) ∙ c.requires in cc)

pub returns-in-Err : goal.returns-in-Err
returns-in-Err c =
    let left = c.self.inside.rest.now in
    rw (← c.self.view_is)
    (sym (valid-fault c.self.inside.at left c.in-Err.fault (λ none.
    eqb-false (length left) 0 (sym c.if-is_empty.ensures) (ap length none))
    c.in-Err.ensures.fault))
