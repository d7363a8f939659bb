use Rattle.tap_rows.proofs.FieldLemmas.{reported_of}
use Rattle.tap_rows.specs.{Moments.IsMoment, Rows.IsToken, Rows.IsValidator}
use Rattle.tap_rows.proofs.row.tap_of.Goals as goal

pub returns-in_default-and_then-2-clause-wrong : goal.returns-in_default-and_then-2-clause-wrong
returns-in_default-and_then-2-clause-wrong c =
    let token = reported_of IsToken (λ v. v.now) c.in-Some.token.now c.value_of.result
    c.and_then.result
    c.value_of.ensures c.and_then.ensures in
    let validator = reported_of IsValidator (λ v. v.now) c.in-Some.validator.now c.value_of-2.result
    c.and_then-2.result c.value_of-2.ensures c.and_then-2.ensures in
    record {
      token_text = c.in-Some.token.now;
      validator_text = c.in-Some.validator.now;
      moment_text = c.in-Some.moment.now;
      fields = c.in-Some.ensures;
      token = (c.in-Some-and_then.token, rw c.in-Some-and_then.is at token);
      wrong = rw c.in_default-and_then-2.is at validator;
    }

pub returns-in_default-and_then-3-clause-wrong : goal.returns-in_default-and_then-3-clause-wrong
returns-in_default-and_then-3-clause-wrong c =
    let token = reported_of IsToken (λ v. v.now) c.in-Some.token.now c.value_of.result
    c.and_then.result
    c.value_of.ensures c.and_then.ensures in
    let validator = reported_of IsValidator (λ v. v.now) c.in-Some.validator.now c.value_of-2.result
    c.and_then-2.result c.value_of-2.ensures c.and_then-2.ensures in
    let moment = reported_of IsMoment (λ v. v.now) c.in-Some.moment.now c.value_of-3.result
    c.and_then-3.result c.value_of-3.ensures c.and_then-3.ensures in
    record {
      token_text = c.in-Some.token.now;
      validator_text = c.in-Some.validator.now;
      moment_text = c.in-Some.moment.now;
      fields = c.in-Some.ensures;
      token = (c.in-Some-and_then.token, rw c.in-Some-and_then.is at token);
      validator = (c.in-Some-and_then-2.validator, rw c.in-Some-and_then-2.is at validator);
      wrong = rw c.in_default-and_then-3.is at moment;
    }
