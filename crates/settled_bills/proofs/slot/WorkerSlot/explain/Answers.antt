-- The first token's account is fresh, so the lines are those of the taps wherever it has no entry.
use Rattle.std.proofs.Common.{◌≡◌, ℕ, List, [], ◌++◌, false, sym, ap, subst, ◌∙◌, string_bytes}
use Rattle.std.proofs.Common.{arith}
use Rattle.fare_texts.proofs.PieceWriting.{consumed_first}
use Rattle.settled_bills.proofs.TapsExplained.{explains_as, explains_later, nondecreasing_first}
use Rattle.settlement.specs.Nondecreasing.{TapsNondecreasingFrom}
use Rattle.tap_views.specs.{Token.token_eq, TokenOrder.IsUpTo, declared.token.Token.Token}
use Rattle.settled_bills.proofs.slot.WorkerSlot.explain.Goals as goal

pub explain_taps-requires-clause-may : goal.explain_taps-requires-clause-may
explain_taps-requires-clause-may c =
    let none = c.of-self.ensures.none in
    record {
      early = c.requires.sound.early;
      nondecreasing = subst (λ (t : Token). TapsNondecreasingFrom t c.args.list.now)
          (sym (c.of-self.ensures.token ∙ c.token_of-self.ensures))
          (nondecreasing_first c.requires.sound.from c.args.list.now _ (sym c.in-Some.ensures.value)
          c.requires.sound.nondecreasing).1;
      earlier = [];
      consumed = consumed_first c.args.table.now c.of-self.result
          (c.of-self.ensures.explained c.args.table.now);
      room = omega (arith, none);
    }

pub returns-clause-whole : goal.returns-clause-whole
returns-clause-whole c = λ whole.
    let fares = c.args.table.now in
    let list = c.args.list.now in
    let its = c.of-self.ensures.token in
    let there = sym c.in-Some.ensures.value in
    record {
      first = λ token nondecreasing. subst (λ (t : Token). IsUpTo token t)
          (sym c.token_of-self.ensures)
          (nondecreasing_first token list _ there nondecreasing).0;
      explains = λ old up apart. explains_later fares old c.of-self.result
          c.explain_taps.new.explainer list _
          (λ lines. string_bytes c.explain_taps.new.text ≡ lines) there
          (c.of-self.ensures.explained fares) c.of-self.ensures.none
          (subst (λ (t : Token). IsUpTo old.token t) (sym its) up)
          (subst (λ (t : Token). token_eq old.token t ≡ false) (sym its) apart)
          (explains_as fares c.of-self.result c.explain_taps.new.explainer list
          (λ lines. string_bytes c.explain_taps.new.text
          ≡ string_bytes c.clear.new.self ++ lines)
          (λ lines. string_bytes c.explain_taps.new.text ≡ lines) c.in-Ok.ensures
          (λ l is. is ∙ ap (λ (front : List ℕ). front ++ l) c.clear.ensures.bytes));
    }
