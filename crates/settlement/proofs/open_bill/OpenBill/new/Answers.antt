use Rattle.std.proofs.Common.{◌≡◌, [], refl, true, false, All, ◌∷◌}
use Rattle.histories.specs.{Entry.own, declared.entry.Entry.Entry}
use Rattle.settlement.specs.Posted.{posted_after}
use Rattle.std.proofs.lemmas.List.Elements.{All-nil}
use Rattle.std.specs.declared.cmp.Ordering.TheVariants.{Less}
use Rattle.tap_views.specs.{Token.token_cmp, declared.token.Token.Token}
use Rattle.settlement.proofs.open_bill.OpenBill.new.Goals as goal

pub returns-clause-bill : goal.returns-clause-bill
unfolding posted_after own
returns-clause-bill c = λ fares. record {
  lower = [];
  last = [];
  both = refl;
  below = All-nil (λ (t : Token). All (λ (o : Token). token_cmp t o ≡ Less)
      (c.of.result.token ∷ []));
  its = All-nil (λ (entry : Entry). entry.token ≡ c.of.result.token);
  holds = c.of.ensures.none fares [] refl;
  tally = c.new-2.ensures;
  some = λ e. absurd (let wrong : false ≡ true = e in cc);
  none = λ e. refl;
  tokens = c.new.ensures.tokens;
  totals = c.new.ensures.counts.totals;
  validators = c.new.ensures.counts.validators;
  modes = c.new-3.ensures fares;
}
