use Rattle.std.proofs.Common.{sym, ap, ◌∙◌}
use Rattle.account_rule.specs.TokenRules.{rules_of}
use Rattle.fare_caps.proofs.ExplainLemmas.{empty-window, some-rules}
use Rattle.fare_caps.proofs.SeenLemmas.{no-window, some-window}
use Rattle.fare_caps.specs.{CapMeanings.capped_rules_of, declared.cap_window.CapWindow.CapWindow}
use Rattle.fare_caps.proofs.capped_account.CappedAccount.window.Goals as goal

pub returns-in_default : goal.returns-in_default
unfolding capped_rules_of
returns-in_default c = record {
  window = λ token taps holds. no-window (capped_rules_of c.args.table.now token) taps
      (sym (c.window.ensures.window (rules_of c.args.table.now token) taps holds.account)
      ∙ c.in_default.is);
}

pub returns-then-not-has_caps_or_prices : goal.returns-then-not-has_caps_or_prices
unfolding capped_rules_of
returns-then-not-has_caps_or_prices c = record {
  window = λ token taps holds.
      sym c.in-Some.is
      ∙ c.window.ensures.window (rules_of c.args.table.now token) taps holds.account
      ∙ sym (empty-window c.args.table.now token taps
      (sym c.has_caps_or_prices.ensures ∙ c.if-not-has_caps_or_prices.true));
}

pub returns : goal.returns
unfolding capped_rules_of
returns c = record {
  window = λ token taps holds.
      let further = (holds.further (some-rules c.args.table.now token
      (sym c.has_caps_or_prices.ensures ∙ c.if-not-has_caps_or_prices.false))).states in
      some-window (capped_rules_of c.args.table.now token) taps c.in-Some.view _ _
      (sym (c.window.ensures.window (rules_of c.args.table.now token) taps holds.account)
      ∙ c.in-Some.is)
      (c.from.ensures ∙ further.paid) (ap (λ (w : CapWindow). w.cents) further.window);
}
