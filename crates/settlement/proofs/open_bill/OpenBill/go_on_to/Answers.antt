use Rattle.std.proofs.Common.{◌∙◌, refl, sym, ap, subst}
use Rattle.histories.specs.Entry.{own}
use Rattle.settlement.proofs.OpenBills.{gone_on}
use Rattle.std.proofs.lemmas.Bool.{false≢true}
use Rattle.tap_views.proofs.TokenLemmas.{same_token, token_eq-refl}
use Rattle.tap_views.specs.{Token.token_eq, TokenOrder.IsUpTo, declared.token.Token.Token}
use Rattle.settlement.proofs.open_bill.OpenBill.go_on_to.Goals as goal

pub returns-then-eq-clause-token : goal.returns-then-eq-clause-token
returns-then-eq-clause-token c =
    same_token c.args.self.now.replay.token c.args.token (sym c.eq.ensures ∙ c.if-eq.true)

pub returns-clause-bill : goal.returns-clause-bill
returns-clause-bill c = λ fares taps is.
    let old = c.args.self.now.replay.token in
    let next = c.of-self.ensures.token in
    gone_on fares taps c.args.self.now is _ (c.in_ok-close.ensures.bill fares taps is)
    (subst (λ (t : Token). IsUpTo old t) (sym next) c.requires.up)
    (λ same. false≢true (sym (sym c.eq.ensures ∙ c.if-eq.false)
    ∙ ap (λ (t : Token). token_eq t c.args.token) (same ∙ next) ∙ token_eq-refl c.args.token))
    (λ earlier none. c.of-self.ensures.none fares earlier
    (ap (λ (t : Token). own t earlier) (sym next) ∙ none)) c.new-self.ensures refl
    c.in_ok-close.ensures.modes
