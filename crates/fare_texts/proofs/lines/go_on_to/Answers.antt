use Rattle.std.proofs.Common.{◌≡◌, false, sym, subst, ◌∙◌}
use Rattle.fare_texts.proofs.PieceWriting.{consumed_on}
use Rattle.std.proofs.lemmas.Bool.{not-true}
use Rattle.tap_views.specs.{Token.token_eq, TokenOrder.IsUpTo, declared.token.Token.Token}
use Rattle.fare_texts.proofs.lines.go_on_to.Goals as goal

-- another token is gone_on to
pub returns-then-ne-clause-consumed : goal.returns-then-ne-clause-consumed
returns-then-ne-clause-consumed c = λ fares earlier consumed to.
    let old = c.args.explainer.now in
    let apart : token_eq old.token c.args.token ≡ false =
    not-true (token_eq old.token c.args.token) (sym c.ne.ensures ∙ c.if-ne.true) in
    let same = sym c.of.ensures.token in
    consumed_on fares old c.of.result earlier consumed
    (subst (λ (t : Token). IsUpTo old.token t) same to)
    (subst (λ (t : Token). token_eq old.token t ≡ false) same apart) (c.of.ensures.explained fares)
