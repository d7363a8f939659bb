use Rattle.std.proofs.Common.{◌≡◌, Option, ◌∷◌, sym, subst, ap, ap₂, ◌∙◌, arith}
use Rattle.ledger_check.specs.FullChecks.{charged_cents, last_wrong_token, one_other, one_wrong}
use Rattle.ledger_check.specs.FullChecks.{ruled_cents, taps_from, taps_with, wrong_token_of}
use Rattle.ledger_check.specs.{Orders.IsOrderOf, declared.walk.LineFinding.LineFinding}
use Rattle.tap_views.specs.declared.token.Token.{Token}
use Rattle.ledger_check.proofs.full_check_sums.FullCheckSums.with.Goals as goal

pub returns : goal.returns
returns c = λ taken next same sums.
    let finding = c.args.finding in
    let last : c.wrong_token_of-last_wrong.result ≡ last_wrong_token (next ∷ taken) =
    c.wrong_token_of-last_wrong.ensures
    ∙ ap (λ (l : Option Token). wrong_token_of l finding.remark finding.tap) sums.last
    ∙ ap (λ (f : LineFinding). wrong_token_of (last_wrong_token taken) f.remark f.tap) (sym same) in
    let wrong : one_wrong finding.remark ≡ one_wrong next.finding.remark =
    ap (λ (f : LineFinding). one_wrong f.remark) (sym same) in
    let cents : charged_cents finding.tap ≡ charged_cents next.finding.tap =
    ap (λ (f : LineFinding). charged_cents f.tap) (sym same) in
    let wanted : ruled_cents finding.tap ≡ ruled_cents next.finding.tap =
    ap (λ (f : LineFinding). ruled_cents f.tap) (sym same) in
    let tokens : c.one_other.result
    ≡ one_other (last_wrong_token taken) (last_wrong_token (next ∷ taken)) =
    c.one_other.ensures ∙ ap₂ one_other sums.last last in
    record {
      lines = omega (arith, sums.lines);
      few = omega (arith, sums.lines);
      wrong = omega (arith, sums.wrong, wrong, c.one_wrong.ensures, c.in_ok-wrong.ensures);
      last = last;
      tokens = omega (arith, sums.tokens, tokens, c.in_ok-tokens.ensures);
      cents = omega (arith, sums.cents, cents, c.charged_cents.ensures, c.in_ok-cents.ensures);
      wanted = omega (arith, sums.wanted, wanted, c.ruled_cents.ensures, c.in_ok-wanted.ensures);
      order = subst (λ (f : LineFinding). IsOrderOf (taps_with (taps_from taken) f.tap)
          c.in_ok-order.order) (sym same) (c.in_ok-order.ensures (taps_from taken) sums.order);
    }
