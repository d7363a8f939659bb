-- The explainer goes on to the tap's token, and posts the tap.
use Rattle.std.proofs.Common.{◌<◌, [], sym, subst, ◌∙◌, arith}
use Rattle.histories.specs.Entry.{own}
use Rattle.settled_bills.proofs.TapsExplained.{one_reported}
use Rattle.std.proofs.lemmas.List.Elements.{All-head}
use Rattle.tap_views.specs.{Layout.moment_limit, TokenOrder.IsUpTo}
use Rattle.tap_views.specs.declared.{encoder.TapFields.TapFields, token.Token.Token}
use Rattle.settled_bills.proofs.lines.explain_tap.Goals as goal

pub write_posted-requires-clause-early : goal.write_posted-requires-clause-early
write_posted-requires-clause-early c =
    All-head (λ (tap : TapFields). tap.moment < moment_limit) c.args.tap.now []
    c.requires.may.early

pub write_posted-requires-clause-explained : goal.write_posted-requires-clause-explained
write_posted-requires-clause-explained c =
    let may = c.requires.may in
    let up = subst (λ (t : Token). IsUpTo c.args.explainer.now.token t) (sym c.token_of.ensures)
    may.nondecreasing.0 in
    let consumed = c.go_on_to.ensures.consumed c.args.table.now may.earlier may.consumed up in
    (own c.go_on_to.new.explainer.token may.earlier, consumed.explained)

pub returns : goal.returns
returns c =
    let up = subst (λ (t : Token). IsUpTo c.args.explainer.now.token t) (sym c.token_of.ensures)
    c.requires.may.nondecreasing.0 in
    let few = c.go_on_to.ensures.few in
    let number = c.write_posted.ensures.number in
    let token = c.go_on_to.ensures.token ∙ c.token_of.ensures in
    record {
      lines = λ earlier consumed.
          let gone = c.go_on_to.ensures.consumed c.args.table.now earlier consumed up in
          let own_earlier = own c.go_on_to.new.explainer.token earlier in
          let line = c.in_ok-write_posted.ensures.line own_earlier gone.explained in (
            line.0,
            one_reported c.args.table.now earlier c.args.tap.now c.go_on_to.new.explainer
                c.write_posted.new.self line.0 token c.write_posted.ensures.token gone line.1
                (c.in_ok-write_posted.ensures.explained own_earlier gone.explained),
            line.2,
          );
      token = c.write_posted.ensures.token ∙ token;
      few = omega (arith, few, number);
    }
