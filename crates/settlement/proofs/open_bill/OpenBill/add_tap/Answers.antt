use Rattle.std.proofs.Common.{◌∙◌, sym, subst, arith}
use Rattle.tap_views.specs.{TokenOrder.IsUpTo, declared.token.Token.Token}
use Rattle.settlement.proofs.open_bill.OpenBill.add_tap.Goals as goal

pub go_on_to-requires-clause-up : goal.go_on_to-requires-clause-up
go_on_to-requires-clause-up c =
    subst (λ (t : Token). IsUpTo c.args.self.now.replay.token t) (sym c.token_of.ensures)
    c.requires.up

pub go_on_to-requires-clause-room : goal.go_on_to-requires-clause-room
go_on_to-requires-clause-room c =
    let (taps, is, few) = c.requires.bill in (c.args.table.now, taps, is, omega (arith, few))

pub post-requires-clause-its : goal.post-requires-clause-its
post-requires-clause-its c = sym (c.in_ok-go_on_to.ensures.token ∙ c.token_of.ensures)

pub post-requires-clause-bill : goal.post-requires-clause-bill
post-requires-clause-bill c =
    let (taps, is, few) = c.requires.bill in
    (taps, c.in_ok-go_on_to.ensures.bill c.args.table.now taps is, few)

pub returns-clause-bill : goal.returns-clause-bill
returns-clause-bill c = λ taps is.
    c.in_ok-post.ensures.bill taps (c.in_ok-go_on_to.ensures.bill c.args.table.now taps is)

pub returns-clause-token : goal.returns-clause-token
returns-clause-token c =
    c.in_ok-post.ensures.token ∙ c.in_ok-go_on_to.ensures.token ∙ c.token_of.ensures
