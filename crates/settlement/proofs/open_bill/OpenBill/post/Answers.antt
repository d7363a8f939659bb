use Rattle.std.proofs.Common.{◌∙◌, ◌∷◌, [], refl, ap, arith}
use Rattle.account_rule.specs.declared.reply.Reply.{Reply}
use Rattle.histories.specs.Sums.{add_sums, sums_of_replies}
use Rattle.histories.specs.{TalliesByKey.HasRoom, Tally.sums_of_tally}
use Rattle.settlement.proofs.{OpenBills.counted_taps, OpenBills.one_more, TokenRuns.posted_length}
use Rattle.settlement.specs.Posted.{posted}
use Rattle.settlement.proofs.open_bill.OpenBill.post.Goals as goal

pub next-entry-requires-clause-posted : goal.next-entry-requires-clause-posted
next-entry-requires-clause-posted c =
    let (taps, is, few) = c.requires.bill in (posted c.args.table.now taps, is.holds)

pub add-requires : goal.add-requires
add-requires c =
    let (taps, is, few) = c.requires.bill in
    let counted = counted_taps c.args.table.now taps c.args.self.now is in
    omega (arith, counted, few)

pub add-requires-2 : goal.add-requires-2
unfolding HasRoom
add-requires-2 c =
    let fares = c.args.table.now in
    let (taps, is, few) = c.requires.bill in
    let long = posted_length fares [] taps in
    (posted fares taps, is.validators, omega (arith, long, few))

pub returns-clause-bill : goal.returns-clause-bill
returns-clause-bill c = λ taps is.
    let old = c.args.self.now in
    let done = posted c.args.table.now taps in
    one_more c.args.table.now taps old is _ c.args.tap.now c.next-entry.result c.requires.its
    c.next-entry.ensures.token (c.next-entry.ensures.entry done is.holds)
    (c.next-entry.ensures.posted done is.holds)
    (c.add.ensures ∙ ap
    (λ (r : Reply). add_sums (sums_of_tally old.tally) (sums_of_replies (r ∷ [])))
    c.reply.ensures) refl refl refl (c.in_ok-add.ensures done is.validators)
    c.mode_of-mode.ensures.kept
