use Rattle.std.proofs.Common.{◌∙◌, ◌∷◌, [], refl, sym, ap, subst, arith}
use Rattle.account_rule.specs.declared.reply.Reply.{Reply}
use Rattle.histories.specs.{Sums.add_sums, Sums.sums_of_replies}
use Rattle.histories.specs.TalliesByKey.{AreTallied, HasRoom, Tallies}
use Rattle.histories.specs.{Tally.sums_of_tally, declared.sums.tally.Tally.Tally}
use Rattle.ledger_check.proofs.OpenSums.{all_few, entry_added, run_few}
use Rattle.ledger_check.proofs.open_sums.OpenSums.add.Goals as goal

pub add-requires : goal.add-requires
add-requires c =
    let (entries, are, up, few) = c.requires.room in
    let run = c.in_ok-held.ensures.run entries are up in
    omega (arith, run_few entries _ c.in_ok-held.held run.1, few)

pub add-requires-2 : goal.add-requires-2
add-requires-2 c =
    let (entries, are, up, few) = c.requires.room in
    let same = ap (λ (t : Tally). (sums_of_tally t).taps) c.in_ok-held.ensures.totals in
    omega (arith, same, all_few entries c.args.self.now are, few)

pub add-requires-3 : goal.add-requires-3
unfolding HasRoom
add-requires-3 c =
    let (entries, are, up, few) = c.requires.room in (
      entries,
      subst (λ (tallies : Tallies). AreTallied entries tallies)
          (sym c.in_ok-held.ensures.validators) are.validators,
      omega (arith, few),
    )

pub returns : goal.returns
returns c = λ entries is up.
    let run = c.in_ok-held.ensures.run entries is up in
    entry_added entries c.args.self.now _ c.in_ok-held.held _ c.args.entry.now is run.1 run.0 refl refl
    (c.add.ensures ∙ ap
    (λ (r : Reply). add_sums (sums_of_tally c.in_ok-held.held.tally) (sums_of_replies (r ∷ [])))
    c.reply.ensures)
    (c.in_ok-add.ensures entries
    (subst (λ (tallies : Tallies). AreTallied entries tallies)
    (sym c.in_ok-held.ensures.validators) is.validators))
    (c.add-2.ensures
    ∙ ap (λ (t : Tally). add_sums (sums_of_tally t) (sums_of_replies (c.reply-2.result ∷ [])))
    c.in_ok-held.ensures.totals
    ∙ ap (λ (r : Reply). add_sums (sums_of_tally c.args.self.now.totals) (sums_of_replies (r ∷ [])))
    c.reply-2.ensures)
