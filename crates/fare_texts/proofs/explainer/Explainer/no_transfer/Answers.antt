-- The account stands for the taps of the entries taken, and the entry's mode is the table's.
use Rattle.std.proofs.Common.{◌≡◌, Some, None, length, map, ap, subst, ◌∙◌}
use Rattle.account_rule.specs.{NoTransfers.HasModesBelow, TokenRules.rules_of}
use Rattle.account_rule.specs.declared.{no_transfer.NoTransfer.NoTransfer, tap.TapIn.TapIn}
use Rattle.fare_caps.specs.CapMeanings.{capped_rules_of}
use Rattle.histories.proofs.Histories.{tap_of-post}
use Rattle.histories.specs.Entry.{tap_of}
use Rattle.tap_views.specs.Token.{bytes_of}
use Rattle.fare_texts.proofs.explainer.Explainer.no_transfer.Goals as goal

pub returns-in_err-mode-clause-lacks : goal.returns-in_err-mode-clause-lacks
returns-in_err-mode-clause-lacks c = λ earlier explained.
    let fares = c.args.table.now in
    let mode : (tap_of fares c.args.entry.now).mode ≡ None =
    ap (λ (t : TapIn). t.mode) (tap_of-post fares c.args.entry.now c.mode_of.result
    c.mode_of.ensures.mode) ∙ c.in_err-mode.was in
    rw mode c.from_residual.ensures

pub returns-clause-lacks : goal.returns-clause-lacks
unfolding capped_rules_of
returns-clause-lacks c = λ earlier explained.
    let fares = c.args.table.now in
    let mode : (tap_of fares c.args.entry.now).mode ≡ Some c.in_ok-mode.mode =
    ap (λ (t : TapIn). t.mode) (tap_of-post fares c.args.entry.now c.mode_of.result
    c.mode_of.ensures.mode) ∙ c.in_ok-mode.was in
    rw mode (ap (λ (n : NoTransfer). Some n)
    ((rw c.bytes-bytes.ensures at c.no_transfer.ensures.lacks) (map (tap_of fares) earlier)
    explained.holds.account))

pub returns-clause-modes : goal.returns-clause-modes
unfolding rules_of capped_rules_of
returns-clause-modes c = λ lack is.
    let fares = c.args.table.now in
    let same : c.no_transfer.result ≡ lack = cc in
    subst (HasModesBelow (length fares.meaning.modes)) same
    (c.no_transfer.ensures.modes (rules_of fares (bytes_of c.args.self.now.token))
    (map (tap_of fares) c.requires.explained.0) c.requires.explained.1.holds.account
    c.in_ok-mode.ensures.within)
