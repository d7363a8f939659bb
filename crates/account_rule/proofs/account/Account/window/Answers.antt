-- What is seen of the kept window is what the rule shows of the last one.
use Rattle.std.proofs.Common.{◌≡◌, ◌≤◌, List, Option, refl, sym, subst, option_map, ◌∙◌}
use Rattle.account_rule.proofs.StepLemmas.{kept-fresh, kept-open}
use Rattle.account_rule.proofs.WindowLemmas.{cents-shown, paid-shown, shown_window-of}
use Rattle.account_rule.specs.{Blocks.last_block, Kept.kept_of, Kept.kept_window}
use Rattle.account_rule.specs.{Represents.Represents, TokenRules.TokenRules}
use Rattle.account_rule.specs.Windows.{last_window, windows}
use Rattle.account_rule.specs.declared.{account.Account.Account, tap.TapIn.TapIn}
use Rattle.account_rule.specs.{declared.window.WindowView.WindowView, inside.Kept.shown_of}
use Rattle.std.specs.Prelude.{IfSome}
use Rattle.account_rule.proofs.account.Account.window.Goals as goal

seen : (rules : TokenRules) (account : Account) (taps : List TapIn) (shown : Option WindowView)
    → Represents rules account taps
    → shown ≡ option_map shown_of (kept_window (kept_of account)) → shown ≡ last_window rules taps
unfolding Represents last_window
seen rules account taps shown holds same =
    same ∙ rw holds.window (shown_window-of rules (last_block (windows rules taps)))

-- with a window

pub returns-then-self-clause-window : goal.returns-then-self-clause-window
unfolding kept_window
returns-then-self-clause-window c =
    λ of taps holds. seen of c.args.self.now taps _ holds
    (rw (kept-open c.args.self.now c.if-self.true, c.shown.ensures) refl)

pub returns-then-self-clause-paid : goal.returns-then-self-clause-paid
unfolding last_window
returns-then-self-clause-paid c =
    λ of taps limit holds all. subst (λ shown. IfSome shown (λ window. window.paid ≤ limit))
    (sym (returns-then-self-clause-window c of taps holds))
    (paid-shown of limit (last_block (windows of taps)) all)

pub returns-then-self-clause-cents : goal.returns-then-self-clause-cents
unfolding last_window
returns-then-self-clause-cents c =
    λ of taps ceiling holds all. subst (λ shown. IfSome shown (λ window. window.cents ≤ ceiling))
    (sym (returns-then-self-clause-window c of taps holds))
    (cents-shown of ceiling (last_block (windows of taps)) all)

-- with none

pub returns-else-self-clause-window : goal.returns-else-self-clause-window
unfolding kept_window
returns-else-self-clause-window c =
    λ of taps holds. seen of c.args.self.now taps _ holds
    (rw (kept-fresh c.args.self.now c.if-self.false) refl)
