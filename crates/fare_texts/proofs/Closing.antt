-- The windows before the last one, with one tap more.
use Rattle.std.proofs.Common.{◌≡◌, Bool, List, [], ◌∷◌, ◌++◌, Option, sym, ap, ◌∙◌, append_assoc}
use Rattle.std.proofs.Common.{append-nil, refl}
use Rattle.account_rule.specs.{Laws.is_ride, declared.reply.Reply.Reply}
use Rattle.account_rule.specs.declared.{tap.TapIn.TapIn, window.WindowView.WindowView}
use Rattle.fare_caps.specs.CappedReplies.{capped_reply, capped_window}
use Rattle.fare_caps.specs.Caps.{CappedRules}
use Rattle.fare_texts.specs.Explained.{earlier_windows, window_ended, windows_ended}

-- the window that the tap ends
abbrev ended : CappedRules → List TapIn → TapIn → List WindowView
ended rules taps tap =
    window_ended (capped_window rules taps) (is_ride (capped_reply rules taps tap)) tap.moment

ended-push : (rules : CappedRules) (earlier taps : List TapIn) (tap : TapIn)
    → windows_ended rules earlier (taps ++ tap ∷ [])
    ≡ windows_ended rules earlier taps ++ ended rules (earlier ++ taps) tap
unfolding windows_ended
ended-push rules earlier [] tap =
    append-nil (ended rules earlier tap)
    ∙ ap (λ (ts : List TapIn). ended rules ts tap) (sym (append-nil earlier))
ended-push rules earlier (first ∷ taps) tap =
    ap (λ (ws : List WindowView). ended rules earlier first ++ ws)
    (ended-push rules (earlier ++ first ∷ []) taps tap
    ∙ ap (λ (ts : List TapIn). windows_ended rules (earlier ++ first ∷ []) taps ++ ended rules ts
    tap)
    (append_assoc earlier (first ∷ []) taps))
    ∙ sym (append_assoc (ended rules earlier first) _ _)

-- there is no window before the first tap
pub earlier-none : (rules : CappedRules) → earlier_windows rules [] ≡ []
unfolding windows_ended
earlier-none rules = refl

-- the windows that are kept, with the one that a tap more ends
pub next_earlier : (rules : CappedRules) (taps : List TapIn) (tap : TapIn)
    (before after : List WindowView) (window : Option WindowView) (ride : Bool) (answered : Reply)
    (longer : List TapIn)
    → before ≡ earlier_windows rules taps → window ≡ capped_window rules taps
    → answered ≡ capped_reply rules taps tap → ride ≡ is_ride answered
    → taps ++ tap ∷ [] ≡ longer → after ≡ before ++ window_ended window ride tap.moment
    → after ≡ earlier_windows rules longer
next_earlier rules taps tap before after window ride answered longer kept last replied rode more
    done =
    done
    ∙ ap (λ (ws : List WindowView). ws ++ window_ended window ride tap.moment) kept
    ∙ ap (λ (w : Option WindowView). earlier_windows rules taps ++ window_ended w ride tap.moment)
    last
    ∙ ap (λ (b : Bool). earlier_windows rules taps ++ window_ended (capped_window rules taps) b
    tap.moment)
    (rode ∙ ap is_ride replied)
    ∙ sym (ended-push rules [] taps tap)
    ∙ ap (λ (ts : List TapIn). earlier_windows rules ts) more
