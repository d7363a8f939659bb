-- No reply costs more than the greatest fare of a table.
use Rattle.std.proofs.Common.{◌≡◌, ℕ, ◌≤◌, Option, Some, None, sym, ap, subst, inl, inr, arith}
use Rattle.account_rule.proofs.LimitLemmas.{charged}
use Rattle.account_rule.specs.{Reasons.given_by, Reasons.replied_by, Replies.reply_with}
use Rattle.account_rule.specs.{Replies.ride_reply, Trips.TripEnd, Windows.charge}
use Rattle.account_rule.specs.{Windows.charged_by, Windows.paid_by, declared.reason.Charge.Charge}
use Rattle.account_rule.specs.declared.reason.Charge.TheVariants.{CeilingCut, CeilingReached, Full}
use Rattle.account_rule.specs.declared.reason.{Charge.TheVariants.RideLimitReached, Reason.Reason}
use Rattle.account_rule.specs.declared.reply.{Answer.Answer, Reply.Reply}
use Rattle.account_rule.specs.{declared.window.Window.Window, inside.Kept.next_reason}
use Rattle.tariffs.specs.{Terms.AreBoundedTerms, declared.terms.Terms.Terms}

-- what is free costs nothing
pub free-few : (reply : Reply) (answer : Answer) → reply ≡ reply_with answer 0
    → reply.cents ≤ 100_000
unfolding reply_with
free-few reply answer is = let none : reply.cents ≡ 0 = ap (λ (r : Reply). r.cents) is in
    omega arith

reply_cents-few : (one : Charge) (bound : ℕ) → charged_by one ≤ bound
    → (ride_reply (paid_by one)).cents ≤ bound
unfolding ride_reply reply_with
reply_cents-few (Full position cents) bound few = few
reply_cents-few (CeilingCut position cents) bound few = few
reply_cents-few (CeilingReached position) bound few = few
reply_cents-few RideLimitReached bound few = few

charge-few : (terms : Terms) (rides cents : ℕ) → AreBoundedTerms terms
    → charged_by (charge terms rides cents) ≤ 100_000
charge-few terms rides cents bounds = elim (charged terms rides cents) [
  | inl free ↦ omega (arith, free.cost)
  | inr paid ↦ omega (arith, paid.cost, bounds.fare)
]

-- what a ride costs is at most the fare
pub ride-few : (terms : Terms) (rides cents : ℕ) (reply : Reply) → AreBoundedTerms terms
    → reply ≡ ride_reply (paid_by (charge terms rides cents)) → reply.cents ≤ 100_000
ride-few terms rides cents reply bounds is =
    subst (λ (r : Reply). r.cents ≤ 100_000) (sym is)
    (reply_cents-few (charge terms rides cents) 100_000 (charge-few terms rides cents bounds))

-- what a ride costs for its reason is at most the fare
pub ride_reason-few : (terms : Terms) (window : Window) (why : Reason) → AreBoundedTerms terms
    → why ≡ next_reason terms window → (replied_by why).cents ≤ 100_000
unfolding next_reason
ride_reason-few terms window why bounds is =
    ride-few terms window.rides window.cents (replied_by why) bounds (ap (λ w. replied_by w) is)

-- a transfer costs nothing
pub given-few : (trip : Option TripEnd) (why : Reason) → why ≡ given_by trip
    → (replied_by why).cents ≤ 100_000
unfolding given_by
given-few None why is = free-few _ _ (ap (λ w. replied_by w) is)
given-few (Some trip) why is = free-few _ _ (ap (λ w. replied_by w) is)
