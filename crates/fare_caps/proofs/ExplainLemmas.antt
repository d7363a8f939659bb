-- Each way out of a step under caps is one of the rule's cases.
use Rattle.std.proofs.Common.{◌≡◌, ℕ, ◌-◌, ◌==◌, ◌||◌, Bool, true, false, cond, not, List, [], ◌∷◌}
use Rattle.std.proofs.Common.{◌++◌, length, map, Option, Some, None, refl, sym, ap, ◌∙◌, subst, inl}
use Rattle.std.proofs.Common.{inr, arith, IfSome, ◌≤◌}
use Rattle.account_rule.specs.{Replies.reply, Replies.reply_with, Taps.live_at}
use Rattle.account_rule.specs.TokenRules.{TokenRules, rules_of, token_class}
use Rattle.account_rule.specs.{Windows.last_window, declared.account.Account.Account}
use Rattle.account_rule.specs.declared.{reason.Reason.Reason, tap.TapIn.TapIn}
use Rattle.fare_caps.proofs.FurtherLemmas.{no-length, opened_to, reason-of, rides, said_to}
use Rattle.fare_caps.proofs.FurtherLemmas.{same-window, transfers}
use Rattle.fare_caps.proofs.NoCapsLemmas.{reason-none, reply-none, window-none}
use Rattle.fare_caps.proofs.SeenLemmas.{no-ride, ride, transfer}
use Rattle.fare_caps.specs.CapMeanings.{cap_positions, cap_rules, capped_rules_of, pays_of}
use Rattle.fare_caps.specs.{CapStates.states, CappedReplies.capped_reason}
use Rattle.fare_caps.specs.CappedReplies.{capped_reply, capped_window, replied_by, transfer_by}
use Rattle.fare_caps.specs.{Caps.CappedRules, Caps.has_more, Charges.cap_cents, Laws.without_caps}
use Rattle.fare_caps.specs.Represents.{HasRoom, KeepsFurther, KeepsTrip, Represents}
use Rattle.fare_caps.specs.declared.cap_charge.CapCharge.{CapCharge}
use Rattle.fare_caps.specs.declared.capped_reason.CappedReason.{CappedReason, TheVariants.Ride}
use Rattle.fare_caps.specs.declared.further.Further.{Further}
use Rattle.fare_caps.specs.inside.Further.{charge_of, counted_all, extra_of, opened_all, raised}
use Rattle.fare_caps.specs.inside.Further.{said_by, transfer_reason, transferred, with_new_trip}
use Rattle.fare_caps.specs.inside.{Further.with_some_cents, Seen.live_kind, Seen.uncapped}
use Rattle.std.proofs.lemmas.Bool.{cases_Bool, eqb-true, or_parts, true≢false}
use Rattle.tariffs.specs.{ClockView.ClockView, Fares.Fares, Fares.class_of}
use Rattle.tariffs.specs.Fares.{has_caps_or_prices, has_prices, meaning_at, price_of, ride_terms}
use Rattle.tariffs.specs.{TableMeaning.TableMeaning, Terms.AreBoundedTerms, Until.window_end_in}
use Rattle.tariffs.specs.declared.{cap_terms.CapTerms.CapTerms, mode.Mode.Mode}
use Rattle.account_rule.specs.Reasons as rule
use Rattle.account_rule.specs.Represents as kept
use Rattle.fare_caps.specs.declared.capped_account.LiveKind.TheVariants as live

-- a step from one account to the next is the rule's
pub record IsStep (capped : CappedRules) (taps : List TapIn) (tap : TapIn) (one : CappedReason)
    (account : Account) (further : Further) : Type 0 where
  pub reason : one ≡ capped_reason capped taps tap
  pub holds : Represents capped (record { account = account; further = further })
      (taps ++ tap ∷ [])

-- ---- what a table has

no-positions : (caps : List CapTerms) → length caps ≡ 0 → cap_positions caps ≡ []
no-positions [] none = refl
no-positions (one ∷ more) none = absurd (omega (arith, none))

-- a table with neither caps nor prices has the rules without them
pub plain-rules : (fares : Fares) (token : List ℕ) → has_caps_or_prices fares ≡ false
    → capped_rules_of fares token ≡ without_caps (rules_of fares token)
unfolding capped_rules_of
plain-rules fares token plain =
    let both = or_parts (not (length fares.meaning.caps == 0)) (has_prices fares) plain in
    rw (
      both.1,
      no-positions fares.meaning.caps (no-length (length fares.meaning.caps) both.0),
    ) refl

same-caps : (fares : Fares) (token : List ℕ) (caps : List CapTerms) (priced : Bool)
    → has_more (record {
      rules = rules_of fares token;
      caps = map (cap_rules fares token) (cap_positions caps);
      pays = cond priced (Some (pays_of fares)) None;
    }) ≡ (not (length caps == 0) || priced)
same-caps fares token [] true = refl
same-caps fares token [] false = refl
same-caps fares token (a ∷ []) priced = refl
same-caps fares token (a ∷ b ∷ []) priced = refl
same-caps fares token (a ∷ b ∷ c ∷ more) priced =
    elim (cases_Bool (length (a ∷ b ∷ c ∷ more) == 0)) [
      | inl none ↦ absurd (omega (arith, eqb-true (length (a ∷ b ∷ c ∷ more)) 0 none))
      | inr some ↦ rw some refl
    ]

-- a table with caps or prices keeps more
pub some-rules : (fares : Fares) (token : List ℕ) → has_caps_or_prices fares ≡ true
    → has_more (capped_rules_of fares token) ≡ true
unfolding capped_rules_of
some-rules fares token some =
    same-caps fares token fares.meaning.caps (has_prices fares) ∙ some

plain-keeps : (rules : TokenRules) (further : Further) (taps : List TapIn)
    → has_more (without_caps rules) ≡ true → KeepsFurther (without_caps rules) further taps
plain-keeps rules further taps more = absurd (true≢false (sym more))

-- ---- the steps

plain-step : (rules : TokenRules) (account : Account) (further : Further) (taps : List TapIn)
    (tap : TapIn) (one : Reason)
    → one ≡ rule.reason rules taps tap
    → kept.Represents rules account (taps ++ tap ∷ [])
    → IsStep (without_caps rules) taps tap (uncapped one) account further
plain-step rules account further taps tap one is holds = record {
  reason = ap uncapped is ∙ sym (reason-none rules taps tap);
  holds = record {
    account = holds;
    further = plain-keeps rules further (taps ++ tap ∷ []);
  };
}

-- there are neither caps nor prices
pub empty-step : (fares : Fares) (token : List ℕ) (account : Account)
    (further : Further) (taps : List TapIn) (tap : TapIn) (one : Reason)
    → has_caps_or_prices fares ≡ false
    → one ≡ rule.reason (rules_of fares token) taps tap
    → kept.Represents (rules_of fares token) account (taps ++ tap ∷ [])
    → IsStep (capped_rules_of fares token) taps tap (uncapped one) account further
empty-step fares token account further taps tap one plain is holds =
    rw (plain-rules fares token plain)
    (plain-step (rules_of fares token) account further taps tap one is holds)

-- the tap is not live
pub free-step : (fares : Fares) (token : List ℕ) (account : Account)
    (further : Further) (taps : List TapIn) (tap : TapIn) (one : Reason)
    → one ≡ rule.reason (rules_of fares token) taps tap
    → kept.Represents (rules_of fares token) account (taps ++ tap ∷ [])
    → (has_more (capped_rules_of fares token) ≡ true
    → KeepsFurther (capped_rules_of fares token) further taps)
    → live_kind one tap.mode ≡ live.Free
    → IsStep (capped_rules_of fares token) taps tap (uncapped one) account further
unfolding capped_rules_of
free-step fares token account further taps tap one is holds keeps none =
    let free = no-ride (capped_rules_of fares token) taps tap (rw is at none) in
    record {
      reason = ap uncapped is ∙ sym free.reason;
      holds = record {
        account = holds;
        further = λ more. record {
          states = rw free.same (keeps more).states;
          trip = rw free.trip (keeps more).trip;
        };
      };
    }

-- the tap is a ride
ride-step : (fares : Fares) (token : List ℕ) (account : Account)
    (further after : Further) (taps : List TapIn) (tap : TapIn) (one : Reason) (start until : ℕ)
    (mode : Mode) (charge : CapCharge)
    → one ≡ rule.reason (rules_of fares token) taps tap
    → kept.Represents (rules_of fares token) account (taps ++ tap ∷ [])
    → KeepsFurther (capped_rules_of fares token) further taps
    → live_kind one tap.mode ≡ live.Ride start until mode
    → AreBoundedTerms ((rules_of fares token).terms (live_at tap.moment mode))
    → HasRoom after
    → charge ≡ charge_of ((rules_of fares token).terms (live_at tap.moment mode))
    (said_to fares token tap.moment mode) (opened_to fares token tap.moment mode further)
    → after ≡ with_new_trip ((rules_of fares token).terms (live_at tap.moment mode)).fare mode
    (counted_all charge (said_to fares token tap.moment mode)
    (opened_to fares token tap.moment mode further))
    → IsStep (capped_rules_of fares token) taps tap (Ride start until charge) account after
unfolding capped_rules_of
ride-step fares token account further after taps tap one start until mode charge is holds keeps
    seen bounds room costs counted =
    let now = rides fares token tap.moment mode further after _ charge keeps.states bounds
    room costs counted in
    let it = ride (capped_rules_of fares token) taps tap start until mode (rw is at seen) in
    record {
      reason = ap (λ c. Ride start until c) now.costs ∙ sym it.reason;
      holds = record {
        account = holds;
        further = λ _. record {
          states = rw it.more now.state;
          trip = rw it.trip now.trip;
        };
      };
    }

-- the same by the meaning that is valid, the token's class in it and a clock
pub ride-step-by : (fares : Fares) (token : List ℕ) (account : Account)
    (further after : Further) (taps : List TapIn) (tap : TapIn) (one : Reason) (start until : ℕ)
    (mode : Mode) (charge : CapCharge) (clock : ClockView) (meaning : TableMeaning) (class : ℕ)
    (caps : List CapTerms)
    → one ≡ rule.reason (rules_of fares token) taps tap
    → kept.Represents (rules_of fares token) account (taps ++ tap ∷ [])
    → KeepsFurther (capped_rules_of fares token) further taps
    → live_kind one tap.mode ≡ live.Ride start until mode
    → clock ≡ fares.zone → meaning ≡ meaning_at fares tap.moment → class ≡ class_of meaning token
    → caps ≡ fares.meaning.caps
    → AreBoundedTerms (ride_terms meaning class mode.position)
    → HasRoom after
    → charge ≡ charge_of (ride_terms meaning class mode.position)
    (said_by caps meaning mode.position class)
    (opened_all clock tap.moment (window_end_in clock meaning.window tap.moment)
    (said_by caps meaning mode.position class) further)
    → after ≡ with_new_trip (ride_terms meaning class mode.position).fare mode
    (counted_all charge (said_by caps meaning mode.position class)
    (opened_all clock tap.moment (window_end_in clock meaning.window tap.moment)
    (said_by caps meaning mode.position class) further))
    → IsStep (capped_rules_of fares token) taps tap (Ride start until charge) account after
unfolding rules_of token_class live_at
ride-step-by fares token account further after taps tap one start until mode charge clock meaning
    class caps is holds keeps seen clock-is meaning-is class-is caps-is bounds room costs counted =
    let class-at : class ≡ class_of (meaning_at fares tap.moment) token =
    rw meaning-is at class-is in
    ride-step fares token account further after taps tap one start until mode charge is holds
    keeps seen (rw (meaning-is, class-at) at bounds) room
    (rw (clock-is, meaning-is, class-at, caps-is) at costs)
    (rw (clock-is, meaning-is, class-at, caps-is) at counted)

-- the tap is a transfer
transfer-step : (fares : Fares) (token : List ℕ) (account : Account)
    (further after : Further) (taps : List TapIn) (tap : TapIn) (one : Reason) (moment : ℕ)
    (ride_mode mode : Mode) (charge : Option CapCharge)
    → one ≡ rule.reason (rules_of fares token) taps tap
    → kept.Represents (rules_of fares token) account (taps ++ tap ∷ [])
    → KeepsFurther (capped_rules_of fares token) further taps
    → live_kind one tap.mode ≡ live.Transfer moment ride_mode mode
    → HasRoom after
    → charge ≡ extra_of ((rules_of fares token).terms (live_at tap.moment mode))
    (said_to fares token tap.moment mode)
    (raised (price_of (meaning_at fares tap.moment) further.mode.position mode.position)
    ((rules_of fares token).terms (live_at tap.moment mode)).fare further - further.price)
    (transferred (price_of (meaning_at fares tap.moment) further.mode.position mode.position)
    ((rules_of fares token).terms (live_at tap.moment mode)).fare mode further)
    → after ≡ with_some_cents charge (said_to fares token tap.moment mode)
    (transferred (price_of (meaning_at fares tap.moment) further.mode.position mode.position)
    ((rules_of fares token).terms (live_at tap.moment mode)).fare mode further)
    → IsStep (capped_rules_of fares token) taps tap (transfer_reason after moment ride_mode charge)
    account after
unfolding capped_rules_of
transfer-step fares token account further after taps tap one moment ride_mode mode charge is holds
    keeps seen room costs counted =
    let it = transfer (capped_rules_of fares token) taps tap moment ride_mode mode
    (rw is at seen) in
    let trip = subst (λ t. KeepsTrip (capped_rules_of fares token) further t) it.before keeps.trip in
    let window = same-window charge (said_to fares token tap.moment mode)
    (price_of (meaning_at fares tap.moment) further.mode.position mode.position)
    ((rules_of fares token).terms (live_at tap.moment mode)).fare mode further in
    let now = transfers fares token tap.moment mode further after _ it.ride it.given charge
    keeps.states trip room costs counted in
    record {
      reason = reason-of (length (capped_rules_of fares token).caps) further after _ moment ride_mode
          charge keeps.states (ap (λ (f : Further). f.window.start) counted ∙ window.0)
          (ap (λ (f : Further). f.window.until) counted ∙ window.1)
          ∙ ap (λ c. transfer_by (states (capped_rules_of fares token) taps) moment ride_mode c)
          now.costs ∙ sym it.reason;
      holds = record {
        account = holds;
        further = λ _. record {
          states = rw (it.more, ← now.costs) now.state;
          trip = rw it.trip now.trip;
        };
      };
    }

-- the same by the meaning that is valid and the token's class in it
pub transfer-step-by : (fares : Fares) (token : List ℕ) (account : Account)
    (further after : Further) (taps : List TapIn) (tap : TapIn) (one : Reason) (moment : ℕ)
    (ride_mode mode : Mode) (charge : Option CapCharge) (meaning : TableMeaning) (class : ℕ)
    (caps : List CapTerms)
    → one ≡ rule.reason (rules_of fares token) taps tap
    → kept.Represents (rules_of fares token) account (taps ++ tap ∷ [])
    → KeepsFurther (capped_rules_of fares token) further taps
    → live_kind one tap.mode ≡ live.Transfer moment ride_mode mode
    → meaning ≡ meaning_at fares tap.moment → class ≡ class_of meaning token
    → caps ≡ fares.meaning.caps
    → HasRoom after
    → charge ≡ extra_of (ride_terms meaning class mode.position)
    (said_by caps meaning mode.position class)
    (raised (price_of meaning further.mode.position mode.position)
    (ride_terms meaning class mode.position).fare further - further.price)
    (transferred (price_of meaning further.mode.position mode.position)
    (ride_terms meaning class mode.position).fare mode further)
    → after ≡ with_some_cents charge (said_by caps meaning mode.position class)
    (transferred (price_of meaning further.mode.position mode.position)
    (ride_terms meaning class mode.position).fare mode further)
    → IsStep (capped_rules_of fares token) taps tap (transfer_reason after moment ride_mode charge)
    account after
unfolding rules_of token_class live_at
transfer-step-by fares token account further after taps tap one moment ride_mode mode charge
    meaning class caps is holds keeps seen meaning-is class-is caps-is room costs counted =
    let class-at : class ≡ class_of (meaning_at fares tap.moment) token =
    rw meaning-is at class-is in
    transfer-step fares token account further after taps tap one moment ride_mode mode charge is
    holds keeps seen room
    (rw (meaning-is, class-at, caps-is) at costs)
    (rw (meaning-is, class-at, caps-is) at counted)

-- the reply to a transfer costs few cents
pub few-reason : (further : Further) (moment : ℕ) (mode : Mode) (charge : Option CapCharge)
    → IfSome charge (λ one. cap_cents one ≤ 100_000)
    → (replied_by (transfer_reason further moment mode charge)).cents ≤ 100_000
unfolding reply_with
few-reason further moment mode None few = omega arith
few-reason further moment mode (Some charge) few = few

-- ---- there are neither caps nor prices, and the reply is computed
pub empty-reply : (fares : Fares) (token : List ℕ) (taps : List TapIn)
    (tap : TapIn)
    → has_caps_or_prices fares ≡ false
    → capped_reply (capped_rules_of fares token) taps tap
    ≡ reply (rules_of fares token) taps tap
empty-reply fares token taps tap plain =
    rw (plain-rules fares token plain) (reply-none (rules_of fares token) taps tap)

plain-holds : (rules : TokenRules) (account : Account) (further : Further) (taps : List TapIn)
    → kept.Represents rules account taps
    → Represents (without_caps rules) (record { account = account; further = further }) taps
plain-holds rules account further taps holds = record {
  account = holds;
  further = plain-keeps rules further taps;
}

pub empty-window : (fares : Fares) (token : List ℕ) (taps : List TapIn)
    → has_caps_or_prices fares ≡ false
    → capped_window (capped_rules_of fares token) taps ≡ last_window (rules_of fares token) taps
empty-window fares token taps plain =
    rw (plain-rules fares token plain) (window-none (rules_of fares token) taps)

pub empty-holds : (fares : Fares) (token : List ℕ) (account : Account)
    (further : Further) (taps : List TapIn) → has_caps_or_prices fares ≡ false
    → kept.Represents (rules_of fares token) account taps
    → Represents (capped_rules_of fares token)
    (record { account = account; further = further }) taps
empty-holds fares token account further taps plain holds =
    rw (plain-rules fares token plain)
    (plain-holds (rules_of fares token) account further taps holds)
