-- Lists of taps that are the same to the account rule.
use Rattle.std.proofs.Common.{◌≡◌, ℕ, Bool, true, false, not, ◌&&◌, ◌||◌, cond, List, [], ◌∷◌, ◌++◌}
use Rattle.std.proofs.Common.{length, Option, Some, None, refl, sym, ap, ◌∙◌, append-nil, nat_lt}
use Rattle.std.proofs.Common.{is_some, arith, take}
use Rattle.account_rule.proofs.StepLemmas.{not_known, not_later, reply_stale, reply_unknown}
use Rattle.account_rule.proofs.TapLemmas.{is_later-push, live-push}
use Rattle.account_rule.specs.Blocks.{blocks_by, last_block}
use Rattle.account_rule.specs.Replies.{live_reply, reply, reply_with, ride_reply}
use Rattle.account_rule.specs.Taps.{LiveTap, is_later, live, live_at, live_tap}
use Rattle.account_rule.specs.TokenRules.{TokenRules}
use Rattle.account_rule.specs.Trips.{continues, ends_in_transfer, rides, trips}
use Rattle.account_rule.specs.Windows.{charges, is_within, paid_by, windows}
use Rattle.account_rule.specs.declared.reply.Answer.TheVariants.{Transfer, Stale, Unknown}
use Rattle.account_rule.specs.declared.{reply.Reply.Reply, tap.TapIn.TapIn}
use Rattle.fare_caps.proofs.AnswerLemmas.{answered, is_charged, is_raised, is_same, reply-under}
use Rattle.fare_caps.proofs.AnswerLemmas.{states-same, trip-same, under_reply}
use Rattle.fare_caps.proofs.RideLemmas.{trip_before}
use Rattle.fare_caps.specs.CapStates.{CapStates, states}
use Rattle.fare_caps.specs.{CappedReplies.capped_reply, Caps.CappedRules}
use Rattle.laws.specs.Bills.{is_live_answer}
use Rattle.std.proofs.lemmas.Bool.{le-ltb, and_right, true≢false}
use Rattle.std.specs.List.{flat_map, last_or}
use Rattle.std.specs.{Option.option_and_then, Option.option_to_list, Prelude.option_map}
use Rattle.tariffs.specs.declared.mode.Mode.{Mode}

-- they have the same live taps, and the same moments are later
pub record SameState (one other : List TapIn) : Type 0 where
  pub shown : live one ≡ live other
  pub later : (moment : ℕ) → is_later one moment ≡ is_later other moment

pub state-refl : (taps : List TapIn) → SameState taps taps
state-refl taps = record { shown = refl; later = λ moment. refl }

pub state-sym : (one other : List TapIn) → SameState one other → SameState other one
state-sym one other same = record {
  shown = sym same.shown;
  later = λ moment. sym (same.later moment);
}

pub state-trans : (one other third : List TapIn) → SameState one other → SameState other third
    → SameState one third
state-trans one other third same more = record {
  shown = same.shown ∙ more.shown;
  later = λ moment. same.later moment ∙ more.later moment;
}

-- and do so after one more tap
pub state-push : (one other : List TapIn) (tap : TapIn) → SameState one other
    → SameState (one ++ tap ∷ []) (other ++ tap ∷ [])
unfolding live_tap
state-push one other tap same = record {
  shown = live-push one tap
      ∙ ap (λ l. l ++ option_to_list (live_tap one tap)) same.shown
      ∙ ap (λ b. live other ++ option_to_list (cond b (option_map (live_at tap.moment) tap.mode)
      None)) (same.later tap.moment)
      ∙ sym (live-push other tap);
  later = λ moment. is_later-push one tap moment
      ∙ ap (λ b. b && (not (is_some tap.mode) || nat_lt tap.moment moment)) (same.later moment)
      ∙ sym (is_later-push other tap moment);
}

-- ---- a tap that comes twice
-- a known tap is not later than itself
not_later_itself : (taps : List TapIn) (tap : TapIn) → is_some tap.mode ≡ true
    → is_later (taps ++ tap ∷ []) tap.moment ≡ false
not_later_itself taps tap known =
    is_later-push taps tap tap.moment
    ∙ ap (λ b. is_later taps tap.moment && (not b || nat_lt tap.moment tap.moment)) known
    ∙ and_right (is_later taps tap.moment) (nat_lt tap.moment tap.moment)
    (le-ltb tap.moment tap.moment (omega arith))

not_live : (taps : List TapIn) (tap : TapIn) → live_tap (taps ++ tap ∷ []) tap ≡ None
not_live taps tap = by_mode tap.mode refl
  where
    by_mode : (mode : Option Mode) → tap.mode ≡ mode → live_tap (taps ++ tap ∷ []) tap ≡ None
    by_mode None e = not_known (taps ++ tap ∷ []) tap e
    by_mode (Some mode) e =
        not_later (taps ++ tap ∷ []) tap
        (not_later_itself taps tap (ap (λ (m : Option Mode). is_some m) e))

and_twice : (a b : Bool) → (a && b) ≡ ((a && b) && b)
and_twice true true = refl
and_twice true false = refl
and_twice false true = refl
and_twice false false = refl

-- the second of two equal taps changes nothing
pub state-twice : (taps : List TapIn) (tap : TapIn)
    → SameState (taps ++ tap ∷ []) ((taps ++ tap ∷ []) ++ tap ∷ [])
state-twice taps tap = record {
  shown = sym (live-push (taps ++ tap ∷ []) tap
      ∙ ap (λ o. live (taps ++ tap ∷ []) ++ option_to_list o) (not_live taps tap)
      ∙ append-nil (live (taps ++ tap ∷ [])));
  later = λ moment. is_later-push taps tap moment
      ∙ and_twice (is_later taps moment) (not (is_some tap.mode) || nat_lt tap.moment moment)
      ∙ ap (λ b. b && (not (is_some tap.mode) || nat_lt tap.moment moment))
      (sym (is_later-push taps tap moment))
      ∙ sym (is_later-push (taps ++ tap ∷ []) tap moment);
}

-- a ride is live
pub ride_is_live : (paid : Option ℕ) → is_live_answer (ride_reply paid).answer ≡ true
unfolding ride_reply reply_with
ride_is_live None = refl
ride_is_live (Some cents) = refl

-- and so is a transfer
pub transfer_is_live : (cents : ℕ) → is_live_answer (reply_with Transfer cents).answer ≡ true
unfolding reply_with
transfer_is_live cents = refl

-- a tap that comes again is answered as no ride and no transfer
plain_again : (rules : TokenRules) (taps : List TapIn) (tap : TapIn)
    → is_live_answer (reply rules (taps ++ tap ∷ []) tap).answer ≡ false
unfolding reply_with
plain_again rules taps tap = by_mode tap.mode refl
  where
    by_mode : (mode : Option Mode) → tap.mode ≡ mode
        → is_live_answer (reply rules (taps ++ tap ∷ []) tap).answer ≡ false
    by_mode None e =
        ap (λ (r : Reply). is_live_answer r.answer) (reply_unknown rules (taps ++ tap ∷ []) tap e)
    by_mode (Some mode) e =
        ap (λ (r : Reply). is_live_answer r.answer)
        (reply_stale rules (taps ++ tap ∷ []) tap mode e
        (not_later_itself taps tap (ap (λ (m : Option Mode). is_some m) e)))

pub not_live_again : (rules : CappedRules) (taps : List TapIn) (tap : TapIn)
    → is_live_answer (capped_reply rules (taps ++ tap ∷ []) tap).answer ≡ false
not_live_again rules taps tap = elim (answered rules (taps ++ tap ∷ []) tap) [
  | is_same same ↦
      ap (λ (r : Reply). is_live_answer r.answer) same ∙ plain_again rules.rules taps tap
  | is_charged paid other one two ↦
      absurd (true≢false (sym (ride_is_live other)
      ∙ sym (ap (λ (r : Reply). is_live_answer r.answer) two) ∙ plain_again rules.rules taps tap))
  | is_raised cents one two ↦
      absurd (true≢false (sym (transfer_is_live 0)
      ∙ sym (ap (λ (r : Reply). is_live_answer r.answer) two) ∙ plain_again rules.rules taps tap))
]

-- ---- the same state, the same reply
-- the windows of the live taps
windows_by : TokenRules → List LiveTap → List (List LiveTap)
windows_by rules shown =
    blocks_by (is_within rules.until)
    (flat_map (λ trip. take 1 trip) (blocks_by (continues rules.transfers) shown))

-- the reply to the last of the live taps
reply_by : TokenRules → List LiveTap → Reply
reply_by rules shown =
    cond (nat_lt 1 (length (last_block (blocks_by (continues rules.transfers) shown))))
    (reply_with Transfer 0)
    (ride_reply (option_and_then paid_by
    (last_or None (charges rules.terms (last_block (windows_by rules shown))))))

by_live_taps : (rules : TokenRules) (taps : List TapIn)
    → live_reply rules taps ≡ reply_by rules (live taps)
unfolding live_reply ends_in_transfer trips windows rides reply_by windows_by
by_live_taps rules taps = refl

plain_same : (rules : TokenRules) (one other : List TapIn) (tap : TapIn) → SameState one other
    → reply rules one tap ≡ reply rules other tap
unfolding reply
plain_same rules one other tap same =
    let k = is_some tap.mode in
    let stale = reply_with Stale 0 in
    let unknown = reply_with Unknown 0 in
    let live_same : live_reply rules (one ++ tap ∷ []) ≡ live_reply rules (other ++ tap ∷ []) =
    by_live_taps rules (one ++ tap ∷ [])
    ∙ ap (reply_by rules) (state-push one other tap same).shown
    ∙ sym (by_live_taps rules (other ++ tap ∷ [])) in
    ap (λ b. cond k (cond b (live_reply rules (one ++ tap ∷ [])) stale) unknown)
    (same.later tap.moment)
    ∙ ap (λ r. cond k (cond (is_later other tap.moment) r stale) unknown) live_same

pub same_reply : (rules : CappedRules) (one other : List TapIn) (tap : TapIn) → SameState one other
    → capped_reply rules one tap ≡ capped_reply rules other tap
same_reply rules one other tap same =
    reply-under rules one tap
    ∙ ap (λ (before : CapStates).
    under_reply rules before (trip_before rules.rules one) tap (reply rules.rules one tap))
    (states-same rules one other same.shown)
    ∙ ap (λ (trip : List LiveTap).
    under_reply rules (states rules other) trip tap (reply rules.rules one tap))
    (trip-same rules.rules one other same.shown)
    ∙ ap (under_reply rules (states rules other) (trip_before rules.rules other) tap)
    (plain_same rules.rules one other tap same)
    ∙ sym (reply-under rules other tap)

by_live_rides : (rules : TokenRules) (taps : List TapIn)
    → windows rules taps ≡ windows_by rules (live taps)
unfolding trips windows rides windows_by
by_live_rides rules taps = refl

pub same_windows : (rules : TokenRules) (one other : List TapIn) → SameState one other
    → windows rules one ≡ windows rules other
same_windows rules one other same =
    by_live_rides rules one ∙ ap (windows_by rules) same.shown ∙ sym (by_live_rides rules other)
