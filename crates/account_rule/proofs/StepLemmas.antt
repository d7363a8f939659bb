-- What each kind of tap does to the account and the rule alike: the reply is the rule's, and the
-- account then stands
-- for the longer list.
use Rattle.std.proofs.Common.{◌≡◌, ℕ, ◌+◌, ◌<◌, ◌≤◌, true, false, ◌&&◌, cond, List, [], ◌∷◌, ◌++◌}
use Rattle.std.proofs.Common.{Option, Some, None, refl, sym, ap, ◌∙◌, subst, arith, ltb, Bool}
use Rattle.std.proofs.Common.{is_some, length, option_map}
use Rattle.account_rule.proofs.TapLemmas.{ends_in_transfer-push, is_later-push, last_window-ride}
use Rattle.account_rule.proofs.TapLemmas.{trip-push, trip-same, windows-same, windows-transfer}
use Rattle.account_rule.proofs.WindowLemmas.{charge-after, room-at, room-open, room-ride}
use Rattle.account_rule.proofs.WindowLemmas.{window_of-after}
use Rattle.account_rule.specs.{Blocks.last_block, Kept.IsClass, Kept.IsRoomy}
use Rattle.account_rule.specs.Kept.{Kept, kept_numbers, is_after, kept_of, kept_trip, kept_window}
use Rattle.account_rule.specs.{NoTransfers.no_transfer_from, Replies.live_reply, Replies.reply}
use Rattle.account_rule.specs.{Replies.reply_with, Replies.ride_reply, Represents.KeepsOf}
use Rattle.account_rule.specs.{Represents.Represents, Represents.window_of, Taps.LiveTap}
use Rattle.account_rule.specs.{Taps.is_later, Taps.live_at, Taps.live_tap, TokenRules.TokenRules}
use Rattle.account_rule.specs.TokenRules.{TransferRules, permits_of, rules_of, token_class}
use Rattle.account_rule.specs.{TokenRules.transfers_of, Trips.TripEnd, Trips.ends_in_transfer}
use Rattle.account_rule.specs.{Trips.last_trip, Windows.charge, Windows.charges, Windows.paid_by}
use Rattle.account_rule.specs.{Windows.windows, declared.account.Account.Account}
use Rattle.account_rule.specs.declared.reply.Answer.TheVariants.{Transfer, Stale, Unknown}
use Rattle.account_rule.specs.declared.{reply.Reply.Reply, tap.TapIn.TapIn, window.Window.Window}
use Rattle.account_rule.specs.inside.Kept.{gives, kept_under, known_tap, open_window, reply_under}
use Rattle.account_rule.specs.inside.Kept.{transfers_in, window_at, window_under, with_ride}
use Rattle.std.proofs.Math.Bool.{and-true}
use Rattle.std.proofs.lemmas.Bool.{ltb-true, lt-ltb, le-ltb}
use Rattle.std.specs.{List.last_or, Option.option_and_then}
use Rattle.tariffs.specs.{ClockView.ClockView, Fares.Fares, Fares.class_of, Fares.meaning_at}
use Rattle.tariffs.specs.{Fares.ride_terms, TableMeaning.TableMeaning, Terms.AreBoundedTerms}
use Rattle.tariffs.specs.{Until.window_end_in, declared.mode.Mode.Mode, declared.terms.Terms.Terms}

-- an account with a window keeps what stands in its fields
pub kept-open : (account : Account) → account.has_window ≡ true
    → kept_of account ≡ Some (kept_numbers account)
unfolding kept_of
kept-open account there = rw there refl

-- an account with no window keeps nothing
pub kept-fresh : (account : Account) → account.has_window ≡ false → kept_of account ≡ None
unfolding kept_of
kept-fresh account fresh = rw fresh refl

-- an account with a window stands for what its fields stand for
pub holds-open : (rules : TokenRules) (account : Account) (taps : List TapIn)
    → account.has_window ≡ true → KeepsOf rules (Some (kept_numbers account)) taps
    → Represents rules account taps
unfolding Represents
holds-open rules account taps there keeps = rw (kept-open account there) keeps

-- a step from one state to the next is the rule's
pub record IsStep (rules : TokenRules) (taps : List TapIn) (tap : TapIn) (answered : Reply)
    (next : Option Kept) : Type 0 where
  pub reply : answered ≡ reply rules taps tap
  pub holds : KeepsOf rules next (taps ++ tap ∷ [])

-- a tap that is not live changes nothing but what is later
same : (rules : TokenRules) (state : Option Kept) (taps : List TapIn) (tap : TapIn)
    → KeepsOf rules state taps
    → live_tap taps tap ≡ None
    → ((moment : ℕ) → is_later (taps ++ tap ∷ []) moment ≡ is_later taps moment)
    → KeepsOf rules state (taps ++ tap ∷ [])
same rules state taps tap holds none later = record {
  last = λ moment. holds.last moment ∙ sym (later moment);
  trip = rw (trip-same rules taps tap none) holds.trip;
  order = holds.order;
  window = rw (windows-same rules taps tap none) holds.window;
  class = holds.class;
  mode = holds.mode;
  ride_mode = holds.ride_mode;
  room = holds.room;
}

-- a tap on a validator without a mode is no live tap
pub not_known : (taps : List TapIn) (tap : TapIn) → tap.mode ≡ None → live_tap taps tap ≡ None
unfolding live_tap
not_known taps tap none =
    rw none (elim (is_later taps tap.moment) as (λ v.
    cond v (option_map (live_at tap.moment) None) None ≡ None) [ true ↦ refl | false ↦ refl ])

-- a tap that is not later than the last one is no live tap
pub not_later : (taps : List TapIn) (tap : TapIn) → is_later taps tap.moment ≡ false
    → live_tap taps tap ≡ None
unfolding live_tap
not_later taps tap stale = rw stale refl

-- a later tap on a mode is a live tap
pub is_live : (taps : List TapIn) (tap : TapIn) (mode : Mode) → tap.mode ≡ Some mode
    → is_later taps tap.moment ≡ true
    → live_tap taps tap ≡ Some (live_at tap.moment mode)
unfolding live_tap
is_live taps tap mode known later = rw (known, later) refl

-- what is replied to a tap without a mode
pub reply_unknown : (rules : TokenRules) (taps : List TapIn) (tap : TapIn) → tap.mode ≡ None
    → reply rules taps tap ≡ reply_with Unknown 0
unfolding reply
reply_unknown rules taps tap none = let no_mode : is_some tap.mode ≡ false =
    ap (λ o. is_some o) none in rw no_mode refl

-- what is replied to a tap that is not later than the last one
pub reply_stale : (rules : TokenRules) (taps : List TapIn) (tap : TapIn) (mode : Mode)
    → tap.mode ≡ Some mode → is_later taps tap.moment ≡ false
    → reply rules taps tap ≡ reply_with Stale 0
unfolding reply
reply_stale rules taps tap mode known not_after =
    let known_mode : is_some tap.mode ≡ true = ap (λ o. is_some o) known in
    rw (known_mode, not_after) refl

-- what is replied to a live tap
pub reply_live : (rules : TokenRules) (taps : List TapIn) (tap : TapIn) (mode : Mode)
    → tap.mode ≡ Some mode → is_later taps tap.moment ≡ true
    → reply rules taps tap ≡ live_reply rules (taps ++ tap ∷ [])
unfolding reply
reply_live rules taps tap mode known later =
    let known_mode : is_some tap.mode ≡ true = ap (λ o. is_some o) known in
    rw (known_mode, later) refl

-- what is replied to a live tap that ends in a transfer
pub reply_transfer : (rules : TokenRules) (taps : List TapIn) → ends_in_transfer rules taps ≡ true
    → live_reply rules taps ≡ reply_with Transfer 0
unfolding live_reply
reply_transfer rules taps ends = rw ends refl

-- what is replied to a live tap that is a ride
pub reply_ride : (rules : TokenRules) (taps : List TapIn) → ends_in_transfer rules taps ≡ false
    → live_reply rules taps
    ≡ ride_reply (option_and_then paid_by
    (last_or None (charges rules.terms (last_block (windows rules taps)))))
unfolding live_reply
reply_ride rules taps ends = rw ends refl

-- a tap of no known validator
pub unknown : (rules : TokenRules) (state : Option Kept) (taps : List TapIn) (tap : TapIn)
    → KeepsOf rules state taps
    → tap.mode ≡ None → IsStep rules taps tap (reply_with Unknown 0) state
unknown rules state taps tap holds none = record {
  reply = sym (reply_unknown rules taps tap none);
  holds = same rules state taps tap holds (not_known taps tap none)
      (λ moment. is_later-push taps tap moment ∙ rw none (and-true (is_later taps moment)));
}

pub at_state : (rules : TokenRules) (account : Option Kept) (state : Kept) (taps : List TapIn)
    → account ≡ Some state
    → KeepsOf rules account taps → KeepsOf rules (Some state) taps
at_state rules account state taps same holds = rw same at holds

-- a known tap that is not later moves no moment
later_stale : (last moment earlier : ℕ) → earlier ≤ last
    → (ltb last moment && ltb earlier moment) ≡ ltb last moment
later_stale last moment earlier before =
    elim (ltb last moment) as (λ v. ltb last moment ≡ v → (v && ltb earlier moment) ≡ v) [
      | true ↦ λ h. lt-ltb earlier moment (omega (arith, ltb-true last moment h))
      | false ↦ λ _.
          refl
    ] refl

-- a known tap that is not later than all known taps before it
stale_at : (rules : TokenRules) (state : Kept) (taps : List TapIn) (tap : TapIn) (mode : Mode)
    → KeepsOf rules (Some state) taps
    → tap.mode ≡ Some mode → tap.moment ≤ state.last.moment
    → IsStep rules taps tap (reply_with Stale 0) (Some state)
unfolding is_after
stale_at rules state taps tap mode holds known before =
    let not_after : is_later taps tap.moment ≡ false =
    sym (holds.last tap.moment) ∙ le-ltb state.last.moment tap.moment before in
    record {
      reply = sym (reply_stale rules taps tap mode known not_after);
      holds = same rules (Some state) taps tap holds (not_later taps tap not_after)
          (λ moment. is_later-push taps tap moment
          ∙ rw (known, ← holds.last moment)
          (later_stale state.last.moment moment tap.moment before));
    }

both : (state : Option Kept) (tapped moment : ℕ) → is_after state tapped ≡ true
    → (is_after state moment && ltb tapped moment) ≡ ltb tapped moment
unfolding is_after
both None tapped moment later = refl
both (Some state) tapped moment later =
    elim (ltb tapped moment) as (λ v. ltb tapped moment ≡ v
    → (ltb state.last.moment moment && v) ≡ v) [
      | true ↦ λ h. rw (lt-ltb state.last.moment moment
          (omega (arith, ltb-true tapped moment h, ltb-true state.last.moment tapped later))) refl
      | false ↦ λ h. elim (ltb state.last.moment moment) as (λ w. (w && false) ≡ false)
          [ true ↦ refl | false ↦ refl ]
    ] refl

pub stale : (rules : TokenRules) (account : Option Kept) (state : Kept) (taps : List TapIn)
    (tap : TapIn) (mode : Mode)
    → account ≡ Some state → KeepsOf rules account taps → tap.mode ≡ Some mode
    → tap.moment ≤ state.last.moment
    → IsStep rules taps tap (reply_with Stale 0) (Some state)
stale rules account state taps tap mode same holds known before =
    stale_at rules state taps tap mode (at_state rules account state taps same holds) known before

-- a live tap is the last moment from then on
later_live : (state : Option Kept) (taps : List TapIn) (tap : TapIn) (mode : Mode) (moment : ℕ)
    → ((other : ℕ) → is_after state other ≡ is_later taps other) → tap.mode ≡ Some mode
    → is_after state tap.moment ≡ true
    → ltb tap.moment moment ≡ is_later (taps ++ tap ∷ []) moment
unfolding is_after
later_live state taps tap mode moment last known later =
    sym (is_later-push taps tap moment
    ∙ rw (known, ← last moment) (both state tap.moment moment later))

keeps_class : (rules : TokenRules) (state next : Kept) → Some state ≡ Some next
    → IsClass rules state.last.moment state.class → IsClass rules next.last.moment next.class
keeps_class rules state next some keeps =
    let same : state ≡ next = cc in
    subst (λ (k : Kept). IsClass rules k.last.moment k.class) same keeps

-- the state after a transfer
abbrev pub after_transfer : Kept → LiveTap → ℕ → Kept
after_transfer state tap class = record {
  last = tap;
  ride = state.ride;
  given = state.given + 1;
  class = class;
  window = state.window;
}

-- the state after a ride
abbrev pub after_trip : LiveTap → ℕ → Window → Kept
after_trip ride class window = record {
  last = ride;
  ride = ride;
  given = 0;
  class = class;
  window = window;
}

-- the taps of a trip's end
abbrev tap_of_trip : Option TripEnd → Option LiveTap
tap_of_trip trip = option_map (λ t. t.last) trip

abbrev ride_of_trip : Option TripEnd → Option LiveTap
ride_of_trip trip = option_map (λ t. t.ride) trip

mode_of_trip : (rules : TokenRules) (trip : TripEnd) (tap : LiveTap)
    → Some trip.last ≡ Some tap → tap.mode.position < rules.modes
    → trip.last.mode.position < rules.modes
mode_of_trip rules trip tap is listed =
    let same : tap ≡ trip.last = cc in subst (λ t. t.mode.position < rules.modes) same listed

ride_mode_of_trip : (rules : TokenRules) (trip : TripEnd) (tap : LiveTap)
    → Some trip.ride ≡ Some tap → tap.mode.position < rules.modes
    → trip.ride.mode.position < rules.modes
ride_mode_of_trip rules trip tap is listed =
    let same : tap ≡ trip.ride = cc in subst (λ t. t.mode.position < rules.modes) same listed

order_of_trip : (end trip : TripEnd) → Some end ≡ Some trip
    → end.ride.moment ≤ end.last.moment → trip.ride.moment ≤ trip.last.moment
order_of_trip end trip some order =
    let same : end ≡ trip = cc in
    subst (λ (t : TripEnd). t.ride.moment ≤ t.last.moment) same order

-- a live tap to which the last trip gives a transfer
transfer_at : (rules : TokenRules) (state : Kept) (taps : List TapIn) (tap : TapIn) (mode : Mode)
    (class : ℕ) → KeepsOf rules (Some state) taps
    → tap.mode ≡ Some mode → mode.position < rules.modes → state.last.moment < tap.moment
    → gives rules.transfers (kept_trip (Some state)) (live_at tap.moment mode) ≡ true
    → IsClass rules tap.moment class
    → IsStep rules taps tap (reply_with Transfer 0)
    (Some (after_transfer state (live_at tap.moment mode) class))
unfolding is_after kept_trip kept_window live_at
transfer_at rules state taps tap mode class holds known listed after given its =
    let later : is_later taps tap.moment ≡ true =
    sym (holds.last tap.moment) ∙ lt-ltb state.last.moment tap.moment after in
    let shown : live_tap taps tap ≡ Some (live_at tap.moment mode) =
    is_live taps tap mode known later in
    let gives_it : gives rules.transfers (last_trip rules taps) (live_at tap.moment mode) ≡ true =
    rw (← holds.trip) given in
    let ends : ends_in_transfer rules (taps ++ tap ∷ []) ≡ true =
    ends_in_transfer-push rules taps tap _ shown ∙ gives_it in
    record {
      reply = sym (reply_live rules taps tap mode known later
          ∙ reply_transfer rules (taps ++ tap ∷ []) ends);
      holds = record {
        last = λ moment. later_live (Some state) taps tap mode moment holds.last known
            (lt-ltb state.last.moment tap.moment after);
        trip = rw (trip-push rules taps tap _ shown, gives_it, ← holds.trip) refl;
        order = λ trip some.
            let before : state.ride.moment ≤ state.last.moment = holds.order _ refl in
            order_of_trip _ trip some (omega arith);
        window = rw (windows-transfer rules taps tap _ shown ends) holds.window;
        class = λ next some. keeps_class rules _ next some its;
        mode = λ trip some. let same : tap_of_trip (Some trip) ≡ Some (live_at tap.moment mode) =
            ap tap_of_trip (sym some) in
            mode_of_trip rules trip (live_at tap.moment mode) same listed;
        ride_mode = λ trip some.
            let same : ride_of_trip (Some trip) ≡ Some state.ride = ap ride_of_trip (sym some) in
            ride_mode_of_trip rules trip state.ride same (holds.ride_mode _ refl);
        room = holds.room;
      };
    }

pub transfer : (rules : TokenRules) (account : Option Kept) (state next : Kept) (taps : List TapIn)
    (tap : TapIn) (mode : Mode) (class : ℕ)
    → account ≡ Some state → KeepsOf rules account taps → tap.mode ≡ Some mode
    → mode.position < rules.modes → state.last.moment < tap.moment
    → gives rules.transfers (kept_trip (Some state)) (live_at tap.moment mode) ≡ true
    → IsClass rules tap.moment class
    → next ≡ after_transfer state (live_at tap.moment mode) class
    → IsStep rules taps tap (reply_with Transfer 0) (Some next)
transfer rules account state next taps tap mode class same holds known listed after given its
    is_next =
    subst (λ s. IsStep rules taps tap (reply_with Transfer 0) (Some s)) (sym is_next)
    (transfer_at rules state taps tap mode class (at_state rules account state taps same holds)
    known listed after given its)

-- a live tap to which no transfer is given
ride_at : (rules : TokenRules) (state : Option Kept) (taps : List TapIn) (tap : TapIn) (mode : Mode)
    (class : ℕ) (terms : Terms) (window : Window)
    → KeepsOf rules state taps
    → tap.mode ≡ Some mode → mode.position < rules.modes → is_after state tap.moment ≡ true
    → gives rules.transfers (kept_trip state) (live_at tap.moment mode) ≡ false
    → window ≡ window_at (kept_window state) tap.moment (rules.until tap.moment)
    → IsRoomy window → IsClass rules tap.moment class
    → rules.terms (live_at tap.moment mode) ≡ terms → AreBoundedTerms terms
    → IsStep rules taps tap (ride_reply (paid_by (charge terms window.rides window.cents)))
    (Some (after_trip (live_at tap.moment mode) class (with_ride terms window)))
unfolding is_after kept_trip kept_window live_at
ride_at rules state taps tap mode class terms window holds known listed after not_given at roomy
    its
    same bounds =
    let later : is_later taps tap.moment ≡ true = sym (holds.last tap.moment) ∙ after in
    let shown : live_tap taps tap ≡ Some (live_at tap.moment mode) =
    is_live taps tap mode known later in
    let gives_none : gives rules.transfers (last_trip rules taps) (live_at tap.moment mode)
    ≡ false =
    rw (← holds.trip) not_given in
    let ends : ends_in_transfer rules (taps ++ tap ∷ []) ≡ false =
    ends_in_transfer-push rules taps tap _ shown ∙ gives_none in
    let same_window : window
    ≡ window_at (window_of rules (last_block (windows rules taps))) tap.moment
    (rules.until tap.moment) = rw (← holds.window) at in
    record {
      reply = sym (reply_live rules taps tap mode known later
          ∙ reply_ride rules (taps ++ tap ∷ []) ends
          ∙ rw (
            last_window-ride rules taps tap _ shown ends,
            charge-after rules (last_block (windows rules taps)) (live_at tap.moment mode) terms
                same bounds,
            ←
                same_window,
          ) refl);
      holds = record {
        last = λ moment. later_live state taps tap mode moment holds.last known after;
        trip = rw (trip-push rules taps tap _ shown, gives_none) refl;
        order = λ trip some. order_of_trip _ trip some (omega arith);
        window = rw (
          last_window-ride rules taps tap _ shown ends,
          window_of-after rules (last_block (windows rules taps)) (live_at tap.moment mode) terms
              same bounds,
          ←
              same_window,
        ) refl;
        class = λ next some. keeps_class rules _ next some its;
        mode = λ trip some. let is : tap_of_trip (Some trip) ≡ Some (live_at tap.moment mode) =
            ap tap_of_trip (sym some) in
            mode_of_trip rules trip (live_at tap.moment mode) is listed;
        ride_mode = λ trip some.
            let is : ride_of_trip (Some trip) ≡ Some (live_at tap.moment mode) =
            ap ride_of_trip (sym some) in
            ride_mode_of_trip rules trip (live_at tap.moment mode) is listed;
        room = λ next some. let is : with_ride terms window ≡ next = cc in
            subst (λ w. IsRoomy w) is (room-ride terms window bounds roomy);
      };
    }

-- what an account does not give: it has no last trip, or one that gives no transfer
pub record GivesNone (rules : TransferRules) (account : Option Kept) (tap : TapIn) (mode : Mode)
    : Type 0 where
  pub after : is_after account tap.moment ≡ true
  pub none : gives rules (kept_trip account) (live_at tap.moment mode) ≡ false

pub gives_none-fresh : (rules : TransferRules) (account : Option Kept) (tap : TapIn) (mode : Mode)
    → account ≡ None → GivesNone rules account tap mode
unfolding is_after kept_trip gives
gives_none-fresh rules account tap mode fresh = record {
  after = rw fresh refl;
  none = rw fresh refl;
}

pub gives_none-state : (rules : TransferRules) (account : Option Kept) (state : Kept) (tap : TapIn)
    (mode : Mode)
    → account ≡ Some state → state.last.moment < tap.moment
    → gives rules (kept_trip (Some state)) (live_at tap.moment mode) ≡ false
    → GivesNone rules account tap mode
unfolding is_after
gives_none-state rules account state tap mode same after none =
    record { after = rw same (lt-ltb state.last.moment tap.moment after); none = rw same none }

-- what an account keeps has room for one more ride
pub kept_room : (rules : TokenRules) (account : Option Kept) (state : Kept) (taps : List TapIn)
    → account ≡ Some state → KeepsOf rules account taps → IsRoomy state.window
unfolding kept_window
kept_room rules account state taps same holds =
    let kept : KeepsOf rules (Some state) taps = at_state rules account state taps same holds in
    kept.room state.window refl

-- what an account keeps has the token's class at the last live tap
pub kept_class : (rules : TokenRules) (account : Option Kept) (state : Kept) (taps : List TapIn)
    → account ≡ Some state → KeepsOf rules account taps
    → IsClass rules state.last.moment state.class
kept_class rules account state taps same holds = holds.class state same

-- the class that an account with a window keeps is the token's, and there is one
pub class_is : (fares : Fares) (token : List ℕ) (account : Account) (taps : List TapIn)
    → account.has_window ≡ true → Represents (rules_of fares token) account taps
    → account.class ≡ class_of (meaning_at fares account.last) token
unfolding rules_of token_class Represents live_at
class_is fares token account taps there holds =
    (kept_class (rules_of fares token) (kept_of account) (kept_numbers account) taps
    (kept-open account there) holds).is

pub class_there : (fares : Fares) (token : List ℕ) (account : Account) (taps : List TapIn)
    → account.has_window ≡ true → Represents (rules_of fares token) account taps
    → account.class < length (meaning_at fares account.last).classes
unfolding rules_of Represents live_at
class_there fares token account taps there holds =
    (kept_class (rules_of fares token) (kept_of account) (kept_numbers account) taps
    (kept-open account there) holds).there

-- the modes of the rules are the table's
pub listed : (fares : Fares) (token : List ℕ) (mode : Mode)
    → mode.position < length fares.meaning.modes → mode.position < (rules_of fares token).modes
unfolding rules_of
listed fares token mode below = below

-- the class of a tap pays and gives what the token's rules say, by what is valid at the tap
pub class_at : (fares : Fares) (token : List ℕ) (moment class : ℕ)
    → class ≡ class_of (meaning_at fares moment) token
    → class < length (meaning_at fares moment).classes → IsClass (rules_of fares token) moment class
unfolding rules_of token_class
class_at fares token moment class is there = record { is = is; there = there }

pub terms_same : (fares : Fares) (token : List ℕ) (meaning : TableMeaning) (moment class : ℕ)
    (mode : Mode)
    → meaning ≡ meaning_at fares moment → class ≡ class_of (meaning_at fares moment) token
    → (rules_of fares token).terms (live_at moment mode) ≡ ride_terms meaning class mode.position
unfolding rules_of token_class live_at
terms_same fares token meaning moment class mode valid is =
    ap (λ position. ride_terms (meaning_at fares moment) position mode.position) (sym is)
    ∙ ap (λ m. ride_terms m class mode.position) (sym valid)

gives_valid : (fares : Fares) (token : List ℕ) (moment : ℕ) (mode : Mode) (trip : Option TripEnd)
    → gives (transfers_of fares token) trip (live_at moment mode)
    ≡ gives (transfers_in (meaning_at fares moment) (class_of (meaning_at fares moment) token)) trip
    (live_at moment mode)
unfolding gives transfers_of transfers_in permits_of token_class live_at
gives_valid fares token moment mode None = refl
gives_valid fares token moment mode (Some trip) = refl

pub gives_same : (fares : Fares) (token : List ℕ) (meaning : TableMeaning) (moment class : ℕ)
    (mode : Mode) (trip : Option TripEnd) (given : Bool)
    → meaning ≡ meaning_at fares moment → class ≡ class_of (meaning_at fares moment) token
    → given ≡ gives (transfers_in meaning class) trip (live_at moment mode)
    → gives (transfers_of fares token) trip (live_at moment mode) ≡ given
gives_same fares token meaning moment class mode trip given valid is answered =
    gives_valid fares token moment mode trip
    ∙ ap (λ position. gives (transfers_in (meaning_at fares moment) position) trip
    (live_at moment mode))
    (sym is)
    ∙ ap (λ m. gives (transfers_in m class) trip (live_at moment mode)) (sym valid)
    ∙ sym answered

lacks_valid : (fares : Fares) (token : List ℕ) (moment : ℕ) (mode : Mode) (trip : Option TripEnd)
    → no_transfer_from (transfers_of fares token) trip (live_at moment mode)
    ≡ no_transfer_from (transfers_in (meaning_at fares moment)
    (class_of (meaning_at fares moment) token)) trip (live_at moment mode)
unfolding no_transfer_from transfers_of transfers_in permits_of token_class live_at
lacks_valid fares token moment mode None = refl
lacks_valid fares token moment mode (Some trip) = refl

pub lacks_same : (fares : Fares) (token : List ℕ) (meaning : TableMeaning) (moment class : ℕ)
    (mode : Mode) (trip : Option TripEnd)
    → meaning ≡ meaning_at fares moment → class ≡ class_of meaning token
    → no_transfer_from (transfers_in meaning class) trip (live_at moment mode)
    ≡ no_transfer_from (transfers_of fares token) trip (live_at moment mode)
lacks_same fares token meaning moment class mode trip valid is =
    ap (λ position. no_transfer_from (transfers_in meaning position) trip (live_at moment mode)) is
    ∙ ap (λ m. no_transfer_from (transfers_in m (class_of m token)) trip (live_at moment mode))
    valid
    ∙ sym (lacks_valid fares token moment mode trip)

-- the end of a window is as long after its start as what is valid then says
pub until_same : (fares : Fares) (token : List ℕ) (clock : ClockView) (meaning : TableMeaning)
    (moment : ℕ) → clock ≡ fares.zone → meaning ≡ meaning_at fares moment
    → window_end_in clock meaning.window moment ≡ (rules_of fares token).until moment
unfolding rules_of
until_same fares token clock meaning moment zone valid =
    ap (λ c. window_end_in c meaning.window moment) zone
    ∙ ap (λ m. window_end_in fares.zone m.window moment) valid

-- the window of a ride in an account that has a window, and of a first ride
pub at_kept : (account : Option Kept) (state : Kept) (start until : ℕ) → account ≡ Some state
    → window_at (Some state.window) start until ≡ window_at (kept_window account) start until
unfolding kept_window
at_kept account state start until same = rw same refl

pub at_fresh : (account : Option Kept) (start until : ℕ) → account ≡ None
    → open_window start until ≡ window_at (kept_window account) start until
unfolding kept_window window_at
at_fresh account start until fresh = rw fresh refl

-- a ride of an account that has a window
pub next_ride : (rules : TokenRules) (account : Option Kept) (state next : Kept) (taps : List TapIn)
    (tap : TapIn) (mode : Mode) (until class : ℕ) (terms : Terms)
    → account ≡ Some state → KeepsOf rules account taps
    → tap.mode ≡ Some mode → mode.position < rules.modes → until ≡ rules.until tap.moment
    → GivesNone rules.transfers account tap mode
    → IsClass rules tap.moment class
    → rules.terms (live_at tap.moment mode) ≡ terms → AreBoundedTerms terms
    → next ≡ after_trip (live_at tap.moment mode) class
    (with_ride terms (window_at (Some state.window) tap.moment until))
    → IsStep rules taps tap (ride_reply (paid_by (charge terms
    (window_at (Some state.window) tap.moment until).rides
    (window_at (Some state.window) tap.moment until).cents))) (Some next)
next_ride rules account state next taps tap mode until class terms same holds known listed limit
    none own its bounds is_next =
    let room = kept_room rules account state taps same holds in
    subst (λ s. IsStep rules taps tap (ride_reply (paid_by (charge terms
    (window_at (Some state.window) tap.moment until).rides
    (window_at (Some state.window) tap.moment until).cents))) (Some s)) (sym is_next)
    (ride_at rules account taps tap mode class terms
    (window_at (Some state.window) tap.moment until) holds known listed none.after none.none
    (at_kept account state tap.moment until same
    ∙ ap (λ u. window_at (kept_window account) tap.moment u) limit)
    (room-at state.window tap.moment until room) own its bounds)

-- the tap of a moment and a known mode
abbrev tap_with : ℕ → Option Mode → TapIn
tap_with moment mode = record { moment = moment; mode = mode }

pub tap_is : (tap : TapIn) (mode : Mode) → tap.mode ≡ Some mode
    → known_tap tap.moment mode ≡ tap
unfolding known_tap
tap_is tap mode known =
    ap (tap_with tap.moment) (sym known)

-- what a live tap comes to under one meaning: a transfer, or a ride
pub reply_given : (meaning : TableMeaning) (clock : ClockView) (state : Kept) (tap : LiveTap)
    → gives (transfers_in meaning state.class) (kept_trip (Some state)) tap ≡ true
    → reply_under meaning clock state tap ≡ reply_with Transfer 0
unfolding reply_under
reply_given meaning clock state tap given = rw given refl

pub kept_given : (meaning : TableMeaning) (clock : ClockView) (state : Kept) (tap : LiveTap)
    → gives (transfers_in meaning state.class) (kept_trip (Some state)) tap ≡ true
    → kept_under meaning clock state tap ≡ after_transfer state tap state.class
unfolding kept_under
kept_given meaning clock state tap given = rw given refl

pub reply_paid : (meaning : TableMeaning) (clock : ClockView) (state : Kept) (tap : LiveTap)
    → gives (transfers_in meaning state.class) (kept_trip (Some state)) tap ≡ false
    → reply_under meaning clock state tap
    ≡ ride_reply (paid_by (charge (ride_terms meaning state.class tap.mode.position)
    (window_under meaning clock state tap).rides (window_under meaning clock state tap).cents))
unfolding reply_under
reply_paid meaning clock state tap none = rw none refl

pub kept_paid : (meaning : TableMeaning) (clock : ClockView) (state : Kept) (tap : LiveTap)
    → gives (transfers_in meaning state.class) (kept_trip (Some state)) tap ≡ false
    → kept_under meaning clock state tap
    ≡ after_trip tap state.class (with_ride (ride_terms meaning state.class tap.mode.position)
    (window_under meaning clock state tap))
unfolding kept_under
kept_paid meaning clock state tap none = rw none refl

-- a live tap of an account that has a window, by the meaning that is valid and the token's class in
-- it
pub live_tap_is : (fares : Fares) (token : List ℕ) (clock : ClockView) (account : Option Kept)
    (state next : Kept) (taps : List TapIn) (tap : TapIn) (mode : Mode) (meaning : TableMeaning)
    (class : ℕ) (answered : Reply)
    → account ≡ Some state → KeepsOf (rules_of fares token) account taps
    → tap.mode ≡ Some mode → mode.position < length fares.meaning.modes
    → state.last.moment < tap.moment → clock ≡ fares.zone → meaning ≡ meaning_at fares tap.moment
    → class ≡ class_of (meaning_at fares tap.moment) token
    → class < length (meaning_at fares tap.moment).classes
    → (gives (transfers_in meaning class) (kept_trip (Some state)) (live_at tap.moment mode) ≡ false
    → AreBoundedTerms (ride_terms meaning class mode.position))
    → answered ≡ reply_under meaning clock (record state { class = class })
    (live_at tap.moment mode)
    → next ≡ kept_under meaning clock (record state { class = class }) (live_at tap.moment mode)
    → IsStep (rules_of fares token) taps tap answered (Some next)
unfolding kept_trip rules_of live_at window_under
live_tap_is fares token clock account state next taps tap mode meaning class answered same holds
    known below after zone valid is there bounds is_reply is_next =
    by (gives (transfers_in meaning class) (kept_trip (Some state)) (live_at tap.moment mode)) refl
  where
    by : (b : Bool)
        → gives (transfers_in meaning class) (kept_trip (Some state)) (live_at tap.moment mode) ≡ b
        → IsStep (rules_of fares token) taps tap answered (Some next)
    by true given =
        rw (
          is_reply,
          reply_given meaning clock (record state { class = class }) (live_at tap.moment mode)
              given,
        )
        (transfer (rules_of fares token) account state next taps tap mode class same holds known
        (listed fares token mode below) after
        (gives_same fares token meaning tap.moment class mode (kept_trip (Some state)) true valid is
        (sym given))
        (class_at fares token tap.moment class is there)
        (is_next
        ∙ kept_given meaning clock (record state { class = class }) (live_at tap.moment mode)
        given))
    by false none =
        rw (
          is_reply,
          reply_paid meaning clock (record state { class = class }) (live_at tap.moment mode) none,
        )
        (next_ride (rules_of fares token) account state next taps tap mode
        (window_end_in clock meaning.window tap.moment) class
        (ride_terms meaning class mode.position)
        same holds known (listed fares token mode below)
        (until_same fares token clock meaning tap.moment zone valid)
        (gives_none-state (rules_of fares token).transfers account state tap mode same after
        (gives_same fares token meaning tap.moment class mode (kept_trip (Some state)) false valid
        is
        (sym none)))
        (class_at fares token tap.moment class is there)
        (terms_same fares token meaning tap.moment class mode valid is) (bounds none)
        (is_next
        ∙ kept_paid meaning clock (record state { class = class }) (live_at tap.moment mode) none))

-- what an account that has a window keeps of its last trip
pub trip_order : (rules : TokenRules) (account : Account) (taps : List TapIn)
    → account.has_window ≡ true → Represents rules account taps → account.ride ≤ account.last
unfolding Represents kept_trip live_at
trip_order rules account taps there holds =
    let kept = at_state rules (kept_of account) (kept_numbers account) taps
    (kept-open account there) holds in
    kept.order _ refl

-- the first ride of an account
pub first_ride : (rules : TokenRules) (account next : Option Kept) (taps : List TapIn) (tap : TapIn)
    (mode : Mode) (until class : ℕ) (terms : Terms) (answered : Reply)
    → account ≡ None → KeepsOf rules account taps
    → tap.mode ≡ Some mode → mode.position < rules.modes → until ≡ rules.until tap.moment
    → IsClass rules tap.moment class → rules.terms (live_at tap.moment mode) ≡ terms
    → AreBoundedTerms terms
    → answered ≡ ride_reply (paid_by (charge terms (open_window tap.moment until).rides
    (open_window tap.moment until).cents))
    → next ≡ Some (after_trip (live_at tap.moment mode) class
    (with_ride terms (open_window tap.moment until)))
    → IsStep rules taps tap answered next
first_ride rules account next taps tap mode until class terms answered fresh holds known listed
    limit
    its same bounds is_reply is_next =
    let none = gives_none-fresh rules.transfers account tap mode fresh in
    rw (is_reply, is_next)
    (ride_at rules account taps tap mode class terms (open_window tap.moment until) holds known
    listed none.after none.none
    (at_fresh account tap.moment until fresh
    ∙ ap (λ u. window_at (kept_window account) tap.moment u) limit)
    (room-open tap.moment until) its same bounds)

-- the first ride of an account, by the meaning that is valid and the token's class in it
pub first_ride_is : (fares : Fares) (token : List ℕ) (clock : ClockView)
    (account next : Option Kept)
    (taps : List TapIn) (tap : TapIn) (mode : Mode) (meaning : TableMeaning) (class : ℕ)
    (answered : Reply)
    → account ≡ None → KeepsOf (rules_of fares token) account taps
    → tap.mode ≡ Some mode → mode.position < length fares.meaning.modes
    → clock ≡ fares.zone → meaning ≡ meaning_at fares tap.moment
    → class ≡ class_of meaning token → class < length meaning.classes
    → AreBoundedTerms (ride_terms meaning class mode.position)
    → answered ≡ ride_reply (paid_by (charge (ride_terms meaning class mode.position)
    (open_window tap.moment (window_end_in clock meaning.window tap.moment)).rides
    (open_window tap.moment (window_end_in clock meaning.window tap.moment)).cents))
    → next ≡ Some (after_trip (live_at tap.moment mode) class
    (with_ride (ride_terms meaning class mode.position)
    (open_window tap.moment (window_end_in clock meaning.window tap.moment))))
    → IsStep (rules_of fares token) taps tap answered next
first_ride_is fares token clock account next taps tap mode meaning class answered fresh holds known
    below zone valid is there bounds is_reply is_next =
    let its : class ≡ class_of (meaning_at fares tap.moment) token = rw valid at is in
    first_ride (rules_of fares token) account next taps tap mode
    (window_end_in clock meaning.window tap.moment) class (ride_terms meaning class mode.position)
    answered fresh holds known (listed fares token mode below)
    (until_same fares token clock meaning tap.moment zone valid)
    (class_at fares token tap.moment class its (rw valid at there))
    (terms_same fares token meaning tap.moment class mode valid its) bounds is_reply is_next
