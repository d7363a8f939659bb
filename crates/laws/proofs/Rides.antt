-- One more tap of a token and its number of rides.
use Rattle.std.proofs.Common.{◌≡◌, ℕ, zero, suc, ◌+◌, ◌-◌, ◌≤◌, ◌<◌, Bool, true, false, not, ◌&&◌}
use Rattle.std.proofs.Common.{◌||◌, cond, List, [], ◌∷◌, ◌++◌, Option, Some, None, refl, sym, ap}
use Rattle.std.proofs.Common.{subst, ◌∙◌, arith, is_some, nat_le, nat_lt, option_map, All, inl, inr}
use Rattle.std.proofs.Common.{count_by}
use Rattle.account_rule.proofs.ShareLemmas.{is_ride-reply}
use Rattle.account_rule.proofs.StepLemmas.{is_live, not_known, not_later, reply_live, reply_ride}
use Rattle.account_rule.proofs.StepLemmas.{reply_stale, reply_transfer, reply_unknown}
use Rattle.account_rule.proofs.TapLemmas.{after_tap, ends_in_transfer-push, is_later-push}
use Rattle.account_rule.proofs.TapLemmas.{trip-push, trip-same}
use Rattle.account_rule.specs.Laws.{is_ride}
use Rattle.account_rule.specs.Replies.{live_reply, replies, replies_after, reply, reply_with}
use Rattle.account_rule.specs.Taps.{LiveTap, is_later, live_at, live_tap}
use Rattle.account_rule.specs.{TokenRules.TokenRules, TokenRules.TransferRules, Trips.TripEnd}
use Rattle.account_rule.specs.{Trips.ends_in_transfer, Trips.last_trip, declared.reply.Reply.Reply}
use Rattle.account_rule.specs.{declared.tap.TapIn.TapIn, inside.Kept.gives}
use Rattle.std.proofs.lemmas.Bool.{le-ltb, lt-ltb}
use Rattle.std.proofs.lemmas.List.{Elements.All-head, Elements.All-tail, Sums.sum_by-cons}
use Rattle.std.specs.Prelude.{◌⊎◌}
use Rattle.tariffs.specs.declared.mode.Mode.{Mode}

-- ---- how far the second of two walks over taps is ahead of the first, by the trip that can give a
-- transfer in each, and how many rides each has had: it never falls behind again
pub data Ahead (giver other : Option TripEnd) (rides others : ℕ) : Type 0 where
  by_one : suc rides ≤ others → Ahead giver other rides others
  free : other ≡ None → rides ≤ others → Ahead giver other rides others
  same : giver ≡ other → rides ≤ others → Ahead giver other rides others

not_after : (giver other : Option TripEnd) (n m : ℕ) → Ahead giver other n m → n ≤ m
not_after giver other n m (by_one more) = omega (arith, more)
not_after giver other n m (free none more) = more
not_after giver other n m (same alike more) = more

-- the trip that can give a transfer behind a live tap, and the ride that it is, by whether it got a
-- transfer
abbrev giver_by : Bool → LiveTap → Option TripEnd
giver_by given shown = cond given None (Some (record { ride = shown; last = shown; given = 0 }))

abbrev ride_by : Bool → ℕ
ride_by given = cond (not given) 1 0

none_gives : (rules : TransferRules) (giver : Option TripEnd) (shown : LiveTap)
    → giver ≡ None → gives rules giver shown ≡ false
unfolding gives
none_gives rules giver shown none = ap (λ g. gives rules g shown) none

-- a live tap that both walks take
step_both : (rules : TransferRules) (giver other : Option TripEnd) (shown : LiveTap) (n m : ℕ)
    → Ahead giver other n m
    → Ahead (giver_by (gives rules giver shown) shown) (giver_by (gives rules other shown) shown)
    (n + ride_by (gives rules giver shown)) (m + ride_by (gives rules other shown))
step_both rules giver other shown n m (by_one more) =
    at (gives rules giver shown) (gives rules other shown)
  where
    at : (x y : Bool)
        → Ahead (giver_by x shown) (giver_by y shown) (n + ride_by x) (m + ride_by y)
    at true true = by_one (omega (arith, more))
    at true false = by_one (omega (arith, more))
    at false true = free refl (omega (arith, more))
    at false false = by_one (omega (arith, more))
step_both rules giver other shown n m (free none more) =
    at (gives rules giver shown) (gives rules other shown)
    (none_gives rules other shown none)
  where
    at : (x y : Bool) → y ≡ false
        → Ahead (giver_by x shown) (giver_by y shown) (n + ride_by x) (m + ride_by y)
    at x true e = absurd (let t : true ≡ false = e in cc)
    at true false e = by_one (omega (arith, more))
    at false false e = same refl (omega (arith, more))
step_both rules giver other shown n m (same alike more) =
    at (gives rules giver shown) (gives rules other shown)
    (ap (λ g. gives rules g shown) alike)
  where
    at : (x y : Bool) → x ≡ y
        → Ahead (giver_by x shown) (giver_by y shown) (n + ride_by x) (m + ride_by y)
    at true true e = free refl (omega (arith, more))
    at false false e = same refl (omega (arith, more))
    at true false e = absurd (let t : true ≡ false = e in cc)
    at false true e = absurd (let t : true ≡ false = sym e in cc)

-- a live tap that the second walk alone takes
step_more : (rules : TransferRules) (giver other : Option TripEnd) (shown : LiveTap) (n m : ℕ)
    → Ahead giver other n m
    → Ahead giver (giver_by (gives rules other shown) shown) n
    (m + ride_by (gives rules other shown))
step_more rules giver other shown n m (by_one more) = at (gives rules other shown)
  where
    at : (y : Bool) → Ahead giver (giver_by y shown) n (m + ride_by y)
    at true = by_one (omega (arith, more))
    at false = by_one (omega (arith, more))
step_more rules giver other shown n m (free none more) =
    at (gives rules other shown) (none_gives rules other shown none)
  where
    at : (y : Bool) → y ≡ false → Ahead giver (giver_by y shown) n (m + ride_by y)
    at true e = absurd (let t : true ≡ false = e in cc)
    at false e = by_one (omega (arith, more))
step_more rules giver other shown n m (same alike more) = at (gives rules other shown)
  where
    at : (y : Bool) → Ahead giver (giver_by y shown) n (m + ride_by y)
    at true = free refl (omega (arith, more))
    at false = by_one (omega (arith, more))

-- ---- what is later behind a tap that the second walk alone takes
-- the moment is behind the tap, unless the tap is unknown
abbrev After : TapIn → ℕ → Type 0
After added moment = (is_some added.mode ≡ false) ⊎ (added.moment < moment)

-- each known tap is behind it
abbrev pub IsAfter : TapIn → TapIn → Type 0
IsAfter added tap = is_some tap.mode ≡ true
    → (is_some added.mode ≡ false) ⊎ (added.moment < tap.moment)

-- behind it the same moments are later
Follows : TapIn → List TapIn → List TapIn → Type 0
Follows added one other =
    (moment : ℕ) → After added moment → is_later other moment ≡ is_later one moment

follows-push : (added : TapIn) (one other : List TapIn) (tap : TapIn) → Follows added one other
    → Follows added (one ++ tap ∷ []) (other ++ tap ∷ [])
unfolding Follows
follows-push added one other tap follows = λ moment trailing.
    is_later-push other tap moment
    ∙ ap (λ b. b && (not (is_some tap.mode) || nat_lt tap.moment moment)) (follows moment trailing)
    ∙ sym (is_later-push one tap moment)

follows-added : (added : TapIn) (one : List TapIn) → Follows added one (one ++ added ∷ [])
unfolding Follows
follows-added added one = λ moment trailing.
    is_later-push one added moment ∙ by_case (is_later one moment) moment trailing
  where
    by_case : (b : Bool) (moment : ℕ) → After added moment
        → (b && (not (is_some added.mode) || nat_lt added.moment moment)) ≡ b
    by_case false moment trailing = refl
    by_case true moment (inl unknown) =
        ap (λ k. not k || nat_lt added.moment moment) unknown
    by_case true moment (inr below) = by_known (is_some added.mode)
      where
        by_known : (k : Bool) → (not k || nat_lt added.moment moment) ≡ true
        by_known true = lt-ltb added.moment moment below
        by_known false = refl

same_live : (added : TapIn) (one other : List TapIn) (tap : TapIn) → Follows added one other
    → IsAfter added tap → live_tap one tap ≡ live_tap other tap
unfolding Follows live_tap
same_live added one other tap follows trailing = by_mode tap.mode refl
  where
    by_mode : (mode : Option Mode) → tap.mode ≡ mode → live_tap one tap ≡ live_tap other tap
    by_mode None none = not_known one tap none ∙ sym (not_known other tap none)
    by_mode (Some mode) known =
        ap (λ b. cond b (option_map (live_at tap.moment) tap.mode) None)
        (sym (follows tap.moment (trailing (ap (λ (m : Option Mode). is_some m) known))))

-- ---- what a tap does to the number of rides and to the trip that can give a transfer
abbrev ride_of : Reply → ℕ
ride_of replied = cond (is_ride replied) 1 0

-- the trip, if it has given no transfer yet
abbrev unspent : ℕ → TripEnd → Option TripEnd
unspent zero trip = Some trip
unspent (suc given) trip = None

abbrev can_give : Option TripEnd → Option TripEnd
can_give None = None
can_give (Some trip) = unspent trip.given trip

-- each ride gives one transfer at most
abbrev pub GiveOneAtMost : TransferRules → Type 0
GiveOneAtMost rules = (tap : LiveTap) → rules.count tap ≤ 1

unspent_gives : (rules : TransferRules) (given : ℕ) (trip : TripEnd) (shown : LiveTap)
    → GiveOneAtMost rules → trip.given ≡ given
    → gives rules (Some trip) shown ≡ gives rules (unspent given trip) shown
unfolding gives
unspent_gives rules zero trip shown one is = refl
unspent_gives rules (suc given) trip shown one is =
    let spent : nat_lt trip.given (rules.count shown) ≡ false =
    le-ltb trip.given (rules.count shown) (omega (arith, one shown, is)) in
    ap (λ b. b && nat_le (shown.moment - trip.ride.moment) (rules.time shown)
    && rules.permits trip.last.mode shown) spent

same_gives : (rules : TransferRules) (trip : Option TripEnd) (shown : LiveTap)
    → GiveOneAtMost rules → gives rules trip shown ≡ gives rules (can_give trip) shown
same_gives rules None shown one = refl
same_gives rules (Some trip) shown one = unspent_gives rules trip.given trip shown one refl

unspent_more : (given : ℕ) (trip : TripEnd) → unspent (given + 1) trip ≡ None
unspent_more given trip =
    let more : given + 1 ≡ suc given = omega arith in rw more refl

can_give-after : (b : Bool) (trip : Option TripEnd) (shown : LiveTap)
    → can_give (after_tap b trip shown) ≡ giver_by b shown
can_give-after false None shown = refl
can_give-after false (Some trip) shown = refl
can_give-after true None shown = refl
can_give-after true (Some trip) shown = unspent_more trip.given _

module _ (rules : TokenRules) (few : GiveOneAtMost rules.transfers) where
  -- the trip that can give a transfer behind these taps
  giver : List TapIn → Option TripEnd
  giver taps = can_give (last_trip rules taps)

  -- it is not live, and no ride; or it is live, and a ride unless it gets a transfer
  data View (taps : List TapIn) (tap : TapIn) : Type 0 where
    is_dead : live_tap taps tap ≡ None → is_ride (reply rules taps tap) ≡ false → View taps tap
    is_shown : (shown : LiveTap) → live_tap taps tap ≡ Some shown
        → is_ride (reply rules taps tap) ≡ not (gives rules.transfers (giver taps) shown)
        → View taps tap

  view_live : (taps : List TapIn) (tap : TapIn) (shown : LiveTap) → live_tap taps tap ≡ Some shown
      → reply rules taps tap ≡ live_reply rules (taps ++ tap ∷ []) → View taps tap
  unfolding giver reply_with
  view_live taps tap shown some replied =
      by_test (ends_in_transfer rules (taps ++ tap ∷ [])) refl
    where
      ends : ends_in_transfer rules (taps ++ tap ∷ []) ≡ gives rules.transfers (giver taps) shown
      ends =
          ends_in_transfer-push rules taps tap shown some
          ∙ same_gives rules.transfers (last_trip rules taps) shown few

      by_test : (b : Bool) → ends_in_transfer rules (taps ++ tap ∷ []) ≡ b → View taps tap
      by_test true e =
          is_shown shown some (ap is_ride (replied ∙ reply_transfer rules (taps ++ tap ∷ []) e)
          ∙ ap not (sym e ∙ ends))
      by_test false e =
          is_shown shown some (ap is_ride (replied ∙ reply_ride rules (taps ++ tap ∷ []) e)
          ∙ is_ride-reply _ ∙ ap not (sym e ∙ ends))

  view : (taps : List TapIn) (tap : TapIn) → View taps tap
  unfolding reply_with
  view taps tap = by_mode tap.mode refl
    where
      by_mode : (mode : Option Mode) → tap.mode ≡ mode → View taps tap
      by_mode None none =
          is_dead (not_known taps tap none) (ap is_ride (reply_unknown rules taps tap none))
      by_mode (Some mode) known = by_moment (is_later taps tap.moment) refl
        where
          by_moment : (b : Bool) → is_later taps tap.moment ≡ b → View taps tap
          by_moment true e =
              view_live taps tap (live_at tap.moment mode) (is_live taps tap mode known e)
              (reply_live rules taps tap mode known e)
          by_moment false e =
              is_dead (not_later taps tap e) (ap is_ride (reply_stale rules taps tap mode known e))

  giver_dead : (taps : List TapIn) (tap : TapIn) → live_tap taps tap ≡ None
      → giver (taps ++ tap ∷ []) ≡ giver taps
  unfolding giver
  giver_dead taps tap none = ap can_give (trip-same rules taps tap none)

  giver_shown : (taps : List TapIn) (tap : TapIn) (shown : LiveTap) → live_tap taps tap ≡ Some shown
      → giver (taps ++ tap ∷ []) ≡ giver_by (gives rules.transfers (giver taps) shown) shown
  unfolding giver
  giver_shown taps tap shown some =
      ap can_give (trip-push rules taps tap shown some)
      ∙ can_give-after (gives rules.transfers (last_trip rules taps) shown) (last_trip rules taps)
      shown
      ∙ ap (λ b. giver_by b shown) (same_gives rules.transfers (last_trip rules taps) shown few)

  -- a tap that both take, live in both or in none
  both : (one other : List TapIn) (tap : TapIn) (n m : ℕ) → Ahead (giver one) (giver other) n m
      → live_tap one tap ≡ live_tap other tap
      → Ahead (giver (one ++ tap ∷ [])) (giver (other ++ tap ∷ []))
      (n + ride_of (reply rules one tap)) (m + ride_of (reply rules other tap))
  both one other tap n m ahead alike = by_views (view one tap) (view other tap)
    where
      by_views : View one tap → View other tap
          → Ahead (giver (one ++ tap ∷ [])) (giver (other ++ tap ∷ []))
          (n + ride_of (reply rules one tap)) (m + ride_of (reply rules other tap))
      by_views (is_dead none dead) (is_dead none_too dead_too) =
          rw (giver_dead one tap none, giver_dead other tap none_too, dead, dead_too)
          (subst (λ k. Ahead (giver one) (giver other) k (m + 0)) (omega arith)
          (subst (λ l. Ahead (giver one) (giver other) n l) (omega arith) ahead))
      by_views (is_dead none dead) (is_shown shown some ride) =
          absurd (let e : None ≡ Some shown = sym none ∙ alike ∙ some in cc)
      by_views (is_shown shown some ride) (is_dead none dead) =
          absurd (let e : Some shown ≡ None = sym some ∙ alike ∙ none in cc)
      by_views (is_shown shown some ride) (is_shown seen some_too ride_too) =
          let e : Some shown ≡ Some seen = sym some ∙ alike ∙ some_too in
          let is : shown ≡ seen = cc in
          rw (
            giver_shown one tap shown some,
            giver_shown other tap shown (some_too ∙ ap Some (sym is)),
            ride,
            ride_too,
            ← is,
          )
          (step_both rules.transfers (giver one) (giver other) shown n m ahead)

  -- a tap that the second alone takes
  more : (one other : List TapIn) (tap : TapIn) (n m : ℕ) → Ahead (giver one) (giver other) n m
      → Ahead (giver one) (giver (other ++ tap ∷ [])) n (m + ride_of (reply rules other tap))
  more one other tap n m ahead = by_view (view other tap)
    where
      by_view : View other tap
          → Ahead (giver one) (giver (other ++ tap ∷ [])) n (m + ride_of (reply rules other tap))
      by_view (is_dead none dead) =
          rw (giver_dead other tap none, dead)
          (subst (λ l. Ahead (giver one) (giver other) n l) (omega arith) ahead)
      by_view (is_shown shown some ride) =
          rw (giver_shown other tap shown some, ride)
          (step_more rules.transfers (giver one) (giver other) shown n m ahead)

  -- ---- the walk
  -- the rides among the taps that follow earlier ones
  abbrev rides_after : List TapIn → List TapIn → ℕ
  rides_after earlier taps = count_by is_ride (replies_after rules earlier taps)

  rides-cons : (earlier : List TapIn) (tap : TapIn) (taps : List TapIn)
      → rides_after earlier (tap ∷ taps)
      ≡ ride_of (reply rules earlier tap) + rides_after (earlier ++ tap ∷ []) taps
  unfolding replies_after
  rides-cons earlier tap taps =
      sum_by-cons ride_of (reply rules earlier tap) (replies_after rules (earlier ++ tap ∷ []) taps)

  walk : (added : TapIn) (taps one other : List TapIn) (n m : ℕ)
      → Ahead (giver one) (giver other) n m → Follows added one other → All (IsAfter added) taps
      → n + rides_after one taps ≤ m + rides_after other taps
  unfolding replies_after
  walk added [] one other n m ahead follows all =
      let least = not_after (giver one) (giver other) n m ahead in omega (arith, least)
  walk added (tap ∷ taps) one other n m ahead follows all =
      let rest = walk added taps (one ++ tap ∷ []) (other ++ tap ∷ [])
      (n + ride_of (reply rules one tap)) (m + ride_of (reply rules other tap))
      (both one other tap n m ahead
      (same_live added one other tap follows (All-head (IsAfter added) tap taps all)))
      (follows-push added one other tap follows) (All-tail (IsAfter added) tap taps all) in
      let here = rides-cons one tap taps in
      let there = rides-cons other tap taps in
      omega (arith, rest, here, there)

  added_after : (added : TapIn) (front taps earlier : List TapIn) → All (IsAfter added) taps
      → rides_after earlier (front ++ taps) ≤ rides_after earlier (front ++ added ∷ taps)
  added_after added [] taps earlier all =
      let first = walk added taps earlier (earlier ++ added ∷ []) 0
      (0 + ride_of (reply rules earlier added))
      (more earlier earlier added 0 0 (same refl (omega arith))) (follows-added added earlier)
      all in
      let there = rides-cons earlier added taps in
      omega (arith, first, there)
  added_after added (tap ∷ front) taps earlier all =
      let rest = added_after added front taps (earlier ++ tap ∷ []) all in
      let here = rides-cons earlier tap (front ++ taps) in
      let there = rides-cons earlier tap (front ++ added ∷ taps) in
      omega (arith, rest, here, there)

  -- one more tap, before which no known tap of those behind it is, makes no fewer rides
  pub no_fewer_rides : (added : TapIn) (front taps : List TapIn) → All (IsAfter added) taps
      → count_by is_ride (replies rules (front ++ taps))
      ≤ count_by is_ride (replies rules (front ++ added ∷ taps))
  unfolding replies
  no_fewer_rides added front taps all = added_after added front taps [] all
