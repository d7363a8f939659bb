-- What the replies to a list of taps add up to, window by window.
use Rattle.std.proofs.Common.{◌≡◌, ℕ, ◌+◌, Bool, true, false, cond, List, [], ◌∷◌, ◌++◌, Option}
use Rattle.std.proofs.Common.{Some, None, refl, sym, ap, ◌∙◌, append_assoc, append-nil, arith}
use Rattle.std.proofs.Common.{filter, map, ⊎_elim, sum_by}
use Rattle.account_rule.proofs.BlockLemmas.{extend, last_block-cons}
use Rattle.account_rule.proofs.LimitLemmas.{cents-push, charges-push, last_charge-push, paid-push}
use Rattle.account_rule.proofs.StepLemmas.{is_live, not_known, not_later, reply_live, reply_ride}
use Rattle.account_rule.proofs.StepLemmas.{reply_stale, reply_transfer, reply_unknown}
use Rattle.account_rule.proofs.TapLemmas.{windows-ride, windows-same, windows-transfer}
use Rattle.account_rule.specs.{Blocks.blocks_by, Blocks.last_block, Laws.charge_reply}
use Rattle.account_rule.specs.{Laws.is_paid_reply, Laws.is_ride, Replies.live_reply}
use Rattle.account_rule.specs.Replies.{replies, replies_after, reply, reply_with, ride_reply}
use Rattle.account_rule.specs.Taps.{LiveTap, is_later, live, live_after, live_at, live_tap}
use Rattle.account_rule.specs.{TokenRules.TokenRules, Trips.ends_in_transfer, Trips.rides}
use Rattle.account_rule.specs.{Trips.trips, Windows.charged_by, Windows.charges}
use Rattle.account_rule.specs.Windows.{charges_after, is_paid, is_within, paid_by, paid_rides}
use Rattle.account_rule.specs.{Windows.window_cents, Windows.windows, declared.reason.Charge.Charge}
use Rattle.account_rule.specs.declared.reason.Charge.TheVariants.{CeilingCut, CeilingReached, Full}
use Rattle.account_rule.specs.declared.reason.Charge.TheVariants.{RideLimitReached}
use Rattle.account_rule.specs.declared.reply.Answer.TheVariants.{Stale, Transfer, Unknown}
use Rattle.account_rule.specs.declared.{reply.Reply.Reply, tap.TapIn.TapIn}
use Rattle.std.proofs.lemmas.{Bool.cases_Bool, List.map-append, List.Elements.filter-append}
use Rattle.std.proofs.lemmas.List.Sums.{sum_by-cons, sum_by_push}
use Rattle.std.specs.{List.flat_map, List.last_or, Option.option_and_then}
use Rattle.tariffs.specs.declared.terms.Terms.{Terms}

replies_after-push : (rules : TokenRules) (earlier taps : List TapIn) (tap : TapIn)
    → replies_after rules earlier (taps ++ tap ∷ []) ≡ replies_after rules earlier taps
    ++ reply rules (earlier ++ taps) tap ∷ []
unfolding replies_after
replies_after-push rules earlier [] tap = rw (append-nil earlier) refl
replies_after-push rules earlier (first ∷ taps) tap =
    ap (λ more. reply rules earlier first ∷ more)
    (replies_after-push rules (earlier ++ first ∷ []) taps tap
    ∙ rw (append_assoc earlier (first ∷ []) taps) refl)

replies-push : (rules : TokenRules) (taps : List TapIn) (tap : TapIn)
    → replies rules (taps ++ tap ∷ []) ≡ replies rules taps ++ reply rules taps tap ∷ []
unfolding replies
replies-push rules taps tap = replies_after-push rules [] taps tap

-- the reply to the last ride of a window
abbrev last_reply : (LiveTap → Terms) → List LiveTap → Reply
last_reply terms window =
    ride_reply (option_and_then paid_by (last_or None (charges terms window)))

-- what one more tap makes of the replies and the windows
data Change (rules : TokenRules) (taps : List TapIn) (tap : TapIn) : Type 0 where
  is_unknown : reply rules taps tap ≡ reply_with Unknown 0
      → windows rules (taps ++ tap ∷ []) ≡ windows rules taps → Change rules taps tap
  is_stale : reply rules taps tap ≡ reply_with Stale 0
      → windows rules (taps ++ tap ∷ []) ≡ windows rules taps → Change rules taps tap
  is_transfer : reply rules taps tap ≡ reply_with Transfer 0
      → windows rules (taps ++ tap ∷ []) ≡ windows rules taps → Change rules taps tap
  is_charged : (shown : LiveTap)
      → reply rules taps tap
      ≡ last_reply rules.terms
      (last_block (extend (is_within rules.until) (windows rules taps) shown))
      → windows rules (taps ++ tap ∷ []) ≡ extend (is_within rules.until) (windows rules taps) shown
      → Change rules taps tap

live_change : (rules : TokenRules) (taps : List TapIn) (tap : TapIn) (shown : LiveTap)
    → live_tap taps tap ≡ Some shown
    → reply rules taps tap ≡ live_reply rules (taps ++ tap ∷ []) → Change rules taps tap
live_change rules taps tap shown some answered = ⊎_elim
    (λ (ends : ends_in_transfer rules (taps ++ tap ∷ []) ≡ true).
    is_transfer (answered
    ∙ reply_transfer rules (taps ++ tap ∷ []) ends)
    (windows-transfer rules taps tap shown some ends))
    (λ (ends : ends_in_transfer rules (taps ++ tap ∷ []) ≡ false).
    let opens = windows-ride rules taps tap shown some ends in
    is_charged shown (answered ∙ reply_ride rules (taps ++ tap ∷ []) ends ∙ rw opens refl) opens)
    (cases_Bool (ends_in_transfer rules (taps ++ tap ∷ [])))

change : (rules : TokenRules) (taps : List TapIn) (tap : TapIn) → Change rules taps tap
change rules taps tap = elim tap.mode as (λ mode. tap.mode ≡ mode → Change rules taps tap) [
  | None ↦ λ none. is_unknown (reply_unknown rules taps tap none)
      (windows-same rules taps tap (not_known taps tap none))
  | Some mode ↦ λ known. ⊎_elim
      (λ (later : is_later taps tap.moment ≡ true).
      live_change rules taps tap (live_at tap.moment mode)
      (is_live taps tap mode known later) (reply_live rules taps tap mode known later))
      (λ (stale : is_later taps tap.moment ≡ false).
      is_stale (reply_stale rules taps tap mode known stale)
      (windows-same rules taps tap (not_later taps tap stale)))
      (cases_Bool (is_later taps tap.moment))
] refl

-- A measure of the replies, as their cents, and the same measure of the rides of a window.
pub record IsMeasure (terms : LiveTap → Terms) (of_reply : Reply → ℕ) (of_window : List LiveTap → ℕ)
    : Type 0 where
  pub unknown : of_reply (reply_with Unknown 0) ≡ 0
  pub stale : of_reply (reply_with Stale 0) ≡ 0
  pub transfer : of_reply (reply_with Transfer 0) ≡ 0
  pub none : of_window [] ≡ 0
  pub more : (window : List LiveTap) (ride : LiveTap)
      → of_window (window ++ ride ∷ [])
      ≡ of_window window + of_reply (last_reply terms (window ++ ride ∷ []))

-- the measure of all windows
total : (List LiveTap → ℕ) → List (List LiveTap) → ℕ
total of_window blocks = sum_by of_window blocks

total-nil : (of_window : List LiveTap → ℕ) → total of_window [] ≡ 0
unfolding total
total-nil of_window = refl

total-cons : (of_window : List LiveTap → ℕ) (block : List LiveTap) (blocks : List (List LiveTap))
    → total of_window (block ∷ blocks) ≡ of_window block + total of_window blocks
unfolding total
total-cons of_window block blocks = sum_by-cons of_window block blocks

-- one more ride adds the measure of its charge
total-extend : (terms : LiveTap → Terms) (of_reply : Reply → ℕ) (of_window : List LiveTap → ℕ)
    → IsMeasure terms of_reply of_window
    → (joins : List LiveTap → LiveTap → Bool) (blocks : List (List LiveTap)) (x : LiveTap)
    → total of_window (extend joins blocks x)
    ≡ total of_window blocks
    + of_reply (last_reply terms (last_block (extend joins blocks x)))
unfolding extend last_block
total-extend terms of_reply of_window measure joins [] x =
    rw (total-cons of_window (x ∷ []) [], total-nil of_window)
    (omega (arith, measure.more [] x, measure.none))
total-extend terms of_reply of_window measure joins (block ∷ []) x =
    elim (joins block x) as (λ v.
    total of_window (cond v ((block ++ x ∷ []) ∷ []) (block ∷ (x ∷ []) ∷ []))
    ≡ total of_window (block ∷ [])
    + of_reply (last_reply terms
    (last_block (cond v ((block ++ x ∷ []) ∷ []) (block ∷ (x ∷ []) ∷ []))))) [
      | true ↦ rw (total-cons of_window (block ++ x ∷ []) [], total-cons of_window block [])
          (omega (arith, measure.more block x))
      | false ↦ rw (
        total-cons of_window block ((x ∷ []) ∷ []),
        total-cons of_window (x ∷ []) [],
        total-cons of_window block [],
      )
          (omega (arith, measure.more [] x, measure.none, total-nil of_window))
    ]
total-extend terms of_reply of_window measure joins (block ∷ next ∷ blocks) x =
    rw (
      total-cons of_window block (extend joins (next ∷ blocks) x),
      total-cons of_window block (next ∷ blocks),
      last_block-cons block joins next blocks x,
    )
    (omega (arith, total-extend terms of_reply of_window measure joins (next ∷ blocks) x))

-- a fact of the empty list that one more tap keeps
push_all : (P : List TapIn → Type 0) → P []
    → ((taps : List TapIn) (tap : TapIn) → P taps → P (taps ++ tap ∷ []))
    → (earlier taps : List TapIn) → P earlier → P (earlier ++ taps)
push_all P none more earlier [] all = rw (append-nil earlier) all
push_all P none more earlier (tap ∷ taps) all =
    rw (← append_assoc earlier (tap ∷ []) taps)
    (push_all P none more (earlier ++ tap ∷ []) taps (more earlier tap all))

first : (rules : TokenRules) (of_reply : Reply → ℕ) (of_window : List LiveTap → ℕ)
    → sum_by of_reply (replies rules []) ≡ total of_window (windows rules [])
unfolding replies replies_after windows rides trips live live_after blocks_by total
first rules of_reply of_window = refl

sum-replies-total : (rules : TokenRules) (of_reply : Reply → ℕ) (of_window : List LiveTap → ℕ)
    → IsMeasure rules.terms of_reply of_window
    → (taps : List TapIn)
    → sum_by of_reply (replies rules taps) ≡ total of_window (windows rules taps)
sum-replies-total rules of_reply of_window measure taps =
    push_all (λ taps. sum_by of_reply (replies rules taps) ≡ total of_window (windows rules taps))
    (first rules of_reply of_window)
    (λ taps tap all. rw (
      replies-push rules taps tap,
      sum_by_push of_reply (replies rules taps) (reply rules taps tap),
    )
    (elim (change rules taps tap) [
      | is_unknown answered same ↦ rw (answered, same) (omega (arith, all, measure.unknown))
      | is_stale answered same ↦ rw (answered, same) (omega (arith, all, measure.stale))
      | is_transfer answered same ↦ rw (answered, same) (omega (arith, all, measure.transfer))
      | is_charged shown answered opens ↦ rw (
        answered,
        opens,
        all,
        total-extend rules.terms of_reply of_window measure (is_within rules.until)
            (windows rules taps) shown,
      ) refl
    ]))
    [] taps (first rules of_reply of_window)

-- the measure of the replies is that of the windows
pub sum-replies : (rules : TokenRules) (of_reply : Reply → ℕ) (of_window : List LiveTap → ℕ)
    → IsMeasure rules.terms of_reply of_window
    → (taps : List TapIn)
    → sum_by of_reply (replies rules taps)
    ≡ sum_by of_window (windows rules taps)
unfolding total
sum-replies rules of_reply of_window measure taps =
    sum-replies-total rules of_reply of_window measure taps

-- The replies to rides, in order.
ride_replies-free : (replies : List Reply) (reply : Reply) → is_ride reply ≡ false
    → filter is_ride (replies ++ reply ∷ []) ≡ filter is_ride replies
ride_replies-free replies reply none =
    rw (filter-append is_ride replies (reply ∷ [])) (rw none (append-nil (filter is_ride replies)))

-- a ride's reply is one of a ride
pub is_ride-reply : (paid : Option ℕ) → is_ride (ride_reply paid) ≡ true
unfolding ride_reply reply_with
is_ride-reply None = refl
is_ride-reply (Some cents) = refl

ride_replies-ride : (replies : List Reply) (paid : Option ℕ)
    → filter is_ride (replies ++ ride_reply paid ∷ []) ≡ filter is_ride replies ++ ride_reply paid
    ∷ []
ride_replies-ride replies paid =
    rw (filter-append is_ride replies (ride_reply paid ∷ [])) (rw (is_ride-reply paid) refl)

-- the replies of all windows, by their charges
unfoldable pub shares_of : (LiveTap → Terms) → List (List LiveTap) → List Reply
shares_of terms blocks = flat_map (λ block. map charge_reply (charges terms block)) blocks

map-push : (terms : LiveTap → Terms) (window : List LiveTap) (ride : LiveTap)
    → map charge_reply (charges terms (window ++ ride ∷ []))
    ≡ map charge_reply (charges terms window) ++ last_reply terms (window ++ ride ∷ []) ∷ []
map-push terms window ride =
    rw (last_charge-push terms window ride, charges-push terms window ride)
    (map-append charge_reply (charges terms window) _)

none-mapped : (terms : LiveTap → Terms) → map charge_reply (charges terms []) ≡ []
unfolding charges charges_after
none-mapped terms = refl

shares_of-extend : (terms : LiveTap → Terms) (joins : List LiveTap → LiveTap → Bool)
    (blocks : List (List LiveTap)) (x : LiveTap)
    → shares_of terms (extend joins blocks x) ≡ shares_of terms blocks
    ++ last_reply terms (last_block (extend joins blocks x)) ∷ []
unfolding shares_of extend last_block
shares_of-extend terms joins [] x =
    append-nil _ ∙ map-push terms [] x
    ∙ ap (λ rs. rs ++ last_reply terms (x ∷ []) ∷ []) (none-mapped terms)
shares_of-extend terms joins (block ∷ []) x =
    elim (joins block x) as (λ v.
    shares_of terms (cond v ((block ++ x ∷ []) ∷ []) (block ∷ (x ∷ []) ∷ []))
    ≡ shares_of terms (block ∷ [])
    ++ last_reply terms
    (last_block (cond v ((block ++ x ∷ []) ∷ []) (block ∷ (x ∷ []) ∷ []))) ∷ []) [
      | true ↦ append-nil _ ∙ map-push terms block x
          ∙ sym (ap (λ rs. rs ++ last_reply terms (block ++ x ∷ []) ∷ [])
          (append-nil (map charge_reply (charges terms block))))
      | false ↦ rw (append-nil (map charge_reply (charges terms block)))
          (ap (λ rs. map charge_reply (charges terms block) ++ rs)
          (append-nil _ ∙ map-push terms [] x
          ∙ ap (λ rs. rs ++ last_reply terms (x ∷ []) ∷ []) (none-mapped terms)))
    ]
shares_of-extend terms joins (block ∷ next ∷ blocks) x =
    rw (last_block-cons block joins next blocks x)
    (ap (λ rs. map charge_reply (charges terms block) ++ rs)
    (shares_of-extend terms joins (next ∷ blocks) x)
    ∙ sym (append_assoc (map charge_reply (charges terms block)) _ _))

no_shares : (rules : TokenRules)
    → filter is_ride (replies rules []) ≡ shares_of rules.terms (windows rules [])
unfolding replies replies_after windows rides trips live live_after blocks_by shares_of
no_shares rules = refl

free_unknown : is_ride (reply_with Unknown 0) ≡ false
unfolding reply_with
free_unknown = refl

free_stale : is_ride (reply_with Stale 0) ≡ false
unfolding reply_with
free_stale = refl

free_transfer : is_ride (reply_with Transfer 0) ≡ false
unfolding reply_with
free_transfer = refl

pub ride_replies-shares : (rules : TokenRules) (taps : List TapIn)
    → filter is_ride (replies rules taps) ≡ shares_of rules.terms (windows rules taps)
ride_replies-shares rules taps =
    push_all (λ taps. filter is_ride (replies rules taps)
    ≡ shares_of rules.terms (windows rules taps)) (no_shares rules)
    (λ taps tap all. rw (replies-push rules taps tap) (elim (change rules taps tap) [
      | is_unknown answered same ↦ rw (answered, same)
          (ride_replies-free (replies rules taps) (reply_with Unknown 0) (free_unknown) ∙ all)
      | is_stale answered same ↦ rw (answered, same)
          (ride_replies-free (replies rules taps) (reply_with Stale 0) (free_stale) ∙ all)
      | is_transfer answered same ↦ rw (answered, same)
          (ride_replies-free (replies rules taps) (reply_with Transfer 0) (free_transfer) ∙ all)
      | is_charged shown answered opens ↦ rw (
        answered,
        opens,
        shares_of-extend rules.terms (is_within rules.until)
            (windows rules taps) shown,
      )
          (ride_replies-ride (replies rules taps) _ ∙ rw all refl)
    ]))
    [] taps (no_shares rules)

reply_cents : (one : Charge) → (ride_reply (paid_by one)).cents ≡ charged_by one
unfolding ride_reply reply_with
reply_cents (Full position cents) = refl
reply_cents (CeilingCut position cents) = refl
reply_cents (CeilingReached position) = refl
reply_cents RideLimitReached = refl

reply_paid : (one : Charge) → is_paid_reply (ride_reply (paid_by one)) ≡ is_paid one
unfolding ride_reply reply_with is_paid
reply_paid (Full position cents) = refl
reply_paid (CeilingCut position cents) = refl
reply_paid (CeilingReached position) = refl
reply_paid RideLimitReached = refl

unknown-cents : (reply_with Unknown 0).cents ≡ 0
unfolding reply_with
unknown-cents = refl

stale-cents : (reply_with Stale 0).cents ≡ 0
unfolding reply_with
stale-cents = refl

transfer-cents : (reply_with Transfer 0).cents ≡ 0
unfolding reply_with
transfer-cents = refl

none-cents : (terms : LiveTap → Terms) → window_cents terms [] ≡ 0
unfolding window_cents charges charges_after
none-cents terms = refl

pub cents_measure : (terms : LiveTap → Terms)
    → IsMeasure terms (λ reply. reply.cents) (window_cents terms)
cents_measure terms = record {
  unknown = unknown-cents;
  stale = stale-cents;
  transfer = transfer-cents;
  none = none-cents terms;
  more = λ window ride. rw (last_charge-push terms window ride)
      (cents-push terms window ride
      ∙ ap (λ n. window_cents terms window + n) (sym (reply_cents _)));
}

unknown-paid : is_paid_reply (reply_with Unknown 0) ≡ false
unfolding reply_with
unknown-paid = refl

stale-paid : is_paid_reply (reply_with Stale 0) ≡ false
unfolding reply_with
stale-paid = refl

transfer-paid : is_paid_reply (reply_with Transfer 0) ≡ false
unfolding reply_with
transfer-paid = refl

none-paid : (terms : LiveTap → Terms) → paid_rides terms [] ≡ 0
unfolding paid_rides charges charges_after
none-paid terms = refl

pub paid_measure : (terms : LiveTap → Terms)
    → IsMeasure terms (λ reply. cond (is_paid_reply reply) 1 0) (paid_rides terms)
paid_measure terms = record {
  unknown = ap (λ b. cond b 1 0) unknown-paid;
  stale = ap (λ b. cond b 1 0) stale-paid;
  transfer = ap (λ b. cond b 1 0) transfer-paid;
  none = none-paid terms;
  more = λ window ride. rw (last_charge-push terms window ride)
      (paid-push terms window ride
      ∙ ap (λ b. paid_rides terms window + cond b 1 0) (sym (reply_paid _)));
}
