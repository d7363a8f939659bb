-- Taps of parts, one behind the other.
use Rattle.std.proofs.Common.{◌≡◌, ℕ, List, [], ◌∷◌, ◌++◌, All, get_or, map, Option, sym, ap, subst}
use Rattle.std.proofs.Common.{◌∙◌, arith}
use Rattle.histories.specs.{SumsByKey.token_of, declared.entry.Entry.Entry}
use Rattle.settlement.proofs.Ranges.{posted_below}
use Rattle.settlement.proofs.TokenRuns.{less_up, posted_length, tokens_posted, up_less}
use Rattle.settlement.specs.Bills.{IsBillOf, HaveBillRoom}
use Rattle.settlement.specs.Nondecreasing.{TapsNondecreasingFrom, last_token}
use Rattle.settlement.specs.{Posted.posted, Posted.token_of_tap, declared.bill.Bill.Bill}
use Rattle.settled_bills.specs.{declared.part.Part.Part, inside.Charged.IsPart}
use Rattle.std.proofs.lemmas.List.Elements.{All-cons, All-map, All-nil, All-weaker}
use Rattle.std.specs.Ordering.{is_lt, ordering_reverse}
use Rattle.std.specs.declared.cmp.Ordering.TheVariants.{Less}
use Rattle.tap_views.proofs.{TokenLemmas.token_cmp-total, TokensUp.up_chain, TokensUp.up_itself}
use Rattle.tap_views.specs.{Token.token_cmp, TokenOrder.IsUpTo, TokenOrder.AreBelow}
use Rattle.tap_views.specs.declared.{encoder.TapFields.TapFields, token.Token.Token}
use Rattle.tariffs.specs.Fares.{Fares}

abbrev pub From : Token → TapFields → Type 0
From first tap = IsUpTo first (token_of_tap tap)

abbrev pub UpTo : Token → TapFields → Type 0
UpTo last tap = IsUpTo (token_of_tap tap) last

-- taps that do not fall from a token lie between it and the last one
pub nondecreasing_between : (from : Token) (taps : List TapFields) → TapsNondecreasingFrom from taps
    → All (From from) taps × All (UpTo (last_token from taps)) taps
    × IsUpTo from (last_token from taps)
nondecreasing_between from [] nondecreasing =
    (All-nil (From from), All-nil (UpTo from), up_itself from)
nondecreasing_between from (tap ∷ taps) (up, nondecreasing) =
    let token = token_of_tap tap in
    let last = last_token token taps in
    let (least, most, end) = nondecreasing_between token taps nondecreasing in (
      All-cons (From from) tap taps up
          (All-weaker (From token) (From from)
          (λ (t : TapFields) above. up_chain from token (token_of_tap t) up above) taps least),
      All-cons (UpTo last) tap taps end most,
      up_chain from token last up end,
    )

pub less_is_up : (a b : Token) → token_cmp a b ≡ Less → IsUpTo a b
less_is_up a b less = ap is_lt (token_cmp-total.antisymm b a ∙ ap ordering_reverse less)

-- taps up to a token are below those from a higher one on
pub below_bound : (taps others : List TapFields) (last first : Token) → All (UpTo last) taps
    → token_cmp last first ≡ Less → All (From first) others
    → AreBelow (map token_of_tap taps) (map token_of_tap others)
below_bound taps others last first up less from =
    All-map (λ t. All (λ o. token_cmp t o ≡ Less) (map token_of_tap others)) token_of_tap taps
    (λ j d inside.
    let token = token_of_tap (get_or taps j d) in
    All-map (λ o. token_cmp token o ≡ Less) token_of_tap others (λ k e within.
    less_up token first (token_of_tap (get_or others k e))
    (up_less token last first (up j d inside) less) (from k e within)))

-- the bill of the taps of two parts
pub billed_both : (fares : Fares) (taps others : List TapFields) (old more new : Bill)
    → AreBelow (map token_of_tap taps) (map token_of_tap others)
    → IsBillOf (posted fares taps) old → IsBillOf (posted fares others) more
    → ((entries last : List Entry) → IsBillOf entries old → IsBillOf last more
    → AreBelow (map token_of entries) (map token_of last) → IsBillOf (entries ++ last) new)
    → IsBillOf (posted fares (taps ++ others)) new
billed_both fares taps others old more new below one other added =
    subst (λ (es : List Entry). IsBillOf es new) (sym (posted_below fares taps others below))
    (added (posted fares taps) (posted fares others) one other
    (subst (λ (ts : List Token). AreBelow ts (map token_of (posted fares others)))
    (sym (tokens_posted fares [] taps))
    (subst (λ (ts : List Token). AreBelow (map token_of_tap taps) ts)
    (sym (tokens_posted fares [] others)) below)))

-- there is room for the taps of two parts
pub parts_room : (fares : Fares) (known : List (Option (List ℕ))) (part more : Part)
    → IsPart fares known part → IsPart fares known more → HaveBillRoom part.bill more.bill
parts_room fares known part more one other =
    let long = posted_length fares [] one.taps in
    let wide = posted_length fares [] other.taps in
    let counted = one.counted in
    let few = one.few in
    let also = other.counted in
    let small = other.few in (
      posted fares one.taps,
      posted fares other.taps,
      one.bill_is.counts,
      other.bill_is.counts,
      omega (arith, long, wide, counted, few, also, small),
    )
