-- No entry of taps that are posted costs more than the greatest fare of a table, and each has the
-- sizes
-- of its tap.
use Rattle.account_rule.specs.{Taps.live_at, TokenRules.rules_of, TokenRules.token_class}
use Rattle.fare_caps.proofs.{AnswerLemmas.capped_most, FurtherLemmas.pays-by}
use Rattle.fare_caps.specs.{CapMeanings.capped_rules_of, Prices.pays_to}
use Rattle.histories.specs.{Entry.tap_of, Entry.taps_of, Plain.answered, declared.entry.Entry.Entry}
use Rattle.laws.proofs.SumsFit.{CostsFew}
use Rattle.laws.specs.Sizes.{HaveBoundedTerms}
use Rattle.settlement.specs.Posted.{HasName, posted_after, unposted}
use Rattle.std.proofs.lemmas.List.Elements.{All-cons, All-head, All-nil, All-tail}
use Rattle.std.specs.Prelude.{ℕ, List, [], ◌∷◌, ◌++◌, All, IfSome}
use Rattle.tap_views.specs.{Token.Fits, Token.bytes_of, declared.encoder.TapFields.TapFields}
use Rattle.tariffs.specs.{Fares.Fares, Prices.IsBoundedPays, declared.mode.Mode.Mode}

-- what a pair pays is within its bound
pays_few : (fares : Fares) → HaveBoundedTerms fares → (token : List ℕ) (from mode : Mode)
    (moment : ℕ)
    → IfSome (pays_to (capped_rules_of fares token) from (live_at moment mode)) IsBoundedPays
pays_few fares bounds token from mode moment =
    rw (← pays-by fares token from mode moment)
    (bounds.pays moment from.position mode.position)

pub posted_few : (fares : Fares) → HaveBoundedTerms fares → (earlier : List Entry)
    (taps : List TapFields) → All CostsFew (posted_after fares earlier taps)
unfolding posted_after answered rules_of capped_rules_of token_class live_at tap_of
posted_few fares bounds earlier [] = All-nil CostsFew
posted_few fares bounds earlier (tap ∷ taps) =
    let entry = unposted tap in
    let made = answered fares earlier entry in
    All-cons CostsFew made (posted_after fares (earlier ++ made ∷ []) taps)
    (capped_most (capped_rules_of fares (bytes_of entry.token)) (taps_of fares entry.token earlier)
    (tap_of fares entry)
    (λ mode known. bounds.terms (bytes_of entry.token) entry.moment mode.position)
    (λ mode known from. pays_few fares bounds (bytes_of entry.token) from mode entry.moment))
    (posted_few fares bounds (earlier ++ made ∷ []) taps)

pub tokens_fit : (fares : Fares) (earlier : List Entry) (taps : List TapFields) → All HasName taps
    → All (λ entry. Fits entry.token) (posted_after fares earlier taps)
unfolding posted_after answered
tokens_fit fares earlier [] named = All-nil (λ (entry : Entry). Fits entry.token)
tokens_fit fares earlier (tap ∷ taps) named =
    let made = answered fares earlier (unposted tap) in
    All-cons (λ (entry : Entry). Fits entry.token) made
    (posted_after fares (earlier ++ made ∷ []) taps)
    (All-head HasName tap taps named).fits
    (tokens_fit fares (earlier ++ made ∷ []) taps (All-tail HasName tap taps named))
