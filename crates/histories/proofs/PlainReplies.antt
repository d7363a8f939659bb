-- Two legal histories in which the taps of a token are the same have the same entries of that
-- token.
use Rattle.std.proofs.Common.{refl, sym, ◌∙◌, ap, subst, arith, append-nil, append_assoc}
use Rattle.std.proofs.Common.{length-append}
use Rattle.account_rule.specs.declared.{reply.Answer.TheVariants.Unknown, tap.TapIn.TapIn}
use Rattle.fare_caps.specs.{CapMeanings.capped_rules_of, CappedReplies.capped_reply}
use Rattle.fare_caps.specs.Caps.{CappedRules}
use Rattle.histories.proofs.{Histories.legal-push, OwnEntries.own_other, OwnEntries.own_same}
use Rattle.histories.specs.Entry.{is_of, own, tap_of, taps_of}
use Rattle.histories.specs.{History.IsReplied, History.IsLegal, Keys.same_token}
use Rattle.histories.specs.Plain.{with_reply, answered, unanswered, plain_after, plain}
use Rattle.histories.specs.declared.entry.Entry.{Entry}
use Rattle.std.proofs.lemmas.List.{map-append, Elements.filter-append}
use Rattle.std.specs.Prelude.{◌≡◌, Bool, true, false, cond, List, [], ◌∷◌, ◌++◌, length, map}
use Rattle.std.specs.Prelude.{filter}
use Rattle.tap_views.specs.{Layout.Tap, Token.bytes_of, declared.token.Token.Token}
use Rattle.tariffs.specs.Fares.{Fares}

-- an entry without its reply
abbrev pub bare : Entry → Entry
bare entry = record {
  token = entry.token;
  validator = entry.validator;
  moment = entry.moment;
  answer =
      Unknown;
  cents = 0;
}

-- entries of one token, answered again after its earlier taps
again : Fares → CappedRules → List TapIn → List Entry → List Entry
again fares rules earlier [] = []
again fares rules earlier (entry ∷ entries) =
    with_reply entry (capped_reply rules earlier (tap_of fares entry)) ∷ again fares rules
    (earlier ++ tap_of fares entry ∷ []) entries

tap_bare : (fares : Fares) (entry : Entry) → tap_of fares (bare entry) ≡ tap_of fares entry
unfolding tap_of
tap_bare fares entry = refl

-- the taps of a token after one entry more
taps_same : (fares : Fares) (token : Token) (entries : List Entry) (entry : Entry)
    → is_of token entry ≡ true
    → taps_of fares token (entries ++ entry ∷ [])
    ≡ taps_of fares token entries ++ tap_of fares entry ∷ []
unfolding taps_of own
taps_same fares token entries entry is =
    ap (map (tap_of fares))
    (filter-append (is_of token) entries (entry ∷ [])
    ∙ ap (λ b. filter (is_of token) entries ++ cond b (entry ∷ []) []) is)
    ∙ map-append (tap_of fares) (filter (is_of token) entries) (entry ∷ [])

taps_other : (fares : Fares) (token : Token) (entries : List Entry) (entry : Entry)
    → is_of token entry ≡ false
    → taps_of fares token (entries ++ entry ∷ []) ≡ taps_of fares token entries
unfolding taps_of own
taps_other fares token entries entry is =
    ap (map (tap_of fares))
    (filter-append (is_of token) entries (entry ∷ [])
    ∙ ap (λ b. filter (is_of token) entries ++ cond b (entry ∷ []) []) is
    ∙ append-nil (filter (is_of token) entries))

-- the entry of a legal history is its taps' fields with the rule's reply
replied_again : (fares : Fares) (token : Token) (front : List Entry) (entry : Entry)
    → entry.token ≡ token → IsReplied fares front entry
    → entry ≡ with_reply (bare entry)
    (capped_reply (capped_rules_of fares (bytes_of token)) (taps_of fares token front)
    (tap_of fares (bare entry)))
unfolding IsReplied
replied_again fares token front entry is replied =
    ap (with_reply entry)
    (replied ∙ ap
    (λ t. capped_reply (capped_rules_of fares (bytes_of t)) (taps_of fares t front)
    (tap_of fares entry)) is)
    ∙ ap (λ t. with_reply entry
    (capped_reply (capped_rules_of fares (bytes_of token)) (taps_of fares token front) t))
    (sym (tap_bare fares entry))

legal_again : (fares : Fares) (token : Token) (front rest : List Entry)
    → IsLegal fares (front ++ rest)
    → own token rest ≡ again fares (capped_rules_of fares (bytes_of token))
    (taps_of fares token front)
    (map bare (own token rest))
unfolding own again
legal_again fares token front [] legal = refl
legal_again fares token front (entry ∷ rest) legal =
    by_test (is_of token entry) refl
    (legal_again fares token (front ++ entry ∷ []) rest
    (subst (λ es. IsLegal fares es) (sym (append_assoc front (entry ∷ []) rest)) legal))
  where
    rules : CappedRules
    rules = capped_rules_of fares (bytes_of token)

    by_test : (b : Bool) → is_of token entry ≡ b
        → own token rest ≡ again fares (capped_rules_of fares (bytes_of token))
        (taps_of fares token (front ++ entry ∷ [])) (map bare (own token rest))
        → own token (entry ∷ rest)
        ≡ again fares (capped_rules_of fares (bytes_of token)) (taps_of fares token front)
        (map bare (own token (entry ∷ rest)))
    by_test true is more =
        let A : List Entry → List Entry =
        λ es. again fares (capped_rules_of fares (bytes_of token)) (taps_of fares token front)
        (map bare es) in
        let T : List TapIn → List Entry =
        λ ts. again fares (capped_rules_of fares (bytes_of token)) ts (map bare (own token rest)) in
        let first = replied_again fares token front entry (same_token entry.token token is)
        (legal.each front entry rest refl) in
        let then : own token rest
        ≡ T (taps_of fares token front ++ tap_of fares (bare entry) ∷ []) =
        more ∙ ap T
        (taps_same fares token front entry is
        ∙ ap (λ t. taps_of fares token front ++ t ∷ []) (sym (tap_bare fares entry))) in
        own_same token entry rest is ∙ ap (λ e. e ∷ own token rest) first
        ∙ ap (λ es. with_reply (bare entry)
        (capped_reply (capped_rules_of fares (bytes_of token)) (taps_of fares token front)
        (tap_of fares (bare entry))) ∷ es) then
        ∙ sym (ap A (own_same token entry rest is))
    by_test false is more =
        let A : List Entry → List Entry =
        λ es. again fares (capped_rules_of fares (bytes_of token)) (taps_of fares token front)
        (map bare es) in
        let T : List TapIn → List Entry =
        λ ts. again fares (capped_rules_of fares (bytes_of token)) ts (map bare (own token rest)) in
        own_other token entry rest is ∙ more ∙ ap T (taps_other fares token front entry is)
        ∙ sym (ap A (own_other token entry rest is))

-- the same taps of a token have the same replies
pub same_replies : (fares : Fares) (token : Token) (one other : List Entry) → IsLegal fares one
    → IsLegal fares other
    → map bare (own token one) ≡ map bare (own token other) → own token one ≡ own token other
same_replies fares token one other legal legal' same =
    legal_again fares token [] one legal
    ∙ ap (again fares (capped_rules_of fares (bytes_of token)) (taps_of fares token [])) same
    ∙ sym (legal_again fares token [] other legal')

-- ---- the plain history is legal, and has the fields of the taps

is_replied : (fares : Fares) (earlier : List Entry) (tap : Tap)
    → IsReplied fares earlier (answered fares earlier (unanswered tap))
unfolding IsReplied answered tap_of
is_replied fares earlier tap = refl

plain_legal_after : (fares : Fares) (earlier : List Entry) (taps : List Tap) → IsLegal fares earlier
    → IsLegal fares (earlier ++ plain_after fares earlier taps)
unfolding plain_after
plain_legal_after fares earlier [] legal =
    subst (λ es. IsLegal fares es) (sym (append-nil earlier)) legal
plain_legal_after fares earlier (tap ∷ taps) legal =
    let entry = answered fares earlier (unanswered tap) in
    subst (λ es. IsLegal fares es)
    (append_assoc earlier (entry ∷ []) (plain_after fares (earlier ++ entry ∷ []) taps))
    (plain_legal_after fares (earlier ++ entry ∷ []) taps
    (legal-push fares earlier entry legal (is_replied fares earlier tap)))

-- a plain history is legal
pub plain_legal : (fares : Fares) (taps : List Tap) → IsLegal fares (plain fares taps)
plain_legal fares taps =
    plain_legal_after fares [] taps
    (record {
      each = λ before entry after e. absurd
          (omega (arith, ap length e, length-append before (entry ∷ after)));
    })

bare_answered : (fares : Fares) (earlier : List Entry) (tap : Tap)
    → bare (answered fares earlier (unanswered tap)) ≡ unanswered tap
unfolding answered
bare_answered fares earlier tap = refl

-- without its replies a plain history is its taps
pub plain_bare : (fares : Fares) (earlier : List Entry) (taps : List Tap)
    → map bare (plain_after fares earlier taps) ≡ map unanswered taps
unfolding plain_after
plain_bare fares earlier [] = refl
plain_bare fares earlier (tap ∷ taps) =
    let entry = answered fares earlier (unanswered tap) in
    ap (λ e. e ∷ map bare (plain_after fares (earlier ++ entry ∷ []) taps))
    (bare_answered fares earlier tap)
    ∙ ap (λ es. unanswered tap ∷ es) (plain_bare fares (earlier ++ entry ∷ []) taps)

-- the own entries of a token, without their replies
pub own_bare : (token : Token) (entries : List Entry)
    → map bare (own token entries) ≡ own token (map bare entries)
unfolding own
own_bare token [] = refl
own_bare token (entry ∷ entries) = by_test (is_of token entry) refl (own_bare token entries)
  where
    by_test : (b : Bool) → is_of token entry ≡ b
        → map bare (filter (is_of token) entries) ≡ filter (is_of token) (map bare entries)
        → map bare
        (cond (is_of token entry) (entry ∷ filter (is_of token) entries)
        (filter (is_of token) entries))
        ≡ cond (is_of token entry) (bare entry ∷ filter (is_of token) (map bare entries))
        (filter (is_of token) (map bare entries))
    by_test true is more = rw is (ap (λ es. bare entry ∷ es) more)
    by_test false is more = rw is more
