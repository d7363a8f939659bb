-- Histories of lists that share no token, one behind the other, and their sums by token.
use Rattle.std.proofs.Common.{◌≡◌, List, ◌∷◌, ◌++◌, map, filter, [], All, refl, sym, ap, ◌∙◌}
use Rattle.std.proofs.Common.{append-nil, append_assoc}
use Rattle.fare_caps.specs.{CapMeanings.capped_rules_of, CappedReplies.capped_reply}
use Rattle.histories.specs.Entry.{is_of, own, tap_of, taps_of}
use Rattle.histories.specs.{Plain.answered, Plain.with_reply, declared.entry.Entry.Entry}
use Rattle.settlement.specs.Posted.{posted, posted_after, token_of_tap, unposted}
use Rattle.std.proofs.lemmas.List.Elements.{All-head, All-tail, filter-append}
use Rattle.tap_views.specs.{Token.bytes_of, declared.encoder.TapFields.TapFields}
use Rattle.tariffs.specs.Fares.{Fares}

-- entries of other tokens decide no reply
answered_others : (fares : Fares) (front earlier : List Entry) (entry : Entry)
    → own entry.token front ≡ []
    → answered fares (front ++ earlier) entry ≡ answered fares earlier entry
unfolding answered taps_of own
answered_others fares front earlier entry none =
    ap (λ (es : List Entry). with_reply entry
    (capped_reply (capped_rules_of fares (bytes_of entry.token))
    (map (tap_of fares) es) (tap_of fares entry)))
    (filter-append (is_of entry.token) front earlier
    ∙ ap (λ (es : List Entry). es ++ filter (is_of entry.token) earlier) none)

after_others : (fares : Fares) (front earlier : List Entry) (taps : List TapFields)
    → All (λ tap. own (token_of_tap tap) front ≡ []) taps
    → posted_after fares (front ++ earlier) taps ≡ posted_after fares earlier taps
unfolding posted_after
after_others fares front earlier [] others = refl
after_others fares front earlier (tap ∷ taps) others =
    let entry = answered fares earlier (unposted tap) in
    let same : answered fares (front ++ earlier) (unposted tap) ≡ entry =
    answered_others fares front earlier (unposted tap)
    (All-head (λ t. own (token_of_tap t) front ≡ []) tap taps others) in
    ap (λ (e : Entry). e ∷ posted_after fares ((front ++ earlier) ++ e ∷ []) taps) same
    ∙ ap (λ (es : List Entry). entry ∷ posted_after fares es taps)
    (append_assoc front earlier (entry ∷ []))
    ∙ ap (λ (es : List Entry). entry ∷ es)
    (after_others fares front (earlier ++ entry ∷ []) taps
    (All-tail (λ t. own (token_of_tap t) front ≡ []) tap taps others))

-- the entries of two lists of taps, one after the other
pub posted_append : (fares : Fares) (earlier : List Entry) (xs ys : List TapFields)
    → posted_after fares earlier (xs ++ ys)
    ≡ posted_after fares earlier xs ++ posted_after fares (earlier ++ posted_after fares earlier xs)
    ys
unfolding posted_after
posted_append fares earlier [] ys =
    ap (λ (es : List Entry). posted_after fares es ys) (sym (append-nil earlier))
posted_append fares earlier (x ∷ xs) ys =
    let entry = answered fares earlier (unposted x) in
    ap (λ (es : List Entry). entry ∷ es) (posted_append fares (earlier ++ entry ∷ []) xs ys)
    ∙ ap (λ (es : List Entry).
    entry ∷ (posted_after fares (earlier ++ entry ∷ []) xs ++ posted_after fares es ys))
    (append_assoc earlier (entry ∷ []) (posted_after fares (earlier ++ entry ∷ []) xs))

-- the history of two lists of taps that share no token is both histories
pub posted_apart : (fares : Fares) (xs ys : List TapFields)
    → All (λ tap. own (token_of_tap tap) (posted fares xs) ≡ []) ys
    → posted fares (xs ++ ys) ≡ posted fares xs ++ posted fares ys
posted_apart fares xs ys others =
    posted_append fares [] xs ys
    ∙ ap (λ (es : List Entry). posted fares xs ++ posted_after fares es ys)
    (sym (append-nil (posted fares xs)))
    ∙ ap (λ (es : List Entry). posted fares xs ++ es)
    (after_others fares (posted fares xs) [] ys others)
