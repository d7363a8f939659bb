-- The taps of one token among taps: collected from uploads, and posted alone.
use Rattle.std.proofs.Common.{◌≡◌, Bool, true, false, cond, List, ◌∷◌, ◌++◌, map, refl, sym, ap}
use Rattle.std.proofs.Common.{◌∙◌, append-nil, append_assoc, flat_map, [], Vec, Global}
use Rattle.fare_caps.specs.{CapMeanings.capped_rules_of, CappedReplies.capped_reply}
use Rattle.histories.proofs.OwnEntries.{own-append, own_other, own_same}
use Rattle.histories.specs.Entry.{is_of, own, tap_of, taps_of}
use Rattle.histories.specs.{Plain.answered, Plain.with_reply, declared.entry.Entry.Entry}
use Rattle.settlement.proofs.Files.{taps_in}
use Rattle.settlement.specs.Posted.{only, posted, posted_after, token_of_tap, unposted}
use Rattle.std.proofs.lemmas.List.{map-append, Concat.flat_map-append, Elements.filter-append}
use Rattle.std.specs.List.{AllZip}
use Rattle.tap_parts.specs.Parts.{taps_of_uploads}
use Rattle.tap_views.proofs.TokenLemmas.{same_token}
use Rattle.tap_views.specs.{Encoding.fields_of, Layout.Tap, Token.bytes_of, Token.token_eq}
use Rattle.tap_views.specs.declared.{encoder.TapFields.TapFields, token.Token.Token}
use Rattle.tariffs.specs.Fares.{Fares}

-- ---- taps of one token
-- whether the tap is of the token
abbrev pub is_its : Token → TapFields → Bool
is_its token tap = token_eq (token_of_tap tap) token

pub only_here : (token : Token) (tap : TapFields) (taps : List TapFields) → is_its token tap ≡ true
    → only token (tap ∷ taps) ≡ tap ∷ only token taps
only_here token tap taps is = ap (λ b. cond b (tap ∷ only token taps) (only token taps)) is

pub only_not : (token : Token) (tap : TapFields) (taps : List TapFields)
    → is_its token tap ≡ false → only token (tap ∷ taps) ≡ only token taps
only_not token tap taps is = ap (λ b. cond b (tap ∷ only token taps) (only token taps)) is

-- the token's taps, by fields, in two lists
pub only_fields : (token : Token) (xs ys : List Tap)
    → only token (map fields_of (xs ++ ys))
    ≡ only token (map fields_of xs) ++ only token (map fields_of ys)
only_fields token xs ys =
    ap (only token) (map-append fields_of xs ys)
    ∙ filter-append (is_its token) (map fields_of xs) (map fields_of ys)

-- one list of its taps, and then more of them
pub only_more : (token : Token) (old now new : List TapFields) (xs ys : List Tap)
    → now ≡ old ++ only token (map fields_of xs) → new ≡ now ++ only token (map fields_of ys)
    → new ≡ old ++ only token (map fields_of (xs ++ ys))
only_more token old now new xs ys one other =
    other ∙ ap (λ (ts : List TapFields). ts ++ only token (map fields_of ys)) one
    ∙ append_assoc old (only token (map fields_of xs)) (only token (map fields_of ys))
    ∙ ap (λ (ts : List TapFields). old ++ ts) (sym (only_fields token xs ys))

-- the taps of one more batch
pub only_batch : (token : Token) (old now new : List TapFields) (done : List (List Tap))
    (batch : List Tap) → now ≡ old ++ only token (map fields_of (taps_of_uploads done))
    → new ≡ now ++ only token (map fields_of batch)
    → new ≡ old ++ only token (map fields_of (taps_of_uploads (done ++ batch ∷ [])))
only_batch token old now new done batch one other =
    only_more token old now new (taps_of_uploads done) batch one other
    ∙ ap (λ (ts : List Tap). old ++ only token (map fields_of ts))
    (sym (flat_map-append (λ (b : List Tap). b) done (batch ∷ [])
    ∙ ap (λ (ts : List Tap). taps_of_uploads done ++ ts) (append-nil batch)))

-- the list has the token's taps
abbrev AreOwn : Token → List Tap → Vec TapFields Global → Type 0
AreOwn token taps list = list.items ≡ only token (map fields_of taps)

-- the token's taps in what was kept of runs of taps
pub own_runs : (token : Token) (runs : List (List Tap)) (lists : List (Vec TapFields Global))
    → AllZip (AreOwn token) runs lists
    → flat_map taps_in lists ≡ only token (map fields_of (taps_of_uploads runs))
own_runs token [] [] zip = refl
own_runs token [] (l ∷ lists) zip = absurd zip
own_runs token (r ∷ runs) [] zip = absurd zip
own_runs token (r ∷ runs) (l ∷ lists) zip =
    ap (λ ts. ts ++ flat_map taps_in lists) zip.0
    ∙ ap (λ ts. only token (map fields_of r) ++ ts) (own_runs token runs lists zip.1)
    ∙ sym (only_fields token r (taps_of_uploads runs))

-- ---- posted alone

-- a reply depends on the token's own entries alone
answered_own : (fares : Fares) (token : Token) (earlier alone : List Entry) (entry : Entry)
    → entry.token ≡ token → own token earlier ≡ own token alone
    → answered fares earlier entry ≡ answered fares alone entry
unfolding answered taps_of
answered_own fares token earlier alone entry is same =
    ap (λ (es : List Entry). with_reply entry
    (capped_reply (capped_rules_of fares (bytes_of entry.token))
    (map (tap_of fares) es) (tap_of fares entry)))
    (ap (λ (t : Token). own t earlier) is ∙ same ∙ sym (ap (λ (t : Token). own t alone) is))

answered_of : (fares : Fares) (token : Token) (earlier : List Entry) (tap : TapFields) (b : Bool)
    → is_its token tap ≡ b → is_of token (answered fares earlier (unposted tap)) ≡ b
unfolding answered
answered_of fares token earlier tap b is = is

-- one entry more in both, or of another token in the first
more_here : (token : Token) (earlier alone : List Entry) (entry : Entry)
    → own token earlier ≡ own token alone
    → own token (earlier ++ entry ∷ []) ≡ own token (alone ++ entry ∷ [])
more_here token earlier alone entry same =
    own-append token earlier (entry ∷ [])
    ∙ ap (λ (es : List Entry). es ++ own token (entry ∷ [])) same
    ∙ sym (own-append token alone (entry ∷ []))

more_not : (token : Token) (earlier alone : List Entry) (entry : Entry)
    → is_of token entry ≡ false → own token earlier ≡ own token alone
    → own token (earlier ++ entry ∷ []) ≡ own token alone
unfolding own
more_not token earlier alone entry is same =
    own-append token earlier (entry ∷ [])
    ∙ ap (λ (es : List Entry). own token earlier ++ es) (own_other token entry [] is)
    ∙ append-nil (own token earlier) ∙ same

own_after : (fares : Fares) (token : Token) (earlier alone : List Entry) (taps : List TapFields)
    → own token earlier ≡ own token alone
    → own token (posted_after fares earlier taps) ≡ posted_after fares alone (only token taps)
unfolding posted_after own
own_after fares token earlier alone [] same = refl
own_after fares token earlier alone (tap ∷ taps) same =
    by_test (is_its token tap) refl
    (λ (es others : List Entry) e. own_after fares token es others taps e)
  where
    by_test : (b : Bool) → is_its token tap ≡ b
        → ((es others : List Entry) → own token es ≡ own token others
        → own token (posted_after fares es taps) ≡ posted_after fares others (only token taps))
        → own token (posted_after fares earlier (tap ∷ taps))
        ≡ posted_after fares alone (only token (tap ∷ taps))
    by_test true is more =
        let entry = answered fares earlier (unposted tap) in
        let rest = posted_after fares (earlier ++ entry ∷ []) taps in
        let e = answered_own fares token earlier alone (unposted tap)
        (same_token (token_of_tap tap) token is) same in
        own_same token entry rest (answered_of fares token earlier tap true is)
        ∙ ap (λ (es : List Entry). entry ∷ es)
        (more (earlier ++ entry ∷ []) (alone ++ entry ∷ [])
        (more_here token earlier alone entry same))
        ∙ ap (λ (n : Entry). n ∷ posted_after fares (alone ++ n ∷ []) (only token taps)) e
        ∙ sym (ap (λ (ts : List TapFields). posted_after fares alone ts)
        (only_here token tap taps is))
    by_test false is more =
        let entry = answered fares earlier (unposted tap) in
        let rest = posted_after fares (earlier ++ entry ∷ []) taps in
        let not = answered_of fares token earlier tap false is in
        own_other token entry rest not
        ∙ more (earlier ++ entry ∷ []) alone (more_not token earlier alone entry not same)
        ∙ sym (ap (λ (ts : List TapFields). posted_after fares alone ts)
        (only_not token tap taps is))

-- the entries of a token are those of its taps, posted alone
pub own_posted : (fares : Fares) (token : Token) (taps : List TapFields)
    → own token (posted fares taps) ≡ posted fares (only token taps)
own_posted fares token taps = own_after fares token [] [] taps refl
