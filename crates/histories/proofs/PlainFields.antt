-- The entries of a plain history have the fields of their taps' bytes.
use Rattle.std.proofs.Common.{refl, sym, ◌∙◌, ap, inl, inr, subst, arith, get_or, length-take-le}
use Rattle.std.proofs.Common.{length-drop, take-append-drop}
use Rattle.histories.specs.{Entry.AreEntriesOf, Plain.IsPlain, Plain.answered, Plain.unanswered}
use Rattle.histories.specs.{Plain.plain_after, Plain.token_of_bytes, declared.entry.Entry.Entry}
use Rattle.std.proofs.lemmas.{Bool.cases_lt, List.get_or_past, List.Elements.All-nil}
use Rattle.std.proofs.lemmas.List.Elements.{All-cons, All-head, All-tail, All-append, All-take}
use Rattle.std.proofs.lemmas.{List.Elements.All-drop, List.Elements.All-get_or, Nat.be_bytes_8}
use Rattle.std.specs.Int.{to_be_bytes, from_be_bytes, w64}
use Rattle.std.specs.List.{flat_map, AllByRecursion}
use Rattle.std.specs.Prelude.{ℕ, ◌≡◌, ◌⊎◌, ◌++◌, ◌<◌, ◌≤◌, List, [], ◌∷◌, length, take, drop, All}
use Rattle.tap_views.proofs.Lists.{All-split}
use Rattle.tap_views.specs.Files.{IsFile, AreValidTaps, AreValidTapsOfEach}
use Rattle.tap_views.specs.Layout.{Tap, Layout, Tap1, Tap2, IsTapOf, spelling, magic, shared}
use Rattle.tap_views.specs.{Layout.IsBatch, Token.bytes_of}
use Rattle.tariffs.specs.Fares.{Fares}

-- the tap's token is the name of its bytes
abbrev pub IsName : Tap → Type 0
IsName tap = bytes_of (token_of_bytes tap.token) ≡ tap.token

-- each is a byte
abbrev pub AreBytes : List ℕ → Type 0
AreBytes bytes = All (λ byte. byte < 256) bytes

-- the byte at a place, or 0 behind the last one, is a byte
pub byte_at : (bytes : List ℕ) → AreBytes bytes → (i : ℕ) → get_or bytes i 0 < 256
byte_at bytes all i = by_position (cases_lt i (length bytes))
  where
    by_position : (i < length bytes) ⊎ (length bytes ≤ i) → get_or bytes i 0 < 256
    by_position (inl within) = All-get_or (λ byte. byte < 256) bytes i 0 within all
    by_position (inr past) = omega (arith, get_or_past bytes i 0 past)

-- the token of 16 bytes has these bytes
named : (bytes : List ℕ) → length bytes ≡ 16 → AreBytes bytes
    → bytes_of (token_of_bytes bytes) ≡ bytes
unfolding bytes_of
named bytes long all =
    let front : to_be_bytes w64 (from_be_bytes w64 (take 8 bytes)) ≡ take 8 bytes =
    be_bytes_8 (take 8 bytes) (from_be_bytes w64 (take 8 bytes))
    (length-take-le 8 bytes (omega (arith, long)))
    (byte_at (take 8 bytes) (All-take (λ byte. byte < 256) 8 bytes all)) refl in
    let back : to_be_bytes w64 (from_be_bytes w64 (drop 8 bytes)) ≡ drop 8 bytes =
    be_bytes_8 (drop 8 bytes) (from_be_bytes w64 (drop 8 bytes))
    (omega (arith, long, length-drop 8 bytes))
    (byte_at (drop 8 bytes) (All-drop (λ byte. byte < 256) 8 bytes all)) refl in
    ap (λ xs. xs ++ to_be_bytes w64 (from_be_bytes w64 (drop 8 bytes))) front
    ∙ ap (λ xs. take 8 bytes ++ xs) back ∙ take-append-drop 8 bytes

tap_named : (layout : Layout) (tap : Tap) → IsTapOf layout tap → AreBytes (spelling layout tap)
    → IsName tap
tap_named Tap1 tap is all =
    named tap.token is.token
    (All-split (λ byte. byte < 256) tap.token (tap.validator ++ tap.moment) all).0
tap_named (Tap2 validator) tap is all =
    named tap.token is.0.token (All-split (λ byte. byte < 256) tap.token tap.moment all).0

taps_named : (layout : Layout) (taps : List Tap) → AllByRecursion (IsTapOf layout) taps
    → AreBytes (flat_map (spelling layout) taps) → All IsName taps
taps_named layout [] each all = All-nil IsName
taps_named layout (tap ∷ taps) each all =
    let (here, rest) = All-split (λ byte. byte < 256) (spelling layout tap)
    (flat_map (spelling layout) taps) all in
    All-cons IsName tap taps (tap_named layout tap each.0 here) (taps_named layout taps each.1 rest)

batch_named : (bytes : List ℕ) (taps : List Tap) → IsBatch bytes taps → AreBytes bytes
    → All IsName taps
batch_named bytes taps (layout, batch) all =
    let B : List ℕ → Type 0 = AreBytes in
    let records = flat_map (spelling layout) taps in
    let after_magic =
    (All-split (λ byte. byte < 256) (magic layout)
    (batch.count ++ (0 ∷ 0 ∷ (shared layout ++ records))) (subst B batch.spelled all)).1 in
    let after_count =
    (All-split (λ byte. byte < 256) batch.count (0 ∷ 0 ∷ (shared layout ++ records))
    after_magic).1 in
    let after_flags = All-tail (λ byte. byte < 256) 0 (shared layout ++ records)
    (All-tail (λ byte. byte < 256) 0 (0 ∷ (shared layout ++ records)) after_count) in
    taps_named layout taps batch.each
    (All-split (λ byte. byte < 256) (shared layout) records after_flags).1

file_named : (file : List ℕ) (batches : List (List Tap)) (rest : List ℕ) → IsFile file batches rest
    → AreBytes file → All IsName (flat_map (λ batch. batch) batches)
file_named file [] rest is all = All-nil IsName
file_named file (batch ∷ batches) rest (front, back, is_batch, whole, is) all =
    let B : List ℕ → Type 0 = AreBytes in
    let (first, others) = All-split (λ byte. byte < 256) front back (subst B whole all) in
    All-append IsName batch (flat_map (λ b. b) batches) (batch_named front batch is_batch first)
    (file_named back batches rest is others)

upload_named : (file : List ℕ) (taps : List Tap) → AreValidTaps file taps → AreBytes file
    → All IsName taps
upload_named file taps is all =
    let N : List Tap → Type 0 = All IsName in
    subst N (sym is.all) (file_named file is.batches is.rest is.is_file all)

uploads_named : (files : List (List ℕ)) (taps : List (List Tap)) → AreValidTapsOfEach files taps
    → All AreBytes files → All IsName (flat_map (λ ts. ts) taps)
uploads_named [] [] each all = All-nil IsName
uploads_named [] (ts ∷ taps) each all = absurd each
uploads_named (file ∷ files) [] each all = absurd each
uploads_named (file ∷ files) (ts ∷ taps) each all =
    All-append IsName ts (flat_map (λ us. us) taps)
    (upload_named file ts each.0 (All-head AreBytes file files all))
    (uploads_named files taps each.1 (All-tail AreBytes file files all))

-- entries of named taps have their fields
fields_after : (fares : Fares) (earlier : List Entry) (taps : List Tap) → All IsName taps
    → AreEntriesOf taps (plain_after fares earlier taps)
unfolding plain_after answered
fields_after fares earlier [] names = tt
fields_after fares earlier (tap ∷ taps) names = (
  record { token = All-head IsName tap taps names; validator = refl; moment = refl },
  fields_after fares (earlier ++ answered fares earlier (unanswered tap) ∷ []) taps
      (All-tail IsName tap taps names),
)

-- the entries of a plain history have the fields of its taps
pub plain_fields : (fares : Fares) (files : List (List ℕ)) (history : List Entry)
    → All AreBytes files → (is : IsPlain fares files history)
    → AreEntriesOf (flat_map (λ ts. ts) is.taps) history
plain_fields fares files history all is =
    let E : List Entry → Type 0 = λ es. AreEntriesOf (flat_map (λ ts. ts) is.taps) es in
    subst E (sym is.entries)
    (fields_after fares [] (flat_map (λ ts. ts) is.taps) (uploads_named files is.taps is.each all))
