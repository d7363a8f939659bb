-- What the grammar says of whole texts against what the table of faults says of places.
use Rattle.std.proofs.Common.{◌≡◌, ◌⊎◌, ℕ, zero, suc, ◌+◌, ◌*◌, ◌<◌, ◌≤◌, List, [], ◌∷◌, ◌++◌}
use Rattle.std.proofs.Common.{length, take, drop, codes, flat_map, refl, sym, ap, subst, ◌∙◌, inl}
use Rattle.std.proofs.{Common.inr, Common.arith, Math.Nat.mul-suc, Math.Nat.mul-zero}
use Rattle.std.proofs.{Math.Nat.mul-le-mul_left, lemmas.List.length-append}
use Rattle.std.proofs.lemmas.List.{length-drop, length-take-le, take_at, drop_at, take-append-drop}
use Rattle.std.proofs.lemmas.List.{take-take, take_all, drop-drop, drop-take, append_assoc}
use Rattle.std.specs.List.{AllByRecursion}
use Rattle.tap_views.proofs.Cuts.{length-cut, cut-append, all-cut}
use Rattle.tap_views.specs.Faults.{header, width, layout_in, count_in, flags_in, size_in, Row}
use Rattle.tap_views.specs.Layout.{num, moment_limit, Tap, IsTap, Layout, Tap1, Tap2, IsLayout}
use Rattle.tap_views.specs.Layout.{IsTapOf, magic, shared, spelling, IsBatchIn, IsBatch}
use Rattle.tap_views.specs.declared.fault.LayoutFault.{LayoutFault}
use Rattle.tap_views.specs.declared.fault.LayoutFault.TheVariants.{Short, Magic, Flags, TooMany}
use Rattle.tap_views.specs.declared.fault.LayoutFault.TheVariants.{Length, Moment}
use Rattle.tap_views.specs.inside.Faults.{AllEarly, IsHeader, IsMeasured}
use Rattle.tap_views.specs.inside.Records.{taps_in, tap_at, AreRecords}

-- ---- one record
-- a tap written and read again
pub read_back : (layout : Layout) (tap : Tap) → IsTapOf layout tap
    → tap_at layout (spelling layout tap) ≡ tap
read_back Tap1 tap is =
    let token : take 16 (tap.token ++ (tap.validator ++ tap.moment)) ≡ tap.token =
    take_at tap.token (tap.validator ++ tap.moment) 16 is.token in
    let trailing : drop 16 (tap.token ++ (tap.validator ++ tap.moment)) ≡ tap.validator
    ++ tap.moment = drop_at tap.token (tap.validator ++ tap.moment) 16 is.token in
    let validator : take 4 (tap.validator ++ tap.moment) ≡ tap.validator =
    take_at tap.validator tap.moment 4 is.validator in
    let last : drop 20 (tap.token ++ (tap.validator ++ tap.moment)) ≡ tap.moment =
    sym (drop-drop 4 16 (tap.token ++ (tap.validator ++ tap.moment))) ∙ ap (drop 4) trailing
    ∙ drop_at tap.validator tap.moment 4 is.validator in
    let moment : take 8 tap.moment ≡ tap.moment =
    take_all 8 tap.moment (omega (arith, is.moment)) in
    rw (token, trailing, validator, last, moment) refl
read_back (Tap2 all) tap is =
    let token : take 16 (tap.token ++ tap.moment) ≡ tap.token =
    take_at tap.token tap.moment 16 is.0.token in
    let trailing : drop 16 (tap.token ++ tap.moment) ≡ tap.moment =
    drop_at tap.token tap.moment 16 is.0.token in
    let moment : take 8 tap.moment ≡ tap.moment =
    take_all 8 tap.moment (omega (arith, is.0.moment)) in
    rw (token, trailing, moment, ← is.1) refl

-- a tap is written in a record's bytes
pub length-spelling : (layout : Layout) (tap : Tap) → IsTapOf layout tap
    → length (spelling layout tap) ≡ width layout
length-spelling Tap1 tap is =
    omega (
      arith,
      is.token,
      is.validator,
      is.moment,
      length-append tap.token (tap.validator ++ tap.moment),
      length-append tap.validator
          tap.moment,
    )
length-spelling (Tap2 all) tap is =
    omega (arith, is.0.token, is.0.moment, length-append tap.token tap.moment)

-- a record read and written again
pub write_back : (layout : Layout) (bytes : List ℕ) → length bytes ≡ width layout
    → spelling layout (tap_at layout bytes) ≡ bytes
write_back Tap1 bytes whole =
    let last : drop 4 (drop 16 bytes) ≡ drop 20 bytes = drop-drop 4 16 bytes in
    let moment : take 8 (drop 20 bytes) ≡ drop 20 bytes =
    take_all 8 (drop 20 bytes) (omega (arith, whole, length-drop 20 bytes)) in
    rw (moment, ← last, take-append-drop 4 (drop 16 bytes)) (take-append-drop 16 bytes)
write_back (Tap2 all) bytes whole =
    let moment : take 8 (drop 16 bytes) ≡ drop 16 bytes =
    take_all 8 (drop 16 bytes) (omega (arith, whole, length-drop 16 bytes)) in
    rw moment (take-append-drop 16 bytes)

-- an early record is a tap
pub tap_of : (layout : Layout) (bytes : List ℕ) → IsLayout layout → length bytes ≡ width layout
    → num (tap_at layout bytes).moment < moment_limit
    → IsTapOf layout (tap_at layout bytes)
tap_of Tap1 bytes fits whole early = record {
  token = length-take-le 16 bytes (omega (arith, whole));
  validator = length-take-le 4 (drop 16 bytes) (omega (arith, whole, length-drop 16 bytes));
  moment = length-take-le 8 (drop 20 bytes) (omega (arith, whole, length-drop 20 bytes));
  early = early;
}
tap_of (Tap2 all) bytes fits whole early = (
  record {
    token = length-take-le 16 bytes (omega (arith, whole));
    validator = fits;
    moment = length-take-le 8 (drop 16 bytes) (omega (arith, whole, length-drop 16 bytes));
    early = early;
  },
  refl,
)

pub is_tap : (layout : Layout) (tap : Tap) → IsTapOf layout tap → IsTap tap
is_tap Tap1 tap is = is
is_tap (Tap2 all) tap is = is.0

pub are_taps : (layout : Layout) (taps : List Tap) → AllByRecursion (IsTapOf layout) taps
    → AllByRecursion IsTap taps
are_taps layout [] are = tt
are_taps layout (tap ∷ taps) are = (is_tap layout tap are.0, are_taps layout taps are.1)

-- ---- many records
pub length-spellings : (layout : Layout) (taps : List Tap) → AllByRecursion (IsTapOf layout) taps
    → length (flat_map (spelling layout) taps) ≡ width layout * length taps
length-spellings layout [] are = omega (arith, mul-zero (width layout))
length-spellings layout (tap ∷ taps) are =
    omega (
      arith,
      length-append (spelling layout tap) (flat_map (spelling layout) taps),
      length-spelling layout tap are.0,
      length-spellings layout taps are.1,
      mul-suc (width layout)
          (length taps),
    )

-- taps written one after the other, with anything behind them, are cut again
pub cut-spelled : (layout : Layout) (taps : List Tap) (rest : List ℕ)
    → AllByRecursion (IsTapOf layout) taps
    → taps_in layout (length taps) (flat_map (spelling layout) taps ++ rest) ≡ taps
cut-spelled layout [] rest are = refl
cut-spelled layout (tap ∷ taps) rest are =
    let first = spelling layout tap in
    let more = flat_map (spelling layout) taps in
    let wide : length first ≡ width layout = length-spelling layout tap are.0 in
    let front : take (width layout) (first ++ (more ++ rest)) ≡ first =
    take_at first (more ++ rest) (width layout) wide in
    let back : drop (width layout) (first ++ (more ++ rest)) ≡ more ++ rest =
    drop_at first (more ++ rest) (width layout) wide in
    rw (
      append_assoc first more rest,
      front,
      back,
      cut-spelled layout taps rest are.1,
      read_back layout tap are.0,
    ) refl

-- records that are cut are written again
pub spelled-cut : (layout : Layout) (n : ℕ) (bytes : List ℕ) → width layout * n ≤ length bytes
    → flat_map (spelling layout) (taps_in layout n bytes) ++ drop (width layout * n) bytes ≡ bytes
spelled-cut layout zero bytes whole = let none : width layout * 0 ≡ 0 = mul-zero (width layout) in
    rw none refl
spelled-cut layout (suc n) bytes whole =
    let step : width layout + width layout * n ≡ width layout * suc n =
    omega (arith, mul-suc (width layout) n) in
    let first : spelling layout (tap_at layout (take (width layout) bytes))
    ≡ take (width layout) bytes =
    write_back layout (take (width layout) bytes)
    (length-take-le (width layout) bytes (omega arith)) in
    let trailing : drop (width layout * suc n) bytes
    ≡ drop (width layout * n) (drop (width layout) bytes) =
    ap (λ (at : ℕ). drop at bytes) (sym step)
    ∙ sym (drop-drop (width layout * n) (width layout) bytes) in
    let more = spelled-cut layout n (drop (width layout) bytes)
    (omega (arith, length-drop (width layout) bytes)) in
    rw (first, trailing, append_assoc, more) (take-append-drop (width layout) bytes)

-- what is true of the record at each place is true of all taps that are cut
pub cut-all : (layout : Layout) (P : Tap → Type 0) (n : ℕ) (bytes : List ℕ)
    → ((i : ℕ) → i < n → P (tap_at layout (take (width layout) (drop (width layout * i) bytes))))
    → AllByRecursion P (taps_in layout n bytes)
cut-all layout P zero bytes each = tt
cut-all layout P (suc n) bytes each =
    let none : width layout * 0 ≡ 0 = mul-zero (width layout) in
    let Q : ℕ → Type 0 = λ at. P (tap_at layout (take (width layout) (drop at bytes))) in (
      subst Q none (each 0 (omega arith)),
      cut-all layout P n (drop (width layout) bytes) (λ i below.
          let step : width layout + width layout * i ≡ width layout * suc i =
          omega (arith, mul-suc (width layout) i) in
          let moved : drop (width layout * suc i) bytes
          ≡ drop (width layout * i) (drop (width layout) bytes) =
          ap (λ (at : ℕ). drop at bytes) (sym step)
          ∙ sym (drop-drop (width layout * i) (width layout) bytes) in
          let R : List ℕ → Type 0 = λ part. P (tap_at layout (take (width layout) part)) in
          subst R moved (each (suc i) (omega arith))),
    )

-- where the table finds the moment of a tap
pub moment-position : (layout : Layout) (i : ℕ) (bytes : List ℕ)
    → (tap_at layout (take (width layout)
    (drop (width layout * i) (drop (header layout) bytes)))).moment
    ≡ take 8 (drop (28 + width layout * i) bytes)
moment-position Tap1 i bytes =
    let part = drop (28 * i) (drop 8 bytes) in
    let position : 8 + (28 * i + 20) ≡ 28 + 28 * i = omega arith in
    let moved : drop 20 part ≡ drop (28 + 28 * i) bytes =
    drop-drop 20 (28 * i) (drop 8 bytes) ∙ drop-drop (28 * i + 20) 8 bytes
    ∙ ap (λ (at : ℕ). drop at bytes) position in
    ap (take 8) (drop-take 20 8 part) ∙ take-take 8 8 (drop 20 part) (omega arith)
    ∙ ap (take 8) moved
moment-position (Tap2 all) i bytes =
    let part = drop (24 * i) (drop 12 bytes) in
    let position : 12 + (24 * i + 16) ≡ 28 + 24 * i = omega arith in
    let moved : drop 16 part ≡ drop (28 + 24 * i) bytes =
    drop-drop 16 (24 * i) (drop 12 bytes) ∙ drop-drop (24 * i + 16) 12 bytes
    ∙ ap (λ (at : ℕ). drop at bytes) position in
    ap (take 8) (drop-take 16 8 part) ∙ take-take 8 8 (drop 16 part) (omega arith)
    ∙ ap (take 8) moved

-- ---- the header
-- a list of a known length, byte by byte
two : (xs : List ℕ) → length xs ≡ 2 → ((a : ℕ) × (b : ℕ) × (xs ≡ a ∷ b ∷ []))
two [] wide = absurd (omega arith)
two (a ∷ []) wide = absurd (omega arith)
two (a ∷ b ∷ []) wide = (a, b, refl)
two (a ∷ b ∷ x ∷ xs) wide = absurd (omega arith)

four : (xs : List ℕ) → length xs ≡ 4
    → ((a : ℕ) × (b : ℕ) × (c : ℕ) × (d : ℕ) × (xs ≡ a ∷ b ∷ c ∷ d ∷ []))
four [] wide = absurd (omega arith)
four (a ∷ []) wide = absurd (omega arith)
four (a ∷ b ∷ []) wide = absurd (omega arith)
four (a ∷ b ∷ c ∷ []) wide = absurd (omega arith)
four (a ∷ b ∷ c ∷ d ∷ []) wide = (a, b, c, d, refl)
four (a ∷ b ∷ c ∷ d ∷ x ∷ xs) wide = absurd (omega arith)

four_more : (xs : List ℕ) → 4 ≤ length xs
    → ((a : ℕ) × (b : ℕ) × (c : ℕ) × (d : ℕ) × (more : List ℕ) × (xs ≡ a ∷ b ∷ c ∷ d ∷ more))
four_more [] long = absurd (omega arith)
four_more (a ∷ []) long = absurd (omega arith)
four_more (a ∷ b ∷ []) long = absurd (omega arith)
four_more (a ∷ b ∷ c ∷ []) long = absurd (omega arith)
four_more (a ∷ b ∷ c ∷ d ∷ more) long = (a, b, c, d, more, refl)

-- what the table finds in bytes that begin with a header: its layout, count, and what is behind it
record Heads (layout : Layout) (count more bytes : List ℕ) : Type 0 where
  pub is : layout_in bytes ≡ layout
  pub known : (take 4 bytes ≡ codes "TAP1") ⊎ (take 4 bytes ≡ codes "TAP2")
  pub number : count_in bytes ≡ num count
  pub flags : flags_in bytes ≡ 0
  pub whole : length bytes ≡ header layout + length more
  pub trailing : drop (header layout) bytes ≡ more

heads-spelled : (layout : Layout) (a b : ℕ) (more : List ℕ) → IsLayout layout
    → Heads layout (a ∷ b ∷ []) more (magic layout ++ (a ∷ b ∷ 0 ∷ 0 ∷ (shared layout ++ more)))
heads-spelled Tap1 a b more fits =
    record {
      is = refl;
      known = inl refl;
      number = refl;
      flags = refl;
      whole = omega arith;
      trailing = refl;
    }
heads-spelled (Tap2 all) a b more fits = let (v, w, x, y, is) = four all fits in
    let P : List ℕ → Type 0 =
    λ vs. Heads (Tap2 vs) (a ∷ b ∷ []) more (magic (Tap2 vs)
    ++ (a ∷ b ∷ 0 ∷ 0 ∷ (vs ++ more))) in
    subst P (sym is) (record {
      is = refl;
      known = inr refl;
      number = refl;
      flags = refl;
      whole = omega arith;
      trailing = refl;
    })

-- what the table finds in bytes that begin with a batch
pub record Begins (bytes : List ℕ) (taps : List Tap) (rest : List ℕ) : Type 0 where
  pub whole : header (layout_in bytes) ≤ length bytes
  pub known : (take 4 bytes ≡ codes "TAP1") ⊎ (take 4 bytes ≡ codes "TAP2")
  pub flags : flags_in bytes ≡ 0
  pub count : count_in bytes ≡ length taps
  pub most : length taps ≤ 4096
  pub long : size_in bytes ≤ length bytes
  pub early : AllEarly bytes (length taps)
  pub cut_again : taps_in (layout_in bytes) (length taps) (drop (header (layout_in bytes)) bytes)
      ≡ taps
  pub left : drop (width (layout_in bytes) * length taps) (drop (header (layout_in bytes)) bytes)
      ≡ rest

-- taps behind a header, as the table finds them
begins-heads : (layout : Layout) (count : List ℕ) (taps : List Tap) (rest bytes : List ℕ)
    → AllByRecursion (IsTapOf layout) taps
    → num count ≡ length taps → length taps ≤ 4096
    → Heads layout count (flat_map (spelling layout) taps ++ rest) bytes
    → Begins bytes taps rest
begins-heads layout count taps rest bytes are counts most heads =
    let P : Layout → Type 0 = λ l. (size_in bytes ≡ header l + width l * count_in bytes) in
    let wide : length (flat_map (spelling layout) taps) ≡ width layout * length taps =
    length-spellings layout taps are in
    let all : length (flat_map (spelling layout) taps ++ rest)
    ≡ width layout * length taps + length rest =
    omega (arith, wide, length-append (flat_map (spelling layout) taps) rest) in
    let number : count_in bytes ≡ length taps = heads.number ∙ counts in
    let cut : taps_in layout (length taps) (drop (header layout) bytes) ≡ taps =
    rw heads.trailing (cut-spelled layout taps rest are) in
    let left : drop (width layout * length taps) (drop (header layout) bytes) ≡ rest =
    rw heads.trailing (drop_at (flat_map (spelling layout) taps) rest (width layout * length taps)
    wide) in
    let early : (i : ℕ) → i < length taps
    → num (take 8 (drop (28 + width layout * i) bytes)) < moment_limit = λ i below.
    let Q : List ℕ → Type 0 = λ m. num m < moment_limit in
    let R : List Tap → Type 0 = AllByRecursion IsTap in
    let is = all-cut (width layout) (tap_at layout) IsTap (length taps) i
    (drop (header layout) bytes) below (subst R (sym cut) (are_taps layout taps are)) in
    subst Q (moment-position layout i bytes) is.early in
    let S : Layout → Type 0 =
    λ l. (header l ≤ length bytes) × (header l + width l * count_in bytes ≤ length bytes)
    × ((i : ℕ) → i < length taps → num (take 8 (drop (28 + width l * i) bytes)) < moment_limit)
    × (taps_in l (length taps) (drop (header l) bytes) ≡ taps)
    × (drop (width l * length taps) (drop (header l) bytes) ≡ rest) in
    let size : header layout + width layout * count_in bytes ≤ length bytes =
    rw number (omega (arith, heads.whole, all)) in
    let found = subst S (sym heads.is) (omega (arith, heads.whole), size, early, cut, left) in
    record {
      whole = found.0;
      known = heads.known;
      flags = heads.flags;
      count = number;
      most = most;
      long = found.1;
      early = found.2;
      cut_again = found.3;
      left = found.4;
    }

begins-two : (layout : Layout) (front : List ℕ) (taps : List Tap) (rest bytes : List ℕ)
    (batch : IsBatchIn layout front taps) → bytes ≡ front ++ rest
    → (a b : ℕ) → batch.count ≡ a ∷ b ∷ [] → Begins bytes taps rest
begins-two layout front taps rest bytes batch is a b same =
    let records = flat_map (spelling layout) taps in
    let spelled : front ++ rest ≡ magic layout
    ++ (a ∷ b ∷ 0 ∷ 0 ∷ (shared layout ++ (records ++ rest))) =
    ap (λ (xs : List ℕ). xs ++ rest) (batch.spelled
    ∙ ap (λ (count : List ℕ). magic layout ++ (count ++ (0 ∷ 0 ∷ (shared layout ++ records))))
    same) ∙ simp append_assoc in
    let P : List ℕ → Type 0 = Heads layout (a ∷ b ∷ []) (records ++ rest) in
    let counts : num (a ∷ b ∷ []) ≡ length taps = sym (ap num same) ∙ batch.counts in
    begins-heads layout (a ∷ b ∷ []) taps rest bytes batch.each counts batch.most
    (subst P (sym (is ∙ spelled)) (heads-spelled layout a b (records ++ rest) batch.fits))

-- bytes that begin with a batch of the grammar
pub begins : (layout : Layout) (front : List ℕ) (taps : List Tap) (rest bytes : List ℕ)
    → IsBatchIn layout front taps → bytes ≡ front ++ rest → Begins bytes taps rest
begins layout front taps rest bytes batch is =
    let (a, b, same) = two batch.count batch.wide in
    begins-two layout front taps rest bytes batch is a b same

-- ---- from the table to the grammar
-- a sound header, as the grammar writes it
record IsHeaded (bytes : List ℕ) (layout : Layout) (count more : List ℕ) : Type 0 where
  pub is : layout_in bytes ≡ layout
  pub fits : IsLayout layout
  pub wide : length count ≡ 2
  pub number : count_in bytes ≡ num count
  pub trailing : drop (header layout) bytes ≡ more
  pub spelled : bytes ≡ magic layout ++ (count ++ (0 ∷ 0 ∷ (shared layout ++ more)))

abbrev Headed : List ℕ → Type 0
Headed bytes = (layout : Layout) × (count : List ℕ) × (more : List ℕ)
    × IsHeaded bytes layout count more

header-least : (layout : Layout) → 8 ≤ header layout
header-least Tap1 = omega arith
header-least (Tap2 all) = omega arith

headed_1 : (e f g h : ℕ) (more : List ℕ) (n : ℕ)
    → IsHeader (codes "TAP1" ++ (e ∷ f ∷ g ∷ h ∷ more)) n
    → Headed (codes "TAP1" ++ (e ∷ f ∷ g ∷ h ∷ more))
headed_1 e f g h more n sound =
    let flags : (g * 256 + (h * 1 + 0) ≡ 0) = sound.no_flags in
    let g0 : g ≡ 0 = omega arith in
    let h0 : h ≡ 0 = omega arith in (
      Tap1,
      e ∷ f ∷ [],
      more,
      record {
        is = refl;
        fits = tt;
        wide = refl;
        number = refl;
        trailing = refl;
        spelled = rw (g0, h0) refl;
      },
    )

headed_2 : (e f g h : ℕ) (more : List ℕ) (n : ℕ)
    → IsHeader (codes "TAP2" ++ (e ∷ f ∷ g ∷ h ∷ more)) n
    → Headed (codes "TAP2" ++ (e ∷ f ∷ g ∷ h ∷ more))
headed_2 e f g h more n sound =
    let flags : (g * 256 + (h * 1 + 0) ≡ 0) = sound.no_flags in
    let g0 : g ≡ 0 = omega arith in
    let h0 : h ≡ 0 = omega arith in
    let long : 12 ≤ 8 + length more = omega (arith, sound.whole) in
    let parts : take 4 more ++ drop 4 more ≡ more = take-append-drop 4 more in (
      Tap2 (take 4 more),
      e ∷ f ∷ [],
      drop 4 more,
      record {
        is = refl;
        fits = length-take-le 4 more (omega arith);
        wide = refl;
        number = refl;
        trailing = refl;
        spelled = rw (g0, h0, parts) refl;
      },
    )

headed-known : (bytes : List ℕ) (n : ℕ) → IsHeader bytes n → (e f g h : ℕ) (more : List ℕ)
    → drop 4 bytes ≡ e ∷ f ∷ g ∷ h ∷ more
    → (take 4 bytes ≡ codes "TAP1") ⊎ (take 4 bytes ≡ codes "TAP2") → Headed bytes
headed-known bytes n sound e f g h more tail (inl magic_1) =
    let P : List ℕ → Type 0 = λ xs. IsHeader xs n in
    let is : bytes ≡ codes "TAP1" ++ (e ∷ f ∷ g ∷ h ∷ more) =
    sym (take-append-drop 4 bytes) ∙ rw (magic_1, tail) refl in
    subst Headed (sym is) (headed_1 e f g h more n (subst P is sound))
headed-known bytes n sound e f g h more tail (inr magic_2) =
    let P : List ℕ → Type 0 = λ xs. IsHeader xs n in
    let is : bytes ≡ codes "TAP2" ++ (e ∷ f ∷ g ∷ h ∷ more) =
    sym (take-append-drop 4 bytes) ∙ rw (magic_2, tail) refl in
    subst Headed (sym is) (headed_2 e f g h more n (subst P is sound))

headed : (bytes : List ℕ) (n : ℕ) → IsHeader bytes n → Headed bytes
headed bytes n sound =
    let long : 4 ≤ length (drop 4 bytes) =
    omega (arith, header-least (layout_in bytes), sound.whole, length-drop 4 bytes) in
    let (e, f, g, h, more, tail) = four_more (drop 4 bytes) long in
    headed-known bytes n sound e f g h more tail sound.known

-- measured bytes begin with a batch
abbrev pub BeginsWith : Layout → ℕ → List ℕ → Type 0
BeginsWith layout n bytes =
    (front : List ℕ) × IsBatchIn layout front (taps_in layout n (drop (header layout) bytes))
    × (bytes ≡ front ++ drop (width layout * n) (drop (header layout) bytes))

found_in : (layout : Layout) (count more bytes : List ℕ) (n : ℕ) → IsHeaded bytes layout count more
    → IsMeasured bytes n → BeginsWith layout n bytes
found_in layout count more bytes n head measured =
    let P : Layout → Type 0 = λ l. header l + width l * count_in bytes ≤ length bytes in
    let Q : Layout → Type 0 =
    λ l. ((i : ℕ) → i < n → num (take 8 (drop (28 + width l * i) bytes)) < moment_limit) in
    let size : header layout + width layout * count_in bytes ≤ length bytes =
    subst P head.is measured.whole in
    let early : ((i : ℕ) → i < n
    → num (take 8 (drop (28 + width layout * i) bytes)) < moment_limit) =
    subst Q head.is measured.early in
    let records = drop (header layout) bytes in
    let long : width layout * n ≤ length records =
    rw measured.sound.count (omega (arith, size, length-drop (header layout) bytes)) in
    let each : AllByRecursion (IsTapOf layout) (taps_in layout n records) =
    cut-all layout (IsTapOf layout) n records (λ i below.
    let R : List ℕ → Type 0 = λ m. num m < moment_limit in
    let end : width layout * suc i ≤ width layout * n =
    mul-le-mul_left (width layout) (omega arith) in
    tap_of layout (take (width layout) (drop (width layout * i) records)) head.fits
    (length-take-le (width layout) (drop (width layout * i) records)
    (omega (arith, mul-suc (width layout) i, length-drop (width layout * i) records)))
    (subst R (sym (moment-position layout i bytes)) (early i below))) in
    let front = magic layout
    ++ (count ++ (0 ∷ 0 ∷ (shared layout
    ++ flat_map (spelling layout) (taps_in layout n records)))) in
    let number : length (taps_in layout n records) ≡ n =
    length-cut (width layout) (tap_at layout) n records in
    let again : flat_map (spelling layout) (taps_in layout n records)
    ++ drop (width layout * n) records ≡ more = spelled-cut layout n records long ∙ head.trailing in
    let whole : front ++ drop (width layout * n) records ≡ magic layout
    ++ (count ++ (0 ∷ 0 ∷ (shared layout ++ more))) = simp (append_assoc, again) in (
      front,
      record {
        count = count;
        wide = head.wide;
        counts = sym head.number ∙ sym measured.sound.count ∙ sym number;
        most = omega (arith, measured.sound.most, number);
        fits = head.fits;
        each = each;
        spelled = refl;
      },
      head.spelled ∙ sym whole,
    )

pub found : (bytes : List ℕ) (n : ℕ) → IsMeasured bytes n → BeginsWith (layout_in bytes) n bytes
found bytes n measured = let (layout, count, more, head) = headed bytes n measured.sound in
    let P : Layout → Type 0 = λ l. BeginsWith l n bytes in
    subst P (sym head.is) (found_in layout count more bytes n head measured)

-- ---- what `Batch::first` answers, by the layout that its view has
abbrev records_in : Layout → ℕ → List ℕ → List ℕ
records_in layout n bytes = take (width layout * n) (drop (header layout) bytes)

-- the records that were cut off are all that the taps need
cut-off : (layout : Layout) (n : ℕ) (bytes : List ℕ)
    → header layout + width layout * n ≤ length bytes
    → taps_in layout n (records_in layout n bytes) ≡ taps_in layout n (drop (header layout) bytes)
cut-off layout n bytes long =
    let at = width layout * n in
    let records = drop (header layout) bytes in
    let wide : at ≤ length (take at records) =
    omega (
      arith,
      length-take-le at records
          (omega (arith, length-drop (header layout) bytes)),
    ) in
    sym (cut-append (width layout) (tap_at layout) n (take at records) (drop at records) wide)
    ∙ ap (taps_in layout n) (take-append-drop at records)

module _ (bytes : List ℕ) (n : ℕ) (measured : IsMeasured bytes n) where
  long_enough : header (layout_in bytes) + width (layout_in bytes) * n ≤ length bytes
  long_enough = rw measured.sound.count measured.whole

  pub first-found : (layout : Layout) → layout ≡ layout_in bytes
      → ((front : List ℕ) × IsBatch front
      (taps_in layout n (take (width layout * n) (drop (header (layout_in bytes)) bytes)))
      × (bytes ≡ front ++ drop (width layout * n) (drop (header (layout_in bytes)) bytes)))
  first-found layout is = rw (is, cut-off (layout_in bytes) n bytes long_enough)
      (let (front, batch, whole) = found bytes n measured in
      (front, (layout_in bytes, batch), whole))

  pub first-records : (layout : Layout) → layout ≡ layout_in bytes
      → AreRecords layout n (take (width layout * n) (drop (header (layout_in bytes)) bytes))
  first-records layout is = rw is (let (front, batch, whole) = found bytes n measured in
      let P : List Tap → Type 0 = AllByRecursion IsTap in
      record {
        fits = batch.fits;
        whole = length-take-le _ _
            (omega (arith, long_enough, length-drop (header (layout_in bytes)) bytes));
        most = measured.sound.most;
        each = subst P (sym (cut-off (layout_in bytes) n bytes long_enough))
            (are_taps (layout_in bytes) _ batch.each);
      })

  pub first-only : (layout : Layout) → layout ≡ layout_in bytes
      → (front rest : List ℕ) (taps : List Tap) → IsBatch front taps → bytes ≡ front ++ rest
      → (taps_in layout n (take (width layout * n) (drop (header (layout_in bytes)) bytes)) ≡ taps)
      × (drop (width layout * n) (drop (header (layout_in bytes)) bytes) ≡ rest)
  first-only layout is front rest taps batch whole =
      let begin = begins batch.0 front taps rest bytes batch.1 whole in
      let same : n ≡ length taps = measured.sound.count ∙ begin.count in
      rw (is, cut-off (layout_in bytes) n bytes long_enough, same) (begin.cut_again, begin.left)

-- at a place with a batch, no row of the table holds
pub no_row : (bytes : List ℕ) (taps : List Tap) (rest : List ℕ) (fault : LayoutFault)
    → Begins bytes taps rest → ¬ (Row fault bytes)
no_row bytes taps rest (Short have) begin row = absurd (omega (arith, begin.whole, row.1))
no_row bytes taps rest Magic begin row =
    elim (begin.known) [ inl is ↦ row.0 is | inr is ↦ row.1 is ]
no_row bytes taps rest Flags begin row = row begin.flags
no_row bytes taps rest (TooMany count) begin row =
    absurd (omega (arith, begin.most, begin.count, row.0, row.1))
no_row bytes taps rest (Length want have) begin row =
    absurd (omega (arith, begin.long, row.0, row.1, row.2))
no_row bytes taps rest (Moment index) begin row =
    absurd (omega (arith, begin.early index (omega (arith, begin.count, row.0)), row.1))

-- measured bytes have no fault
pub measured-no_row : (bytes : List ℕ) (n : ℕ) (fault : LayoutFault) → IsMeasured bytes n
    → ¬ (Row fault bytes)
measured-no_row bytes n fault measured =
    let (front, batch, whole) = found bytes n measured in
    no_row bytes _ _ fault (begins (layout_in bytes) front _ _ bytes batch whole)
