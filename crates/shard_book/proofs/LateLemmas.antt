-- Taps that came after a tap of their token that is as late or later.
use Rattle.std.proofs.Common.{◌≡◌, ℕ, ◌+◌, ◌<◌, ◌&&◌, ◌||◌, Bool, true, false, not, cond}
use Rattle.std.proofs.Common.{List, [], ◌∷◌, ◌++◌, Some, length, take, drop, get_or, refl}
use Rattle.std.proofs.Common.{sym, ap, subst, ◌∙◌, arith, eq-eqb}
use Rattle.histories.specs.{Sums.is_stale, declared.entry.Entry.Entry}
use Rattle.shard_book.proofs.{BookSums.all-more, HistoryLemmas.grown-read}
use Rattle.shard_book.specs.{Book.Book, Book.all_entries, Late.is_late, Late.late_after}
use Rattle.shard_book.specs.{Late.late_taps, declared.late.TapKey.TapKey, inside.Late.AreLeft}
use Rattle.shard_book.specs.inside.Late.{AreStale, IsTaken, has_stale, has_tap, key_eq, key_of}
use Rattle.std.proofs.{Math.Nat.zero-add, lemmas.Grind.flat_map-append}
use Rattle.std.proofs.lemmas.List.{append_assoc, append-nil, take-append-drop}
use Rattle.std.proofs.lemmas.List.Folds.{list_any-append, list_any_at}
use Rattle.std.proofs.lemmas.Option.{slice_get_within, get_or_from_slice_get}
use Rattle.std.specs.{List.list_any, List.slice_get, Prelude.if◌then◌else◌}
use Rattle.tap_views.proofs.Lists.{take_next}

-- ---- tests
put : (a b s x : Bool) → s ≡ true → x ≡ b → cond a true x ≡ (b || ((s && a) || false))
put true true s x stale same = refl
put true false true x stale same = refl
put true false false x stale same = absurd (cc)
put false true s x stale same = same
put false false true x stale same = same
put false false false x stale same = same

skipped : (a b s x : Bool) → s ≡ false → x ≡ b → x ≡ (b || ((s && a) || false))
skipped a true s x fresh same = same
skipped a false true x fresh same = absurd (cc)
skipped a false false x fresh same = same

taken : (a s t x : Bool) → x ≡ (s && not t) → cond a false x ≡ (s && not (t || (a || false)))
taken true true true x same = refl
taken true true false x same = refl
taken true false t x same = refl
taken false s true x same = same
taken false s false x same = same

or_middle : (a b c : Bool) → b ≡ true → ((a || b) || c) ≡ true
or_middle true b c holds = refl
or_middle false true c holds = refl
or_middle false false c holds = absurd (cc)

and_two : {a b : Bool} → a ≡ true → b ≡ true → (a && b) ≡ true
and_two {a} {b} p q = cc

-- whether it is late, from whether it is the first of a stale tap
late_by : (stale seen among first : Bool) → (stale ≡ true → among ≡ true)
    → first ≡ (among && not seen) → (stale && not seen) ≡ (first && stale)
late_by false seen among true is kept = refl
late_by false seen among false is kept = refl
late_by true true true true is kept = absurd (cc)
late_by true true true false is kept = refl
late_by true false true true is kept = refl
late_by true false true false is kept = absurd (cc)
late_by true seen false first is kept = absurd (let no : false ≡ true = is refl in cc)

-- ---- keys
key-same : (entry : Entry) → key_eq (key_of entry) (key_of entry) ≡ true
key-same entry =
    and_two
    (and_two (eq-eqb entry.token.high entry.token.high refl)
    (eq-eqb entry.token.low entry.token.low refl))
    (and_two (eq-eqb entry.moment entry.moment refl)
    (eq-eqb entry.validator entry.validator refl))

-- ---- sets of stale taps
pub stale-more : (before : List Entry) (entry : Entry) (old new : List TapKey)
    → is_stale entry.answer ≡ true → AreStale before old
    → ((key : TapKey) → list_any (key_eq key) new
    ≡ cond (key_eq (key_of entry) key) true (list_any (key_eq key) old))
    → AreStale (before ++ entry ∷ []) new
stale-more before entry old new stale kept added = λ key.
    added key
    ∙ put (key_eq (key_of entry) key) (has_stale before key) (is_stale entry.answer)
    (list_any (key_eq key) old) stale (kept key)
    ∙ sym (list_any-append (λ (e : Entry). is_stale e.answer && key_eq (key_of e) key) before
    (entry ∷ []))

pub stale-same : (before : List Entry) (entry : Entry) (keys : List TapKey)
    → is_stale entry.answer ≡ false → AreStale before keys → AreStale (before ++ entry ∷ []) keys
stale-same before entry keys fresh kept = λ key.
    skipped (key_eq (key_of entry) key) (has_stale before key) (is_stale entry.answer)
    (list_any (key_eq key) keys) fresh (kept key)
    ∙ sym (list_any-append (λ (e : Entry). is_stale e.answer && key_eq (key_of e) key) before
    (entry ∷ []))

-- what is left of them
left-more : (history before : List Entry) (entry : Entry) (old new : List TapKey)
    → AreLeft history before old → IsTaken (key_of entry) old new
    → AreLeft history (before ++ entry ∷ []) new
left-more history before entry old new kept gone = λ key.
    gone key
    ∙ taken (key_eq (key_of entry) key) (has_stale history key) (has_tap before key)
    (list_any (key_eq key) old) (kept key)
    ∙ ap (λ (b : Bool). has_stale history key && not b)
    (sym (list_any-append (λ (e : Entry). key_eq (key_of e) key) before (entry ∷ [])))

-- a stale entry of a history is among its stale taps
stale-among : (before entries after : List Entry) (i : ℕ) (entry : Entry)
    → slice_get entries i ≡ Some entry → is_stale entry.answer ≡ true
    → has_stale (before ++ entries ++ after) (key_of entry) ≡ true
stale-among before entries after i entry at stale =
    let test = λ (e : Entry). is_stale e.answer && key_eq (key_of e) (key_of entry) in
    let here : test entry ≡ true = and_two stale (key-same entry) in
    let among : list_any test entries ≡ true =
    list_any_at test entries i entry (slice_get_within entries i entry at)
    (subst (λ (e : Entry). test e ≡ true) (sym (get_or_from_slice_get entries i entry entry at))
    here) in
    list_any-append test (before ++ entries) after
    ∙ ap (λ (b : Bool). b || list_any test after) (list_any-append test before entries)
    ∙ or_middle (list_any test before) (list_any test entries) (list_any test after) among

-- ---- counts
late_after-append : (before xs ys : List Entry)
    → late_after before (xs ++ ys) ≡ late_after before xs + late_after (before ++ xs) ys
late_after-append before [] ys =
    ap (λ (es : List Entry). late_after es ys) (sym (append-nil before))
    ∙ sym (zero-add (late_after (before ++ []) ys))
late_after-append before (x ∷ xs) ys =
    let more = late_after-append (before ++ x ∷ []) xs ys in
    let same : late_after ((before ++ x ∷ []) ++ xs) ys ≡ late_after (before ++ x ∷ xs) ys =
    ap (λ (es : List Entry). late_after es ys) (append_assoc before (x ∷ []) xs) in
    omega arith

-- one entry more
pub count-more : (before entries after : List Entry) (i : ℕ) (entry : Entry)
    (old new : List TapKey) (late : Bool) → slice_get entries i ≡ Some entry
    → AreLeft (before ++ entries ++ after) (before ++ take i entries) old
    → late ≡ (list_any (key_eq (key_of entry)) old && is_stale entry.answer)
    → IsTaken (key_of entry) old new
    → AreLeft (before ++ entries ++ after) (before ++ take (i + 1) entries) new
    × (late_after before (take (i + 1) entries)
    ≡ late_after before (take i entries) + (if late then 1 else 0))
count-more before entries after i entry old new late at kept is gone =
    let front = before ++ take i entries in
    let reported : is_late front entry ≡ late =
    late_by (is_stale entry.answer) (has_tap front (key_of entry))
    (has_stale (before ++ entries ++ after) (key_of entry))
    (list_any (key_eq (key_of entry)) old)
    (stale-among before entries after i entry at) (kept (key_of entry))
    ∙ sym is in
    let one : late_after front (entry ∷ []) ≡ (if late then 1 else 0) =
    let none : late_after front (entry ∷ []) ≡ (if is_late front entry then 1 else 0) =
    omega arith in
    none ∙ ap (λ (b : Bool). if b then 1 else 0) reported in
    let more = late_after-append before (take i entries) (entry ∷ []) in
    let next : late_after before (take (i + 1) entries)
    ≡ late_after before (take i entries ++ entry ∷ []) =
    ap (late_after before) (sym (take_next entries i entry at)) in (
      subst (λ (es : List Entry). AreLeft (before ++ entries ++ after) es new)
          (grown-read before entries i entry at)
          (left-more (before ++ entries ++ after) front entry old new kept gone),
      omega arith,
    )

-- one book more
pub books-split : (books : List Book) (i : ℕ) (blank : Book) → i < length books
    → all_entries books
    ≡ all_entries (take i books) ++ (get_or books i blank).entries
    ++ all_entries (drop (i + 1) books)
books-split books i blank within =
    ap all_entries (sym (take-append-drop (i + 1) books))
    ∙ flat_map-append (λ (book : Book). book.entries) (take (i + 1) books) (drop (i + 1) books)
    ∙ ap (λ (es : List Entry). es ++ all_entries (drop (i + 1) books))
    (all-more books i blank within)

pub late-more : (books : List Book) (i count total : ℕ) (blank book : Book)
    (old new : List TapKey) → i < length books → book ≡ get_or books i blank
    → AreLeft (all_entries books) (all_entries (take i books)) old
    → count ≡ late_taps (all_entries (take i books))
    → ((before after : List Entry) → AreLeft (before ++ book.entries ++ after) before old
    → AreLeft (before ++ book.entries ++ after) (before ++ book.entries) new
    × (total ≡ count + late_after before book.entries))
    → AreLeft (all_entries books) (all_entries (take (i + 1) books)) new
    × (total ≡ late_taps (all_entries (take (i + 1) books)))
late-more books i count total blank book old new within is kept counted step =
    let before = all_entries (take i books) in
    let after = all_entries (drop (i + 1) books) in
    let split : all_entries books ≡ before ++ book.entries ++ after =
    books-split books i blank within
    ∙ ap (λ (b : Book). before ++ b.entries ++ after) (sym is) in
    let grown : all_entries (take (i + 1) books) ≡ before ++ book.entries =
    all-more books i blank within ∙ ap (λ (b : Book). before ++ b.entries) (sym is) in
    let here = step before after
    (subst (λ (es : List Entry). AreLeft es before old) split kept) in
    let sums : late_taps (before ++ book.entries)
    ≡ late_taps before + late_after before book.entries =
    late_after-append [] before book.entries in
    let whole : late_taps (all_entries (take (i + 1) books)) ≡ late_taps (before ++ book.entries) =
    ap late_taps grown in
    let total_is : total ≡ count + late_after before book.entries = here.1 in (
      subst (λ (es : List Entry). AreLeft (all_entries books) es new) (sym grown)
          (subst (λ (es : List Entry). AreLeft es (before ++ book.entries) new) (sym split) here.0),
      omega arith,
    )
