-- Which of the tables that follow one another is valid at a moment.
use Rattle.std.proofs.Common.{◌≡◌, ◌<◌, ◌≤◌, ℕ, zero, suc, Bool, true, false, cond, List, [], ◌∷◌}
use Rattle.std.proofs.Common.{Option, Some, None, All, refl, sym, ap, ◌∙◌, arith, string_bytes, map}
use Rattle.std.proofs.Common.{◌&&◌, String, Global, get_or, length}
use Rattle.std.proofs.lemmas.Bool.{true≢false, leb-true}
use Rattle.std.specs.Cmp.Lexicographic.{bytes_decides, pointwise, pointwise_decides}
use Rattle.std.specs.{Prelude.nat_le, Prelude.slice_get, String.string_eq}
use Rattle.tariffs.specs.Fares.{Fares, meaning_at, valid_at}
use Rattle.tariffs.specs.{Names.same_name, TableMeaning.TableMeaning}
use Rattle.tariffs.specs.{declared.table.DatedTariff.DatedTariff, inside.Table.HasModes}
use Rattle.tariffs.specs.inside.Table.{started, dated_meaning, first_from, same_names, same_zone}

-- before the first date the first table is valid
pub valid-before : (meaning : TableMeaning) (later : List (ℕ × TableMeaning)) (moment : ℕ)
    → moment < first_from later → valid_at meaning later moment ≡ meaning
unfolding valid_at
valid-before meaning [] moment before = refl
valid-before meaning (next ∷ later) moment before =
    by (nat_le next.0 moment) refl
  where
    by : (b : Bool) → nat_le next.0 moment ≡ b
        → cond b (valid_at next.1 later moment) meaning ≡ meaning
    by true is = let no = leb-true next.0 moment is in absurd (omega arith)
    by false is = refl

-- the table behind some of those that follow
abbrev pub nth_valid : TableMeaning → List (ℕ × TableMeaning) → ℕ → TableMeaning
nth_valid meaning later zero = meaning
nth_valid meaning [] (suc position) = meaning
nth_valid meaning (next ∷ later) (suc position) = nth_valid next.1 later position

started_one : (meaning : TableMeaning) (next : ℕ × TableMeaning) (later : List (ℕ × TableMeaning))
    (moment : ℕ) (b : Bool)
    → valid_at next.1 later moment ≡ nth_valid next.1 later (started moment later)
    → cond b (valid_at next.1 later moment) meaning
    ≡ nth_valid meaning (next ∷ later) (cond b (suc (started moment later)) 0)
started_one meaning next later moment true is = is
started_one meaning next later moment false is = refl

pub valid-started : (meaning : TableMeaning) (later : List (ℕ × TableMeaning)) (moment : ℕ)
    → valid_at meaning later moment ≡ nth_valid meaning later (started moment later)
unfolding valid_at
valid-started meaning [] moment = refl
valid-started meaning (next ∷ later) moment =
    started_one meaning next later moment (nat_le next.0 moment) (valid-started next.1 later moment)

-- the table at a place is the one behind it
pub nth-get : (meaning : TableMeaning) (later : List (ℕ × TableMeaning)) (position : ℕ)
    (next : ℕ × TableMeaning)
    → slice_get later position ≡ Some next → nth_valid meaning later (suc position) ≡ next.1
nth-get meaning [] position next is = absurd (cc)
nth-get meaning (one ∷ later) zero next is = let same : one ≡ next = cc in ap (λ n. n.1) same
nth-get meaning (one ∷ later) (suc position) next is = nth-get one.1 later position next is

-- what a tariff says that stands at a place stands there among what all say
pub got : (items : List DatedTariff) (position : ℕ) (item : DatedTariff) → position < length items
    → item ≡ get_or items position item
    → slice_get (map dated_meaning items) position ≡ Some (dated_meaning item)
got [] position item below is = absurd (omega arith)
got (one ∷ items) zero item below is = ap (λ d. Some (dated_meaning d)) (sym is)
got (one ∷ items) (suc position) item below is = got items position item (omega arith) is

-- if the same number of those that follow have begun, one table is valid
pub valid-same : (fares : Fares) (earlier moment : ℕ)
    → started earlier fares.later ≡ started moment fares.later
    → meaning_at fares earlier ≡ meaning_at fares moment
unfolding meaning_at
valid-same fares earlier moment same =
    valid-started fares.meaning fares.later earlier
    ∙ ap (nth_valid fares.meaning fares.later) same
    ∙ sym (valid-started fares.meaning fares.later moment)

-- before the first date the first table is valid, also at each earlier moment
pub first_valid : (fares : Fares) (earlier moment : ℕ) → earlier ≤ moment
    → moment < first_from fares.later → meaning_at fares earlier ≡ fares.meaning
unfolding meaning_at
first_valid fares earlier moment order before =
    valid-before fares.meaning fares.later earlier (omega arith)

modes_one : (modes : List (List ℕ)) (valid meaning : TableMeaning) (b : Bool)
    → valid.modes ≡ modes → meaning.modes ≡ modes → (cond b valid meaning).modes ≡ modes
modes_one modes valid meaning true is first = is
modes_one modes valid meaning false is first = first

-- all tables have the modes of the first one
pub valid-modes : (modes : List (List ℕ)) (meaning : TableMeaning)
    (later : List (ℕ × TableMeaning)) (moment : ℕ)
    → meaning.modes ≡ modes → All (HasModes modes) later
    → (valid_at meaning later moment).modes ≡ modes
unfolding valid_at
valid-modes modes meaning [] moment first alike = first
valid-modes modes meaning (next ∷ later) moment first alike =
    modes_one modes (valid_at next.1 later moment) meaning (nat_le next.0 moment)
    (valid-modes modes next.1 later moment (alike 0 next (omega arith))
    (λ k d below. alike (suc k) d (omega arith))) first

pub meaning-modes : (fares : Fares) (moment : ℕ) → All (HasModes fares.meaning.modes) fares.later
    → (meaning_at fares moment).modes ≡ fares.meaning.modes
unfolding meaning_at
meaning-modes fares moment alike =
    valid-modes fares.meaning.modes fares.meaning fares.later moment refl alike

-- texts that are compared one by one are compared by their bytes
pub names-mapped : (names others : List (String Global))
    → pointwise string_eq names others
    ≡ pointwise same_name (map string_bytes names) (map string_bytes others)
names-mapped [] [] = refl
names-mapped [] (other ∷ others) = refl
names-mapped (name ∷ names) [] = refl
names-mapped (name ∷ names) (other ∷ others) =
    ap (λ (b : Bool). same_name (string_bytes name) (string_bytes other) && b)
    (names-mapped names others)

-- names that are the same one by one are the same list
pub names-same : (names others : List (List ℕ)) → same_names names others ≡ true → others ≡ names
names-same names others same = sym ((pointwise_decides bytes_decides names others).0 same)

pub names-other : (names others : List (List ℕ)) → same_names names others ≡ false
    → others ≡ names → ⊥
names-other names others other same =
    true≢false (sym ((pointwise_decides bytes_decides names others).1 (sym same)) ∙ other)

-- the same of zones
pub zones-same : (text other : Option (List ℕ)) → same_zone text other ≡ true → other ≡ text
zones-same None None same = refl
zones-same None (Some other) same = absurd (true≢false (sym same))
zones-same (Some text) None same = absurd (true≢false (sym same))
zones-same (Some text) (Some other) same =
    ap (λ t. Some t) (sym ((bytes_decides text other).0 same))
