-- The entries of several books, their sums and their tallies.
use Rattle.std.proofs.Common.{◌≡◌, ℕ, ◌+◌, ◌*◌, ◌<◌, ◌≤◌, ◌^◌, Bool, List, [], ◌∷◌, ◌++◌, length}
use Rattle.std.proofs.Common.{map, take, get_or, None, sym, ap, subst, ◌∙◌, arith, Ordering}
use Rattle.histories.specs.{Increasing.increasing, Shown.validator_sum, Sums.Sums, SumsBy.sums_by}
use Rattle.histories.specs.SumsByKey.{sums_by_validator, validators}
use Rattle.histories.specs.TalliesByKey.{AreTallied, HaveRoom, Tallies}
use Rattle.histories.specs.declared.{entry.Entry.Entry, sums.ValidatorSum.ValidatorSum}
use Rattle.shard_book.specs.Book.{Book, all_entries}
use Rattle.std.proofs.lemmas.Grind.{flat_map-append}
use Rattle.std.proofs.lemmas.List.{length-append, take_more, append-nil}
use Rattle.std.specs.List.{slice_get}

-- all entries of one book more
pub all-more : (books : List Book) (i : ℕ) (blank : Book) → i < length books
    → all_entries (take (i + 1) books)
    ≡ all_entries (take i books) ++ (get_or books i blank).entries
all-more books i blank within =
    ap all_entries (take_more books i blank within)
    ∙ flat_map-append (λ (book : Book). book.entries) (take i books) (get_or books i blank ∷ [])
    ∙ ap (λ (es : List Entry). all_entries (take i books) ++ es)
    (append-nil (get_or books i blank).entries)

-- no books have no sums
pub sums_by-none : {K Y : Type 0} (cmp : K → K → Ordering) (eq : K → K → Bool) (key_of : Entry → K)
    (shown : Y → K × Sums) (books : List Book) (items : List Y) → items ≡ []
    → None ≡ slice_get books 0 → map shown items ≡ sums_by cmp eq key_of (all_entries books)
unfolding sums_by increasing
sums_by-none cmp eq key_of shown [] items none first = ap (map shown) none
sums_by-none cmp eq key_of shown (book ∷ books) items none first = absurd (cc)

pub validators-none : (books : List Book) (items : List ValidatorSum) → items ≡ []
    → None ≡ slice_get books 0 → map validator_sum items ≡ sums_by_validator (all_entries books)
unfolding sums_by_validator validators increasing
validators-none [] items none first = ap (map validator_sum) none
validators-none (book ∷ books) items none first = absurd (cc)

-- there is room for the tallies of two parts of the books
pub parts-room : (books front back : List Book) (first more : Tallies) → length books ≤ 64
    → books ≡ front ++ back
    → length (all_entries front) ≤ length front * 2 ^ 64
    → length (all_entries back) ≤ length back * 2 ^ 64
    → AreTallied (all_entries front) first → AreTallied (all_entries back) more
    → HaveRoom first more
unfolding HaveRoom
parts-room books front back first more few parts few_front few_back tallied tallied_more =
    let all : length books ≡ length front + length back =
    ap length parts ∙ length-append front back in (
      all_entries front,
      all_entries back,
      tallied,
      tallied_more,
      omega (arith, few, all, few_front, few_back),
    )

-- the tallies of both parts are those of the books
pub parts-tallied : (books front back : List Book) (now : Tallies) → books ≡ front ++ back
    → AreTallied (all_entries front ++ all_entries back) now → AreTallied (all_entries books) now
parts-tallied books front back now parts tallied =
    subst (λ (entries : List Entry). AreTallied entries now)
    (sym (ap all_entries parts ∙ flat_map-append (λ (book : Book). book.entries) front back))
    tallied

-- so few entries have the books as their parts have
pub parts-few : (books front back : List Book) → books ≡ front ++ back
    → length (all_entries front) ≤ length front * 2 ^ 64
    → length (all_entries back) ≤ length back * 2 ^ 64
    → length (all_entries books) ≤ length books * 2 ^ 64
parts-few books front back parts few_front few_back =
    let all : length books ≡ length front + length back =
    ap length parts ∙ length-append front back in
    let both : length (all_entries books) ≡ length (all_entries front) + length (all_entries back) =
    ap length (ap all_entries parts ∙ flat_map-append (λ (book : Book). book.entries) front back)
    ∙ length-append (all_entries front) (all_entries back) in
    omega (arith, all, both, few_front, few_back)
