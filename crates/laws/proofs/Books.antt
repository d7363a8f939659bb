-- The entries of all books: a token has its own in one of them.
use Rattle.std.proofs.Common.{◌≡◌, ◌≢◌, ℕ, ◌+◌, ◌<◌, ◌≤◌, ◌^◌, true, false, List, [], ◌∷◌, ◌++◌}
use Rattle.std.proofs.Common.{length, refl, sym, ap, subst, ◌∙◌, append-nil, arith, zero, suc}
use Rattle.std.proofs.Common.{Option, Some, ⊎_elim, inl, inr}
use Rattle.fare_service.specs.Ledger.{IsLedgerOfBooks as IsWrittenOf}
use Rattle.fare_texts.specs.Ledger.{IsLedgerOver}
use Rattle.histories.proofs.OwnEntries.{own_other, own_none, own-append}
use Rattle.histories.specs.{Entry.is_of, Entry.own, History.IsLegal, declared.entry.Entry.Entry}
use Rattle.laws.proofs.{LedgerTokens.written_is_read, Owned.own_is_legal}
use Rattle.laws.specs.Written.{AreBooksOf, AreShort, CanBePrinted, HasLetterNames, reported_entries}
use Rattle.ledger_check.specs.Ledger.{IsLedgerOf, IsPostable}
use Rattle.shard_book.specs.Book.{AreOfShard, Book, all_entries}
use Rattle.std.proofs.lemmas.Bool.{cases_Bool}
use Rattle.std.specs.{List.AllByRecursion, Prelude.slice_get, Prelude.slice_index_or, Prelude.◌⊎◌}
use Rattle.tap_views.proofs.TokenLemmas.{same_token}
use Rattle.tap_views.specs.{Shards.shard_of_token, Token.bytes_of, declared.token.Token.Token}
use Rattle.tariffs.specs.Fares.{Fares}

same_or_not : (a b : ℕ) → (a ≡ b) ⊎ (a ≢ b)
same_or_not zero zero = inl refl
same_or_not zero (suc b) = inr (λ is. absurd (omega arith))
same_or_not (suc a) zero = inr (λ is. absurd (omega arith))
same_or_not (suc a) (suc b) =
    ⊎_elim (λ same. inl (ap (λ (n : ℕ). suc n) same)) (λ (other : a ≢ b). inr (λ is. other (cc)))
    (same_or_not a b)

-- entries of another shard than the token's are not its own
own_elsewhere : (token : Token) (shard shards : ℕ) (entries : List Entry)
    → ((k : ℕ) (d : Entry) → k < length entries
    → shard_of_token (bytes_of (slice_index_or entries k d).token) shards ≡ shard)
    → shard_of_token (bytes_of token) shards ≢ shard → own token entries ≡ []
own_elsewhere token shard shards [] here apart = own_none token
own_elsewhere token shard shards (entry ∷ entries) here apart =
    ⊎_elim
    (λ (is : is_of token entry ≡ true).
    absurd (apart
    (sym (ap (λ (t : Token). shard_of_token (bytes_of t) shards) (same_token entry.token token is))
    ∙ here 0 entry (omega arith))))
    (λ (other : is_of token entry ≡ false).
    own_other token entry entries other
    ∙ own_elsewhere token shard shards entries (λ k d within. here (suc k) d (omega arith)) apart)
    (cases_Bool (is_of token entry))

-- books of the shards from this one on
abbrev BooksFrom : Fares → ℕ → ℕ → List Book → Type 0
BooksFrom fares shards first books =
    (k : ℕ) (book : Book) → slice_get books k ≡ Some book
    → AreOfShard (first + k) shards book.entries × IsLegal fares book.entries

rest_of : (fares : Fares) (shards first : ℕ) (book : Book) (books : List Book)
    → BooksFrom fares shards first (book ∷ books) → BooksFrom fares shards (suc first) books
rest_of fares shards first book books each k other is =
    let next : first + suc k ≡ suc first + k = omega arith in
    let got = each (suc k) other is in
    (subst (λ (shard : ℕ). AreOfShard shard shards other.entries) next got.0, got.1)

module _ (fares : Fares) (shards : ℕ) (token : Token) where
  abbrev mine : ℕ
  mine = shard_of_token (bytes_of token) shards

  none_from : (first : ℕ) (books : List Book) → mine < first → BooksFrom fares shards first books
      → own token (all_entries books) ≡ []
  none_from first [] below each = own_none token
  none_from first (book ∷ books) below each =
      let here = (each 0 book refl).0 in
      own-append token book.entries (all_entries books)
      ∙ ap (λ (es : List Entry). es ++ own token (all_entries books))
      (own_elsewhere token (first + 0) shards book.entries here.each
      (λ (is : mine ≡ first + 0). absurd (omega (arith, is, below))))
      ∙ none_from (suc first) books (omega arith) (rest_of fares shards first book books each)

  empty_legal : IsLegal fares []
  empty_legal = record { each = λ before entry after is. absurd (none before entry after is) }
    where
      none : (before : List Entry) (entry : Entry) (after : List Entry)
          → [] ≡ before ++ entry ∷ after → ⊥
      none [] entry after is = cc
      none (b ∷ before) entry after is = cc

  legal_from : (first : ℕ) (books : List Book) → BooksFrom fares shards first books
      → IsLegal fares (own token (all_entries books))
  legal_from first [] each = subst (IsLegal fares) (sym (own_none token)) empty_legal
  legal_from first (book ∷ books) each =
      let here = each 0 book refl in
      let rest = rest_of fares shards first book books each in
      let both = own-append token book.entries (all_entries books) in
      ⊎_elim
      (λ (is : mine ≡ first).
      let none = none_from (suc first) books (omega arith) rest in
      subst (IsLegal fares)
      (sym (both ∙ ap (λ (es : List Entry). own token book.entries ++ es) none
      ∙ append-nil (own token book.entries)))
      (own_is_legal fares book.entries token here.1))
      (λ (other : mine ≢ first).
      let away : mine ≢ first + 0 = λ is. other (is ∙ omega arith) in
      let none = own_elsewhere token (first + 0) shards book.entries here.0.each away in
      subst (IsLegal fares)
      (sym (both ∙ ap (λ (es : List Entry). es ++ own token (all_entries books)) none))
      (legal_from (suc first) books rest))
      (same_or_not mine first)

from_none : (fares : Fares) (shards : ℕ) (books : List Book) → AreBooksOf fares shards books
    → BooksFrom fares shards 0 books
from_none fares shards books each k book is =
    let got = each k book is in
    let same : k ≡ 0 + k = omega arith in
    (subst (λ (shard : ℕ). AreOfShard shard shards book.entries) same got.1, got.2)

pub books_are_read : (fares : Fares) (shards : ℕ) (books : List Book) (only : Option Token)
    (text : List ℕ) → AreBooksOf fares shards books
    → AllByRecursion IsPostable (all_entries books) → HasLetterNames fares
    → length (reported_entries only (all_entries books)) ≤ 2 ^ 62
    → AreShort text → IsWrittenOf books only text
    → IsLedgerOf fares (reported_entries only (all_entries books)) text
books_are_read fares shards books only text each postable names few short written =
    let table : written.first.table ≡ fares = (each 0 written.first written.holds_first).0 in
    let can : CanBePrinted fares only (all_entries books) = record {
      legal = λ token. legal_from fares shards token 0 books (from_none fares shards books each);
      postable = postable;
      names = names;
      few = few;
    } in
    written_is_read fares only (all_entries books) text can short
    (subst (λ (f : Fares). IsLedgerOver f (all_entries books) only text) table written.over)
