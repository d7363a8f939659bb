-- The ledger of books is that of a history with the same entries of each token.
use Rattle.std.proofs.Common.{◌≡◌, ℕ, List, Option, Some, None, map, refl, ◌∙◌}
use Rattle.fare_service.specs.{Ledger.IsLedgerOfBooks, Outcomes.OutcomeView}
use Rattle.fare_texts.proofs.ByToken.{each_same}
use Rattle.fare_texts.specs.Ledger.{IsLedgerOver, ledger_tokens}
use Rattle.histories.proofs.IncreasingLemmas.{increasing-is, increasing-only}
use Rattle.histories.proofs.SameEntries.{same_entries}
use Rattle.histories.specs.{Entry.own, Increasing.increasing, SumsByKey.token_of, SumsByKey.tokens}
use Rattle.histories.specs.declared.entry.Entry.{Entry}
use Rattle.shard_book.specs.Book.{Book, all_entries}
use Rattle.std.proofs.lemmas.List.Sorted.{IsPermutation-map, list_any-IsPermutation}
use Rattle.std.specs.{Ordering.eq_by_cmp, Prelude.slice_get}
use Rattle.tap_views.proofs.TokenLemmas.{token_cmp-total, token_cmp-ties}
use Rattle.tap_views.specs.{Token.token_cmp, declared.token.Token.Token}
use Rattle.tariffs.specs.Fares.{Fares}

same_tokens : (entries others : List Entry)
    → ((token : Token) → own token entries ≡ own token others) → tokens entries ≡ tokens others
unfolding tokens
same_tokens entries others same =
    let is = increasing-is token_cmp-total token_cmp-ties (map token_of entries) in
    let moved = IsPermutation-map token_of entries others (same_entries entries others same) in
    increasing-only token_cmp-total token_cmp-ties (map token_of others)
    (increasing token_cmp (map token_of entries)) (record {
      increases = is.increases;
      same = λ key. is.same key
          ∙ list_any-IsPermutation (eq_by_cmp token_cmp key) (map token_of entries)
          (map token_of others) moved;
    })

same_reported : (entries others : List Entry)
    → ((token : Token) → own token entries ≡ own token others)
    → (only : Option Token)
    → ledger_tokens only entries ≡ ledger_tokens only others
same_reported entries others same None = same_tokens entries others same
same_reported entries others same (Some token) = refl

pub ledger_same : (fares : Fares) (outcome : OutcomeView) (history : List Entry)
    (only : Option Token) (text : List ℕ)
    → ((token : Token) → own token (all_entries outcome.books) ≡ own token history)
    → ((book : Book) → slice_get outcome.books 0 ≡ Some book → book.table ≡ fares)
    → IsLedgerOfBooks outcome.books only text → IsLedgerOver fares history only text
ledger_same fares outcome history only text same table is =
    let all = all_entries outcome.books in
    let over : IsLedgerOver fares all only text = rw (table is.first is.holds_first) at is.over in
    record {
      lines = over.lines;
      of_each = rw (← same_reported all history same only)
          (each_same fares all history (ledger_tokens only all) over.lines same over.of_each);
      whole = over.whole;
    }
