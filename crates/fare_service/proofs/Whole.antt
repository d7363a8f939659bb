-- The whole ledger: its head line and the lines of each token.
use Rattle.std.proofs.Common.{◌≡◌, ℕ, List, [], ◌++◌, Some, None, ap, subst}
use Rattle.fare_service.specs.Ledger.{IsLedgerOfBooks}
use Rattle.fare_texts.proofs.ByToken.{every_token}
use Rattle.fare_texts.specs.{ByToken.IsByToken, Ledger.AreLinesOfEach, LedgerLines.head_text}
use Rattle.fare_texts.specs.Lines.{AreLinesAlong}
use Rattle.histories.specs.{SumsByKey.tokens, declared.entry.Entry.Entry}
use Rattle.shard_book.specs.Book.{Book, all_entries}
use Rattle.std.specs.Prelude.{slice_get}
use Rattle.tariffs.specs.Fares.{Fares}

pub ledger_of_all : (books : List Book) (first : Book) (fares : Fares) (list : List Entry)
    (head lines : List ℕ) → slice_get books 0 ≡ Some first → fares ≡ first.table
    → IsByToken (all_entries books) list → AreLinesAlong fares [] list lines → head ≡ head_text
    → IsLedgerOfBooks books None (head ++ lines)
ledger_of_all books first fares list head lines there table by_token along is_head =
    let all = all_entries books in
    record {
      first = first;
      holds_first = there;
      over = record {
        lines = lines;
        of_each = subst (λ (f : Fares). AreLinesOfEach f all (tokens all) lines) table
            (every_token fares all list lines by_token along);
        whole = ap (λ h. h ++ lines) is_head;
      };
    }
