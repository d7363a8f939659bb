-- The plain history of uploads is there, and there is one; and what laws on it stand on.
use Rattle.std.proofs.Common.{sym, ◌∙◌, ap, subst, arith, get_or, mod-lt}
use Rattle.fare_caps.specs.{CapMeanings.capped_rules_of, CappedReplies.capped_window}
use Rattle.fare_service.proofs.{GatheredWork.Given, PlainBooks.Represents, PlainBooks.own_plain}
use Rattle.fare_service.specs.{Outcomes.OutcomeView, Plain.IsUncutGathering, Printed.IsStatementOf}
use Rattle.fare_texts.specs.StatementText.{IsStatementText}
use Rattle.histories.specs.Entry.{own, tap_of, taps_of}
use Rattle.histories.specs.{Plain.IsNamed, Statement.IsStatement, Sums.sums}
use Rattle.histories.specs.declared.{entry.Entry.Entry, statement.Statement.Statement}
use Rattle.report_texts.specs.OverHistory.{IsStatementOver}
use Rattle.shard_book.specs.Book.{Book}
use Rattle.std.proofs.lemmas.Option.{slice_get-get_or}
use Rattle.std.specs.Prelude.{ℕ, ◌≡◌, ◌↔◌, ◌<◌, List, [], length, map, All, Some, slice_get}
use Rattle.tap_views.specs.{Files.HasUniqueParse, Shards.shard_of_token, Token.bytes_of}
use Rattle.tap_views.specs.declared.token.Token.{Token}
use Rattle.tariffs.specs.Fares.{Fares}

-- ---- statements
abbrev pub AllNamed : OutcomeView → Type 0
AllNamed outcome = (shard : ℕ) (book : Book) → slice_get outcome.books shard ≡ Some book
    → All IsNamed book.entries

pub holds : (given : Given) (outcome : OutcomeView) (history : List Entry)
    → 0 < length outcome.books → AllNamed outcome → All HasUniqueParse given.uploads
    → (w : IsUncutGathering given.table given.shards given.uploads outcome history)
    → Represents given w.works outcome w.plain_is.taps
holds given outcome history some named cuts w = record {
  headline = w.headline;
  some_shard = omega (arith, some, w.headline.shards_are);
  named = named;
  whole = w.whole;
  cuts = cuts;
  each = w.plain_is.each;
}

-- the entries of a token in the book of its shard are those of the plain history
pub same_own : (given : Given) (outcome : OutcomeView) (history : List Entry)
    → 0 < length outcome.books → AllNamed outcome → All HasUniqueParse given.uploads
    → IsUncutGathering given.table given.shards given.uploads outcome history
    → (token : Token) (book : Book)
    → slice_get outcome.books (shard_of_token (bytes_of token) (length outcome.books)) ≡ Some book
    → own token book.entries ≡ own token history
same_own given outcome history some named cuts w token book at =
    let S : ℕ → Type 0 =
    λ n. slice_get outcome.books (shard_of_token (bytes_of token) n) ≡ Some book in
    own_plain given w.works outcome w.plain_is.taps (holds given outcome history some named cuts w)
    w.apart token book (subst S w.headline.shards_are at)
    ∙ ap (own token) (sym w.plain_is.entries)

-- a statement is a function of the token's own entries
pub statement_same : (fares : Fares) (xs ys : List Entry) (token : Token) (statement : Statement)
    → own token xs ≡ own token ys → IsStatement fares xs token statement
    → IsStatement fares ys token statement
unfolding taps_of
statement_same fares xs ys token statement same is = record {
  token = is.token;
  lines = is.lines ∙ same;
  totals = is.totals ∙ ap sums same;
  window = is.window ∙ ap
      (λ es. capped_window (capped_rules_of fares (bytes_of token)) (map (tap_of fares) es)) same;
}

-- the text of a token's statement is that over the plain history
pub same_statement : (given : Given) (outcome : OutcomeView) (history : List Entry)
    → 0 < length outcome.books → AllNamed outcome → All HasUniqueParse given.uploads
    → IsUncutGathering given.table given.shards given.uploads outcome history
    → (token : Token) (text : List ℕ)
    → IsStatementOf outcome token text ↔ IsStatementOver given.table history token text
same_statement given outcome history some named cuts w token text = (there, back)
  where
    table_of : (shard : ℕ) (book : Book) → slice_get outcome.books shard ≡ Some book
        → book.table ≡ given.table
    table_of shard book at = (w.headline.books shard book at).0

    there : IsStatementOf outcome token text → IsStatementOver given.table history token text
    there s =
        let table = table_of (shard_of_token (bytes_of token) (length outcome.books)) s.book s.at in
        let F : Fares → Type 0 = λ f. IsStatement f s.book.entries token s.statement in
        let T : Fares → Type 0 = λ f. IsStatementText f s.statement text in
        record {
          statement = s.statement;
          of_history = statement_same given.table s.book.entries history token s.statement
              (same_own given outcome history some named cuts w token s.book s.at)
              (subst F table s.of_book);
          shown = subst T table s.shown;
        }

    back : IsStatementOver given.table history token text → IsStatementOf outcome token text
    back s =
        let shard = shard_of_token (bytes_of token) (length outcome.books) in
        let empty : Book = record { table = given.table; shard = 0; shards = 0; entries = [] } in
        let at = slice_get-get_or outcome.books shard empty (mod-lt _ some) in
        let book = get_or outcome.books shard empty in
        let table = table_of shard book at in
        let F : Fares → Type 0 = λ f. IsStatement f book.entries token s.statement in
        let T : Fares → Type 0 = λ f. IsStatementText f s.statement text in
        record {
          book = book;
          at = at;
          statement = s.statement;
          of_book = subst F (sym table)
              (statement_same given.table history book.entries token s.statement
              (sym (same_own given outcome history some named cuts w token book at)) s.of_history);
          shown = subst T (sym table) s.shown;
        }
