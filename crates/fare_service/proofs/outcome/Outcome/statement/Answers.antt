use Rattle.std.proofs.Common.{sym, ◌∙◌, ap, subst}
use Rattle.fare_texts.specs.StatementText.{IsStatementText}
use Rattle.std.specs.Prelude.{slice_get, string_bytes}
use Rattle.tap_views.specs.{Shards.shard_of_token, Token.bytes_of}
use Rattle.tariffs.specs.Fares.{Fares}
use Rattle.fare_service.proofs.outcome.Outcome.statement.Goals as goal

pub returns : goal.returns
returns c =
    let shard = c.shard_of.ensures.value
    ∙ ap (λ bytes. shard_of_token bytes c.shards.result) c.bytes-bytes.ensures
    ∙ ap (shard_of_token (bytes_of c.args.token.now)) c.shards.ensures.number in
    let T : Fares → Type 0 =
    λ t. IsStatementText t c.in_ok-statement.statement (string_bytes c.in_ok-text.text) in
    record {
      book = c.book-book.result.now;
      at = ap (slice_get c.args.self.now.books) (sym shard) ∙ c.book-book.ensures;
      statement = c.in_ok-statement.statement;
      of_book = c.in_ok-statement.ensures;
      shown = subst T c.table.ensures c.in_ok-text.ensures;
    }
