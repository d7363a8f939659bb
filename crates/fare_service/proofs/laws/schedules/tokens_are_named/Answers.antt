use Rattle.std.proofs.Common.{◌≡◌, ℕ, ◌^◌, ◌<◌, ◌++◌, All, List, Some, slice_get, take, drop, refl}
use Rattle.std.proofs.Common.{sym, ap, ◌∙◌, subst, arith, w64}
use Rattle.histories.specs.{Entry.TokensFit, Plain.IsNamed, Plain.token_of_bytes}
use Rattle.histories.specs.declared.entry.Entry.{Entry}
use Rattle.shard_book.specs.Book.{AreOfShard, Book}
use Rattle.std.proofs.lemmas.List.{take_at, drop_at, Elements.All-weaker}
use Rattle.std.proofs.lemmas.{Nat.from_be_bytes-to_be_bytes_8, Option.slice_get_within}
use Rattle.std.specs.Int.{to_be_bytes, from_be_bytes}
use Rattle.tap_views.specs.{Token.Fits, Token.bytes_of, declared.token.Token.Token}
use borrow.Author.Count.{below_more}
use Rattle.fare_service.proofs.laws.schedules.tokens_are_named.Goals as goal

abbrev pair : ℕ → ℕ → Token
pair high low = record { high = high; low = low }

same_pair : (a b c d : ℕ) → a ≡ c → b ≡ d → pair a b ≡ pair c d
same_pair a b c d e f = cc

-- a token of two numbers of 64 bits is the one that its bytes name
named : (high low : ℕ) → high < 2 ^ 64 → low < 2 ^ 64
    → pair high low ≡ token_of_bytes (bytes_of (pair high low))
unfolding bytes_of
named high low fits_high fits_low =
    same_pair high low (from_be_bytes w64 (take 8 (to_be_bytes w64 high ++ to_be_bytes w64 low)))
    (from_be_bytes w64 (drop 8 (to_be_bytes w64 high ++ to_be_bytes w64 low)))
    (sym (ap (from_be_bytes w64) (take_at (to_be_bytes w64 high) (to_be_bytes w64 low) 8 refl)
    ∙ from_be_bytes-to_be_bytes_8 high fits_high))
    (sym (ap (from_be_bytes w64) (drop_at (to_be_bytes w64 high) (to_be_bytes w64 low) 8 refl)
    ∙ from_be_bytes-to_be_bytes_8 low fits_low))

-- if the tokens fit, their bytes name them
all_named : (entries : List Entry) → TokensFit entries → All IsNamed entries
all_named entries fit =
    All-weaker (λ (e : Entry). Fits e.token) (λ (e : Entry). IsNamed e)
    (λ (e : Entry) fits. named e.token.high e.token.low fits.high fits.low) entries fit

pub loop-shard-init : goal.loop-shard-init
loop-shard-init c = record {
  named = λ shard book below at. absurd (omega (arith, below));
  here = λ shard book below at. absurd (omega (arith, below));
}

pub loop-shard-preserved : goal.loop-shard-preserved
loop-shard-preserved c =
    let Named : ℕ → Type 0 =
    λ k. (book : Book) → slice_get c.args.outcome.now.books k ≡ Some book
    → All IsNamed book.entries in
    let Here : ℕ → Type 0 =
    λ k. (book : Book) → slice_get c.args.outcome.now.books k ≡ Some book
    → AreOfShard book.shard book.shards book.entries in
    let same : (book : Book) → slice_get c.args.outcome.now.books c.loop-shard.shard ≡ Some book
    → c.book.result.now ≡ book = λ book at. cc (c.book.ensures, at) in
    record {
      named = λ shard book within at. below_more Named c.loop-shard.shard
          (λ k below b is. c.loop-shard.invariant.named k b below is)
          (λ b is. subst (λ (x : Book). All IsNamed x.entries) (same b is)
          (all_named c.book.result.now.entries c.len.ensures.fits)) shard within book at;
      here = λ shard book within at. below_more Here c.loop-shard.shard
          (λ k below b is. c.loop-shard.invariant.here k b below is)
          (λ b is. subst (λ (x : Book). AreOfShard x.shard x.shards x.entries) (same b is)
          c.len.ensures.here) shard within book at;
    }

pub returns-clause-named : goal.returns-clause-named
returns-clause-named c = λ shard book at.
    c.loop-shard.invariant.named shard book
    (omega (
      arith,
      slice_get_within c.args.outcome.now.books shard book at,
      c.loop-shard-test.false,
      c.shards-shard-end.ensures.number,
    )) at

pub returns-clause-here : goal.returns-clause-here
returns-clause-here c = λ shard book at.
    c.loop-shard.invariant.here shard book
    (omega (
      arith,
      slice_get_within c.args.outcome.now.books shard book at,
      c.loop-shard-test.false,
      c.shards-shard-end.ensures.number,
    )) at
