use Rattle.std.proofs.Common.{◌≡◌, length, take, ap, ◌∙◌, arith}
use Rattle.histories.proofs.SumsLemmas.{sums-taps}
use Rattle.histories.specs.{Sums.Sums, Tally.sums_of_tally}
use Rattle.shard_book.proofs.HistoryLemmas.{sums-read}
use Rattle.std.proofs.lemmas.List.{length-take-le}
use Rattle.shard_book.proofs.book.ShardBook.totals.Goals as goal

pub add-requires : goal.add-requires
add-requires c =
    let count : (sums_of_tally c.loop-i.tally).taps
    ≡ length (take c.loop-i.i c.args.self.now.entries) =
    ap (λ (s : Sums). s.taps) c.loop-i.invariant
    ∙ sums-taps (take c.loop-i.i c.args.self.now.entries) in
    omega (
      arith,
      length-take-le c.loop-i.i c.args.self.now.entries
          (omega (arith, c.len-i-end.ensures.len)),
    )

pub totals-requires : goal.totals-requires
totals-requires c =
    let count : (sums_of_tally c.loop-i.tally).taps
    ≡ length (take c.loop-i.i c.args.self.now.entries) =
    ap (λ (s : Sums). s.taps) c.loop-i.invariant
    ∙ sums-taps (take c.loop-i.i c.args.self.now.entries) in
    omega (
      arith,
      length-take-le c.loop-i.i c.args.self.now.entries
          (omega (arith, c.len-i-end.ensures.len)),
    )

pub loop-i-preserved : goal.loop-i-preserved
loop-i-preserved c =
    sums-read c.args.self.now.entries c.loop-i.i c.entry.result c.reply.result _ _ c.entry.ensures
    c.reply.ensures c.loop-i.invariant c.add.ensures

pub returns-clause-few : goal.returns-clause-few
returns-clause-few c =
    let count : (sums_of_tally c.loop-i.tally).taps
    ≡ length (take c.loop-i.i c.args.self.now.entries) =
    ap (λ (s : Sums). s.taps) c.loop-i.invariant
    ∙ sums-taps (take c.loop-i.i c.args.self.now.entries) in
    let same = ap (λ (s : Sums). s.taps) c.totals.ensures in
    omega (
      arith,
      length-take-le c.loop-i.i c.args.self.now.entries
          (omega (arith, c.len-i-end.ensures.len)),
    )
