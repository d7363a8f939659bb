use Rattle.std.proofs.Common.{◌≡◌, length, take, ap, ◌∙◌, arith}
use Rattle.histories.proofs.SumsLemmas.{sums-taps, sums-more}
use Rattle.histories.specs.{Sums.Sums, Tally.sums_of_tally}
use Rattle.std.proofs.lemmas.List.{length-take-le}
use Rattle.histories.proofs.sums.totals_of_entries.Goals as goal

pub add-requires : goal.add-requires
add-requires c =
    let count : (sums_of_tally c.loop-entry.tally).taps
    ≡ length (take c.loop-entry.entry-index c.args.entries.now) =
    ap (λ (s : Sums). s.taps) c.loop-entry.invariant
    ∙ sums-taps (take c.loop-entry.entry-index c.args.entries.now) in
    omega (arith, length-take-le c.loop-entry.entry-index c.args.entries.now (omega arith))

pub totals-requires : goal.totals-requires
totals-requires c =
    let count : (sums_of_tally c.loop-entry.tally).taps
    ≡ length (take c.loop-entry.entry-index c.args.entries.now) =
    ap (λ (s : Sums). s.taps) c.loop-entry.invariant
    ∙ sums-taps (take c.loop-entry.entry-index c.args.entries.now) in
    omega (arith, length-take-le c.loop-entry.entry-index c.args.entries.now (omega arith))

pub loop-entry-preserved : goal.loop-entry-preserved
loop-entry-preserved c =
    sums-more c.args.entries.now c.loop-entry.entry-index _ c.reply.result _ _
    c.loop-entry-test.true c.reply.ensures c.loop-entry.invariant c.add.ensures

pub returns-clause-few : goal.returns-clause-few
returns-clause-few c =
    let count : (sums_of_tally c.loop-entry.tally).taps
    ≡ length (take c.loop-entry.entry-index c.args.entries.now) =
    ap (λ (s : Sums). s.taps) c.loop-entry.invariant
    ∙ sums-taps (take c.loop-entry.entry-index c.args.entries.now) in
    let same = ap (λ (s : Sums). s.taps) c.totals.ensures in
    omega (arith, length-take-le c.loop-entry.entry-index c.args.entries.now (omega arith))
