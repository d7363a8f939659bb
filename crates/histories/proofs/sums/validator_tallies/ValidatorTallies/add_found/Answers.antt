use Rattle.std.proofs.Common.{rules, [], ◌∷◌, sym, ap, subst, ◌∙◌, arith}
use Rattle.histories.proofs.TalliedLemmas.{found, full-room, one-reply, tallied-full, tallied-small}
use Rattle.histories.specs.{Counts.sums_of_counts, Sums.Sums, Sums.add_sums, Sums.sums_of_replies}
use Rattle.histories.specs.TalliesByKey.{AreTallied, Tallies}
use Rattle.indexmap.specs.Entry.{map_with_value}
use Rattle.histories.proofs.sums.validator_tallies.ValidatorTallies.add_found.Goals as goal

pub returns-then-add : goal.returns-then-add
returns-then-add c = λ before tallied.
    let is = found c.new.result c.or_insert-kept.result.now c.or_insert-kept.ensures.value
    c.in_ok-self-inside.ensures.value c.new.ensures in
    tallied-small before c.args.entry.now c.self.inside.small
    (map_with_value c.in_ok-self-inside.field-0 c.add.new.self) _ c.self.inside.wide.entries
    c.or_insert-kept.result.now c.add.new.self c.reply.result (search rules)
    (c.in_ok-self-inside.ensures.update.0 c.add.new.self) is c.reply.ensures
    (c.add.ensures.added (grind arith))
    (subst (λ (t : Tallies). AreTallied before t) (sym c.self.view_is) tallied)

pub add-requires-2 : goal.add-requires-2
add-requires-2 c =
    let v = c.args.entry.now.validator in
    let is = found c.new.result c.or_insert-kept.result.now c.or_insert-kept.ensures.value
    c.in_ok-self-inside.ensures.value c.new.ensures in
    let room = full-room c.self.inside.small.entries c.self.inside.wide.entries c.args.self.now v
    c.or_insert-kept.result.now c.tally-full.result c.self.view_is c.requires is
    (c.tally-full.ensures.sums ∙ ap sums_of_counts (c.add.ensures.unchanged (grind arith))) in
    omega (arith, room)

pub add_tally-requires : goal.add_tally-requires
add_tally-requires c =
    let v = c.args.entry.now.validator in
    let is = found c.new.result c.or_insert-kept.result.now c.or_insert-kept.ensures.value
    c.in_ok-self-inside.ensures.value c.new.ensures in
    let room = full-room c.self.inside.small.entries c.self.inside.wide.entries c.args.self.now v
    c.or_insert-kept.result.now c.tally-full.result c.self.view_is c.requires is
    (c.tally-full.ensures.sums ∙ ap sums_of_counts (c.add.ensures.unchanged (grind arith))) in
    let taps = ap (λ (s : Sums). s.taps) c.add-2.ensures in
    let one = one-reply c.reply-2.result in
    omega (arith, room, taps, one)

pub returns : goal.returns
returns c = λ before tallied.
    let is = found c.new.result c.or_insert-kept.result.now c.or_insert-kept.ensures.value
    c.in_ok-self-inside.ensures.value c.new.ensures in
    tallied-full before c.args.entry.now c.self.inside.small
    (map_with_value c.in_ok-self-inside.field-0 c.new-2.result) _ c.self.inside.wide.entries
    c.add_tally.new.tallies.entries c.or_insert-kept.result.now c.new-2.result c.add-2.new.self
    c.in_ok-add_tally.ensures.0 c.reply-2.result (search rules)
    (c.in_ok-self-inside.ensures.update.0 c.new-2.result) c.new-2.ensures is c.reply-2.ensures
    (c.add-2.ensures
    ∙ ap (λ (s : Sums). add_sums s (sums_of_replies (c.reply-2.result ∷ [])))
    (c.tally-full.ensures.sums ∙ ap sums_of_counts (c.add.ensures.unchanged (grind arith))))
    c.in_ok-add_tally.ensures.1 c.in_ok-add_tally.ensures.2
    (subst (λ (t : Tallies). AreTallied before t) (sym c.self.view_is) tallied)
