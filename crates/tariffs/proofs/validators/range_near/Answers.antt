use Rattle.std.proofs.Common.{◌∙◌, ◌+◌, ◌≤◌, Some, ap, get_or, sym}
use Rattle.tariffs.proofs.ApartLemmas.{only_one}
use Rattle.tariffs.proofs.validators.range_near.Goals as goal

pub returns-then-number-range : goal.returns-then-number-range
returns-then-number-range c =
    let n = c.args.number in
    let ranges = c.args.ranges.now in
    let position = c.args.hint + c.from.result in
    let range = c.in_ok-range.range.now in
    let found = c.in_ok-range.ensures.lookup in
    let begins : (get_or ranges position range).0 ≤ n = rw (← found.1) c.if-range-number.true in
    let ends : n ≤ (get_or ranges position range).1.last = rw (← found.1) c.if-number-range.true in
    ap Some found.1 ∙ sym (only_one n ranges position range c.requires found.3.0 begins ends)
