use Rattle.std.proofs.Common.{◌≡◌, ◌∙◌, ◌≤◌, ℕ, add-zero, length, map, true, false, arith}
use Rattle.std.proofs.lemmas.List.{length-map}
use Rattle.std.specs.{List.AllWithin, Prelude.nat_le}
use Rattle.tariffs.proofs.ApartLemmas.{holds-increases, last_started-split, within-firsts}
use Rattle.tariffs.specs.{declared.validators.RangeRest.RangeRest, inside.Validators.IsSplitAt}
use Rattle.tariffs.proofs.validators.last_started.Goals as goal

pub started_by_halves-requires : goal.started_by_halves-requires
started_by_halves-requires c =
    rw c.requires.same (holds-increases c.args.ranges.now c.requires.apart)

pub returns : goal.returns
returns c =
    let ranges = c.args.ranges.now in
    let n = c.args.number in
    let i = c.started_by_halves.result in
    let split : IsSplitAt n (map (λ (range : ℕ × RangeRest). range.0) ranges) i 0 =
    rw c.requires.same at c.started_by_halves.ensures.split in
    let long : length (map (λ (range : ℕ × RangeRest). range.0) ranges) ≡ length ranges =
    length-map ranges (λ (range : ℕ × RangeRest). range.0) in
    let inside : i ≤ length ranges =
    rw (c.requires.same, long) at c.started_by_halves.ensures.bound in
    let after : AllWithin (λ first. nat_le first n ≡ false)
    (map (λ (range : ℕ × RangeRest). range.0) ranges) i (length ranges) =
    rw (add-zero, long) at split.back in
    c.last.ensures.value
    ∙ last_started-split n ranges i (within-firsts n true ranges 0 i inside split.front)
    (within-firsts n false ranges i (length ranges) (omega arith) after)
