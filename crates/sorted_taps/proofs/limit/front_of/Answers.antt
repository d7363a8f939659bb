use Rattle.std.proofs.Common.{ℕ, List, arith, below_more, length, subst, ◌<◌, ◌∙◌, get_or}
use Rattle.sorted_taps.specs.Readers.{ahead}
use Rattle.sorted_taps.specs.declared.{limit.Front.Front, reader.TapReader.TapReader}
use Rattle.sorted_taps.specs.inside.Limits.{IsFrontOf, IsLimitOf}
use Rattle.std.proofs.lemmas.List.{get_or_default}
use Rattle.std.specs.Prelude.{IfSome, None, Option, Some}
use Rattle.tap_parts.specs.Keys.{tap_of_key}
use Rattle.tap_views.specs.declared.encoder.TapFields.{TapFields}
use Rattle.sorted_taps.proofs.limit.front_of.Goals as goal

pub loop-reader-init : goal.loop-reader-init
loop-reader-init c = λ k low d. absurd (omega (arith, low))

pub loop-reader-preserved : goal.loop-reader-preserved
loop-reader-preserved c =
    let readers = c.args.readers.now in
    let index = c.loop-reader.reader-index in
    let reader = c.reader-item.result in
    let least = c.least_front-front in
    below_more (λ k. (d : TapReader) → IsFrontOf least.result (ahead (get_or readers k d))) index
    (λ k low d. least.ensures.kept (ahead (get_or readers k d)) (c.loop-reader.invariant k low d))
    (λ d. subst (λ (r : TapReader). IsFrontOf least.result (ahead r))
    (c.reader-item.is ∙ get_or_default readers index reader d c.loop-reader-test.true)
    (subst (λ (list : List TapFields). IsFrontOf least.result list) c.ahead.ensures
    least.ensures.last))

limited : (readers : List TapReader) (front : Option Front) → ((k : ℕ) → k < length readers
    → (d : TapReader) → IsFrontOf front (ahead (get_or readers k d)))
    → IfSome front (λ front. IsLimitOf readers (tap_of_key front.last))
limited readers None all = tt
limited readers (Some front) all = λ k d low. all k low d

pub returns : goal.returns
returns c = limited c.args.readers.now c.loop-reader.front
    (λ k low. c.loop-reader.invariant k (omega (arith, low, c.loop-reader-test.false)))
