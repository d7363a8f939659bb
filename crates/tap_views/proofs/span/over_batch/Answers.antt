use Rattle.std.proofs.Common.{◌≡◌, [], ◌++◌, ◌∷◌, map, ap, ◌∙◌, sym, subst, append_assoc}
use Rattle.std.proofs.{Common.append-nil, lemmas.List.map-append}
use Rattle.tap_views.specs.Facts.{IsSpan, moment_of}
use Rattle.tap_views.proofs.span.over_batch.Goals as goal

pub loop-tap-preserved : goal.loop-tap-preserved
loop-tap-preserved c = record {
  may = tt;
  ends = tt;
  all = append_assoc c.loop-tap.yielded (c.in-Some.tap ∷ []) c.next.new.self
      ∙ sym (ap (λ left. c.loop-tap.yielded ++ left) c.in-Some.ensures.steps)
      ∙ c.loop-tap.invariant.all;
  wide = λ moments is.
      let more = c.widened-wide.ensures (moments ++ map moment_of c.loop-tap.yielded)
      (c.loop-tap.invariant.wide moments is) in
      let here = subst (λ m.
      IsSpan ((moments ++ map moment_of c.loop-tap.yielded) ++ m ∷ []) c.widened-wide.result)
      c.moment_ms.ensures.number more in
      subst (λ all. IsSpan all c.widened-wide.result)
      (append_assoc moments (map moment_of c.loop-tap.yielded) (moment_of c.in-Some.tap ∷ [])
      ∙ ap (λ more. moments ++ more)
      (sym (map-append moment_of c.loop-tap.yielded (c.in-Some.tap ∷ [])))) here;
}

pub returns : goal.returns
returns c = λ moments is.
    let all : c.loop-tap.yielded ≡ c.args.batch.now =
    sym (append-nil c.loop-tap.yielded)
    ∙ sym (ap (λ left. c.loop-tap.yielded ++ left) c.in-None.ensures.steps.0)
    ∙ c.loop-tap.invariant.all in
    subst (λ taps. IsSpan (moments ++ map moment_of taps) c.loop-tap.wide) all
    (c.loop-tap.invariant.wide moments is)
