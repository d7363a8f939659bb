use Rattle.std.proofs.Common.{◌≡◌, ◌∙◌, ap, arith, map, refl}
use Rattle.fare_program.proofs.Ends.{gives_by, gives_printed}
use Rattle.fare_program.specs.inside.Fault.{ended_as}
use Rattle.histories.proofs.SumsLemmas.{sums-taps}
use Rattle.histories.specs.{Shown.validator_sum, Sums.Sums, Sums.sums, Sums.sums_of}
use Rattle.histories.specs.{SumsByKey.sums_by_validator, TalliesByKey.HasRoom}
use Rattle.report_texts.specs.Report.{report}
use Rattle.std.proofs.lemmas.Result.{IfErr-weaker, on_ok_weaker}
use Rattle.tap_views.specs.UploadEnds.{are_posted}
use Rattle.fare_program.proofs.settle.write_billed.Goals as goal

pub totals-totals-requires : goal.totals-totals-requires
totals-totals-requires g c =
    let (history, is, few) = c.requires in
    let counted = ap (λ (s : Sums). s.taps) is.counts.totals ∙ sums-taps history in
    omega (arith, counted, few)

pub sums-requires : goal.sums-requires
unfolding HasRoom
sums-requires g c =
    let (history, is, few) = c.requires in
    (history, is.counts.validators, omega (arith, few))

pub returns-clause-ends : goal.returns-clause-ends
returns-clause-ends g c =
    let text = report c.deref.result.now (sums_of c.totals-totals.result)
    (map validator_sum c.deref-2.result.now) c.args.made.bill.tokens in
    let written = c.write_report-written.result in
    rw c.ended.ensures.ended
    (gives_by _ _ (λ shown success. (success ≡ c.are_posted.result) × (shown ≡ text)) _ _ _
    (ended_as written c.are_posted.result) (λ given. given)
    (λ shown success is. (
      is.0 ∙ c.are_posted.ensures ∙ ap are_posted c.deref-3.ensures.value,
      λ history bill.
          let one : sums_of c.totals-totals.result ≡ sums history =
          c.totals-totals.ensures ∙ bill.counts.totals in
          let two : map validator_sum c.deref-2.result.now ≡ sums_by_validator history =
          ap (map validator_sum) c.deref-2.ensures.value
          ∙ c.in-Ok.ensures history bill.counts.validators in
          is.1 ∙ (λ i. report (c.deref.ensures.value i) (one i) (two i) (bill.tokens i)),
    ))
    (gives_printed g.W.Write.contents _ _ (λ shown. shown ≡ text) written c.are_posted.result
    (on_ok_weaker written (λ all. (text, refl, all)) c.write_report-written.ensures.ok)
    (IfErr-weaker written _ _ (λ fault started write. (text, refl, started write))
    c.write_report-written.ensures.started)
    c.write_report-written.ensures.fault))
