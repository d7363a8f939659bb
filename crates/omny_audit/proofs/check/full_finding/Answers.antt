use Rattle.std.proofs.Common.{◌≡◌, ◌∙◌, ◌++◌, ℕ, List, ap, append_assoc, string_bytes, subst}
use Rattle.std.proofs.Common.{eqb-true, sym, true}
use Rattle.histories.specs.declared.entry.Entry.{Entry}
use Rattle.ledger_check.specs.FullChecks.{taps_from, wrong_count}
use Rattle.ledger_check.specs.{Ledger.IsLedger, Orders.are_settled, Sums.AreSumsOf}
use Rattle.omny_audit.proofs.FindingLemmas.{full_check_legal, sound_is}
use Rattle.omny_audit.specs.Findings.{HasValidTaps}
use Rattle.std.specs.{Bool.then_some, Prelude.◌↔◌, Prelude.IfSome}
use Rattle.tap_views.specs.declared.encoder.TapFields.{TapFields}
use Rattle.omny_audit.proofs.check.full_finding.Goals as goal

pub returns : goal.returns
returns c = λ fares valid text written has.
    let checked = c.in_ok-fully_checked.fully_checked in
    let ended = c.in_ok-fully_checked.ensures fares c.args.subtracts c.args.full.now text written
    valid has in
    let taken = ended.0 in
    let uploads = then_some c.args.subtracts valid in
    let decides = c.full_checks_decide.ensures fares text taken ended.1 in
    let legal : (checked.is_legal ≡ true) ↔ IsLedger fares text =
    rw ended.2 (full_check_legal fares text taken decides) in
    let lacking = c.in_ok-is_even.ensures in
    let rest = lacking.2 valid (taps_from taken) ended.4 in
    let even = c.in_ok-is_even.is_even in (
      ended.6 ++ lacking.0,
      lacking.1 ∙ ap (λ (t : List ℕ). t ++ lacking.0) ended.7
          ∙ append_assoc (string_bytes c.args.reported.now) ended.6 lacking.0,
      record {
        finding = record {
          taken = taken;
          full_check = ended.1;
          rest = lacking.0;
          shown = sym (append_assoc written ended.6 lacking.0)
              ∙ ap (λ (t : List ℕ). t ++ lacking.0) ended.8;
          second = rest.0;
        };
        sound = sound_is c.args.live fares text uploads checked.is_legal even checked.is_settled legal
            (λ ledger.
            let same = decides.taps ledger.0 ledger.1 in (
              subst (λ (ts : List TapFields). (even ≡ true) ↔ HasValidTaps uploads ts) same rest.1,
              ended.3 ∙ ap are_settled same,
            ));
        legal = legal;
        sums = λ yes entries of. subst (λ (es : List Entry). IfSome checked.sums (AreSumsOf es))
            (decides.entries entries of)
            (ended.5 (eqb-true (wrong_count taken) 0 (sym ended.2 ∙ yes)));
      },
    )

pub finish-requires : goal.finish-requires
finish-requires c =
    let (fares, valid, text, written, is) = c.requires in
    (fares, c.args.subtracts, c.args.full.now, text, written, valid, is)
