use Rattle.std.proofs.Common.{◌≡◌, ◌∙◌, ◌++◌, [], Bool, List, ap, append-nil, append_assoc, map}
use Rattle.std.proofs.Common.{refl, Option, false, rules, string_bytes, subst, sym, tests, true, ℕ}
use Rattle.ledger_check.specs.{Ledger.IsLedger, Orders.tap_of_entry, Verdicts.IsVerdict}
use Rattle.ledger_check.specs.{Verdicts.is_legal, declared.checker.Verdict.TheVariants.Legal}
use Rattle.omny_audit.proofs.FindingLemmas.{early_is, even_taps, second_line, sound_is}
use Rattle.omny_audit.specs.{Findings.IsDifferenceLine, Text.verdict_text}
use Rattle.std.proofs.lemmas.Bool.{false≢true, true≢false}
use Rattle.std.specs.{Bool.then_some, Prelude.is_some, Prelude.not}
use Rattle.omny_audit.proofs.check.finding.Goals as goal

-- no ledger has a wrong line
pub returns-in_default-clause-found : goal.returns-in_default-clause-found
returns-in_default-clause-found c = λ fares text valid is right.
    let verdict = c.args.verdict.now in
    let uploads = then_some c.args.subtracts valid in
    let no : is_legal verdict ≡ false = first_of (cc, search (rules, tests)) in
    let never : IsLedger fares text → ⊥ = λ ledger. true≢false
    (sym ((c.verdicts_decide.ensures fares text verdict is).1 ledger) ∙ no) in (
      verdict_text verdict,
      c.in_ok-write_verdict.ensures,
      record {
        finding = record {
          verdict = verdict;
          is_verdict = is;
          rest = [];
          shown = sym (append-nil (verdict_text verdict));
          second = subst (λ (b : Bool). IsDifferenceLine fares text uploads b []) (sym no) refl;
        };
        sound = (λ yes. absurd (false≢true yes), λ all. absurd (never all.0));
        legal = (λ yes. absurd (false≢true yes), λ ledger. absurd (never ledger));
        sums = λ yes. absurd (false≢true yes);
      },
    )

pub returns-clause-found : goal.returns-clause-found
returns-clause-found c = λ fares text valid is right.
    let verdict = c.args.verdict.now in
    let balance = c.args.balance.now in
    let subtracts = c.args.subtracts in
    let uploads = then_some subtracts valid in
    let early = c.in-Legal.early in
    let legal : IsVerdict fares text (Legal c.in-Legal.field-0 early) = rw c.in-Legal.is at is in
    let yes : is_legal verdict ≡ true = ap is_legal c.in-Legal.is in
    let whole = (c.verdicts_decide.ensures fares text verdict is).0 yes in
    let settled : c.is_none.result ≡ not (is_some early) = first_of (cc, search (rules, tests)) in
    let (rest, grown, wrote) = c.in_ok-is_even.ensures in
    let even = c.in_ok-is_even.is_even in (
      verdict_text verdict ++ rest,
      grown ∙ ap (λ (t : List ℕ). t ++ rest) c.in_ok-write_verdict.ensures
          ∙ append_assoc (string_bytes c.args.reported.now) (verdict_text verdict) rest,
      record {
        finding = record {
          verdict = verdict;
          is_verdict = is;
          rest = rest;
          shown = refl;
          second = subst (λ (b : Bool). IsDifferenceLine fares text uploads b rest) (sym yes)
              (second_line fares text valid balance subtracts rest even wrote
              (λ entries of. (right yes entries of).0));
        };
        sound = sound_is c.args.live fares text uploads true even c.is_none.result
            (λ _. whole, λ _. refl) (λ ledger. (
              even_taps balance valid (map tap_of_entry ledger.0) subtracts rest even wrote
                  (right yes ledger.0 ledger.1).0,
              settled ∙ ap (λ (e : Option ℕ). not (is_some e))
                  (early_is fares text _ early ledger.0 legal ledger.1),
            ));
        legal = (λ _. whole, λ _. refl);
        sums = λ _ entries of. (right yes entries of).1;
      },
    )
