use Rattle.std.proofs.Common.{◌≡◌, ◌∙◌, ◌++◌, ◌==◌, Bool, Global, List, Vec, ap, ap₂, append_assoc}
use Rattle.std.proofs.Common.{false, length, rules, string_bytes, subst, sym, tests, true, ⊎_elim, ℕ}
use Rattle.omny_audit.proofs.Audits.{ended, undecided, unsound}
use Rattle.omny_audit.proofs.FindingLemmas.{decides}
use Rattle.omny_audit.specs.Reports.{Given, IsAudit, damage_text, ledger_in, verdict_lines}
use Rattle.omny_audit.specs.{Traced.AreColumnsReported, inside.Audits.HasAudited}
use Rattle.omny_audit.specs.inside.{Audits.given_in, Checks.is_decided, Traced.wanted_by}
use Rattle.std.proofs.lemmas.Bool.{and_left, and_parts, eqb-true, or_cases, or_parts, true≢false}
use Rattle.std.proofs.lemmas.List.{nil_from_length}
use Rattle.std.specs.Prelude.{◌&&◌, ◌||◌}
use Rattle.omny_audit.proofs.audit.Audit.next.Goals as goal

pub read-requires : goal.read-requires
read-requires c = c.requires

pub finish-requires : goal.finish-requires
finish-requires c =
    let has = (c.in_ok-read.ensures c.requires.0 c.requires.1 c.requires.2 c.requires.3).2 in
    record { fed = (c.read.new.self.table.now, has.valid, has.text, _, has.checked) }

-- the audit goes on
pub returns-then-not-is_last : goal.returns-then-not-is_last
returns-then-not-is_last c = record {
  holds = λ given file written ledger has bytes end.
      let piece = c.args.piece.now in
      let read = c.in_ok-read.ensures given file written has in
      let same : read.0 ≡ c.into_bytes.result.items =
      sym (ap (λ (v : Vec ℕ Global). v.items) c.into_bytes.ensures.value ∙ read.1
      ∙ ap (λ (t : List ℕ). t ++ read.0) c.new-reported.ensures.bytes) in
      let not_last : (c.is_empty.result || c.is_decided.result) ≡ false =
      first_of (cc, search (rules, tests)) in
      let some = sym c.is_empty.ensures ∙ (or_parts _ _ not_last).0 in
      subst (λ (f : List ℕ). HasAudited given c.read.new.self false f
      (written ++ c.into_bytes.result.items)) (sym bytes)
      (subst (λ (b : Bool). HasAudited given c.read.new.self b (file ++ piece)
      (written ++ c.into_bytes.result.items)) some
      (subst (λ (t : List ℕ). HasAudited given c.read.new.self (length piece == 0) (file ++ piece)
      (written ++ t)) same read.2));
}

pub returns : goal.returns
returns c = record {
  holds = λ request front before ledger had bytes end.
      let piece = c.args.piece.now in
      let audit = c.read.new.self in
      let read = c.in_ok-read.ensures request front before had in
      let has = read.2 in
      let valid = has.valid in
      let written = before ++ read.0 in
      let given = given_in audit valid in
      let legal = c.in_ok-found.found.is_legal in
      let right = c.in_ok-is_right.is_right in
      let verdict = c.in_ok-verdict.verdict in
      let success = c.in_ok-found.found.is_sound
      && (right && (c.fits.result && c.are_whole.result)) in
      let text = before ++ c.write_last_lines.new.text.items in
      let columns = c.in_ok-is_right.ensures in
      let tail = verdict_lines given.ends verdict ++ damage_text given.ends in
      let reported : string_bytes c.read.new.reported ≡ read.0 =
      read.1 ∙ ap (λ (t : List ℕ). t ++ read.0) c.new-reported.ensures.bytes in
      let tested : (c.is_empty.result || c.is_decided.result) ≡ true =
      first_of (cc, search (rules, tests)) in
      let last : ((length piece == 0) || is_decided audit.check) ≡ true =
      sym (ap₂ (λ (a b : Bool). a || b) c.is_empty.ensures c.is_decided.ensures) ∙ tested in
      let whole = λ (is : (length piece == 0) ≡ true).
      end (nil_from_length piece (eqb-true (length piece) 0 is)) in (
        λ more fin.
            let file = (front ++ piece) ++ more in
            let (checked, all) = ended request audit _ (front ++ piece) written more has last
            (λ is. fin (whole is)) in
            let found = c.in_ok-found.ensures.found audit.table.now valid (ledger_in given file)
            written checked in
            let looked = ap (λ (b : Bool). b || legal) c.is_all-all.ensures in
            let (lines, are) = columns.2 file (λ look. all (undecided audit.check legal
            c.in_ok-found.ensures.decided (sym looked ∙ look))) in
            let are_columns = subst (λ (b : Bool). AreColumnsReported (wanted_by audit.trace) b file
            lines columns.0 right) looked are in
            let is_verdict = c.in_ok-verdict.ensures audit.table.now (ledger_in given file)
            (λ yes entries of. found.2.sums (and_parts legal right yes).0 entries of) in
            subst (λ (f : List ℕ). IsAudit request (f ++ more) text success) (sym bytes)
            (subst (λ (g : Given). IsAudit g file text success) has.same (record {
              found = written ++ found.0;
              finding = found.2.finding;
              legal = legal;
              is_legal = found.2.legal;
              read = lines;
              columns = columns.0;
              right = right;
              are_columns = are_columns;
              verdict = verdict;
              is_verdict = is_verdict;
              shown = ap (λ (t : List ℕ). before ++ t)
                  (c.in-Ok.ensures ∙ ap (λ (t : List ℕ). t ++ tail)
                  (ap (λ (v : Vec ℕ Global). v.items) c.into_bytes-text.ensures.value ∙ columns.1
                  ∙ ap (λ (t : List ℕ). t ++ columns.0)
                  (found.1 ∙ ap (λ (t : List ℕ). t ++ found.0) reported))
                  ∙ append_assoc (read.0 ++ found.0) columns.0 tail
                  ∙ append_assoc read.0 found.0 (columns.0 ++ tail))
                  ∙ sym (append_assoc before read.0 (found.0 ++ (columns.0 ++ tail)))
                  ∙ sym (append_assoc written found.0 (columns.0 ++ tail));
              well = rw (c.fits.ensures, c.are_whole.ensures) (decides
                  c.report_verdicts_decide.ensures given file lines c.in_ok-found.found.is_sound
                  legal right columns.0 verdict found.2.sound found.2.legal are_columns is_verdict);
            })),
        -- a ledger that is well is read to its end
        λ is. ⊎_elim whole (λ wrong.
            let found = c.in_ok-found.ensures.found audit.table.now valid has.text written has.checked
            in
            absurd (true≢false (sym is ∙ and_left _ _ (unsound _ _ _ _ _ _ _ found.2
            (c.in_ok-found.ensures.decided wrong))))) (or_cases _ _ last),
      );
}
