use Rattle.std.proofs.Common.{◌≡◌, ◌∙◌, [], None, Some, ap, inl, inr, option_map, rules}
use Rattle.std.proofs.Common.{subst, arith, map, string_bytes, sym, tests}
use Rattle.clap.specs.Words.{kind_of}
use Rattle.frame.specs.{Outcome.Ends, declared.outside.Outside.TheVariants.NoMemory}
use Rattle.omny_audit.proofs.ProgramLemmas.{halted_first}
use Rattle.omny_audit.specs.Ends.{IsCommand, audit_rule}
use Rattle.omny_audit.specs.{Options.AuditRequest, Options.audit_program}
use Rattle.omny_audit.specs.inside.Program.{audit_request_of}
use Rattle.program_manners.specs.TableViews.{names_of, wrong_of}
use Rattle.program_manners.proofs.Requests.{asks_for, of_memory}
use Rattle.program_manners.specs.TableWords.{wrong_word}
use Rattle.omny_audit.proofs.program.main_over.Goals as goal

-- words that are a command line are refused for want of memory alone
pub returns-in-Err : goal.returns-in-Err
returns-in-Err g c = record {
  command = λ is.
      let refused = c.show_answer.ensures.memory
      (of_memory audit_program _ (kind_of c.in-Err.error) c.in-Err.ensures.kinds is.0) in
      inr (record {
        why = NoMemory;
        before = g.W.Inputs.run c.args.world.now;
        halted = halted_first _ _ _;
        reported = refused.1;
        failed = refused.0;
      });
  helped = λ no zero. let help = c.show_answer.ensures.help zero in
      (asks_for audit_program _ (kind_of c.in-Err.error) c.in-Err.ensures.kinds help.0, help.1);
  rejected = λ no asks_not. c.show_answer.ensures.refused
      (λ is. asks_not (asks_for audit_program _ (kind_of c.in-Err.error) c.in-Err.ensures.kinds is));
  unread = λ no. c.requires;
}

-- a table has a wrong date
pub returns-in-Some : goal.returns-in-Some
returns-in-Some g c = record {
  command = λ is.
      let bad : Some (wrong_of c.in-Some.wrong) ≡ None =
      sym (ap (option_map wrong_of) c.in-Some.is) ∙ c.wrong_word.ensures
      ∙ ap (λ (r : AuditRequest). wrong_word r.table) c.in-Ok.ensures.request ∙ is.1 in
      absurd cc;
  helped = λ no zero. elim c.refuse_date.ensures.0
      [ inl two ↦ absurd (omega (arith, zero, two)) | inr one ↦ absurd (omega (arith, zero, one)) ];
  rejected = λ no asks_not. c.refuse_date.ensures;
  unread = λ no. c.requires;
}

pub returns : goal.returns
returns g c =
    let none : wrong_word (names_of c.in-Ok.options.table) ≡ None =
    first_of (cc, search (rules, tests)) in
    let command : IsCommand (map string_bytes c.args.words.now) = (
      c.in-Ok.ensures.kinds,
      sym (ap (λ (r : AuditRequest). wrong_word r.table) c.in-Ok.ensures.request) ∙ none,
    ) in record {
      command = λ is.
          let ledger = c.audit-ended.new.ledger.trace in
          let old = g.W.Inputs.run c.args.world.now in
          subst (λ (r : AuditRequest). Ends (audit_rule r ledger) old
          (g.W.Inputs.run c.end_run.new.world) c.end_run.result) c.in-Ok.ensures.request
          (c.end_run.ensures (audit_request_of c.in-Ok.options) ledger old c.audit-ended.ensures);
      helped = λ no. absurd (no command);
      rejected = λ no. absurd (no command);
      unread = λ no. absurd (no command);
    }
