use Rattle.std.proofs.Common.{◌≡◌, ◌∙◌, ◌+◌, ◌++◌, ℕ, List, Option, refl, sym, ap, ap₂, append_assoc}
use Rattle.std.proofs.Common.{arith, length, rules, suc, tests}
use Rattle.class_names.specs.Names.{class_by}
use Rattle.ledger_check.specs.Columns.{untraced_line, untraced_lines}
use Rattle.omny_audit.proofs.TraceLemmas.{kept_line, untraced_more}
use Rattle.omny_audit.specs.{Traced.class_fault, Traced.lines_read, inside.Traced.placed_of}
use Rattle.omny_audit.specs.declared.traced.WrongClass.{WrongClass}
use Rattle.std.proofs.lemmas.Bool.Decides.{nat_tests}
use Rattle.std.specs.{Option.option_or, Prelude.option_map}
use Rattle.omny_audit.proofs.traced.LinesRead.take.Goals as goal

pub returns-clause-wanted : goal.returns-clause-wanted
returns-clause-wanted c = rw c.look_at_position.ensures.uploads refl

pub returns-clause-read : goal.returns-clause-read
returns-clause-read c = λ whole before read kept has.
    let line = c.args.line.now in
    let same = kept_line line whole kept in
    let text = c.args.text.now.items in
    let named = option_map placed_of c.in_ok-named.named in
    let next : c.in-Some.number ≡ c.args.self.now.lines + 1 = first_of
    (omega arith, grind (arith, nat_tests), search (rules, tests)) in
    let before_this = has.looked.count in
    let count : c.in-Some.number ≡ length read + 1 = omega (arith, next, before_this) in
    let more : c.in-Some.number ≡ suc (length read) = omega (arith, next, before_this) in (
      record { line = whole; traced = named },
      refl,
      record {
        are = (has.are, rw (sym same.0) c.in_ok-named.ensures.names);
        looked = record {
          count = more;
          class = c.or-self.ensures ∙ ap₂ (λ (a b : Option WrongClass). option_or a b) has.looked.class
              (c.class_fault-fault.ensures
              ∙ ap (λ (n : ℕ). class_fault (class_by c.args.self.now.names) n named) count);
          positions = c.look_at_position.ensures.positions read whole has.looked.positions count;
        };
        shown = ap (λ (t : List ℕ). before ++ t) c.in_ok-named.ensures.text
            ∙ sym (append_assoc before text (untraced_line line))
            ∙ ap (λ (t : List ℕ). t ++ untraced_line line) has.shown
            ∙ ap (λ (t : List ℕ). untraced_lines (lines_read read) ++ t) same.1
            ∙ untraced_more (lines_read read) whole;
      },
    )
