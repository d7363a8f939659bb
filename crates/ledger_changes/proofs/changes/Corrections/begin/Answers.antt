use Rattle.std.proofs.Common.{◌∙◌, ap, refl, sym}
use Rattle.recorded_lines.specs.Texts.{calls_of, left}
use Rattle.ledger_changes.specs.Ledgers.{rows_of}
use Rattle.ledger_changes.specs.declared.fault.Bill.TheVariants.{New, Old}
use Rattle.ledger_changes.proofs.Walking.{all_left, stops, walk_first}
use Rattle.ledger_changes.proofs.changes.Corrections.begin.Goals as goal

pub returns-in-Err-clause-wrong : goal.returns-in-Err-clause-wrong
returns-in-Err-clause-wrong c =
    let old = c.args.self.now.old in
    stops c.in-Err.fault Old (calls_of c.begin.new.self.from)
    (calls_of c.args.self.now.new.from) (λ whole. rows_of (left old.from whole))
    c.requires.of_old c.in-Err.ensures.wrong (λ whole can wrong is.
    ap rows_of (sym (all_left old.from whole c.requires.fresh_old)) ∙ is)

pub returns-in-Err-begin-clause-wrong : goal.returns-in-Err-begin-clause-wrong
returns-in-Err-begin-clause-wrong c =
    let new = c.args.self.now.new in
    stops c.in-Err-begin.fault New (calls_of c.begin.new.self.from)
    (calls_of c.begin-2.new.self.from) (λ whole. rows_of (left new.from whole))
    c.requires.of_new c.in-Err-begin.ensures.wrong (λ whole can wrong is.
    ap rows_of (sym (all_left new.from whole c.requires.fresh_new)) ∙ is)

pub returns-in-Ok-begin-clause-given : goal.returns-in-Ok-begin-clause-given
returns-in-Ok-begin-clause-given c =
    let self = c.args.self.now in
    record {
      by = refl;
      of_old = c.in-Ok.ensures.bill ∙ c.requires.of_old;
      of_new = c.in-Ok-begin.ensures.bill ∙ c.requires.of_new;
      ended_old = c.in-Ok.ensures.ended;
      ended_new = c.in-Ok-begin.ensures.ended;
      walked = λ o n can_o can_n. walk_first self.is_by_token c.requires.none c.requires.closed
          (c.in-Ok.ensures.read o can_o ∙ ap rows_of (all_left self.old.from o c.requires.fresh_old))
          (c.in-Ok-begin.ensures.read n can_n
          ∙ ap rows_of (all_left self.new.from n c.requires.fresh_new));
    }
