-- Each round reads one line more of the piece.
use Rattle.std.proofs.Common.{◌++◌, [], ℕ, List, refl, sym, ap, subst, ◌∙◌, append_assoc}
use Rattle.std.proofs.Common.{append-nil, string_bytes}
use Rattle.ledger_check.specs.FullCheckStates.{HasFed, HasFullyChecked}
use Rattle.ledger_check.proofs.full_check.FullCheck.feed.Goals as goal

pub loop-line-init : goal.loop-line-init
loop-line-init c = record {
  consumed = [];
  whole = refl;
  fed = λ text written valid is. (
    [],
    sym (append-nil (string_bytes c.args.reported.now)),
    subst (λ (t : List ℕ). HasFullyChecked c.args.table.now c.args.self.now c.args.subtracts
        c.args.full.now t (written ++ []) valid) (sym (append-nil text))
        (subst (λ (w : List ℕ). HasFullyChecked c.args.table.now c.args.self.now c.args.subtracts
        c.args.full.now text w valid) (sym (append-nil written)) is),
  );
}

pub take-requires-clause-fed : goal.take-requires-clause-fed
take-requires-clause-fed c =
    let fed = c.requires.fed in
    let now = c.loop-line.invariant.fed fed.0 fed.1 fed.2 fed.3 in
    (fed.0 ++ c.loop-line.invariant.consumed, fed.1 ++ now.0, fed.2, now.2)

pub loop-line-preserved : goal.loop-line-preserved
loop-line-preserved c =
    let before = c.loop-line.invariant in
    let line = c.in-Some.line.now in
    record {
      consumed = before.consumed ++ line;
      whole = before.whole ∙ ap (λ (r : List ℕ). before.consumed ++ r) c.in-Some.ensures.some.1
          ∙ sym (append_assoc before.consumed line c.in-Some.trailing.now);
      fed = λ text written valid is.
          let now = before.fed text written valid is in
          let next = c.in_ok-take.ensures (text ++ before.consumed) (written ++ now.0) valid now.2
          in (
            now.0 ++ next.0,
            next.1 ∙ ap (λ (t : List ℕ). t ++ next.0) now.1
                ∙ append_assoc (string_bytes c.args.reported.now) now.0 next.0,
            subst (λ (t : List ℕ). HasFullyChecked c.args.table.now c.take.new.self
                c.args.subtracts c.take.new.full t (written ++ (now.0 ++ next.0)) valid)
                (append_assoc text before.consumed line)
                (subst (λ (w : List ℕ). HasFullyChecked c.args.table.now c.take.new.self
                c.args.subtracts c.take.new.full ((text ++ before.consumed) ++ line) w valid)
                (append_assoc written now.0 next.0) next.2),
          );
    }

pub keep-requires : goal.keep-requires
keep-requires c = c.in_default.ensures.none

pub returns : goal.returns
returns c = λ text written valid is.
    let before = c.loop-line.invariant in
    let now = before.fed text written valid is in (
      now.0,
      now.1,
      record {
        taken = now.2.taken;
        fed = subst
            (λ (t : List ℕ). HasFed c.args.table.now c.keep.new.self t now.2.taken)
            (append_assoc text before.consumed c.loop-line.rest.now
            ∙ ap (λ (p : List ℕ). text ++ p) (sym before.whole))
            (c.in_ok-keep.ensures c.args.table.now (text ++ before.consumed) now.2.taken now.2.fed);
        reported = now.2.reported;
        subtracted = now.2.subtracted;
      },
    )
