-- Each round reads one line more of the piece.
use Rattle.std.proofs.Common.{◌≡◌, ◌++◌, [], List, ℕ, refl, sym, ap, ◌∙◌, append_assoc, append-nil}
use Rattle.std.proofs.Common.{arith, rules, tests}
use Rattle.std.proofs.lemmas.Bool.Decides.{nat_tests}
use Rattle.ledger_check.proofs.LineEnds.{empty_list}
use Rattle.omny_audit.proofs.TraceLemmas.{traced_part}
use Rattle.omny_audit.proofs.traced.TracedPieces.feed.Goals as goal

pub loop-rest-init : goal.loop-rest-init
loop-rest-init c = record {
  consumed = [];
  whole = refl;
  wanted = refl;
  read = λ file before read is. (read, rw (append-nil file) is);
}

pub loop-rest-preserved : goal.loop-rest-preserved
loop-rest-preserved c =
    let was = c.loop-rest.invariant in
    let line = c.in-Some.line.now in
    record {
      consumed = was.consumed ++ line;
      whole = was.whole ∙ ap (λ (r : List ℕ). was.consumed ++ r) c.in-Some.ensures.some.1
          ∙ sym (append_assoc was.consumed line c.in-Some.trailing.now);
      wanted = c.end_line.ensures.wanted ∙ was.wanted;
      read = λ file before read is.
          let now = was.read file before read is in
          let next = c.in_ok-end_line.ensures.read (file ++ was.consumed) before now.0 now.1 in
          (next.0, rw (sym (append_assoc file was.consumed line)) next.1);
    }

pub returns-in_default-clause-read : goal.returns-in_default-clause-read
returns-in_default-clause-read c = λ file before read is.
    let was = c.loop-rest.invariant in
    let now = was.read file before read is in
    let rest = c.loop-rest.rest.now in
    let part = traced_part c.loop-rest.self (record c.loop-rest.self { started = c.keep.new.kept })
    (file ++ was.consumed) (before ++ c.loop-rest.text.items) now.0 now.1 rest
    c.in_default.ensures.none refl (c.in_ok-keep.ensures now.1.started now.1.kept) in
    (now.0, rw (was.whole, sym (append_assoc file was.consumed rest)) part)

pub returns-clause-read : goal.returns-clause-read
returns-clause-read c = λ file before read is.
    let was = c.loop-rest.invariant in
    let none : c.loop-rest.rest.now ≡ [] = empty_list c.loop-rest.rest.now
    (first_of (omega arith, grind (arith, nat_tests), search (rules, tests))) in
    let all : c.args.piece.now ≡ was.consumed = was.whole
    ∙ ap (λ (r : List ℕ). was.consumed ++ r) none ∙ append-nil was.consumed in
    rw all (was.read file before read is)
