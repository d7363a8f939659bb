-- What is written is a prefix of what is found, whenever the run ends.
use Rattle.std.proofs.Common.{◌≡◌, ◌∙◌, ◌++◌, ℕ, List, [], None, Option, ap, append-nil}
use Rattle.std.proofs.Common.{inl, inr, refl, rules, subst, sym, tests}
use Rattle.world.specs.{Loads.IsRefused, Run.Load, Run.Run, Run.with_cut, Run.with_flushed}
use Rattle.omny_audit.specs.declared.fault.Fault.TheVariants.{Ledger, NoMemory}
use Rattle.omny_audit.proofs.Audits.{all_found, cut_off, interrupted, unflushed, went_further}
use Rattle.omny_audit.proofs.Audits.{went_on}
use Rattle.omny_audit.proofs.audit.audit_over.Goals as goal

pub loop-piece-init : goal.loop-piece-init
loop-piece-init g c = record {
  name = c.requires.read.0;
  file = [];
  read = c.requires.read.1;
  whole = c.requires.whole;
  goes = record {
    name = refl;
    rest = [];
    begins = ap (λ (x : Load). x.bytes) c.requires.read.1.reading ∙ sym (append-nil _);
    ended = λ none. refl;
  };
  so_far = λ given has. record {
    written = [];
    has = has;
    wrote = let run = g.W.Inputs.run c.args.world.now in
        sym (ap (λ xs. record run { written = xs }) (append-nil run.written));
  };
}

pub next-requires : goal.next-requires
next-requires g c =
    let now = c.loop-piece.invariant.so_far c.requires.audited.0 c.requires.audited.1 in
    (_, c.loop-piece.invariant.file, now.written, now.has)

pub loop-piece-preserved : goal.loop-piece-preserved
loop-piece-preserved g c =
    let before = c.loop-piece.invariant in
    let bytes = before.file ++ c.loop-piece.piece.items in
    let none : c.in-Ok.next.1 ≡ None = first_of (cc, search (rules, tests)) in
    let read = c.in_default-read.ensures.read before.name bytes before.read in
    record {
      name = before.name;
      file = bytes;
      read = read;
      whole = c.in_default-read.ensures.whole;
      goes = went_further c.read.new.self before.name bytes c.read.new.piece.items before.goes
          before.read.reading read.reading (λ ended. (c.read.ensures.ended ended).0);
      so_far = λ given has. went_on (before.so_far given has)
          (rw c.deref.ensures.value at c.in-Ok.ensures) before.read before.whole _ none
          (rw c.as_slice.ensures.value at c.in_default-write.ensures.whole);
    }

-- memory was refused for what is found of the piece
pub returns-in_default-clause-ends : goal.returns-in_default-clause-ends
returns-in_default-clause-ends g c = λ given has.
    let before = c.loop-piece.invariant in
    interrupted (before.so_far given has) c.loop-piece.piece.items c.loop-piece.ledger.trace NoMemory
    (ap (λ (x : Load). x.bytes) before.read.reading) (inl refl)

pub returns-clause-ends : goal.returns-clause-ends
returns-clause-ends g c = λ given has.
    let before = c.loop-piece.invariant in
    interrupted (before.so_far given has) c.loop-piece.piece.items c.loop-piece.ledger.trace NoMemory
    (ap (λ (x : Load). x.bytes) before.read.reading) (inl refl)

-- a write failed
pub returns-in-Err-clause-ends : goal.returns-in-Err-clause-ends
returns-in-Err-clause-ends g c = λ given has.
    let before = c.loop-piece.invariant in
    cut_off (before.so_far given has) (rw c.deref.ensures.value at c.in-Ok.ensures) before.read
    before.whole _ c.in-Err.why (rw c.as_slice.ensures.value at c.in-Err.ensures.cut)

-- all that is found was written, and the flush failed
pub returns-in-Err-flush-clause-ends : goal.returns-in-Err-flush-clause-ends
returns-in-Err-flush-clause-ends g c = λ given has.
    let before = c.loop-piece.invariant in
    let why = c.in-Err-flush.unflushed in
    let wrote = rw c.as_slice.ensures.value at c.in_default-write.ensures.whole in
    unflushed (before.so_far given has) (rw c.deref.ensures.value at c.in-Ok.ensures) before.read
    before.whole _ why (c.in-Err-flush.ensures.cut ∙ ap (λ (r : Run). with_cut r why) wrote)

-- all that is found was written
pub returns-in-Some-clause-ends : goal.returns-in-Some-clause-ends
returns-in-Some-clause-ends g c = λ given has.
    let before = c.loop-piece.invariant in
    let wrote = rw c.as_slice.ensures.value at c.in_default-write.ensures.whole in
    all_found (before.so_far given has) (rw c.deref.ensures.value at c.in-Ok.ensures) before.read
    before.whole _ c.in-Some.succeeded c.in-Some.is
    (c.in_default-flush.ensures.flushed ∙ ap with_flushed wrote)

-- a read of the ledger failed
pub returns-in-Err-read-clause-ends : goal.returns-in-Err-read-clause-ends
returns-in-Err-read-clause-ends g c = λ given has.
    let before = c.loop-piece.invariant in
    let bytes = before.file ++ c.loop-piece.piece.items in
    let none : c.in-Ok.next.1 ≡ None = first_of (cc, search (rules, tests)) in
    let read = c.in-Err-read.ensures.unread before.name bytes before.read in
    interrupted (went_on (before.so_far given has) (rw c.deref.ensures.value at c.in-Ok.ensures)
    before.read before.whole _ none (rw c.as_slice.ensures.value at c.in_default-write.ensures.whole))
    [] c.read.new.self.trace (Ledger c.in-Err-read.why)
    (ap (λ (x : Load). x.bytes) read.0 ∙ sym (append-nil bytes))
    (inr (
      (
        c.loop-piece.ledger.trace.run,
        subst (λ (n : Option (List ℕ)). IsRefused c.loop-piece.ledger.trace.run
            c.read.new.self.trace.run n c.in-Err-read.why) (sym (ap (λ (x : Load). x.name) read.0)) read.1,
      ),
      refl,
    ))

pub returns-in-Err-read-clause-goes : goal.returns-in-Err-read-clause-goes
returns-in-Err-read-clause-goes g c =
    let before = c.loop-piece.invariant in
    let bytes = before.file ++ c.loop-piece.piece.items in
    let read = c.in-Err-read.ensures.unread before.name bytes before.read in
    went_further c.read.new.self before.name bytes [] before.goes before.read.reading
    (read.0 ∙ ap (λ (t : List ℕ). record { name = before.name; bytes = t }) (sym (append-nil bytes)))
    (λ ended. (c.read.ensures.ended ended).0)
