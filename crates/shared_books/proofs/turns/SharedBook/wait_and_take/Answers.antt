use Rattle.std.proofs.Common.{◌∙◌, refl}
use Rattle.shared_books.proofs.Passing.{goes_nowhere, goes_on, still_free, seen_goes_on, out_later}
use Rattle.shared_books.proofs.Passing.{finds_full, full_later}
use Rattle.shared_books.proofs.turns.SharedBook.wait_and_take.Goals as goal

pub loop-init : goal.loop-init
loop-init g c = record { home = refl; goes_on = goes_nowhere _ c.requires.free }

pub look-found-requires-clause-free : goal.look-found-requires-clause-free
look-found-requires-clause-free g c = still_free _ _ c.requires.free c.loop.invariant.goes_on

pub returns-then-found-clause-same : goal.returns-then-found-clause-same
returns-then-found-clause-same g c = c.look-found.ensures.same ∙ c.loop.invariant.home

pub returns-then-found-clause-full : goal.returns-then-found-clause-full
returns-then-found-clause-full g c =
    full_later _ _ _ c.loop.invariant.goes_on
    (finds_full _ _ _ c.if-found.true c.look-found.ensures.seen)

pub loop-preserved-then-found-eq1 : goal.loop-preserved-then-found-eq1
loop-preserved-then-found-eq1 g c = record {
  home = c.look-found.ensures.same ∙ c.loop.invariant.home;
  goes_on = goes_on _ _ _ c.loop.invariant.goes_on (seen_goes_on _ _ _ c.look-found.ensures.seen);
}

pub try_take-requires-clause-belongs : goal.try_take-requires-clause-belongs
try_take-requires-clause-belongs g c =
    c.look-found.ensures.same ∙ (c.loop.invariant.home ∙ c.requires.belongs)

pub try_take-requires-clause-free : goal.try_take-requires-clause-free
try_take-requires-clause-free g c =
    still_free _ _ c.requires.free
    (goes_on _ _ _ c.loop.invariant.goes_on (seen_goes_on _ _ _ c.look-found.ensures.seen))

pub returns-in-Some-try_take-clause-same : goal.returns-in-Some-try_take-clause-same
returns-in-Some-try_take-clause-same g c =
    c.try_take.ensures.same ∙ (c.look-found.ensures.same ∙ c.loop.invariant.home)

pub returns-in-Some-try_take-clause-taken : goal.returns-in-Some-try_take-clause-taken
returns-in-Some-try_take-clause-taken g c =
    out_later _ _ _ _ _ c.loop.invariant.goes_on
    (out_later _ _ _ _ _ (seen_goes_on _ _ _ c.look-found.ensures.seen)
    c.in-Some-try_take.ensures.taken)

pub loop-preserved : goal.loop-preserved
loop-preserved g c = record {
  home = c.try_take.ensures.same ∙ (c.look-found.ensures.same ∙ c.loop.invariant.home);
  goes_on = goes_on _ _ _ c.loop.invariant.goes_on
      (goes_on _ _ _ (seen_goes_on _ _ _ c.look-found.ensures.seen) c.in_default.ensures.lost);
}
