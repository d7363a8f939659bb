use Rattle.std.proofs.Common.{ℕ, ap, sym, subst, ◌∙◌, length, Vec, Global}
use Rattle.settled_bills.specs.inside.Taken.{IsReady}
use Rattle.sorted_taps.specs.Positions.{ArePlaced}
use Rattle.sorted_taps.specs.declared.{merge.Merge.Merge, reader.TapReader.TapReader}
use Rattle.settled_bills.proofs.token_part.StartedPart.begin.Goals as goal

pub returns-clause-ready : goal.returns-clause-ready
returns-clause-ready g c =
    subst (λ (n : ℕ). IsReady n c.in_ok-taker.taker)
    (ap (λ (v : Vec TapReader Global). length v.items) c.of.ensures ∙ c.in_ok-placed.ensures.number)
    c.in_ok-taker.ensures.ready

pub returns-clause-placed : goal.returns-clause-placed
returns-clause-placed g c = λ all are.
    subst
    (λ (v : Vec TapReader Global). ArePlaced all c.in_ok-placed.placed.positions.items v.items)
    (sym (ap (λ (m : Merge). m.readers) c.in_ok-taker.ensures.merge ∙ c.of.ensures))
    (c.in_ok-placed.ensures.placed all are)
