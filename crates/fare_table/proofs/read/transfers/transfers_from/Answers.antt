use Rattle.std.proofs.Common.{◌≡◌, ◌∙◌, ℕ, ◌<◌, ◌++◌, ◌∷◌, [], List, All, Bool, Ok, None, ap, refl}
use Rattle.std.proofs.Common.{sym, map, string_bytes, drop, length, get_or, suc, add-one, arith}
use Rattle.fare_table.proofs.read.transfers.transfers_from.Goals.{else-branch}
use Rattle.fare_table.proofs.read.transfers.transfers_from.Goals.{then-branch+in_ok-push}
use Rattle.fare_table.specs.OrFault.{OrFault, ◌>>=◌}
use Rattle.fare_table.specs.Transfers.{at_positions, is_new, named_pair, positions_of}
use Rattle.fare_table.specs.Transfers.{transfers_from, with_transfer}
use Rattle.fare_table.specs.declared.read.transfers.{NamedPair.NamedPair, TextTransfer.TextTransfer}
use Rattle.fare_table.specs.inside.TextTransfers.{IsBoundedTransfer}
use Rattle.std.proofs.Math.Seq.{drop-cons}
use Rattle.std.proofs.lemmas.{Grind.common_steps, Result.err_from_is_err_and}
use Rattle.std.specs.Prelude.{if◌then◌else◌}
use Rattle.fare_table.specs.Transfers as spec
use Rattle.fare_table.proofs.read.transfers.transfers_from.Goals as goal

abbrev named : NamedPair → spec.NamedPair
named p = named_pair p.from.now p.to.now p.pays

-- what is read past the end
abbrev none : NamedPair
none = record {
  from = record { ref_ptr = (0, 0); now = [] };
  to = record { ref_ptr = (0, 0); now = [] };
  pays = None;
}

abbrev at : List NamedPair → ℕ → NamedPair
at pairs i = get_or pairs i none

-- the transfers of the pairs that are left, once the modes of the first are known
abbrev from_here : List (List ℕ) → List TextTransfer → List NamedPair → ℕ → ℕ × ℕ
    → OrFault (List TextTransfer)
from_here modes found pairs i positions =
    with_transfer found (at_positions positions (at pairs i).pays)
    >>= (λ next. transfers_from modes next (map named (drop (suc i) pairs)))

step : (modes : List (List ℕ)) (found : List TextTransfer) (pairs : List NamedPair) (i : ℕ)
    → i < length pairs
    → transfers_from modes found (map named (drop i pairs))
    ≡ (positions_of modes (named (at pairs i)).0 >>= from_here modes found pairs i)
step modes found pairs i inside = rw (drop-cons pairs i none inside) refl

taken : (modes : List (List ℕ)) (found : List TextTransfer) (pairs : List NamedPair) (i : ℕ)
    (positions : ℕ × ℕ) (new : Bool) → i < length pairs
    → Ok positions ≡ positions_of modes (named (at pairs i)).0
    → Ok new ≡ is_new found (at_positions positions (at pairs i).pays)
    → transfers_from modes found (map named (drop i pairs))
    ≡ transfers_from modes
    (if new then found ++ at_positions positions (at pairs i).pays ∷ [] else found)
    (map named (drop (suc i) pairs))
taken modes found pairs i positions new inside known is =
    step modes found pairs i inside
    ∙ ap (λ o. o >>= from_here modes found pairs i) (sym known)
    ∙ ap (λ o. (o >>= (λ (new : Bool).
    Ok (if new then found ++ at_positions positions (at pairs i).pays ∷ [] else found)))
    >>= (λ next. transfers_from modes next (map named (drop (suc i) pairs)))) (sym is)

all_with : (earlier found : List TextTransfer) (one : TextTransfer)
    → All IsBoundedTransfer earlier → IsBoundedTransfer one
    → found ≡ earlier ++ one ∷ [] → All IsBoundedTransfer found
all_with earlier found one all bounded same = grind (arith, common_steps)

pub returns-in_err-from-clause-answer : goal.returns-in_err-from-clause-answer
returns-in_err-from-clause-answer c =
    let modes = map string_bytes c.args.modes.now in
    let found = c.loop-pair.found.items in
    let pairs = c.args.pairs.now in
    let i = c.loop-pair.pair-index in
    let p = err_from_is_err_and c.from_residual.result c.from_residual.ensures.1 in
    rw (p.1, p.2)
    (λ known.
    c.loop-pair.invariant.same ∙ step modes found pairs i (omega arith)
    ∙ ap (λ o. o >>= from_here modes found pairs i) (sym c.in_err-from.ensures.positions))

pub loop-pair-preserved : goal.loop-pair-preserved
loop-pair-preserved c =
    let modes = map string_bytes c.args.modes.now in
    let earlier = c.loop-pair.found.items in
    let pairs = c.args.pairs.now in
    let i = c.loop-pair.pair-index in
    let positions : ℕ × ℕ = (c.in_ok-from.from, c.in_ok-from.to) in
    let one : TextTransfer = at_positions positions (at pairs i).pays in
    let known = c.in_ok-from.ensures.positions in
    let inside : i < length pairs = omega arith in
    elim c.if-branch.branch [
      | then-branch+in_ok-push w ↦
          let new = rw (c.deref.ensures.value, w.if-branch.true) at c.in_ok-is_new.ensures in
          let same : c.if-branch.found.items ≡ earlier ++ one ∷ [] =
          ap (λ v. v.items) w.found-is ∙ w.in_ok-push.ensures.items in
          record {
            same = rw (same, add-one)
                (c.loop-pair.invariant.same ∙ taken modes earlier pairs i positions _ inside known new);
            bounds = all_with earlier c.if-branch.found.items one c.loop-pair.invariant.bounds
                record {
                  from = c.in_ok-from.ensures.from;
                  to = c.in_ok-from.ensures.to;
                  pays = c.requires.bounds i none inside;
                }
                same;
          }
      | else-branch w ↦
          let new = rw (c.deref.ensures.value, w.if-branch.false) at c.in_ok-is_new.ensures in
          record {
            same = rw (w.found-is, add-one)
                (c.loop-pair.invariant.same ∙ taken modes earlier pairs i positions _ inside known new);
            bounds = rw w.found-is c.loop-pair.invariant.bounds;
          }
    ]
