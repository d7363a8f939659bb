use Rattle.std.proofs.Common.{ℕ, List, arith, subst}
use Rattle.std.specs.Prelude.{IfSome, Option}
use Rattle.std.proofs.lemmas.Result.{err_from_is_err_and}
use Rattle.sorted_taps.proofs.Known.{known_all}
use Rattle.settled_bills.specs.inside.OwnTaps.{IsOwnResult}
use Rattle.settled_bills.proofs.OwnTaps.{known_there}
use Rattle.settled_bills.proofs.own_by_threads.own_at.Goals as goal

pub returns-then-position-files : goal.returns-then-position-files
returns-then-position-files g c = λ bytes there. known_all _ bytes (λ all. (tt, tt))

pub returns-in_err-window : goal.returns-in_err-window
returns-in_err-window g c =
    let p = err_from_is_err_and c.from_residual.result c.from_residual.ensures.1 in
    rw (p.1, p.2) (λ bytes there. known_all _ bytes (λ all. (tt, tt)))

pub returns : goal.returns
returns g c = λ bytes there.
    let within = c.if-position-files.false in
    subst (λ (o : Option (List ℕ)). IfSome o (IsOwnResult c.args.token c.own_of_file.result))
    (known_there g.F.Placed.bytes c.args.files.now c.args.position c.index-files-position.result
    bytes (omega (arith, within)) c.index-files-position.is there) c.own_of_file.ensures
