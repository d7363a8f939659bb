use Rattle.std.proofs.Common.{◌∙◌, refl, sym, arith}
use Rattle.tap_views.proofs.TokenLemmas.{token_cmp-ties}
use Rattle.ledger_check.proofs.OpenSums.{below_last, run_few, run_of_next, run_of_none}
use Rattle.ledger_check.proofs.open_sums.OpenSums.next_run.Goals as goal

pub returns-in_default-clause-run : goal.returns-in_default-clause-run
returns-in_default-clause-run c = λ entries is up.
    let split = rw c.in_default.is at is.split in
    (refl, run_of_none entries _ _ c.requires.fits c.new.ensures split.0 split.1)

pub returns-in_ok-push-in-Less-clause-run : goal.returns-in_ok-push-in-Less-clause-run
returns-in_ok-push-in-Less-clause-run c = λ entries is up.
    let split = rw c.in-Some.is at is.split in (
      refl,
      run_of_next entries _ _ c.in-Some.last _ split.0 split.1 (sym c.cmp.ensures ∙ c.in-Less.is)
          c.requires.fits c.new.ensures c.in_ok-push-in-Less.ensures,
    )

pub returns-in-Equal-clause-run : goal.returns-in-Equal-clause-run
returns-in-Equal-clause-run c = λ entries is up.
    let split = rw c.in-Some.is at is.split in
    (token_cmp-ties _ _ (sym c.cmp.ensures ∙ c.in-Equal.is), split.0)

pub returns-in-Greater-clause-run : goal.returns-in-Greater-clause-run
returns-in-Greater-clause-run c = λ entries is up.
    let split = rw c.in-Some.is at is.split in
    absurd (below_last entries _ c.in-Some.last c.args.token split.0 split.1 c.requires.fits
    (sym c.cmp.ensures ∙ c.in-Greater.is) up)

pub push-requires : goal.push-requires
push-requires c =
    let (entries, are, up, few) = c.requires.room in
    let split = rw c.in-Some.is at are.split in
    omega (arith, run_few entries _ c.in-Some.last split.0, few)
