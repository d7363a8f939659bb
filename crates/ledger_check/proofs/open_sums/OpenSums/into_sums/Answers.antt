use Rattle.std.proofs.Common.{◌∙◌, arith}
use Rattle.histories.specs.TalliesByKey.{HasRoom}
use Rattle.ledger_check.proofs.OpenSums.{all_few}
use Rattle.ledger_check.proofs.open_sums.OpenSums.into_sums.Goals as goal

pub closed_tokens-requires : goal.closed_tokens-requires
closed_tokens-requires c =
    let (entries, are, few) = c.requires in (entries, are.split, omega (arith, few))

pub sums-requires : goal.sums-requires
unfolding HasRoom
sums-requires c =
    let (entries, are, few) = c.requires in (entries, are.validators, omega (arith, few))

pub totals-requires : goal.totals-requires
totals-requires c =
    let (entries, are, few) = c.requires in omega (arith, all_few entries c.args.self are, few)

pub returns : goal.returns
returns c = λ entries are. record {
  tokens = c.in_ok-tokens.ensures entries are.split;
  validators = c.in_ok-validators.ensures entries are.validators;
  totals = c.totals.ensures ∙ are.totals;
}
