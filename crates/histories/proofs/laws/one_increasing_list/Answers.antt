use Rattle.std.proofs.Common.{subst, sym, List, ℕ}
use Rattle.histories.proofs.IncreasingLemmas.{increasing-is, increasing-only}
use Rattle.histories.specs.Increasing.{IsIncreasing}
use Rattle.std.proofs.lemmas.Cmp.{nat_cmp_total}
use Rattle.std.specs.{FinMap.nat_cmp-IsAntisymmetric, Ordering.nat_cmp}
use Rattle.tap_views.proofs.TokenLemmas.{token_cmp-total, token_cmp-ties}
use Rattle.tap_views.specs.{Token.token_cmp, declared.token.Token.Token}
use Rattle.histories.proofs.laws.one_increasing_list.Goals as goal

pub returns-clause-numbers : goal.returns-clause-numbers
returns-clause-numbers c = λ keys risen. (
  increasing-only nat_cmp_total nat_cmp-IsAntisymmetric keys risen,
  λ is. subst (λ (list : List ℕ). IsIncreasing nat_cmp keys list) (sym is)
      (increasing-is nat_cmp_total nat_cmp-IsAntisymmetric keys),
)

pub returns-clause-tokens : goal.returns-clause-tokens
returns-clause-tokens c = λ keys risen. (
  increasing-only token_cmp-total token_cmp-ties keys risen,
  λ is. subst (λ (list : List Token). IsIncreasing token_cmp keys list) (sym is)
      (increasing-is token_cmp-total token_cmp-ties keys),
)
