-- Lines of a bill, as far as corrections look at them.
use Rattle.std.specs.Prelude.{ℕ, List}

-- what sets a line of a bill apart: the token's digits, the moment's text and the validator
pub record Key : Type 0 where
  pub token : List ℕ
  pub moment : List ℕ
  pub validator : ℕ

-- what is charged by it: the answer, the cents and the reason
pub record Charge : Type 0 where
  pub answer : List ℕ
  pub cents : ℕ
  pub reason : List ℕ

pub record Row : Type 0 where
  pub key : Key
  pub charge : Charge
