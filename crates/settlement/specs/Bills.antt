-- What settled taps come to.
use Rattle.histories.specs.{Sums.sums, SumsByKey.sums_by_token}
use Rattle.histories.specs.{TalliesByKey.AreTallied, Tally.sums_of_tally, declared.entry.Entry.Entry}
use Rattle.settlement.specs.declared.bill.Bill.{Bill}
use Rattle.std.specs.Prelude.{◌≡◌, ◌+◌, ◌^◌, ◌≤◌, List, length}

-- the bill has the sums of these entries by validator, and of all
pub record IsCountOf (entries : List Entry) (bill : Bill) : Type 0 where
  pub validators : AreTallied entries bill.validators
  pub totals : sums_of_tally bill.totals ≡ sums entries

-- the bill has the sums of these entries: by token, by validator and of all
pub record IsBillOf (entries : List Entry) (bill : Bill) : Type 0 where
  pub tokens : bill.tokens ≡ sums_by_token entries
  pub counts : IsCountOf entries bill

-- both bills count some entries, and there is room for the entries of both together
abbrev pub HaveBillRoom : Bill → Bill → Type 0
HaveBillRoom bill more =
    (entries : List Entry) × (others : List Entry) × IsCountOf entries bill
    × IsCountOf others more × (length entries + length others ≤ 2 ^ 95)
