-- All taps that one side has more often than the other.
use Rattle.std.specs.Prelude.{◌≡◌, ◌+◌, ◌-◌, ◌⊎◌, List}
use Rattle.tap_views.specs.declared.encoder.TapFields.{TapFields}
use Rattle.ledger_check.specs.Balances.{copies_among, left_at}
use Rattle.ledger_check.specs.declared.full_balance.FullBalance.{FullBalance}

-- the taps that are more often among the valid taps than among the others, each as often as it is
-- there more often
pub record AreLacking (valid others taps : List TapFields) : Type 0 where
  pub copies : (tap : TapFields)
      → copies_among tap taps ≡ copies_among tap valid - copies_among tap others

-- of each valid tap some were subtracted and this number is left, or this number more was
-- subtracted than the uploads have
pub record IsFullBalance (full : FullBalance) (valid subtracted : List TapFields) : Type 0 where
  pub sums : (tap : TapFields)
      → copies_among tap valid + left_at full.surplus tap
      ≡ left_at full.missing tap + copies_among tap subtracted
  pub one_side : (tap : TapFields)
      → (left_at full.missing tap ≡ 0) ⊎ (left_at full.surplus tap ≡ 0)
