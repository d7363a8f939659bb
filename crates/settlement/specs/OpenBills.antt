-- Bills to which taps are added one by one.
use Rattle.histories.specs.{Sums.sums, SumsByKey.sums_by_token, SumsByKey.token_of}
use Rattle.histories.specs.{TalliesByKey.AreTallied, Tally.sums_of_tally}
use Rattle.histories.specs.declared.entry.Entry.{Entry}
use Rattle.settlement.specs.{Modes.AreModesOf, Posted.posted, Replays.HasPosted}
use Rattle.settlement.specs.declared.open_bill.OpenBill.{OpenBill}
use Rattle.std.specs.Prelude.{◌≡◌, ◌+◌, ◌^◌, ◌<◌, ◌≤◌, ℕ, true, false, All, List, [], ◌∷◌, ◌++◌}
use Rattle.std.specs.Prelude.{length, map}
use Rattle.tap_views.specs.{TokenOrder.AreBelow, declared.encoder.TapFields.TapFields}
use Rattle.tariffs.specs.Fares.{Fares}

-- The entries of the taps are those of lower tokens, and then those of the last token, whose account
-- has posted them. The bill has the sums of the others, and all entries by validator.
pub record IsOpenBill (fares : Fares) (taps : List TapFields) (bill : OpenBill) : Type 0 where
  pub lower : List Entry
  pub last : List Entry
  pub both : posted fares taps ≡ lower ++ last
  pub below : AreBelow (map token_of lower) (bill.replay.token ∷ [])
  pub its : All (λ entry. entry.token ≡ bill.replay.token) last
  pub holds : HasPosted fares bill.replay (posted fares taps)
  pub tally : sums_of_tally bill.tally ≡ sums last
  pub some : bill.has_taps ≡ true → 0 < length last
  pub none : bill.has_taps ≡ false → last ≡ []
  pub tokens : bill.bill.tokens ≡ sums_by_token lower
  pub totals : sums_of_tally bill.bill.totals ≡ sums lower
  pub validators : AreTallied (posted fares taps) bill.bill.validators
  pub modes : AreModesOf fares bill.modes.list.items

-- the bill has some taps, and there is room for `more` others
abbrev pub HasRoomFor : OpenBill → ℕ → Type 0
HasRoomFor bill more =
    (fares : Fares) × (taps : List TapFields) × IsOpenBill fares taps bill
    × (length taps + more ≤ 2 ^ 94)
