-- The words after an explained ride: why it is no transfer.
use Rattle.account_rule.specs.{NoTransfers.no_transfer, TokenRules.rules_of}
use Rattle.account_rule.specs.declared.no_transfer.NoTransfer.{NoTransfer, TheVariants.FirstTap}
use Rattle.account_rule.specs.declared.no_transfer.NoTransfer.TheVariants.{TooLate, AfterTransfer}
use Rattle.account_rule.specs.declared.no_transfer.NoTransfer.TheVariants.{NoneGiven, NotPermitted}
use Rattle.account_rule.specs.declared.no_transfer.NoTransfer.TheVariants.{RideTooLate}
use Rattle.fare_caps.specs.declared.capped_reason.CappedReason.{CappedReason}
use Rattle.fare_caps.specs.declared.capped_reason.CappedReason.TheVariants.{PaidTransfer, Ride}
use Rattle.fare_caps.specs.declared.capped_reason.CappedReason.TheVariants.{Stale, Transfer}
use Rattle.fare_caps.specs.declared.capped_reason.CappedReason.TheVariants.{Unknown}
use Rattle.fare_texts.specs.Moments.{IsMomentText}
use Rattle.histories.specs.{Entry.tap_of, declared.entry.Entry.Entry}
use Rattle.std.specs.Fmt.{decimal}
use Rattle.std.specs.Prelude.{◌≡◌, ℕ, ◌-◌, ◌/◌, ◌%◌, List, [], ◌++◌, Option, Some, None, codes, map}
use Rattle.std.specs.Prelude.{option_map, slice_index_or}
use Rattle.tap_views.specs.{Token.bytes_of, declared.token.Token.Token}
use Rattle.tariffs.specs.Fares.{Fares}

-- ` is 2 h 3 min 10 s earlier`, in whole seconds of these milliseconds
unfoldable pub gap_words : ℕ → List ℕ
gap_words gap =
    codes " is " ++ (decimal (gap / 3_600_000) ++ (codes " h " ++ (decimal (gap / 60_000 % 60)
    ++ (codes " min " ++ (decimal (gap / 1_000 % 60) ++ codes " s earlier")))))

-- `, no transfer since the tap of 2024-03-08T17:00:00.000Z is 2 h 3 min 10 s earlier`
pub record IsTooLateText (last gap : ℕ) (text : List ℕ) : Type 0 where
  pub moment : List ℕ
  pub is : IsMomentText last moment
  pub shown : text ≡ codes ", no transfer since the tap of " ++ (moment ++ gap_words gap)

-- `, no transfer since the tap of 2024-03-08T17:00:00.000Z is one`
pub record IsAfterTransferText (last : ℕ) (text : List ℕ) : Type 0 where
  pub moment : List ℕ
  pub is : IsMomentText last moment
  pub shown : text ≡ codes ", no transfer since the tap of " ++ (moment ++ codes " is one")

-- `, no transfer since the ride of 2024-03-08T17:00:00.000Z is 2 h 3 min 10 s earlier`
pub record IsRideTooLateText (ride gap : ℕ) (text : List ℕ) : Type 0 where
  pub moment : List ℕ
  pub is : IsMomentText ride moment
  pub shown : text ≡ codes ", no transfer since the ride of " ++ (moment ++ gap_words gap)

-- `, no transfer since there is none from subway to subway`
unfoldable pub pair_words : List ℕ → List ℕ → List ℕ
pair_words from to =
    codes ", no transfer since there is none from " ++ (from ++ (codes " to " ++ to))

-- the text says why a ride at the moment is no transfer, by the names of the table
abbrev pub IsNoTransferText : Fares → ℕ → NoTransfer → List ℕ → Type 0
IsNoTransferText fares moment FirstTap text =
    text ≡ codes ", no transfer since it is the first known tap"
IsNoTransferText fares moment (TooLate last) text = IsTooLateText last (moment - last) text
IsNoTransferText fares moment NoneGiven text = text ≡ codes ", no transfer since rides give none"
IsNoTransferText fares moment (AfterTransfer last) text = IsAfterTransferText last text
IsNoTransferText fares moment (RideTooLate ride) text =
    IsRideTooLateText ride (moment - ride) text
IsNoTransferText fares moment (NotPermitted from to) text =
    text ≡ pair_words (slice_index_or fares.meaning.modes from.position [])
    (slice_index_or fares.meaning.modes to.position [])

-- the text says why an entry that has this reason is no transfer: nothing, unless it is a ride
abbrev pub IsNoTransferEnd : Fares → ℕ → CappedReason → Option NoTransfer → List ℕ → Type 0
IsNoTransferEnd fares moment Unknown lack text = text ≡ []
IsNoTransferEnd fares moment (Stale latest) lack text = text ≡ []
IsNoTransferEnd fares moment (Transfer last mode) lack text = text ≡ []
IsNoTransferEnd fares moment (PaidTransfer start until last mode charge) lack text = text ≡ []
IsNoTransferEnd fares moment (Ride start until charge) None text = text ≡ []
IsNoTransferEnd fares moment (Ride start until charge) (Some lack) text =
    IsNoTransferText fares moment lack text

-- why the entry, if it is a ride, is no transfer after the token's earlier entries; none if the
-- table does not know its validator
abbrev pub no_transfer_after : Fares → Token → List Entry → Entry → Option NoTransfer
no_transfer_after fares token earlier entry =
    option_map (λ mode. no_transfer (rules_of fares (bytes_of token))
    (map (tap_of fares) earlier) entry.moment mode) (tap_of fares entry).mode
