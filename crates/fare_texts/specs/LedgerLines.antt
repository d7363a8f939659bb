-- The ledger: a header line, and a line of twelve fields for each entry of a token.
use Rattle.account_rule.specs.declared.reason.Charge.{Charge}
use Rattle.account_rule.specs.declared.reason.Charge.TheVariants.{Full, CeilingCut, CeilingReached}
use Rattle.account_rule.specs.declared.reason.Charge.TheVariants.{RideLimitReached}
use Rattle.fare_caps.specs.{CapMeanings.capped_rules_of, CappedReplies.capped_reason}
use Rattle.fare_caps.specs.declared.cap_charge.CapCharge.{CapCharge}
use Rattle.fare_caps.specs.declared.cap_charge.CapCharge.TheVariants.{ByWindow, CapCut, CapReached}
use Rattle.fare_caps.specs.declared.capped_reason.CappedReason.{CappedReason}
use Rattle.fare_caps.specs.declared.capped_reason.CappedReason.TheVariants.{PaidTransfer, Ride}
use Rattle.fare_caps.specs.declared.capped_reason.CappedReason.TheVariants.{Stale, Transfer}
use Rattle.fare_caps.specs.declared.capped_reason.CappedReason.TheVariants.{Unknown}
use Rattle.fare_texts.specs.{Moments.IsMomentText, StatementText.answer_text}
use Rattle.hex.specs.Hex.{encode_lower}
use Rattle.histories.specs.{Entry.tap_of, declared.entry.Entry.Entry}
use Rattle.std.specs.Fmt.{decimal}
use Rattle.std.specs.Prelude.{◌≡◌, ℕ, ◌+◌, List, [], ◌∷◌, ◌++◌, length, map, Option, Some, None}
use Rattle.std.specs.Prelude.{codes, if◌then◌else◌, nat_le, slice_index_or}
use Rattle.tap_views.specs.{Token.bytes_of, declared.token.Token.Token}
use Rattle.tariffs.specs.Fares.{Fares, mode_at}

-- the header line
abbrev pub head_text : List ℕ
head_text =
    codes
    "token,line,moment,validator,mode,answer,cents,window_start,window_end,ride,reason,points_at\n"

-- the name of a mode by its place, or nothing for none
abbrev pub name_or_empty : List (List ℕ) → Option ℕ → List ℕ
name_or_empty names None = []
name_or_empty names (Some position) = slice_index_or names position []

-- the name of a validator's mode at a moment, or nothing if the table does not know the validator
abbrev pub mode_field : Fares → ℕ → ℕ → List ℕ
mode_field fares moment validator =
    name_or_empty fares.meaning.modes (mode_at fares moment validator)

-- `000000000000000000000000000000a1,1,`
unfoldable pub line_head : Token → ℕ → List ℕ
line_head token number =
    encode_lower (bytes_of token) ++ (codes "," ++ (decimal number ++ codes ","))

-- `,1000,subway,paid,300,`
unfoldable pub entry_fields : Fares → Entry → List ℕ
entry_fields fares entry =
    codes "," ++ (decimal entry.validator
    ++ (codes "," ++ (mode_field fares entry.moment entry.validator
    ++ (codes "," ++ (answer_text entry.answer
    ++ (codes "," ++ (decimal entry.cents ++ codes ",")))))))

-- `,1,full,`: the ride's place in its window, from 1
unfoldable pub position_fields : ℕ → List ℕ → List ℕ
position_fields position word = codes "," ++ (decimal (position + 1) ++ (codes "," ++ (word ++ codes ",")))

-- a ride's place and how `window` decided its cents; no place if the ride limit is reached
abbrev pub window_rest : Charge → List ℕ
window_rest (Full position cents) = position_fields position (codes "full")
window_rest (CeilingCut position cents) = position_fields position (codes "ceiling-cut")
window_rest (CeilingReached position) = position_fields position (codes "ceiling")
window_rest RideLimitReached = codes ",,ride-limit,"

-- a colon and the name, which names the cap after a reason's word: `:month`. A name of more than 16
-- bytes, which no fare table has, is left out with its colon.
unfoldable pub cap_suffix : List ℕ → List ℕ
cap_suffix name = if nat_le (length name) 16 then codes ":" ++ name else []

-- the reason of a ride whose cents a cap decided: `cap:month`
abbrev pub cap_reason : List ℕ → List (List ℕ) → ℕ → List ℕ
cap_reason word caps cap = word ++ cap_suffix (slice_index_or caps cap [])

-- a ride's place and what decided its cents: `window`, or a cap beside it, which is named
abbrev pub ride_rest : List (List ℕ) → CapCharge → List ℕ
ride_rest caps (ByWindow charge) = window_rest charge
ride_rest caps (CapCut position cents cap) =
    position_fields position (cap_reason (codes "cap-cut") caps cap)
ride_rest caps (CapReached position cap) =
    position_fields position (cap_reason (codes "cap") caps cap)

-- the window's start and end, and the rest
pub record IsWindowFields (start until : ℕ) (rest text : List ℕ) : Type 0 where
  pub from : List ℕ
  pub starts : IsMomentText start from
  pub to : List ℕ
  pub ends : IsMomentText until to
  pub shown : text ≡ from ++ (codes "," ++ (to ++ rest))

-- how `window` decided the cents of a transfer, which no limit of rides frees
abbrev pub window_transfer_reason : Charge → List ℕ
window_transfer_reason (Full position cents) = codes "transfer-fare"
window_transfer_reason (CeilingCut position cents) = codes "transfer-cut"
window_transfer_reason (CeilingReached position) = codes "transfer-capped"
window_transfer_reason RideLimitReached = codes "transfer-capped"

-- what decided the cents of a transfer: `window`, or a cap beside it, which is named
abbrev pub transfer_reason : List (List ℕ) → CapCharge → List ℕ
transfer_reason caps (ByWindow charge) = window_transfer_reason charge
transfer_reason caps (CapCut position cents cap) = cap_reason (codes "transfer-cut") caps cap
transfer_reason caps (CapReached position cap) = cap_reason (codes "transfer-capped") caps cap

-- `,,transfer-fare,`: no place, and what decided the cents of a transfer
unfoldable pub transfer_words : List (List ℕ) → CapCharge → List ℕ
transfer_words caps charge = codes ",," ++ (transfer_reason caps charge ++ codes ",")

-- the words, and the moment to which they point
pub record IsPointing (words : List ℕ) (at : ℕ) (text : List ℕ) : Type 0 where
  pub moment : List ℕ
  pub is : IsMomentText at moment
  pub shown : text ≡ words ++ moment

-- the last five fields, by the reason, with the names of the caps
abbrev pub IsReasonFields : List (List ℕ) → CappedReason → List ℕ → Type 0
IsReasonFields caps Unknown text = text ≡ codes ",,,unknown,"
IsReasonFields caps (Stale latest) text = IsPointing (codes ",,,stale,") latest text
IsReasonFields caps (Transfer moment mode) text = IsPointing (codes ",,,transfer,") moment text
IsReasonFields caps (PaidTransfer start until moment mode charge) text =
    (rest : List ℕ) × IsPointing (transfer_words caps charge) moment rest
    × IsWindowFields start until rest text
IsReasonFields caps (Ride start until charge) text =
    IsWindowFields start until (ride_rest caps charge) text

-- the line of a token's entry with this number and this reason
pub record IsLedgerLine (fares : Fares) (token : Token) (number : ℕ) (entry : Entry)
    (why : CappedReason) (line : List ℕ) : Type 0 where
  pub moment : List ℕ
  pub is : IsMomentText entry.moment moment
  pub reason_fields : List ℕ
  pub explained : IsReasonFields fares.meaning.cap_names why reason_fields
  pub shown : line ≡ line_head token number
      ++ (moment ++ (entry_fields fares entry ++ (reason_fields ++ codes "\n")))

-- why the token's entry is answered as it is, after its earlier entries
abbrev pub reason_after : Fares → Token → List Entry → Entry → CappedReason
reason_after fares token earlier entry =
    capped_reason (capped_rules_of fares (bytes_of token)) (map (tap_of fares) earlier)
    (tap_of fares entry)

-- the line of the token's entry that follows the earlier ones: its number, and its reason
abbrev pub IsLedgerLineAfter : Fares → Token → List Entry → Entry → List ℕ → Type 0
IsLedgerLineAfter fares token earlier entry line =
    IsLedgerLine fares token (length earlier + 1) entry (reason_after fares token earlier entry)
    line

-- a line for each of the token's entries that follow the earlier ones
abbrev pub AreLedgerLinesAfter : Fares → Token → List Entry → List Entry → List ℕ → Type 0
AreLedgerLinesAfter fares token earlier [] text = text ≡ []
AreLedgerLinesAfter fares token earlier (entry ∷ entries) text =
    (line : List ℕ) × (rest : List ℕ) × IsLedgerLineAfter fares token earlier entry line
    × AreLedgerLinesAfter fares token (earlier ++ entry ∷ []) entries rest
    × (text ≡ line ++ rest)

-- a line for each of the token's entries, in order, numbered from 1
abbrev pub AreLedgerLines : Fares → Token → List Entry → List ℕ → Type 0
AreLedgerLines fares token entries text = AreLedgerLinesAfter fares token [] entries text
