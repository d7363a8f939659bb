-- The order of a ledger's taps. Settled ones are in canonical order: by token, moment and validator.
use Rattle.histories.specs.declared.entry.Entry.{Entry}
use Rattle.ledger_check.specs.declared.order.TapOrder.{TapOrder}
use Rattle.std.specs.{List.Sorted.IsSorted, Ordering.is_lt}
use Rattle.std.specs.Prelude.{◌≡◌, ◌↔◌, ℕ, ◌+◌, Bool, false, List, [], ◌∷◌, length, if◌then◌else◌}
use Rattle.std.specs.Prelude.{is_some, not, Option, None, Some}
use Rattle.tap_views.specs.{TapOrder.tap_cmp, Token.bytes_of, declared.encoder.TapFields.TapFields}

-- the tap of an entry, as an upload has it
abbrev pub tap_of_entry : Entry → TapFields
tap_of_entry entry =
    record { token = bytes_of entry.token; validator = entry.validator; moment = entry.moment }

-- whether the tap comes before the last one in canonical order
abbrev pub comes_before : TapFields → Option TapFields → Bool
comes_before tap None = false
comes_before tap (Some last) = is_lt (tap_cmp tap last)

-- the number of the first of these lines whose tap is earlier than that of the line before it: the
-- first of them has this number, and this tap is that of the line before it
abbrev pub first_early : ℕ → Option TapFields → List TapFields → Option ℕ
first_early number last [] = None
first_early number last (tap ∷ taps) =
    if comes_before tap last then Some number else first_early (number + 1) (Some tap) taps

-- The number of the first line of a ledger of these taps that is earlier than the line before it.
-- Line 1 is the header line.
abbrev pub early_line : List TapFields → Option ℕ
early_line taps = first_early 2 None taps

-- whether these are the taps of a settled ledger
abbrev pub are_settled : List TapFields → Bool
are_settled taps = not (is_some (early_line taps))

-- no line of a ledger is earlier than the line before it exactly if its taps are in canonical order
abbrev pub OrdersDecide : Type 0
OrdersDecide = (taps : List TapFields) → (early_line taps ≡ None) ↔ IsSorted tap_cmp taps

-- the last tap of these, which come after this one
abbrev pub last_of : Option TapFields → List TapFields → Option TapFields
last_of last [] = last
last_of last (tap ∷ taps) = last_of (Some tap) taps

-- the order is that of these taps
pub record IsOrderOf (taps : List TapFields) (order : TapOrder) : Type 0 where
  pub last : order.last ≡ last_of None taps
  pub lines : order.lines ≡ length taps + 1
  pub early : order.early ≡ early_line taps
