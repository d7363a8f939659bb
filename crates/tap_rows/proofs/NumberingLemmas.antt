-- The devices of rows, numbered from row to row.
use Rattle.std.proofs.Common.{◌≡◌, ◌∙◌, ◌++◌, ◌∷◌, ◌+◌, ◌≤◌, Bor, List, [], None, Some, ap}
use Rattle.std.proofs.Common.{append-nil, append_assoc, arith, get_or, inl, inr, length, refl, suc}
use Rattle.std.proofs.Common.{sym, take, zero, ℕ, false, subst, true, ◌<◌}
use Rattle.csv.specs.declared.reader.Reader.{Reader}
use Rattle.std.proofs.lemmas.{Bool.lt-ltb, Grind.flat_map-append}
use Rattle.std.proofs.lemmas.List.{take_more, Sums.fold-append}
use Rattle.std.proofs.lemmas.Option.{slice_get-get_or, slice_get_cases, slice_get_within}
use Rattle.std.specs.List.{fold}
use Rattle.std.specs.Prelude.{◌==◌, ◌^◌, codes, flat_map, max, nat_lt, slice_get}
use Rattle.tap_rows.proofs.AgencyRowLemmas.{layout_is, no_wanting}
use Rattle.tap_rows.specs.{AgencyRows.HeadLayout, AgencyTexts.HasRecords, Devices.Device}
use Rattle.tap_rows.specs.{Devices.validator_of, Numbering.IsNumbered}
use Rattle.tap_rows.specs.Numbering.{device_row, device_table_text, greatest, with_name, with_row}
use Rattle.tap_rows.specs.declared.agency.{choice.Choice.Choice, positions.Positions.Positions}
use Rattle.tap_rows.specs.inside.{Numbering.IsNumbering, Positions.layout_of}
use Rattle.tap_rows.specs.inside.RecordReaders.{HasConsumed}

pub numbering_more : (choice : Choice) (positions : Positions) (text : List ℕ)
    (reader after : Reader (Bor (List ℕ))) (old now new : List Device) (row : List (List ℕ))
    → IsNumbering choice positions text reader old now
    → ((rows : List (List (List ℕ))) → HasConsumed choice.columns.now.separator text rows reader
    → HasConsumed choice.columns.now.separator text (rows ++ row ∷ []) after)
    → new ≡ with_row (layout_of positions) now row
    → IsNumbering choice positions text after old new
numbering_more choice positions text reader after old now new row is consumed more =
    let step = with_row (layout_of positions) in
    record {
      head = is.head;
      rows = is.rows ++ row ∷ [];
      columns = is.columns;
      consumed = consumed (is.head ∷ is.rows) is.consumed;
      now_are = more ∙ ap (λ devices. step devices row) is.now_are
          ∙ sym (fold-append step old is.rows (row ∷ []));
    }

pub numbering_done : (choice : Choice) (positions : Positions) (text : List ℕ)
    (reader : Reader (Bor (List ℕ))) (old now : List Device)
    → IsNumbering choice positions text reader old now
    → ((rows : List (List (List ℕ))) → HasConsumed choice.columns.now.separator text rows reader
    → HasRecords choice.columns.now.separator text rows)
    → IsNumbered choice text old now
numbering_done choice positions text reader old now is records = inl (record {
  head = is.head;
  rows = is.rows;
  records = records (is.head ∷ is.rows) is.consumed;
  columns = no_wanting choice is.head positions is.columns;
  new_are = is.now_are ∙ ap (λ (layout : HeadLayout). fold (with_row layout) old is.rows)
      (layout_is choice is.head positions is.columns);
})

-- ---- the devices of a table, one after the other
one_more : (xs : List Device) (i : ℕ) (x : Device) → slice_get xs i ≡ Some x
    → take (i + 1) xs ≡ take i xs ++ x ∷ []
one_more xs i x at =
    let within = slice_get_within xs i x at in
    let same : get_or xs i x ≡ x = cc (at, slice_get-get_or xs i x within) in
    take_more xs i x within ∙ ap (λ y. take i xs ++ y ∷ []) same

pub all_taken : (xs : List Device) (i : ℕ) → length xs ≤ i → take i xs ≡ xs
all_taken [] zero le = refl
all_taken [] (suc i) le = refl
all_taken (x ∷ xs) zero le = absurd (omega (arith, le))
all_taken (x ∷ xs) (suc i) le = ap (λ (ys : List Device). x ∷ ys) (all_taken xs i (omega (arith, le)))

pub none_left : (xs : List Device) (i : ℕ) → slice_get xs i ≡ None → take i xs ≡ xs
none_left xs i none = elim (slice_get_cases xs i).1 [
  | inl some ↦ absurd (cc (none, some.2))
  | inr past ↦ all_taken xs i past.0
]

abbrev most_of : ℕ → Device → ℕ
most_of most device = max most device.1

pub greatest_more : (devices : List Device) (i most : ℕ) (device : Device)
    → slice_get devices i ≡ Some device → most ≡ greatest (take i devices)
    → max most device.1 ≡ greatest (take (i + 1) devices)
greatest_more devices i most device at is =
    ap (λ m. max m device.1) is
    ∙ sym (ap greatest (one_more devices i device at)
    ∙ fold-append most_of 0 (take i devices) (device ∷ []))

pub rows_more : (devices : List Device) (i : ℕ) (text new : List ℕ) (device : Device)
    → slice_get devices i ≡ Some device → text ≡ device_table_text (take i devices)
    → new ≡ text ++ device_row device → new ≡ device_table_text (take (i + 1) devices)
rows_more devices i text new device at is more =
    let head = codes "device,validator\n" in
    let rows = flat_map device_row (take i devices) in
    more ∙ ap (λ t. t ++ device_row device) is ∙ append_assoc head rows (device_row device)
    ∙ ap (λ rest. head ++ (rows ++ rest)) (sym (append-nil (device_row device)))
    ∙ sym (ap device_table_text (one_more devices i device at)
    ∙ ap (λ rs. head ++ rs) (flat_map-append device_row (take i devices) (device ∷ [])))

-- a device of a new name has the next number
pub number_added : (devices new : List Device) (name : List ℕ) (next : ℕ)
    → (length name == 0) ≡ false → validator_of devices name ≡ None
    → next ≡ greatest devices + 1 → next < 2 ^ 32 → new ≡ devices ++ (name, next) ∷ []
    → new ≡ with_name devices name
number_added devices new name next some none is small more =
    let below : nat_lt (greatest devices + 1) (2 ^ 32) ≡ true =
    lt-ltb (greatest devices + 1) (2 ^ 32) (subst (λ n. n < 2 ^ 32) is small) in
    more ∙ ap (λ n. devices ++ (name, n) ∷ []) is ∙ sym (rw (some, none, below) refl)
