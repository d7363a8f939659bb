-- What is written of an upload.
use Rattle.std.specs.Prelude.{◌≡◌, ℕ, List, map, Option}
use Rattle.tap_rows.specs.Rows.{rows_text}
use Rattle.tap_views.specs.{Encoding.fields_of, Files.IsReadAs, Files.taps_of_batches, Layout.Tap}
use Rattle.tap_views.specs.declared.{encoder.TapFields.TapFields, fault.LayoutFault.LayoutFault}

-- the fields of all taps of these batches, in their order
abbrev pub fields_in : List (List Tap) → List TapFields
fields_in batches = map fields_of (taps_of_batches batches)

-- the text is the rows of the upload's taps before its first layout fault, and this is the fault
-- with its offset, if there is one
pub record IsDecoded (upload text : List ℕ) (fault : Option (ℕ × LayoutFault)) : Type 0 where
  pub batches : List (List Tap)
  pub read : IsReadAs upload batches fault
  pub rows : text ≡ rows_text (fields_in batches)
