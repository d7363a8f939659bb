-- A file, as an upload is one: batches one after the other, and what is left, which begins with no
-- batch. All that a file is read as is defined here.
use Rattle.std.specs.List.{flat_map, AllZip}
use Rattle.std.specs.Prelude.{◌≡◌, ℕ, ◌+◌, ◌-◌, ◌<◌, List, [], ◌∷◌, ◌++◌, length, map, Option, None}
use Rattle.std.specs.Prelude.{Some, Result, Ok, Err}
use Rattle.tap_views.specs.{Encoding.fields_of, Faults.IsFault, Layout.Tap, Layout.IsBatch}
use Rattle.tap_views.specs.declared.{encoder.TapFields.TapFields, fault.LayoutFault.LayoutFault}

-- no beginning of the bytes is a batch
abbrev pub HasNoBatch : List ℕ → Type 0
HasNoBatch bytes =
    (front rest : List ℕ) (taps : List Tap) → IsBatch front taps → ¬ (bytes ≡ front ++ rest)

-- the file is these batches one after the other, and then the rest, which begins with no batch
abbrev pub IsFile : List ℕ → List (List Tap) → List ℕ → Type 0
IsFile file [] rest = (file ≡ rest) × HasNoBatch rest
IsFile file (batch ∷ batches) rest =
    (front : List ℕ) × (back : List ℕ) × IsBatch front batch × (file ≡ front ++ back)
    × IsFile back batches rest

-- what is left of the file after its batches begins at this offset, and this is its layout fault
pub record IsFaultAt (file rest : List ℕ) (offset : ℕ) (fault : LayoutFault) : Type 0 where
  pub some_byte : 0 < length rest
  pub is_fault : IsFault rest fault
  pub holds_at : offset + length rest ≡ length file

-- how the file ends after its batches: with nothing, or with a layout fault
abbrev pub IsEndAfterBatches : List ℕ → List ℕ → Option (ℕ × LayoutFault) → Type 0
IsEndAfterBatches file rest None = rest ≡ []
IsEndAfterBatches file rest (Some (offset, fault)) = IsFaultAt file rest offset fault

-- the file is read as these batches, one after the other, and then ends so
pub record IsReadAs (file : List ℕ) (batches : List (List Tap)) (fault : Option (ℕ × LayoutFault))
    : Type 0 where
  pub rest : List ℕ
  pub is_file : IsFile file batches rest
  pub is_end : IsEndAfterBatches file rest fault

-- the taps of all batches, in their order
abbrev pub taps_of_batches : List (List Tap) → List Tap
taps_of_batches batches = flat_map (λ batch. batch) batches

-- the valid taps of a file: those of all its batches before its first layout fault, in order
pub record AreValidTaps (file : List ℕ) (taps : List Tap) : Type 0 where
  pub batches : List (List Tap)
  pub rest : List ℕ
  pub is_file : IsFile file batches rest
  pub all : taps ≡ taps_of_batches batches

-- the valid taps of each file
abbrev pub AreValidTapsOfEach : List (List ℕ) → List (List Tap) → Type 0
AreValidTapsOfEach files taps = AllZip AreValidTaps files taps

-- a reader of the file is given these taps, and no fault
pub record IsFileOf (file : List ℕ) (fields : List TapFields) : Type 0 where
  pub batches : List (List Tap)
  pub is_file : IsFile file batches []
  pub read : map fields_of (taps_of_batches batches) ≡ fields

-- the file is read as batches in one way at most
abbrev pub HasUniqueParse : List ℕ → Type 0
HasUniqueParse file =
    (batches others : List (List Tap)) (rest left : List ℕ) → IsFile file batches rest
    → IsFile file others left → (batches ≡ others) × (rest ≡ left)

-- what a reader of a file is given: a batch, or where the file's rest begins and its fault
abbrev pub Item : Type 0
Item = Result (List Tap) (ℕ × LayoutFault)

-- what a reader is given last: nothing of an empty rest, else its offset and fault
abbrev pub IsEnd : ℕ → List ℕ → List Item → Type 0
IsEnd offset [] last = last ≡ []
IsEnd offset (byte ∷ bytes) last =
    (fault : LayoutFault) × IsFault (byte ∷ bytes) fault × (last ≡ Err (offset, fault) ∷ [])

-- a reader of the file is given each batch, and then what its rest calls for
pub record IsParse (file : List ℕ) (items : List Item) : Type 0 where
  pub batches : List (List Tap)
  pub rest : List ℕ
  pub last : List Item
  pub is_file : IsFile file batches rest
  pub is_end : IsEnd (length file - length rest) rest last
  pub given : items ≡ map Ok batches ++ last

-- what is left to read of a file: valid batches, and how it ends after them
pub record ValidBatchesView : Type 0 where
  pub batches : List (List Tap)
  pub fault : Option (ℕ × LayoutFault)

-- a reader was given the first of the batches that were left, or nothing if none was
abbrev pub GivesBatch : ValidBatchesView → Option (List Tap) → ValidBatchesView → Type 0
GivesBatch left None now = (left.batches ≡ []) × (now ≡ left)
GivesBatch left (Some batch) now = left ≡ record now { batches = batch ∷ now.batches }
