-- What `decode` does: of the words of its uploads.
use Rattle.frame.specs.{Given.Given, Given.IsPart, Given.load_of, Outcome.Rule, Outsides.Leaves}
use Rattle.std.specs.{List.list_all, Prelude.◌≡◌, Prelude.ℕ, Prelude.Bool}
use Rattle.std.specs.Prelude.{List, [], ◌∷◌, ◌++◌, Option, flat_map, if◌then◌else◌, is_none, map}
use Rattle.tap_rows.specs.{Decoded.IsDecoded, TapTables.head}
use Rattle.tap_views.specs.declared.fault.LayoutFault.{LayoutFault}

-- An upload that was loaded, with the word that names it, and what it is decoded to: the rows of
-- its taps before its first layout fault, and this fault with its offset, if there is one.
pub record Decoded : Type 0 where
  pub word : List ℕ
  pub upload : List ℕ
  pub rows : List ℕ
  pub fault : Option (ℕ × LayoutFault)
  pub is_decoded : IsDecoded upload rows fault

-- the words of uploads
abbrev pub words_of : List Decoded → List (List ℕ)
words_of decoded = map (λ one. one.word) decoded

-- The uploads were loaded, in their order, and the text is their tap table, with a header line and
-- the rows of each. This is noted.
abbrev pub decoding_of : List Decoded → (note : List ℕ) → Given
decoding_of decoded note = record {
  loads = map (λ one. load_of one.word one.upload) decoded;
  text = (head ++ 10 ∷ []) ++ flat_map (λ one. one.rows) decoded;
  note = note;
  files = [];
}

-- whether no upload has a layout fault
abbrev pub are_whole : List Decoded → Bool
are_whole decoded = list_all (λ one. is_none one.fault) decoded

-- the uploads that the words name were decoded
pub record IsTapTableOf (words : List (List ℕ)) (given : Given) (status : ℕ) : Type 0 where
  pub decoded : List Decoded
  pub named : words ≡ words_of decoded
  pub is : given ≡ decoding_of decoded given.note
  pub status_is : status ≡ (if are_whole decoded then 0 else 1)

-- This is a part of that of the first uploads, or of the header line. All of these were loaded.
pub record IsPartlyDecoded (words : List (List ℕ)) (part : Given) : Type 0 where
  pub decoded : List Decoded
  pub rest : List (List ℕ)
  pub named : words ≡ words_of decoded ++ rest
  pub note : List ℕ
  pub is_part : IsPart part (decoding_of decoded note)

-- THE rule of `decode`
abbrev pub decode_rule : List (List ℕ) → Rule
decode_rule words = record {
  Right = IsTapTableOf words;
  Partial = IsPartlyDecoded words;
  Leaves = λ part. Leaves words;
}
