-- What `merge` does: of the words of its parts.
use Rattle.frame.specs.Names.{file_named}
use Rattle.part_texts.specs.{Merged.merge_of, Reads.HasStarted, Reads.read_by}
use Rattle.recorded_lines.specs.Texts.{CanBe}
use Rattle.report_texts.specs.declared.wrong.Wrong.{Wrong}
use Rattle.std.specs.List.{AllZip}
use Rattle.std.specs.Prelude.{◌≡◌, ℕ, List, [], Ok, Err, All, map}
use Rattle.tool_tasks.specs.Streams.{Stream}
use Rattle.world.specs.{Run.Calls, Streams.IsWhole}

-- these calls read what the words name, in their order
abbrev pub AreOf : List (List ℕ) → List Calls → Type 0
AreOf words calls = map (λ c. c.reading.name) calls ≡ map file_named words

-- each part was read to its end, and this is the text into which they are merged
abbrev pub Merges : List (List ℕ) → List Calls → List ℕ → List ℕ → Type 0
Merges words calls text note = AreOf words calls × All IsWhole calls
    × (merge_of (read_by calls) ≡ Ok text) × (note ≡ [])

-- the parts cannot be merged: this line of this part is the first wrong one, whatever follows what
-- reads gave
abbrev pub IsWrongPart : List (List ℕ) → List Calls → Type 0
IsWrongPart words calls = AreOf words calls × (part : ℕ) × (number : ℕ) × (why : Wrong)
    × ((texts : List (List ℕ)) → AllZip CanBe calls texts
    → merge_of texts ≡ Err (part, (number, why)))

-- what was written is a prefix of the right text of what reads gave, whatever follows
abbrev pub IsPrefix : List (List ℕ) → List Calls → List ℕ → Type 0
IsPrefix words calls text = AreOf words calls × HasStarted calls text

-- THE rule of `merge`, by the calls that read the parts
abbrev pub merge_stream : List (List ℕ) → List Calls → Stream
merge_stream words calls = record {
  words = words;
  calls = calls;
  Whole = Merges words calls;
  Part = IsPrefix words calls;
  Wrong = IsWrongPart words calls;
}
