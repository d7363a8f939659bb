-- What is merged of parts that are read line by line: of what reads gave, whatever follows.
use Rattle.part_texts.specs.Merged.{WrongLine, merge_of}
use Rattle.part_texts.specs.declared.fault.MergeFault.{MergeFault}
use Rattle.part_texts.specs.declared.fault.MergeFault.TheVariants.{Line, Unread, Write, NoMemory}
use Rattle.recorded_lines.specs.{Texts.CanBe, Unread.IsUnread}
use Rattle.std.specs.List.{AllZip}
use Rattle.std.specs.Prelude.{◌≡◌, ⊤, ℕ, List, ◌++◌, Result, Ok, Err, Some, All, map, slice_get}
use Rattle.world.specs.{Run.Calls, Run.Run, Run.with_cut, Run.with_written, Streams.IsWhole}

-- the texts that reads by these calls gave
abbrev pub read_by : List Calls → List (List ℕ)
read_by calls = map (λ c. c.reading.bytes) calls

-- With more after it, the text is that into which the parts are merged, if they are.
abbrev pub HasStarted : List Calls → List ℕ → Type 0
HasStarted calls text = (texts : List (List ℕ)) → AllZip CanBe calls texts → (whole : List ℕ)
    → merge_of texts ≡ Ok whole → (rest : List ℕ) × (whole ≡ text ++ rest)

-- what a fault leaves of a run
abbrev pub Leaves : MergeFault → Run → Run → Type 0
Leaves (Line text number why) before after = after ≡ before
Leaves (Unread text) before after = after ≡ before
Leaves (Write why) before after = after ≡ with_cut before why
Leaves NoMemory before after = after ≡ before

-- THE rule of a fault: a line that is refused is the first wrong one, for this reason, and a read
-- that failed is in the calls of its part.
abbrev pub IsFaultOf : {S : Type 0} → Result S WrongLine → List Calls → MergeFault → Type 0
IsFaultOf said calls (Line text number why) = said ≡ Err (text, (number, why))
IsFaultOf said calls (Unread text) = (c : Calls) × (slice_get calls text ≡ Some c) × IsUnread c
IsFaultOf said calls (Write why) = ⊤
IsFaultOf said calls NoMemory = ⊤

-- Every part was read to its end, and what was written is what they are merged into; or a prefix of
-- that, if there is one, and this is the fault.
abbrev pub MergesAs : List Calls → Run → Run → Result Unit MergeFault → Type 0
MergesAs calls before after (Ok done) = All IsWhole calls × (text : List ℕ)
    × (merge_of (read_by calls) ≡ Ok text) × (after ≡ with_written before text)
MergesAs calls before after (Err fault) = (text : List ℕ) × HasStarted calls text
    × Leaves fault (with_written before text) after
    × ((texts : List (List ℕ)) → AllZip CanBe calls texts
    → IsFaultOf (merge_of texts) calls fault)
