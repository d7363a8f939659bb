-- Parts as they are read. Private functions alone cite this.
use Rattle.histories.specs.Sums.{sums_of}
use Rattle.line_folds.specs.Folds.{lines_of}
use Rattle.part_texts.specs.Fronts.{FrontsView, no_fronts}
use Rattle.part_texts.specs.Merged.{PartView, WrongLine, initial, lines_left, read_all, read_of}
use Rattle.part_texts.specs.{Reads.IsFaultOf, Reads.Leaves, declared.fault.MergeFault.MergeFault}
use Rattle.part_texts.specs.declared.fault.MergeFault.TheVariants.{Line, Unread, Write, NoMemory}
use Rattle.part_texts.specs.declared.fronts.{Fronts.Fronts, Open.Open}
use Rattle.part_texts.specs.inside.Fronts.{fronts_view}
use Rattle.recorded_lines.specs.Texts.{CanBe, Follows, IsEndAt, calls_of, left}
use Rattle.recorded_lines.specs.{Unread.IsUnread, declared.text.Lines.Lines}
use Rattle.std.specs.{List.AllZip, Prelude.◌≡◌, Prelude.⊤, Prelude.ℕ, Prelude.Bool}
use Rattle.std.specs.Prelude.{true, cond, List, [], ◌∷◌, ◌++◌, Result, Ok, Err, All, flat_map, map}
use Rattle.world.specs.Run.{Calls, Run, with_written}

-- the lines that are left of a text, if it is this
abbrev pub lines_at : Lines → List ℕ → List (List ℕ)
lines_at from whole = lines_of (left from whole)

-- the part, of which these lines are left
abbrev pub view_of : Open → List (List ℕ) → PartView
view_of part lines = record {
  stage = part.stage;
  part = sums_of part.part;
  number = part.number;
  lines = lines;
}

-- the parts, if these are their texts
abbrev pub views_of : List Open → List Lines → List (List ℕ) → List PartView
views_of [] from texts = []
views_of (part ∷ parts) [] texts = []
views_of (part ∷ parts) (one ∷ from) [] = []
views_of (part ∷ parts) (one ∷ from) (text ∷ texts) =
    view_of part (lines_at one text) ∷ views_of parts from texts

-- nothing of the part is read
abbrev pub IsInitial : Open → Type 0
IsInitial part = view_of part [] ≡ initial []

-- what is written for a line
abbrev pub piece : Bool → List ℕ → List ℕ
piece is_copied line = cond is_copied line []

-- what is written for the lines of a part, and of all parts
abbrev pub copied : Bool → List (List ℕ) → List ℕ
copied is_copied lines = cond is_copied (flat_map (λ line. line) lines) []

abbrev pub all_copied : Bool → List PartView → List ℕ
all_copied is_copied parts = cond is_copied (lines_left parts) []

-- the fault of the part at this place, which these calls read
abbrev pub IsPartFault : {S : Type 0} → Result S WrongLine → ℕ → Calls → MergeFault → Type 0
IsPartFault said position calls (Line text number why) = said ≡ Err (text, (number, why))
IsPartFault said position calls (Unread text) = (text ≡ position) × IsUnread calls
IsPartFault said position calls (Write why) = ⊤
IsPartFault said position calls NoMemory = ⊤

-- The part at this place was read from the line of this number on, and its lines were written, if
-- they are copied; or up to a fault.
abbrev pub IsRead : Bool → ℕ × ℕ → FrontsView → FrontsView → Lines → Lines → Run → Run
    → Result ℕ MergeFault → Type 0
IsRead is_copied at first last old new before after (Ok number) = Follows old new × (text : List ℕ)
    × (after ≡ with_written before text) × (is_copied ≡ true → IsEndAt new)
    × ((whole : List ℕ) → CanBe (calls_of new) whole
    → (read_of is_copied at.0 at.1 first (lines_at old whole) ≡ Ok (number, last, lines_at new whole))
    × (copied is_copied (lines_at old whole) ≡ text))
IsRead is_copied at first last old new before after (Err fault) = Follows old new × (text : List ℕ)
    × Leaves fault (with_written before text) after
    × ((whole : List ℕ) → CanBe (calls_of new) whole
    → IsPartFault (read_of is_copied at.0 at.1 first (lines_at old whole)) at.0 (calls_of new) fault
    × (rest : List ℕ) × (copied is_copied (lines_at old whole) ≡ text ++ rest))

-- all parts were read, and written, if they are copied; or up to a fault
abbrev pub AreRead : Bool → List Open → List Open → List Lines → List Lines → Run → Run
    → Result Fronts MergeFault → Type 0
AreRead is_copied parts parts' old new before after (Ok fronts) = (text : List ℕ)
    × (after ≡ with_written before text) × (is_copied ≡ true → All IsEndAt new)
    × ((texts : List (List ℕ)) → AllZip CanBe (map calls_of new) texts
    → (read_all is_copied no_fronts [] (views_of parts old texts)
    ≡ Ok (fronts_view fronts, views_of parts' new texts))
    × (all_copied is_copied (views_of parts old texts) ≡ text))
AreRead is_copied parts parts' old new before after (Err fault) = (text : List ℕ)
    × Leaves fault (with_written before text) after
    × ((texts : List (List ℕ)) → AllZip CanBe (map calls_of new) texts
    → IsFaultOf (read_all is_copied no_fronts [] (views_of parts old texts)) (map calls_of new) fault
    × (rest : List ℕ) × (all_copied is_copied (views_of parts old texts) ≡ text ++ rest))
