-- Ledgers of parts as they are printed, and what they are merged into.
use Rattle.fare_texts.specs.LedgerLines.{head_text}
use Rattle.part_texts.specs.{Heads.part_head, Shown.SpanFits, inside.Shown.are_joined}
use Rattle.sorted_taps.specs.declared.positions.{FileSpan.FileSpan, Position.Position}
use Rattle.std.specs.{List.AllByRecursion, Prelude.◌≡◌, Prelude.◌<◌, Prelude.◌^◌}
use Rattle.std.specs.Prelude.{◌||◌, ℕ, Bool, true, List, ◌++◌, length, Option, flat_map, nat_eq}

-- where a part lies in each file, and the lines of its ledger after the header line
pub record PartLedger : Type 0 where
  pub spans : List FileSpan
  pub lines : List ℕ

-- the text of the part
abbrev pub ledger_text : PartLedger → List ℕ
ledger_text p = part_head p.spans ++ (head_text ++ p.lines)

-- the lines of all parts
abbrev pub all_lines : List PartLedger → List ℕ
all_lines parts = flat_map (λ part. part.lines) parts

-- The part's front follows, after fronts of ledgers (if so) that end so in each file.
pub record IsNextLedger (first last : Bool) (before : Bool × List (Option Position)) (p : PartLedger)
    (after : Bool × List (Option Position)) : Type 0 where
  pub few : length p.spans < 2 ^ 64
  pub fit : AllByRecursion SpanFits p.spans
  pub kind : (first || before.0) ≡ true
  pub files : (first || nat_eq (length p.spans) (length before.1)) ≡ true
  pub joined : are_joined first last before.1 p.spans after.1
  pub ledger : after.0 ≡ true
