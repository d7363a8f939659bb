-- The state of a pass that was not joined into another.
use Rattle.shared_books.specs.declared.turns.rule.{Mark.Mark, Opening.Opening, PassState.PassState}
use Rattle.std.specs.Prelude.{ℕ, Bool, true, List}

-- what a pass knows until it is joined into another
abbrev pub pass_state : Opening → ℕ → Bool → List Mark → List Mark → PassState
pass_state o claims turn marks met =
    record { unjoined = true; opened = o; claims = claims; turn = turn; marks = marks; met = met }
