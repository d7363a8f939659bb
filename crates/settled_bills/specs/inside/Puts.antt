-- Lines that get columns as they are put. Private functions alone cite this.
use Rattle.std.specs.Prelude.{◌≡◌, ℕ, List, ◌++◌}
use Rattle.settled_bills.specs.Columns.{columns_by, with_columns}
use Rattle.settled_bills.specs.declared.trace.TracedTap.{TracedTap}

-- The lines are put after the old text, with the columns of the first taps. Whatever text comes
-- next gets the columns of the taps that are left.
abbrev pub Puts : (ℕ → List ℕ → List ℕ) → List ℕ → List TracedTap → List ℕ → List ℕ
    → List TracedTap → Type 0
Puts classes old taps lines new left =
    (rest : List ℕ) → old ++ with_columns (lines ++ rest) (columns_by classes taps)
    ≡ new ++ with_columns rest (columns_by classes left)
