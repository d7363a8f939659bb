-- Texts that are after the lines of another text, before its line feeds.
use Rattle.std.specs.Prelude.{ℕ, ◌==◌, if◌then◌else◌, List, [], ◌∷◌, ◌++◌, codes, map}
use Rattle.std.specs.Fmt.{decimal}
use Rattle.settled_bills.specs.declared.trace.TracedTap.{TracedTap}

-- The text with the first of the columns before its first line feed, the second before its second,
-- and so on, while there are any.
abbrev pub with_columns : List ℕ → List (List ℕ) → List ℕ
with_columns [] columns = []
with_columns (byte ∷ text) [] = byte ∷ text
with_columns (byte ∷ text) (column ∷ columns) =
    if byte == 10 then column ++ byte ∷ with_columns text columns
    else byte ∷ with_columns text (column ∷ columns)

-- what is put after the header line
abbrev pub head_columns : List ℕ
head_columns = codes ",class,upload,place"

-- what is put after the line of a tap whose rider has this class: `,adult,0,1`
abbrev pub columns_of : List ℕ → TracedTap → List ℕ
columns_of class traced =
    codes "," ++ (class ++ (codes "," ++ (decimal traced.upload
    ++ (codes "," ++ decimal traced.position))))

-- what is put after the lines of these taps, by the class of each token at a moment
abbrev pub columns_by : (ℕ → List ℕ → List ℕ) → List TracedTap → List (List ℕ)
columns_by class_by trace =
    map (λ traced. columns_of (class_by traced.tap.moment traced.tap.token) traced) trace
