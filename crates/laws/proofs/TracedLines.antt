-- The columns behind a line.
use Rattle.std.proofs.Common.{◌≡◌, ◌∙◌, ℕ, Bool, List, [], ◌∷◌, ◌++◌, refl, ap, append_assoc}
use Rattle.std.proofs.Common.{if◌then◌else◌}
use Rattle.laws.specs.Traced.{line_of}
use Rattle.ledger_check.specs.{Columns.traced_text, Lines.Lacks}
use Rattle.settled_bills.specs.Columns.{columns_of, with_columns}
use Rattle.settled_bills.specs.declared.trace.TracedTap.{TracedTap}
use Rattle.std.proofs.lemmas.Bool.{ne_eqb}
use Rattle.std.specs.Fmt.{decimal}

put_after : (fields column text : List ℕ) (columns : List (List ℕ)) → Lacks 10 fields
    → with_columns (fields ++ 10 ∷ text) (column ∷ columns)
    ≡ fields ++ (column ++ 10 ∷ with_columns text columns)
put_after [] column text columns lacks = refl
put_after (byte ∷ fields) column text columns lacks =
    ap (λ (b : Bool). if b then column ++ byte ∷ with_columns (fields ++ 10 ∷ text) columns
    else byte ∷ with_columns (fields ++ 10 ∷ text) (column ∷ columns)) (ne_eqb byte 10 lacks.0)
    ∙ ap (λ (t : List ℕ). byte ∷ t) (put_after fields column text columns lacks.1)

spelled : (fields class upload position rest : List ℕ)
    → fields ++ ((44 ∷ (class ++ 44 ∷ (upload ++ 44 ∷ position))) ++ 10 ∷ rest)
    ≡ (fields ++ 44 ∷ (class ++ 44 ∷ (upload ++ 44 ∷ (position ++ 10 ∷ [])))) ++ rest
spelled fields class upload position rest = simp append_assoc

pub line_written : (fields class text : List ℕ) (traced : TracedTap) (columns : List (List ℕ))
    → Lacks 10 fields
    → with_columns (fields ++ 10 ∷ text) (columns_of class traced ∷ columns)
    ≡ traced_text (line_of fields class traced) ++ with_columns text columns
line_written fields class text traced columns lacks =
    put_after fields (columns_of class traced) text columns lacks
    ∙ spelled fields class (decimal traced.upload) (decimal traced.position)
    (with_columns text columns)
