-- The counts that end a line of the report, and the line of totals.
use Rattle.histories.specs.Sums.{Sums}
use Rattle.std.specs.{Fmt.decimal, Prelude.ℕ, Prelude.List, Prelude.◌++◌, Prelude.codes}

-- the counts of live taps, as `taps 2 paid 1 transfers 1 capped 0`
unfoldable pub first_counts : Sums → List ℕ
first_counts t =
    codes "taps " ++ (decimal t.taps ++ (codes " paid " ++ (decimal t.paid
    ++ (codes " transfers " ++ (decimal t.transfers ++ (codes " capped " ++ decimal t.capped))))))

-- the other counts and the cents, as ` stale 0 unknown 0 cents 300`, with the end of the line
unfoldable pub last_counts : Sums → List ℕ
last_counts t =
    codes " stale " ++ (decimal t.stale ++ (codes " unknown " ++ (decimal t.unknown
    ++ (codes " cents " ++ (decimal t.cents ++ codes "\n")))))

-- the counts that end a line, as `taps 2 paid 1 transfers 1 capped 0 stale 0 unknown 0 cents 300`
abbrev pub counts_text : Sums → List ℕ
counts_text t = first_counts t ++ last_counts t

-- `totals taps 6 paid 3 ..`
abbrev pub totals_line : Sums → List ℕ
totals_line totals = codes "totals " ++ counts_text totals
