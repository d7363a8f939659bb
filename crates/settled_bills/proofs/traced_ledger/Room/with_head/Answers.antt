-- The head line has its columns.
use Rattle.std.proofs.Common.{◌∙◌, ℕ, List, ◌++◌, ap, sym}
use Rattle.std.specs.Prelude.{codes}
use Rattle.settled_bills.specs.Columns.{with_columns}
use Rattle.settled_bills.proofs.TracedLines.{head_on}
use Rattle.settled_bills.proofs.traced_ledger.Room.with_head.Goals as goal

pub returns : goal.returns
returns c = λ lines columns.
    ap (λ (t : List ℕ). t ++ with_columns lines columns)
    (c.in_ok-extend_from_slice-2.ensures.items
    ∙ ap (λ (t : List ℕ). t ++ c.as_bytes-2.result.now) (c.in_ok-extend_from_slice.ensures.items
    ∙ ap (λ (t : List ℕ). t ++ c.as_bytes.result.now) c.in_ok-lines.ensures.items
    ∙ c.as_bytes.ensures.value)
    ∙ ap (λ (t : List ℕ). codes
    "token,line,moment,validator,mode,answer,cents,window_start,window_end,ride,reason,points_at"
    ++ t) c.as_bytes-2.ensures.value)
    ∙ sym (head_on lines columns)
