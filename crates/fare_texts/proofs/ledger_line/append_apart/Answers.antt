use Rattle.std.proofs.Common.{◌++◌, codes, string_bytes, append-nil, ap, ◌∙◌, List, ℕ}
use Rattle.std.specs.Fmt.{decimal}
use Rattle.fare_texts.specs.LedgerLines.{line_head}
use Rattle.fare_texts.proofs.LinePuts.{parts_shown}
use Rattle.fare_texts.proofs.ledger_line.append_apart.Goals as goal

pub returns : goal.returns
unfolding line_head
returns c =
    let start = c.put_start.ensures in
    let put = rw c.digits_of.ensures at start.2 in
    let before = line_head c.args.token c.args.number
    ++ (start.0 ++ (codes "," ++ (decimal c.args.entry.now.validator ++ codes ","))) in
    let whole = put ∙ ap (λ (none : List ℕ). before ++ none) c.new-start.ensures
    ∙ append-nil before in (
      start.0,
      start.1,
      parts_shown (string_bytes c.args.text.now) (string_bytes c.append_to.new.text)
          (string_bytes c.push_str.new.self) (string_bytes c.append_to-2.new.text) before
          c.args.mode.now c.args.end.now (rw whole at c.in_ok-append_to.ensures)
          c.in_ok-push_str.ensures.bytes c.in_ok-append_to-2.ensures,
    )
