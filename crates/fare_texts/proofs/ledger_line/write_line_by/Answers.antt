-- The line's parts.
use Rattle.std.proofs.Common.{◌≡◌, ◌∙◌, ◌++◌, List, ℕ, codes, refl, ap, string_bytes}
use Rattle.std.specs.Fmt.{decimal}
use Rattle.fare_texts.specs.LedgerLines.{entry_fields, line_head}
use Rattle.fare_texts.specs.StatementText.{answer_text}
use Rattle.fare_texts.proofs.LinePuts.{line_shown}
use Rattle.fare_texts.proofs.ledger_line.write_line_by.Goals as goal

pub returns-then-mode-gt-MODE_BYTES : goal.returns-then-mode-gt-MODE_BYTES
unfolding entry_fields
returns-then-mode-gt-MODE_BYTES c =
    let end = c.put_end.ensures.put in
    let entry = c.args.entry.now in
    let head = line_head c.args.token c.args.number in
    let apart = c.in_ok-append_apart.ensures in (
      head ++ (apart.0 ++ (entry_fields c.args.table.now entry ++ (end.0 ++ codes "\n"))),
      record {
        moment = apart.0;
        is = apart.1;
        reason_fields = end.0;
        explained = end.1;
        shown = refl;
      },
      line_shown (string_bytes c.args.text.now) (string_bytes c.append_apart.new.text)
          c.mode_field-mode.result.now c.put_end.new.line head apart.0 (codes ",")
          (decimal entry.validator) (answer_text entry.answer) (decimal entry.cents) end.0
          (codes "\n") c.mode_field-mode.ensures end.2 apart.2,
    )

pub returns : goal.returns
unfolding entry_fields line_head
returns c =
    let start = c.put_start.ensures in
    let put = rw c.requires at start.2 in
    let end = c.put_end.ensures.put in
    let entry = c.args.entry.now in
    let head = line_head c.args.token c.args.number in
    let before = head ++ (start.0 ++ (codes "," ++ (decimal entry.validator ++ codes ","))) in
    let mode = c.mode_field-mode.result.now in
    let named : c.put.new.self ≡ mode ++ c.put_end.new.line =
    c.put.ensures.put ∙ ap (λ (name : List ℕ). name ++ c.put_end.new.line) c.as_bytes.ensures.value in
    let whole = c.in_ok-append_to.ensures
    ∙ ap (λ (line : List ℕ). string_bytes c.args.text.now ++ line)
    (put ∙ ap (λ (rest : List ℕ). before ++ rest) named) in (
      head ++ (start.0 ++ (entry_fields c.args.table.now entry ++ (end.0 ++ codes "\n"))),
      record {
        moment = start.0;
        is = start.1;
        reason_fields = end.0;
        explained = end.1;
        shown = refl;
      },
      line_shown (string_bytes c.args.text.now) (string_bytes c.append_to.new.text) mode
          c.put_end.new.line head start.0 (codes ",") (decimal entry.validator)
          (answer_text entry.answer) (decimal entry.cents) end.0 (codes "\n")
          c.mode_field-mode.ensures end.2 whole,
    )
