-- What the lines of a part's head say, each by one total function.
use Rattle.line_forms.specs.Forms.{said_by, then_read, value_if}
use Rattle.report_texts.specs.Forms.{count_at}
use Rattle.sorted_taps.specs.declared.positions.{FileSpan.FileSpan, Position.Position}
use Rattle.std.specs.{Option.option_and_then, Prelude.ℕ, Prelude.List, Prelude.Option, Prelude.Some}
use Rattle.std.specs.{Prelude.None, Prelude.codes, Prelude.option_map, Str.bytes_eq}

abbrev pub to_or : Option (ℕ × ℕ) → List ℕ → Option (Option Position)
to_or (Some to) text = Some (Some (record { offset = to.0; skip = to.1 }))
to_or None text = value_if (bytes_eq text (codes " to end\n")) None

-- the place in ` to 14344 skip 25`, or the end in ` to end`, with the line feed
abbrev pub to_in : List ℕ → Option (Option Position)
to_in text = to_or (said_by (then_read (count_at (codes " to ")) (count_at (codes " skip "))) text) text

abbrev pub span_with : ℕ × (ℕ × ℕ) → Option Position → ℕ × FileSpan
span_with from to =
    (from.0, record { from = record { offset = from.1.0; skip = from.1.1 }; to = to })

-- the file's number and the span in `file 0 from 0 skip 0 to 14344 skip 25`
abbrev pub span_in : List ℕ → Option (ℕ × FileSpan)
span_in line =
    option_and_then (λ parts. option_map (λ to. span_with parts.0 to) (to_in parts.1))
    (then_read (count_at (codes "file ")) (then_read (count_at (codes " from ")) (count_at (codes " skip "))) line)
