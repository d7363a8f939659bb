use Rattle.std.proofs.Common.{[], ◌++◌, refl, sym, ap, ◌∙◌, append_assoc, append-nil, string_bytes}
use Rattle.fare_texts.proofs.ExplainedLines.{next_window}
use Rattle.fare_texts.proofs.explained.window_lines.write_earlier.Goals as goal

pub loop-window-init : goal.loop-window-init
loop-window-init c = record {
  written = [];
  are = refl;
  whole = sym (append-nil (string_bytes c.args.text.now));
}

pub loop-window-preserved : goal.loop-window-preserved
loop-window-preserved c =
    let line = c.in_ok-write_line.ensures in
    record {
      written = c.loop-window.invariant.written ++ line.0;
      are = next_window c.args.clock.now c.args.windows.now c.loop-window.window-index _
          c.loop-window-test.true
          c.loop-window.invariant.written line.0 c.loop-window.invariant.are line.1;
      whole = line.2 ∙ ap (λ t. t ++ line.0) c.loop-window.invariant.whole
          ∙ append_assoc (string_bytes c.args.text.now) c.loop-window.invariant.written line.0;
    }
