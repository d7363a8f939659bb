use Rattle.std.proofs.Common.{◌++◌, List, ℕ, ap, append-nil, string_bytes, sym, take, get_or, ◌∙◌}
use Rattle.std.specs.Prelude.{codes, flat_map}
use Rattle.std.proofs.lemmas.List.{flat_map_more, take_more}
use Rattle.account_rule.specs.declared.window.WindowView.{WindowView}
use Rattle.fare_texts.specs.ExplainedJson.{window_json}
use Rattle.fare_texts.proofs.explained.json.write_earlier.Goals as goal

pub loop-window-init : goal.loop-window-init
loop-window-init c = sym (append-nil (string_bytes c.args.text.now))

pub loop-window-preserved : goal.loop-window-preserved
loop-window-preserved c =
    let windows = c.args.windows.now in
    let position = c.loop-window.window-index in
    let line = window_json c.args.clock.now (codes ",") in
    let start = string_bytes c.args.text.now in
    let window = get_or windows position _ in
    c.in_ok-write_window.ensures
    ∙ ap (λ (t : List ℕ). t ++ line window) c.loop-window.invariant
    ∙ flat_map_more line start (take position windows) window
    ∙ ap (λ (ws : List WindowView). start ++ flat_map line ws)
    (sym (take_more windows position _ c.loop-window-test.true))
