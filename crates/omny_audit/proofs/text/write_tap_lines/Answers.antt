use Rattle.std.proofs.Common.{◌≡◌, ◌++◌, ◌∷◌, ℕ, List, [], take, get_or, refl, sym, ap, subst, ◌∙◌}
use Rattle.std.proofs.Common.{append_assoc, append-nil, string_bytes}
use Rattle.std.proofs.lemmas.List.{flat_map_more, take_all, take_more}
use Rattle.std.specs.List.{AllZip}
use Rattle.tap_views.proofs.Lists.{AllZip-append}
use Rattle.tap_views.specs.declared.encoder.TapFields.{TapFields}
use Rattle.omny_audit.specs.Text.{IsTapLine}
use Rattle.omny_audit.proofs.text.write_tap_lines.Goals as goal

abbrev no_tap : TapFields
no_tap = record { token = []; validator = 0; moment = 0 }

pub loop-tap-init : goal.loop-tap-init
loop-tap-init c = ([], ([], tt, refl), sym (append-nil (string_bytes c.args.text.now)))

pub loop-tap-preserved : goal.loop-tap-preserved
loop-tap-preserved c =
    let words = c.args.words.now in
    let taps = c.args.taps.now in
    let (written, (lines, are, all), grown) = c.loop-tap.invariant in
    let (line, is, more) = c.in_ok-write_tap_line.ensures in
    let here = get_or taps c.loop-tap.tap-index no_tap in (
      written ++ line,
      (
        lines ++ line ∷ [],
        subst (λ (ts : List TapFields). AllZip (IsTapLine words) ts (lines ++ line ∷ []))
            (sym (take_more taps c.loop-tap.tap-index no_tap c.loop-tap-test.true))
            (AllZip-append (IsTapLine words) (take c.loop-tap.tap-index taps) lines (here ∷ [])
            (line ∷ []) are (is, tt)),
        ap (λ (t : List ℕ). t ++ line) all ∙ flat_map_more (λ l. l) [] lines line,
      ),
      more ∙ ap (λ (t : List ℕ). t ++ line) grown
          ∙ append_assoc (string_bytes c.args.text.now) written line,
    )

pub returns : goal.returns
returns c =
    let all : take c.loop-tap.tap-index c.args.taps.now ≡ c.args.taps.now =
    take_all _ c.args.taps.now c.loop-tap-test.false in
    rw all at c.loop-tap.invariant
