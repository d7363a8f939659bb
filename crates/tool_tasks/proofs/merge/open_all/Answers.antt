use Rattle.std.proofs.Common.{◌∙◌, ◌++◌, ◌∷◌, [], Bor, List, ap, append-nil, map, refl, sym}
use Rattle.std.proofs.Common.{take_all, ℕ}
use Rattle.frame.specs.Names.{file_named}
use Rattle.recorded_lines.specs.Texts.{IsFresh, calls_of}
use Rattle.std.proofs.lemmas.{List.Elements.All-nil, List.Elements.All-push}
use Rattle.std.proofs.lemmas.{List.Elements.All-same, Result.err_from_is_err_and}
use Rattle.tool_tasks.proofs.{Loading.word_contained, PartsRead.opened_more}
use Rattle.tool_tasks.specs.inside.Merge.{names_of}
use Rattle.tool_tasks.proofs.merge.open_all.Goals as goal

pub loop-word-init : goal.loop-word-init
loop-word-init g c = record {
  fresh = All-same IsFresh c.args.parts.now.items [] c.requires (All-nil IsFresh);
  named = ap (λ ps. names_of (map calls_of ps)) c.requires;
  unchanged = refl;
}

pub loop-word-preserved : goal.loop-word-preserved
loop-word-preserved g c =
    let no_word : Bor (List ℕ) = record { ref_ptr = (0, 0); now = [] } in
    record {
      fresh = All-same IsFresh c.push.new.files.items
          (c.loop-word.parts.items ++ c.in_ok-lines.lines ∷ []) c.in_ok-push.ensures
          (All-push IsFresh c.loop-word.parts.items c.in_ok-lines.lines c.loop-word.invariant.fresh
          c.in_ok-lines.ensures.fresh);
      named = opened_more c.args.words.now c.loop-word.word-index no_word c.loop-word.parts.items
          c.push.new.files.items c.in_ok-lines.lines c.loop-word-test.true c.in_ok-push.ensures
          c.loop-word.invariant.named c.in_ok-lines.ensures.named;
      unchanged = c.in_ok-lines.ensures.unchanged ∙ c.loop-word.invariant.unchanged;
    }

pub returns-in_err-push-clause-stopped : goal.returns-in_err-push-clause-stopped
returns-in_err-push-clause-stopped g c =
    let e = err_from_is_err_and c.from_residual-in_err-push.result
    c.from_residual-in_err-push.ensures.1 in
    rw (e.1, e.2) (
      [],
      c.in_ok-lines.ensures.unchanged ∙ c.loop-word.invariant.unchanged ∙ sym (append-nil _),
      tt,
    )

pub returns-in_err-lines-clause-stopped : goal.returns-in_err-lines-clause-stopped
returns-in_err-lines-clause-stopped g c =
    let e = err_from_is_err_and c.from_residual.result c.from_residual.ensures.1 in
    let no_word : Bor (List ℕ) = record { ref_ptr = (0, 0); now = [] } in
    let (calls, all, unopened) = c.in_err-lines.ensures.stopped (map (λ w. w.now) c.args.words.now)
    (word_contained c.args.words.now c.loop-word.word-index no_word c.loop-word-test.true) in
    rw (e.1, e.2) (calls, all ∙ ap (λ l. l ++ calls) c.loop-word.invariant.unchanged, unopened)

pub returns-clause-named : goal.returns-clause-named
returns-clause-named g c =
    c.loop-word.invariant.named
    ∙ ap (λ (ws : List (Bor (List ℕ))). map file_named (map (λ w. w.now) ws))
    (take_all _ c.args.words.now c.loop-word-test.false)
