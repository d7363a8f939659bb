use Rattle.std.proofs.Common.{◌∙◌, ◌++◌, ◌∷◌, [], Bool, Bor, List, ap, append-nil, arith}
use Rattle.std.proofs.Common.{if◌then◌else◌, map, refl, sym, ℕ}
use Rattle.frame.proofs.{Giving.gave_nothing, Outcomes.stopped_flush}
use Rattle.frame.specs.Given.{Given, gave, nothing, with_note}
use Rattle.std.proofs.{Math.ListN.drop_of_length-le, lemmas.Result.err_from_is_err_and}
use Rattle.std.specs.Prelude.{◌&&◌, is_none}
use Rattle.tool_tasks.proofs.Decoding.{decoding_push, halted_one, halted_part, whole_push}
use Rattle.tool_tasks.proofs.{Decoding.words_push, Loading.word_contained}
use Rattle.tool_tasks.specs.Decode.{decoding_of, words_of}
use Rattle.world.specs.Run.{with_flushed}
use Rattle.tool_tasks.proofs.decode.decode.Goals as goal

pub returns-in_err-write : goal.returns-in_err-write
returns-in_err-write g c =
    let e = err_from_is_err_and c.from_residual.result c.from_residual.ensures.1 in
    let words = map (λ w. w.now) c.args.words.now in let old = g.W.Inputs.run c.args.world.now in
    rw (e.1, e.2) (halted_part words old _ [] [] words _ refl
    (c.in_err-write.ensures.stopped words old nothing (gave_nothing old)))

pub loop-number-init : goal.loop-number-init
loop-number-init g c =
    let old = g.W.Inputs.run c.args.world.now in
    ([], [], refl, refl, c.in_ok-write.ensures.written old nothing (gave_nothing old))

pub loop-number-preserved : goal.loop-number-preserved
loop-number-preserved g c =
    let words = c.args.words.now in let number = c.loop-number.number in
    let old = g.W.Inputs.run c.args.world.now in
    let (decoded, note, are, whole, is) = c.loop-number.invariant in
    let (one, word, is_whole, more, adds) = c.in_ok-is_whole.ensures.decoded in (
      decoded ++ one ∷ [],
      note ++ more,
      words_push words number _ decoded one c.loop-number-test.true are word,
      whole_push decoded one ∙ ap (λ (b : Bool). b && is_none one.fault) whole
          ∙ ap (λ (b : Bool). c.loop-number.succeeded && b) is_whole,
      adds old (decoding_of decoded note) (c.show_count.ensures ∙ is)
          ∙ ap (λ (given : Given). gave old (with_note given more)) (decoding_push decoded one note),
    )

pub returns-in_err-is_whole : goal.returns-in_err-is_whole
returns-in_err-is_whole g c =
    let e = err_from_is_err_and c.from_residual-in_err-is_whole.result
    c.from_residual-in_err-is_whole.ensures.1 in
    let words = c.args.words.now in let number = c.loop-number.number in
    let (decoded, note, are, whole, is) = c.loop-number.invariant in
    rw (e.1, e.2) (halted_one words (g.W.Inputs.run c.args.world.now) _ _ number _ decoded note _
    c.loop-number-test.true are (c.show_count.ensures ∙ is)
    (c.in_err-is_whole.ensures.stopped (map (λ w. w.now) words)
    (word_contained words number _ c.loop-number-test.true)))

pub returns : goal.returns
returns g c =
    let words = c.args.words.now in let past = c.loop-number-test.false in
    let (decoded, note, are, whole, is) = c.loop-number.invariant in
    record {
      given = decoding_of decoded note;
      right = record {
        decoded = decoded;
        named = are ∙ ap (λ (ws : List (Bor (List ℕ))). words_of decoded ++ map (λ w. w.now) ws)
            (drop_of_length-le words (omega (arith, past))) ∙ append-nil (words_of decoded);
        is = refl;
        status_is = c.status_of.ensures ∙ ap (λ (b : Bool). if b then 0 else 1) (sym whole);
      };
      all = c.in_ok-flush.ensures.flushed ∙ ap with_flushed is;
    }

pub returns-in_err-flush : goal.returns-in_err-flush
returns-in_err-flush g c =
    let e = err_from_is_err_and c.from_residual-in_err-flush.result
    c.from_residual-in_err-flush.ensures.1 in
    let words = c.args.words.now in let all = map (λ w. w.now) words in
    let old = g.W.Inputs.run c.args.world.now in
    let (decoded, note, are, whole, is) = c.loop-number.invariant in
    rw (e.1, e.2) (halted_part all old _ decoded note _ _ are
    (stopped_flush all old _ _ (decoding_of decoded note) _ is c.in_err-flush.ensures.cut))
