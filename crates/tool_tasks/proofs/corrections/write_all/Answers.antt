use Rattle.std.proofs.Common.{◌∙◌, ◌++◌, [], List, None, Option, ap, inl, inr, subst, sym, refl, ℕ}
use Rattle.ledger_changes.specs.{Given.IsGivenAfter, Tokens.head_of}
use Rattle.part_texts.proofs.Written.{cut_on, written_none, written_on}
use Rattle.recorded_lines.proofs.Reading.{follows_on}
use Rattle.std.proofs.lemmas.Result.{err_from_is_err_and}
use Rattle.tool_tasks.proofs.Corrected.{after_started, started_part, given_head}
use Rattle.world.specs.Run.{with_written}
use Rattle.tool_tasks.proofs.corrections.write_all.Goals as goal

pub returns-in-Err-clause-written : goal.returns-in-Err-clause-written
returns-in-Err-clause-written g c = (
  [],
  inl refl,
  c.halt_of.ensures.stop _ _ c.in-Err.ensures.wrong,
  rw c.halt_of.ensures.uncut (written_none (g.W.Inputs.run c.args.world.now)),
)

pub returns-in_err-write-clause-written : goal.returns-in_err-write-clause-written
returns-in_err-write-clause-written g c =
    let e = err_from_is_err_and c.from_residual.result c.from_residual.ensures.1 in
    let by_token = c.args.words.now.is_by_token in
    let cut = c.in_err-write.ensures.cut in
    rw (e.1, e.2) (
      cut.front,
      inr (started_part by_token [] (head_of by_token) cut.front cut.rest _ _
          (sym c.corrections_head.ensures ∙ cut.whole)
          (after_started c.begin.new.self by_token None _
          (given_head c.begin.new.self _ by_token c.requires.by c.in-Ok.ensures.given))),
      tt,
      cut.prefix,
    )

pub loop-init : goal.loop-init
loop-init g c = record {
  follow_old = c.begin.ensures.follow.0;
  follow_new = c.begin.ensures.follow.1;
  given = (
    head_of c.args.words.now.is_by_token,
    c.in_ok-write.ensures.whole
        ∙ ap (λ (t : List ℕ). with_written (g.W.Inputs.run c.args.world.now) t)
        c.corrections_head.ensures,
    given_head c.begin.new.self _ c.args.words.now.is_by_token c.requires.by c.in-Ok.ensures.given,
  );
}

pub returns-in-Err-next-clause-follow : goal.returns-in-Err-next-clause-follow
returns-in-Err-next-clause-follow g c = (
  follows_on _ _ _ c.loop.invariant.follow_old c.next.ensures.follow.0,
  follows_on _ _ _ c.loop.invariant.follow_new c.next.ensures.follow.1,
)

pub returns-in-Err-next-clause-written : goal.returns-in-Err-next-clause-written
returns-in-Err-next-clause-written g c =
    let by_token = c.args.words.now.is_by_token in
    let (text, run, has) = c.loop.invariant.given in (
      text,
      inr (c.next.ensures.started by_token text has),
      c.halt_of-in-Err-next.ensures.stop _ _ (c.in-Err-next.ensures.wrong by_token text has),
      rw c.halt_of-in-Err-next.ensures.uncut run,
    )

pub returns-in_err-write-2-clause-follow : goal.returns-in_err-write-2-clause-follow
returns-in_err-write-2-clause-follow g c = (
  follows_on _ _ _ c.loop.invariant.follow_old c.next.ensures.follow.0,
  follows_on _ _ _ c.loop.invariant.follow_new c.next.ensures.follow.1,
)

pub returns-in_err-write-2-clause-written : goal.returns-in_err-write-2-clause-written
returns-in_err-write-2-clause-written g c =
    let e = err_from_is_err_and c.from_residual-in_err-write-2.result
    c.from_residual-in_err-write-2.ensures.1 in
    let by_token = c.args.words.now.is_by_token in
    let (text, run, has) = c.loop.invariant.given in
    let cut = c.in_err-write-2.ensures.cut in
    rw (e.1, e.2) (
      text ++ cut.front,
      inr (started_part by_token text c.next.new.piece.items cut.front cut.rest _ _
          (sym c.deref.ensures.value ∙ cut.whole)
          (after_started c.next.new.self by_token c.in-Ok-next.next _
          (c.in-Ok-next.ensures.given by_token text has))),
      tt,
      cut_on (g.W.Inputs.run c.args.world.now) (g.W.Inputs.run c.loop.world) _ text
          c.deref.result.now c.in_err-write-2.field-0.0 run cut,
    )

pub returns-in-Some-clause-follow : goal.returns-in-Some-clause-follow
returns-in-Some-clause-follow g c = (
  follows_on _ _ _ c.loop.invariant.follow_old c.next.ensures.follow.0,
  follows_on _ _ _ c.loop.invariant.follow_new c.next.ensures.follow.1,
)

pub returns-in-Some-clause-written : goal.returns-in-Some-clause-written
returns-in-Some-clause-written g c =
    let by_token = c.args.words.now.is_by_token in
    let (text, run, has) = c.loop.invariant.given in (
      text ++ c.next.new.piece.items,
      written_on (g.W.Inputs.run c.args.world.now) (g.W.Inputs.run c.loop.world) _ text
          c.next.new.piece.items run (c.in_ok-write-2.ensures.whole
          ∙ ap (λ (t : List ℕ). with_written (g.W.Inputs.run c.loop.world) t)
          c.deref.ensures.value),
      subst (λ (end : Option ℕ). IsGivenAfter c.next.new.self by_token end
          (text ++ c.next.new.piece.items)) c.in-Some.is
          (c.in-Ok-next.ensures.given by_token text has),
    )

pub loop-preserved : goal.loop-preserved
loop-preserved g c = record {
  follow_old = follows_on _ _ _ c.loop.invariant.follow_old c.next.ensures.follow.0;
  follow_new = follows_on _ _ _ c.loop.invariant.follow_new c.next.ensures.follow.1;
  given =
      let by_token = c.args.words.now.is_by_token in
      let (text, run, has) = c.loop.invariant.given in (
        text ++ c.next.new.piece.items,
        written_on (g.W.Inputs.run c.args.world.now) (g.W.Inputs.run c.loop.world) _ text
            c.next.new.piece.items run (c.in_ok-write-2.ensures.whole
            ∙ ap (λ (t : List ℕ). with_written (g.W.Inputs.run c.loop.world) t)
            c.deref.ensures.value),
        subst (λ (end : Option ℕ). IsGivenAfter c.next.new.self by_token end
            (text ++ c.next.new.piece.items)) c.in_default.is
            (c.in-Ok-next.ensures.given by_token text has),
      );
}

pub returns-clause-written : goal.returns-clause-written
returns-clause-written g c =
    let (text, run, has) = c.loop.invariant.given in
    (text, inr (after_started _ _ None text has), tt, run)
