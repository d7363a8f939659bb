use Rattle.std.proofs.Common.{◌≡◌, ◌∙◌, ◌++◌, ℕ, List, None, Option, Some, ap, false, inl, inr, map}
use Rattle.std.proofs.Common.{refl, subst, sym, true}
use Rattle.clap.specs.Words.{Text, kind_of}
use Rattle.fare_program.proofs.{Choices.if_false, Choices.if_true, Ended.done, Ended.halted}
use Rattle.fare_program.proofs.Ended.{reported_beside, said_beside}
use Rattle.fare_program.specs.Ends.{EndsCommand, EndsFares, beside}
use Rattle.fare_program.specs.Options.{Parses, Request, program, request_by}
use Rattle.fare_program.specs.declared.fault.Fault.TheVariants.{Write}
use Rattle.fare_program.specs.inside.{Fault.outside_of, Options.request_of}
use Rattle.fare_texts.proofs.Beginnings.{begins_whole}
use Rattle.frame.specs.declared.outside.Outside.TheVariants.{NoMemory, Untraced, Unwritten}
use Rattle.program_manners.proofs.Requests.{asks_for, of_memory}
use Rattle.program_manners.specs.declared.output.Output.{Output}
use Rattle.std.proofs.KnownBytes.{Appends-kept}
use Rattle.std.specs.{Io.KnownBytes.Appends, Prelude.◌⊎◌, Prelude.string_bytes}
use Rattle.std.specs.Prelude.{[], unwrap_or}
use Rattle.world.specs.{Origins.Origin, Run.Run, Writes.IsSaid}
use Rattle.fare_program.proofs.program.main_over.Goals as goal

not_untraced : NoMemory ≡ Untraced → ⊥
not_untraced same = cc

grown_of : (a b : Option (List ℕ)) (before after text : List ℕ) → a ≡ Some before → b ≡ Some after
    → Appends a b text → after ≡ before ++ text
grown_of a b before after text first last written = rw (first, last) at written

-- only something was said
said_alone : {W : Type 0} (contents : W → Option (List ℕ)) (old new : Run) (out out' : Output W)
    (before after : List ℕ) → contents out.writer ≡ Some before → contents out'.writer ≡ Some after
    → out' ≡ out → out.end ≡ None → IsSaid old new
    → IsSaid (beside old before None out.is_flushed) (beside new after out'.end out'.is_flushed)
said_alone contents old new out out' before after first last same none said =
    let kept : after ≡ before =
    ap (λ o. unwrap_or o []) (sym last ∙ ap (λ o. contents o.writer) same ∙ first) in
    rw (same, kept, none) (said_beside old new before None out.is_flushed said)

-- what words do that are a command line
by_request : (words : List Text) (under : List ℕ → Option (List ℕ)) (origin : List ℕ → Origin)
    (old new : Run) (status workers shards : ℕ) (request : Request)
    → request ≡ request_by workers shards words → Parses words
    → EndsCommand request under origin old new status → EndsFares words under origin old new status
by_request words under origin old new status workers shards request is parses ends = record {
  command = λ parsed. inl (workers, shards, rw is at ends);
  helped = λ unparsed. absurd (unparsed parses);
  refused = λ unparsed. absurd (unparsed parses);
}

-- ---- words that are not run
pub returns-in-Err : goal.returns-in-Err
returns-in-Err g c before after first last unended =
    let words = map string_bytes c.args.words.now in
    let kind = kind_of c.in-Err.error in
    let kinds = c.in-Err.ensures.kinds in
    let shown = c.show.ensures in
    record {
      command = λ parses.
          let (one, said, same) = shown.memory (of_memory program words kind kinds parses) in
          inr (
            one,
            said_alone g.W.Write.contents _ _ c.args.out.now c.show.new.out before after first last
                same unended said,
          );
      helped = λ unparsed zero.
          let (asks, text, written, none, flushed, same) = shown.help zero in (
            asks_for program words kind kinds asks,
            (text, rw (none, flushed, same, grown_of _ _ before after text first last written) refl),
          );
      refused = λ unparsed never.
          let (status, said, same) =
          shown.refused (λ request. never (asks_for program words kind kinds request)) in (
            status,
            said_alone g.W.Write.contents _ _ c.args.out.now c.show.new.out before after first last
                same unended said,
          );
    }

-- ---- a usage error
pub returns-in-Err-checked : goal.returns-in-Err-checked
returns-in-Err-checked g c before after first last unended =
    by_request _ _ _ _ _ _ _ _ _ c.in-Ok.ensures.request c.in-Ok.ensures.kinds
    (if_false _ _ c.in-Err-checked.ensures.unusable (
      refl,
      said_alone g.W.Write.contents _ _ c.args.out.now c.args.out.now before after first last refl
          unended c.report_line.ensures.said,
    ))

-- ---- a command line
pub returns-in-Err-work : goal.returns-in-Err-work
returns-in-Err-work g c before after first last unended =
    let request = request_of c.in-Ok.options in
    let mid = g.I.Inputs.run c.work.new.inputs in
    let out = c.work.new.out in
    let (loads, stopped, stops) = c.in-Err-work.ensures in
    by_request _ _ _ _ _ _ _ _ request c.in-Ok.ensures.request c.in-Ok.ensures.kinds
    (if_true _ _ c.in-Ok-checked.ensures.usable (inr (record {
      why = outside_of out.end c.in-Err-work.fault;
      before = beside mid after out.end out.is_flushed;
      halted = halted request _ _ _ mid before after _ loads out.end out.is_flushed
          c.in-Err-work.fault stopped (rw (first, last) at stops);
      reported = reported_beside (outside_of out.end c.in-Err-work.fault) mid _ after out.end
          out.is_flushed (rw (c.outside.ensures, c.end-end.ensures) at c.fail.ensures.reported);
      failed = c.fail.ensures.status;
    })))

-- the whole text was written, and was flushed
pub returns-in-Ok-finish : goal.returns-in-Ok-finish
returns-in-Ok-finish g c before after first last unended =
    let request = request_of c.in-Ok.options in
    let (loads, is, text, does, written) = c.in-Ok-work.ensures in
    let grown = grown_of _ _ before after text first last
    (Appends-kept _ _ _ text written c.finish.ensures.bytes) in
    let (none, flushed) = c.in-Ok-finish.ensures.done in
    by_request _ _ _ _ _ _ _ _ request c.in-Ok.ensures.request c.in-Ok.ensures.kinds
    (if_true _ _ c.in-Ok-checked.ensures.usable (inl
    (done request _ _ _ _ before after _ loads _ _ true text is grown none flushed
    (rw c.if-succeeded.true at does))))

pub returns-in-Ok-2 : goal.returns-in-Ok-2
returns-in-Ok-2 g c before after first last unended =
    let request = request_of c.in-Ok.options in
    let (loads, is, text, does, written) = c.in-Ok-work.ensures in
    let grown = grown_of _ _ before after text first last
    (Appends-kept _ _ _ text written c.finish.ensures.bytes) in
    let (none, flushed) = c.in-Ok-2.ensures.done in
    by_request _ _ _ _ _ _ _ _ request c.in-Ok.ensures.request c.in-Ok.ensures.kinds
    (if_true _ _ c.in-Ok-checked.ensures.usable (inl
    (done request _ _ _ _ before after _ loads _ _ false text is grown none flushed
    (rw c.if-succeeded.false at does))))

-- or was not
pub returns : goal.returns
returns g c before after first last unended =
    let request = request_of c.in-Ok.options in
    let why = c.in-Err-finish.why in
    let new = g.I.Inputs.run c.work.new.inputs in
    let (loads, is, text, does, written) = c.in-Ok-work.ensures in
    let failed = c.in-Err-finish.ensures.failed in
    by_request _ _ _ _ _ _ _ _ request c.in-Ok.ensures.request c.in-Ok.ensures.kinds
    (if_true _ _ c.in-Ok-checked.ensures.usable (inr (record {
      why = Unwritten why;
      before = beside new after c.finish.new.self.end c.finish.new.self.is_flushed;
      halted = rw failed (halted request _ _ _ new before after _ loads (Some why)
          c.finish.new.self.is_flushed Write (record { late = λ same. absurd (not_untraced same); left = is }) (
            text,
            (λ given. (c.in-Ok-work.succeeded, does)),
            begins_whole _ _ text (grown_of _ _ before
                after text first last (Appends-kept _ _ _ text written c.finish.ensures.bytes)),
          ));
      reported = reported_beside (Unwritten why) new _ after _ _ c.fail-in-Err-finish.ensures.reported;
      failed = c.fail-in-Err-finish.ensures.status;
    })))
