use Rattle.std.proofs.Common.{◌≡◌, ◌∙◌, ◌++◌, ◌∷◌, [], List, ap, append-nil, append_assoc, arith}
use Rattle.std.proofs.Common.{length, map, sym}
use Rattle.recorded_lines.specs.{Texts.calls_of, declared.text.Lines.Lines}
use Rattle.std.proofs.lemmas.List.{nil_from_length}
use Rattle.world.specs.Run.{Calls}
use Rattle.tool_tasks.proofs.merge.close_all.Goals as goal

pub loop-part-init : goal.loop-part-init
loop-part-init g c = record {
  may = tt;
  ends = tt;
  read = ap (λ (parts : List Lines). g.F.Streams.readings c.args.files.now ++ map calls_of parts)
      c.into_iter-part-iterator.ensures.into_iter_gives.0;
}

pub loop-part-preserved : goal.loop-part-preserved
loop-part-preserved g c =
    let before = g.F.Streams.readings c.loop-part.files in
    let rest = c.next.new.self.rest.items in
    record {
      may = tt;
      ends = tt;
      read = ap (λ (calls : List Calls). calls ++ map calls_of rest) c.close.ensures
          ∙ append_assoc before (calls_of c.in-Some.part ∷ []) (map calls_of rest)
          ∙ ap (λ (parts : List Lines). before ++ map calls_of parts)
          (sym c.in-Some.ensures.steps.0) ∙ c.loop-part.invariant.read;
    }

pub returns : goal.returns
returns g c =
    let none : length c.loop-part.part-iterator.rest.items ≡ 0 =
    omega (arith, c.loop-part.part-iterator.rest.ok.0, c.in-None.ensures.steps.0) in
    sym (ap (λ (parts : List Lines). g.F.Streams.readings c.loop-part.files ++ map calls_of parts)
    (nil_from_length c.loop-part.part-iterator.rest.items none)
    ∙ append-nil (g.F.Streams.readings c.loop-part.files)) ∙ c.loop-part.invariant.read
