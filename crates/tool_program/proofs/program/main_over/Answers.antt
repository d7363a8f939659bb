use Rattle.std.proofs.Common.{arith, inl, inr, refl, subst}
use Rattle.tool_words.specs.Request.{Request}
use Rattle.tool_program.specs.Program.{IsFramed}
use Rattle.tool_program.proofs.program.main_over.Goals as goal

pub returns-in-Ok : goal.returns-in-Ok
returns-in-Ok g c =
    let (parses, is) = c.in-Ok.ensures.request in record {
      command = λ _. inl (subst
          (λ (request : Request). IsFramed (g.F.Streams.readings c.args.streams.now)
          (g.F.Streams.readings c.task_over.new.streams)
          (g.D.PlacedFiles.bytes_under c.args.files.now) request (g.W.Inputs.run c.args.world.now)
          (g.W.Inputs.run c.task_over.new.world) c.task_over.result) is
          c.task_over.ensures);
      helped = λ not_so. absurd (not_so parses);
      refused = λ not_so. absurd (not_so parses);
    }

pub returns-in-Err : goal.returns-in-Err
returns-in-Err g c =
    elim c.in-Err.ensures.wrong [
      | inl memory ↦
          let (one, said) = c.show_answer.ensures.memory memory in record {
            command = λ _. inr (one, said);
            helped = λ _ zero. absurd (omega (arith, zero, one));
            refused = λ _ _. ((inr one, said), refl);
          }
      | inr wrong ↦ record {
        command = λ parses. absurd (wrong.0 parses);
        helped = λ _ zero. let help = c.show_answer.ensures.help zero in (wrong.1 help.0, help.1);
        refused = λ _ asks_not. (c.show_answer.ensures.refused (λ is. asks_not (wrong.1 is)), refl);
      }
    ]
