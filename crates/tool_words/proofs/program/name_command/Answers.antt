use Rattle.std.proofs.Common.{◌∙◌, ap, true}
use Rattle.clap.specs.Simple.{Shape, app_of_fields, on_top}
use Rattle.tool_words.proofs.program.name_command.Goals as goal

pub returns : goal.returns
returns c =
    ap app_of_fields c.arg_required_else_help.ensures
    ∙ ap (on_top (λ (s : Shape). record s { arg_required_else_help = true }))
    (ap app_of_fields c.subcommand_required.ensures)
    ∙ ap (on_top (λ (s : Shape). record s {
      subcommand_required = true;
      arg_required_else_help = true;
    })) c.new_command.ensures
