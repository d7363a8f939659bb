use Rattle.std.proofs.Common.{◌∙◌, ap, ap₂}
use Rattle.std.proofs.lemmas.Result.{IfOk-weaker}
use Rattle.clap.specs.Words.{App, with_rule}
use Rattle.program_manners.specs.Words.{list_option, null_flag}
use Rattle.omny_audit.specs.Options.{audit_program}
use Rattle.omny_audit.proofs.options.command.Goals as goal

pub returns : goal.returns
unfolding audit_program
returns c =
    let one = c.in_ok-command.ensures
    ∙ ap₂ with_rule c.new_command-command.ensures c.table_arg.ensures.rule in
    let two = c.in_ok-command-2.ensures ∙ ap₂ with_rule one c.flag_arg.ensures.rule in
    let live = c.in_ok-command-3.ensures ∙ ap₂ with_rule two c.flag_arg-live.ensures.rule in
    let three = c.in_ok-command-4.ensures ∙ ap₂ with_rule live c.files_arg.ensures.rule in
    let four = c.in_ok-command-5.ensures ∙ ap₂ with_rule three c.option_arg.ensures.rule in
    let made = c.in_ok-command-6.ensures ∙ ap₂ with_rule four c.option_arg-2.ensures.rule in
    let format = c.in_ok-command-7.ensures ∙ ap₂ with_rule made c.option_arg-3.ensures.rule in
    let five = c.in_ok-command-8.ensures
    ∙ ap (λ (a : App). with_rule (with_rule a list_option) null_flag) format in
    IfOk-weaker c.with_arg-8.result _ _
    (λ command is. is ∙ ap₂ with_rule five c.positional_arg-ledger.ensures.rule)
    c.with_arg-8.ensures
