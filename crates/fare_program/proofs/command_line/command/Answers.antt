use Rattle.std.proofs.Common.{◌∙◌, ap, ap₂}
use Rattle.std.proofs.lemmas.Result.{IfOk-weaker}
use Rattle.clap.specs.Words.{App, with_rule}
use Rattle.fare_program.specs.Options.{program}
use Rattle.program_manners.specs.Words.{list_option, null_flag}
use Rattle.fare_program.proofs.command_line.command.Goals as goal

pub returns : goal.returns
unfolding program
returns c =
    let one = c.in_ok-command.ensures
    ∙ ap₂ with_rule c.new_command-command.ensures c.repeated_arg.ensures.rule in
    let two = c.in_ok-command-2.ensures ∙ ap₂ with_rule one c.flag_arg.ensures.rule in
    let three = c.in_ok-command-3.ensures
    ∙ ap₂ with_rule two (c.hidden.ensures.rule ∙ c.flag_arg-2.ensures.rule) in
    let four = c.in_ok-command-4.ensures ∙ ap₂ with_rule three c.flag_arg-3.ensures.rule in
    let five = c.in_ok-command-5.ensures
    ∙ ap₂ with_rule four (c.hidden-2.ensures.rule ∙ c.flag_arg-4.ensures.rule) in
    let six = c.in_ok-command-6.ensures
    ∙ ap₂ with_rule five (c.hidden-3.ensures.rule ∙ c.number_arg-workers.ensures.rule) in
    let seven = c.in_ok-command-7.ensures
    ∙ ap₂ with_rule six (c.hidden-4.ensures.rule ∙ c.number_arg-shards.ensures.rule) in
    let eight = c.in_ok-command-8.ensures ∙ ap₂ with_rule seven c.option_arg.ensures.rule in
    let nine = c.in_ok-command-9.ensures ∙ ap₂ with_rule eight c.flag_arg-5.ensures.rule in
    let ten = c.in_ok-command-10.ensures ∙ ap₂ with_rule nine c.flag_arg-6.ensures.rule in
    let eleven = c.in_ok-command-11.ensures
    ∙ ap₂ with_rule ten (c.hidden-5.ensures.rule ∙ c.flag_arg-7.ensures.rule) in
    let twelve = c.in_ok-command-12.ensures
    ∙ ap₂ with_rule eleven (c.hidden-6.ensures.rule ∙ c.flag_arg-8.ensures.rule) in
    let thirteen = c.in_ok-command-13.ensures
    ∙ ap₂ with_rule twelve (c.hidden-7.ensures.rule ∙ c.option_arg-tokens.ensures.rule) in
    let fourteen = c.in_ok-command-14.ensures
    ∙ ap₂ with_rule thirteen c.option_arg-2.ensures.rule in
    let fifteen = c.in_ok-command-15.ensures ∙ ap₂ with_rule fourteen c.option_arg-3.ensures.rule in
    let listed = c.in_ok-command-16.ensures
    ∙ ap (λ (a : App). with_rule (with_rule a list_option) null_flag) fifteen in
    IfOk-weaker c.with_arg-16.result _ _
    (λ command is. is ∙ ap₂ with_rule listed c.positional_arg-file.ensures.rule)
    c.with_arg-16.ensures
