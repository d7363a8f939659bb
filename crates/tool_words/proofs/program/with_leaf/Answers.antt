use Rattle.std.proofs.Common.{◌≡◌, ◌∙◌, ap, false, true}
use Rattle.std.proofs.lemmas.{Bool.not-true, Result.IfOk-weaker}
use Rattle.clap.proofs.WalkLemmas.{both}
use Rattle.clap.specs.{Simple.has_plain_fields, Words.App, Words.app_of, Words.with_subcommand}
use Rattle.clap.specs.declared.builder.command.Command.{Command, TheViews.out-Command}
use Rattle.tool_words.proofs.program.with_leaf.Goals as goal

no_globals : (c : Command) → has_plain_fields (out-Command c) ≡ true
    → (out-Command c).has_globals ≡ false
no_globals c plain = not-true _ (both _ _ (both _ _ (both _ _ plain).1).1).0

pub returns : goal.returns
returns c = λ plain.
    let is = c.in_ok-command.ensures plain in
    IfOk-weaker c.subcommand.result _ _
    (λ more adds. adds.shape (no_globals _ (ap (λ (a : App). a.top.is_plain) is))
    ∙ ap (λ (a : App). with_subcommand (app_of c.args.command) a.top) is)
    c.subcommand.ensures
