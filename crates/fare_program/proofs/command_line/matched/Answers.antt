use Rattle.std.proofs.Common.{◌≡◌, ◌∙◌, true, refl, ap, subst, map, string_bytes}
use Rattle.clap.proofs.OnLiterals.{clap_on_literals}
use Rattle.clap.specs.Words.{App, FailsBy, app_of, fault_of, is_simple, is_simple_and_free}
use Rattle.clap.specs.Words.{found_of, matches_of, rows_of}
use Rattle.fare_program.specs.Options.{program}
use Rattle.std.proofs.lemmas.Result.{IfOk-weaker}
use Rattle.fare_program.proofs.command_line.matched.Goals as goal

program_is_simple : is_simple program ≡ true
unfolding program clap_on_literals
program_is_simple = refl

is_free : is_simple_and_free program ≡ true
unfolding program clap_on_literals
is_free = refl

pub returns-clause-rows : goal.returns-clause-rows
returns-clause-rows c =
    let words = map string_bytes c.args.words.now in
    let same : app_of c.in_ok-command.field-0 ≡ program = c.in_ok-command.ensures in
    IfOk-weaker c.try_get_matches_from.result _ _
    (λ m h. subst (λ (a : App). rows_of (found_of m) ≡ matches_of a words) same
    (h (ap is_simple same ∙ program_is_simple)).0)
    c.try_get_matches_from.ensures.matches

pub returns-clause-kinds : goal.returns-clause-kinds
returns-clause-kinds c =
    let words = map string_bytes c.args.words.now in
    let same : app_of c.in_ok-command.field-0 ≡ program = c.in_ok-command.ensures in
    subst (λ (a : App). FailsBy (fault_of a words) c.try_get_matches_from.result) same
    (c.try_get_matches_from.ensures.kinds (ap is_simple_and_free same ∙ is_free))
