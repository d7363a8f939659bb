use Rattle.std.proofs.Common.{◌∙◌, Option, List, [], ℕ, ap, map}
use Rattle.std.specs.Prelude.{unwrap_or}
use Rattle.std.proofs.lemmas.Result.{IfOk-weaker}
use Rattle.clap.specs.Words.{found_of}
use Rattle.clap.proofs.WalkLemmas.{raw_values-rows}
use Rattle.program_manners.proofs.words.names_in.Goals as goal

abbrev or_none : Option (List (List ℕ)) → List (List ℕ)
or_none o = unwrap_or o []

pub returns-in-Some : goal.returns-in-Some
returns-in-Some c =
    IfOk-weaker c.from_slice.result _ _ (λ files copied. ap (map (λ f. f.now)) copied
    ∙ ap or_none
    (c.in-Some.ensures ∙ raw_values-rows (found_of c.args.matches.now) c.args.name.now))
    c.from_slice.ensures.items

pub returns-in-None : goal.returns-in-None
returns-in-None c =
    ap (map (λ f. f.now)) c.new.ensures.items
    ∙ ap or_none (c.in-None.ensures ∙ raw_values-rows (found_of c.args.matches.now) c.args.name.now)
