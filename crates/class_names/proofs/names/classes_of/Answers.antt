-- Each key adds its class to those that are kept.
use Rattle.std.proofs.Common.{◌∙◌, ℕ, List, Bool, Option, String, Global, ap, sym, string_bytes}
use Rattle.class_names.proofs.Classes.{first_first, first_none}
use Rattle.class_names.specs.Classes.{are_plain, class_among, class_at, first_class}
use Rattle.class_names.specs.Names.{rider_by}
use Rattle.std.specs.Prelude.{◌&&◌}
use Rattle.toml.specs.{View.members_view, View.view, declared.value.Value.Value}
use Rattle.class_names.proofs.names.classes_of.Goals as goal

pub loop-key-preserved : goal.loop-key-preserved
loop-key-preserved c =
    let value = view c.in-Some.value.now in
    let rest = members_view c.next.new.self in
    let riders = c.loop-key.riders in
    record {
      kept = λ token.
          ap (λ (o : Option (List ℕ)). first_class o (class_among rest token))
          (c.in_ok-add.ensures.kept token
          ∙ ap (λ (k : List ℕ). first_class (rider_by riders token) (class_at k value token))
          c.as_str.ensures.value)
          ∙ first_first (rider_by riders token)
          (class_at (string_bytes c.in-Some.key.now) value token) (class_among rest token)
          ∙ ap (λ (es : List (String Global × Value)). first_class (rider_by riders token)
          (class_among (members_view es) token)) (sym c.in-Some.ensures.steps)
          ∙ c.loop-key.invariant.kept token;
      plain = c.loop-key.invariant.plain
          ∙ ap (λ (es : List (String Global × Value)). are_plain (members_view es))
          c.in-Some.ensures.steps
          ∙ ap (λ (b : Bool). b && are_plain rest) c.in_ok-add.ensures.plain;
    }

pub returns-clause-classes : goal.returns-clause-classes
returns-clause-classes c = λ token.
    first_none (rider_by c.loop-key.riders token)
    ∙ ap (λ (es : List (String Global × Value)). first_class (rider_by c.loop-key.riders token)
    (class_among (members_view es) token)) (sym c.in-None.ensures.steps.0)
    ∙ c.loop-key.invariant.kept token

pub returns-clause-plain : goal.returns-clause-plain
returns-clause-plain c =
    c.loop-key.invariant.plain
    ∙ ap (λ (es : List (String Global × Value)). are_plain (members_view es))
    c.in-None.ensures.steps.0
