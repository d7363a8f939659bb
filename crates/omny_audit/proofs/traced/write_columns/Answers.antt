use Rattle.std.proofs.Common.{◌≡◌, ◌∙◌, ◌++◌, ℕ, Bool, List, Option, true, ap, ap₂, append_assoc}
use Rattle.std.proofs.Common.{rules, string_bytes, tests}
use Rattle.class_names.specs.Names.{class_by}
use Rattle.omny_audit.specs.Traced.{class_text, position_text}
use Rattle.omny_audit.specs.{declared.traced.WrongClass.WrongClass, inside.Traced.uploads_in}
use Rattle.std.specs.Prelude.{◌&&◌, is_some, not}
use Rattle.omny_audit.proofs.traced.write_columns.Goals as goal

pub returns : goal.returns
returns c =
    let so_far = c.in-Some.trace.so_far in
    let looked : c.args.is_looked_at ≡ true = first_of (cc, search (rules, tests)) in
    let classes = c.in_ok-are_classes.ensures in
    let positions = c.in_ok-are_positions.ensures in
    let first = class_text (class_by so_far.names) so_far.wrong_class in
    let second = position_text (uploads_in so_far.positions) positions.0 in (
      first ++ second,
      positions.1 ∙ ap (λ (t : List ℕ). t ++ second) classes.text
          ∙ append_assoc (string_bytes c.args.text.now) first second,
      λ file all.
          let known = rw c.in-Some.is at (all looked) in
          rw (c.in-Some.is, looked) (
            known.0,
            (
              known.1,
              positions.0,
              positions.3 known.0 known.2.positions,
              ap (λ (w : Option WrongClass). class_text (class_by so_far.names) w ++ second)
                  known.2.class,
              ap₂ (λ (a b : Bool). a && b)
                  (classes.right ∙ ap (λ (w : Option WrongClass). not (is_some w)) known.2.class)
                  positions.2,
            ),
          ),
    )
