use Rattle.std.proofs.Common.{◌∙◌, ◌++◌, ap, append-nil, map, string_bytes, sym}
use Rattle.toml.specs.View.{members_view}
use Rattle.fare_table.proofs.NameLemmas.{names_push, ordered_view}
use Rattle.fare_table.specs.Members.{names_in}
use Rattle.fare_table.proofs.read.class_names.ClassNames.new.Goals as goal

pub loop-name-preserved : goal.loop-name-preserved
loop-name-preserved c =
    c.loop-name.invariant
    ∙ ap (λ more. map (λ name. name.now) c.loop-name.names.items ++ names_in (members_view more))
    c.in-Some.ensures.steps
    ∙ names_push c.loop-name.names.items c.push.new.self.items c.as_str.result
    (string_bytes c.in-Some.name.now) (names_in (members_view c.next.new.self))
    c.in_ok-push.ensures.items (sym c.as_str.ensures.value)

pub invariant_of-result : goal.invariant_of-result
invariant_of-result c = record {
  listed = sym (c.loop-name.invariant
      ∙ ap (λ more. map (λ name. name.now) c.loop-name.names.items ++ names_in (members_view more))
      c.in-None.ensures.steps.0 ∙ append-nil _);
  increasing = ordered_view c.args.classes.now.entries c.len.ensures.ordered;
}
