use Rattle.std.proofs.Common.{◌≡◌, ◌∙◌, ℕ, List, ◌∷◌, ◌++◌, ap, refl}
use Rattle.std.proofs.lemmas.List.{nil_from_length}
use Rattle.settled_bills.specs.Columns.{columns_by, with_columns}
use Rattle.class_names.specs.Names.{class_by}
use Rattle.settled_bills.proofs.columns.put_lines.Goals as goal

pub loop-byte-init : goal.loop-byte-init
loop-byte-init c = λ more. refl

pub loop-byte-preserved : goal.loop-byte-preserved
loop-byte-preserved c = λ more.
    let all : c.loop-byte.rest.now ≡ c.in-Some.byte.now ∷ c.in-Some.trailing.now =
    c.in-Some.ensures.cases.0 in
    c.loop-byte.invariant more
    ∙ ap (λ (t : List ℕ). c.loop-byte.text.items ++ with_columns (t ++ more)
    (columns_by (class_by c.args.names.now) c.loop-byte.left.now)) all
    ∙ c.in_ok-left.ensures (c.in-Some.trailing.now ++ more)

pub returns : goal.returns
returns c = λ more.
    c.loop-byte.invariant more
    ∙ ap (λ (t : List ℕ). c.loop-byte.text.items ++ with_columns (t ++ more)
    (columns_by (class_by c.args.names.now) c.loop-byte.left.now))
    (nil_from_length c.loop-byte.rest.now c.in_default.ensures.cases)
