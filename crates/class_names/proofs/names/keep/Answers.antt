use Rattle.std.proofs.Common.{◌∙◌, sym, string_bytes}
use Rattle.class_names.proofs.Classes.{kept_before, kept_now}
use Rattle.class_names.proofs.names.keep.Goals as goal

pub returns-then-contains_key : goal.returns-then-contains_key
returns-then-contains_key c = λ other.
    kept_before c.args.riders.now c.args.token other (string_bytes c.args.class)
    (sym c.contains_key.ensures ∙ c.if-contains_key.true)

pub returns : goal.returns
returns c = λ other.
    kept_now c.args.riders.now c.insert.new.self c.args.token other c.args.class
    (sym c.contains_key.ensures ∙ c.if-contains_key.false) (c.in_ok-insert.ensures.updates.0 other)
