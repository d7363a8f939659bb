use Rattle.std.proofs.Common.{◌≡◌, ◌&&◌, ◌∙◌, Bool, true, false, cond, ap, sym, subst}
use Rattle.histories.specs.Sums.{is_stale}
use Rattle.shard_book.specs.{declared.late.TapKey.TapKey, inside.Late.key_eq, inside.Late.key_of}
use Rattle.std.specs.List.{list_any}
use Rattle.shard_book.proofs.late.take_late.Goals as goal

pub returns-then-is_first-clause-late : goal.returns-then-is_first-clause-late
returns-then-is_first-clause-late c =
    let keys = c.args.keys.now.keys in
    let found : c.swap_remove-is_first.result ≡ list_any (key_eq c.of.result) keys =
    c.swap_remove-is_first.ensures.found in
    let here : list_any (key_eq (key_of c.args.entry.now)) keys ≡ true =
    ap (λ (key : TapKey). list_any (key_eq key) keys) (sym c.of.ensures) ∙ sym found
    ∙ c.if-is_first.true in
    c.is_stale.ensures
    ∙ sym (ap (λ (b : Bool). b && is_stale c.args.entry.now.answer) here)

pub returns-then-is_first-clause-taken : goal.returns-then-is_first-clause-taken
returns-then-is_first-clause-taken c = λ key.
    subst (λ (gone : TapKey). list_any (key_eq key) c.swap_remove-is_first.new.self.keys
    ≡ cond (key_eq gone key) false (list_any (key_eq key) c.args.keys.now.keys)) c.of.ensures
    (c.swap_remove-is_first.ensures.updates.0 key)
