use Rattle.std.proofs.Common.{◌≡◌, Some, sym, ap, ◌∙◌}
use Rattle.histories.specs.declared.entry.Entry.{Entry}
use Rattle.shard_book.proofs.difference.agree.Goals as goal

pub returns : goal.returns
returns c = (
  λ is. c.entry.ensures ∙ ap (λ (e : Entry). Some e) (c.same.ensures.0 is) ∙ sym c.listed.ensures,
  λ both.
      let one : Some c.entry.result ≡ Some c.listed.result.now =
      sym c.entry.ensures ∙ both ∙ c.listed.ensures in
      c.same.ensures.1 (cc),
)
