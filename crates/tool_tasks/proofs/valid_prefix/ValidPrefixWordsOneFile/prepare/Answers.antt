use Rattle.std.proofs.Common.{◌∙◌, Bool, ap, arith, if◌then◌else◌, not, refl, subst, sym}
use Rattle.std.proofs.Math.Bool.{not-not}
use Rattle.tap_views.specs.Facts.{IsValidPrefix}
use Rattle.tool_tasks.proofs.valid_prefix.ValidPrefixWordsOneFile.prepare.Goals as goal

pub returns-clause-whole : goal.returns-clause-whole
returns-clause-whole c = record {
  upload = c.args.upload.now;
  loaded = refl;
  file = c.in_ok-bytes.bytes.items;
  valid = subst (IsValidPrefix c.args.upload.now) (sym c.in_ok-bytes.ensures.items)
      c.valid_prefix-valid.ensures;
  made = refl;
  facts = c.facts_of-facts.result;
  are_facts = c.facts_of-facts.ensures;
  status_is = c.status_of.ensures ∙ ap (λ (b : Bool). if b then 0 else 1)
      (sym (not-not c.is_none.result) ∙ ap not (sym c.is_none.ensures));
}

pub returns-clause-named : goal.returns-clause-named
returns-clause-named c = record { first = tt; upload = (1, omega arith, refl); held = tt }
