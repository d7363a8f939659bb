use Rattle.std.proofs.Common.{◌≡◌, ◌∙◌, ◌+◌, ◌<◌, ℕ, List, [], ◌∷◌, ◌++◌, All, Some, ap, arith}
use Rattle.std.proofs.Common.{drop, length, map, subst, sym, take}
use Rattle.class_names.proofs.Classes.{at_position, after_first, next_trees, plain_before}
use Rattle.class_names.proofs.Classes.{plain_more}
use Rattle.class_names.specs.ClassFaults.{HasPlainClasses}
use Rattle.std.specs.Prelude.{slice_get}
use Rattle.tariffs.specs.TableMeaning.{TableMeaning}
use Rattle.class_names.proofs.names.ClassNames.of_texts.Goals as goal

pub loop-position-preserved : goal.loop-position-preserved
loop-position-preserved c =
    let inv = c.loop-position.invariant in
    let position = c.loop-position.position in
    let texts = map (λ t. t.items) c.args.texts.now in
    let dated : ℕ × TableMeaning =
    (c.later-from.result.0, c.later-from.result.1.now.meaning) in
    let text = c.deref-in-loop-position.result.now in
    let made = c.in-Ok-next_names.ensures.classes in
    let within : position + 1 < length c.args.texts.now =
    omega (arith, c.requires, c.loop-position-test.true, c.later_len-position-end.ensures) in
    let holds : slice_get texts (position + 1) ≡ Some text =
    at_position (λ t. t.items) c.args.texts.now (position + 1) c.index-texts-position.result within
    c.index-texts-position.is
    ∙ ap (λ (t : List ℕ). Some t) (sym c.deref-in-loop-position.ensures.value) in
    record {
      text = inv.text;
      at = inv.at;
      tree = inv.tree;
      parsed = inv.parsed;
      trees = inv.trees ++ (c.later-from.result.0, made.0) ∷ [];
      are = next_trees c.args.fares.now.later (drop 1 texts) inv.trees position dated text made.0
          c.later-from.ensures (after_first texts position text holds) inv.are made.1;
      has = made.2 inv.tree inv.trees inv.has;
      plain = plain_more HasPlainClasses texts (position + 1) text holds inv.plain
          c.in-Ok-next_names.ensures.plain;
    }

pub returns-in-Err-next_names-clause-fault : goal.returns-in-Err-next_names-clause-fault
returns-in-Err-next_names-clause-fault c =
    let inv = c.loop-position.invariant in
    let position = c.loop-position.position in
    let texts = map (λ t. t.items) c.args.texts.now in
    let text = c.deref-in-loop-position.result.now in
    let at = c.in-Err-next_names.ensures.position in
    let within : position + 1 < length c.args.texts.now =
    omega (arith, c.requires, c.loop-position-test.true, c.later_len-position-end.ensures) in
    let holds : slice_get texts (position + 1) ≡ Some text =
    at_position (λ t. t.items) c.args.texts.now (position + 1) c.index-texts-position.result within
    c.index-texts-position.is
    ∙ ap (λ (t : List ℕ). Some t) (sym c.deref-in-loop-position.ensures.value) in
    record {
      text = text;
      holds = subst (λ (n : ℕ). slice_get texts n ≡ Some text) (sym at) holds;
      fault = c.in-Err-next_names.ensures.fault;
      before = subst (λ (n : ℕ). All HasPlainClasses (take n texts)) (sym at)
          (plain_before HasPlainClasses texts (position + 1) inv.plain);
    }
