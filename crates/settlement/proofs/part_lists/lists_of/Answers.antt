use Rattle.std.proofs.Common.{◌∷◌, ◌++◌, length, map, sym, ap, ◌∙◌, subst, arith, [], append_assoc}
use Rattle.settlement.proofs.Files.{taps_in}
use Rattle.std.proofs.lemmas.List.{map-append}
use Rattle.std.specs.{List.AllZip, Vec.Iter.into_iter_items}
use Rattle.tap_parts.specs.Canonical.{IsCanonical}
use Rattle.tap_views.proofs.Lists.{AllZip-append}
use Rattle.settlement.proofs.part_lists.lists_of.Goals as goal

pub loop-pieces-preserved : goal.loop-pieces-preserved
loop-pieces-preserved c =
    let inv = c.loop-pieces.invariant in
    let steps = c.in-Some.ensures.steps in
    let pieces = c.in-Some.pieces in
    let yielded = c.loop-pieces.yielded in
    let lists = c.loop-pieces.lists.items in
    let list = c.in_ok-list_of.field-0 in
    record {
      may = tt;
      ends = tt;
      left = append_assoc yielded (pieces ∷ []) (into_iter_items c.next.new.self)
          ∙ ap (λ us. yielded ++ us) (sym steps.0) ∙ inv.left;
      left_len = omega (arith, steps.1, inv.left_len, ap length steps.0);
      lists = subst (λ ls. AllZip IsCanonical (yielded ++ pieces ∷ []) ls)
          (sym (ap (map taps_in) c.in_ok-push.ensures.items
          ∙ map-append taps_in lists (list ∷ [])))
          (AllZip-append IsCanonical yielded (map taps_in lists) (pieces ∷ []) (list.items ∷ [])
          inv.lists (c.in_ok-list_of.ensures, tt));
    }
