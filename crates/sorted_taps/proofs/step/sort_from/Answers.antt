use Rattle.std.proofs.Common.{drop, sym}
use Rattle.std.proofs.lemmas.List.{take-append-drop, Sorted.IsPermutation-refl}
use Rattle.sorted_taps.proofs.step.sort_from.Goals as goal

pub returns-else-not-in_order : goal.returns-else-not-in_order
returns-else-not-in_order c =
    let items = c.args.taps.now.items in
    record {
      list = drop c.args.begin items;
      items = sym (take-append-drop c.args.begin items);
      canonical = record {
        moved = IsPermutation-refl (drop c.args.begin items);
        sorted = c.requires.order c.if-not-in_order.false;
      };
    }
