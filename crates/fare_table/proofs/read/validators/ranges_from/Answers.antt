use Rattle.std.proofs.Common.{◌≡◌, ◌∙◌, ℕ, ◌+◌, false, List, Ok, ap, sym, map, string_bytes, drop}
use Rattle.std.proofs.Common.{length, arith, get_or, subst}
use Rattle.fare_table.proofs.OverlapLemmas.{holds-insert, known-insert}
use Rattle.fare_table.specs.Validators.{range_in, ranges_from, share_number}
use Rattle.std.specs.{BTreeMap.insert_entry, List.list_any, Ordering.nat_cmp}
use Rattle.tariffs.specs.declared.validators.RangeRest.{RangeRest}
use Rattle.toml.proofs.Views.{items_view-drop}
use Rattle.toml.specs.Data.{Data, Items, item}
use Rattle.toml.specs.{View.items_view, View.view, declared.value.Value.Value}
use Rattle.fare_table.proofs.read.validators.ranges_from.Goals as goal

ranges-step : (modes : List (List ℕ)) (earlier ranges : List (ℕ × RangeRest)) (value : Data)
    (more : Items) (range : ℕ × RangeRest) → range_in modes value ≡ Ok range
    → list_any (share_number range) earlier ≡ false
    → ranges ≡ insert_entry nat_cmp earlier range.0 range.1
    → ranges_from modes earlier (item value more) ≡ ranges_from modes ranges more
ranges-step modes earlier ranges value more range is free one = rw (is, free, one)

pub loop-value-preserved : goal.loop-value-preserved
loop-value-preserved c =
    let items = c.args.array.now.items in
    let i = c.loop-value.value-index in
    let modes = map string_bytes c.args.modes.now in
    let earlier = c.loop-value.ranges.entries in
    let range : ℕ × RangeRest = (c.in_ok-first.first, c.in_ok-first.rest) in
    let free : list_any (share_number range) earlier ≡ false = sym c.if-shares_number.ensures in
    let read : c.value-item.result ≡ get_or items i c.value-item.result =
    let P : List Value → Type 0 =
    λ values. c.value-item.result ≡ get_or values i c.value-item.result in
    subst P c.deref-value-items.ensures.value c.value-item.is in
    let left : items_view (drop i items)
    ≡ item (view c.value-item.result) (items_view (drop (i + 1) items)) =
    items_view-drop items i c.value-item.result (omega arith)
    ∙ ap (λ v. item (view v) (items_view (drop (i + 1) items))) (sym read) in
    record {
      same =
          c.loop-value.invariant.same ∙ ap (λ more. ranges_from modes earlier more) left
          ∙ ranges-step modes earlier c.insert.new.self.entries (view c.value-item.result)
          (items_view (drop (i + 1) items)) range (sym c.in_ok-first.ensures.range) free
          c.in_ok-insert.ensures.entries;
      apart = rw c.in_ok-insert.ensures.entries
          (holds-insert range earlier c.in_ok-first.ensures.order c.loop-value.invariant.apart
          free);
      known = rw c.in_ok-insert.ensures.entries
          (known-insert (length c.args.modes.now) range earlier c.in_ok-first.ensures.known
          c.loop-value.invariant.known);
    }
