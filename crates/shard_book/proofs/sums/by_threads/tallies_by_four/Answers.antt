use Rattle.std.proofs.Common.{◌≡◌, ◌≤◌, ◌*◌, ◌^◌, ◌+◌, ◌/◌, ◌%◌, min, ◌<◌, List, ◌∷◌, length, sym}
use Rattle.std.proofs.Common.{ap, subst, ◌∙◌, arith, rules}
use Rattle.histories.specs.TalliesByKey.{AreTallied}
use Rattle.shard_book.proofs.ChunkLemmas.{AreChunksTallied, IsTallied, IsMerging, no-chunks}
use Rattle.shard_book.proofs.ChunkLemmas.{all-tallied, merging-first, merging-room, merging-more}
use Rattle.shard_book.proofs.ChunkLemmas.{merging-tallied}
use Rattle.shard_book.specs.Book.{Book, all_entries}
use Rattle.std.proofs.lemmas.List.{nil_from_length}
use Rattle.std.specs.{Prelude.slice_index_or, Vec.Iter.into_iter_items, Vec.Iter.into_iter_len}
use Rattle.shard_book.proofs.sums.by_threads.tallies_by_four.Goals as goal

-- without chunks there are no books
pub returns-in_default-clause-tallied : goal.returns-in_default-clause-tallied
returns-in_default-clause-tallied g c =
    let books = c.args.books.now in
    let some : 0 < c.max-size.result = omega (arith, c.max-size.ensures) in
    let none : 0 ≡ length books / c.max-size.result + min 1 (length books % c.max-size.result) =
    sym (c.in_default.ensures.cases.0)
    ∙ (c.into_iter-parts.ensures.len ∙ c.in_ok-parts.ensures.len) in
    subst (λ (bs : List Book). AreTallied (all_entries bs) c.new.result)
    (sym (no-chunks c.max-size.result books some none)) c.new.ensures

pub returns-in_default-clause-few : goal.returns-in_default-clause-few
returns-in_default-clause-few g c =
    let books = c.args.books.now in
    let some : 0 < c.max-size.result = omega (arith, c.max-size.ensures) in
    let none : 0 ≡ length books / c.max-size.result + min 1 (length books % c.max-size.result) =
    sym (c.in_default.ensures.cases.0)
    ∙ (c.into_iter-parts.ensures.len ∙ c.in_ok-parts.ensures.len) in
    subst (λ (bs : List Book). length (all_entries bs) ≤ length bs * 2 ^ 64)
    (sym (no-chunks c.max-size.result books some none)) (omega arith)

pub loop-more-init : goal.loop-more-init
loop-more-init g c =
    let books = c.args.books.now in
    let size = c.max-size.result in
    let parts = c.in_ok-parts.parts in
    let rest = into_iter_items c.next.new.self in
    let some : 0 < size = omega (arith, c.max-size.ensures) in
    let all : parts.items ≡ c.in-Some.first ∷ rest =
    sym c.into_iter-parts.ensures.rest ∙ c.in-Some.ensures.items in
    let tallied = all-tallied size books parts.items some
    (sym parts.ok.0 ∙ c.in_ok-parts.ensures.len)
    (λ n d l.
    let given = (c.in_ok-parts.ensures.each n d l).1 in
    let call = given.call in
    subst (λ (bs : List Book). IsTallied bs (slice_index_or parts.items n d))
    given.argument_is.value (record { tallied = search rules; few = search rules })) in
    let same = c.into_iter-more-iterator.ensures.into_iter_gives in
    record {
      may = tt;
      ends = tt;
      left_len = ap into_iter_len same
          ∙ ((omega
          (arith, c.in-Some.ensures.len, c.into_iter-parts.ensures.len, parts.ok.0, ap length all))
          ∙ sym (ap (λ it. length (into_iter_items it)) same));
      merging = subst
          (λ it. IsMerging books c.in_ok-tallies.tallies
          (into_iter_items it)) (sym same)
          (merging-first size books c.in_ok-tallies.tallies rest
          (subst (λ rs. AreChunksTallied size books rs)
          (all ∙ ap (λ r. r ∷ rest) c.in_ok-tallies.was) tallied));
    }

pub add_all-requires : goal.add_all-requires
add_all-requires g c =
    let rest = into_iter_items c.next-in-loop-more.new.self in
    merging-room c.args.books.now c.loop-more.tallies c.in_ok-more.field-0
    rest
    (subst (λ rs. IsMerging c.args.books.now c.loop-more.tallies rs)
    (c.in-Some-more.ensures.steps.0 ∙ ap (λ r. r ∷ rest) c.in_ok-more.was)
    c.loop-more.invariant.merging)
    c.requires

pub loop-more-preserved : goal.loop-more-preserved
loop-more-preserved g c =
    let steps = c.in-Some-more.ensures.steps in
    let rest = into_iter_items c.next-in-loop-more.new.self in
    record {
      may = tt;
      ends = tt;
      left_len = omega (arith, steps.1, c.loop-more.invariant.left_len, ap length steps.0);
      merging = merging-more c.args.books.now c.loop-more.tallies
          c.in_ok-more.field-0 rest
          (subst (λ rs. IsMerging c.args.books.now c.loop-more.tallies rs)
          (steps.0 ∙ ap (λ r. r ∷ rest) c.in_ok-more.was) c.loop-more.invariant.merging)
          c.add_all.new.self c.in_ok-add_all.ensures;
    }

pub returns-clause-tallied : goal.returns-clause-tallied
returns-clause-tallied g c =
    let none = nil_from_length (into_iter_items c.loop-more.more-iterator)
    (sym c.loop-more.invariant.left_len ∙ c.in-None.ensures.steps.0) in
    merging-tallied c.args.books.now c.loop-more.tallies
    (subst (λ rs. IsMerging c.args.books.now c.loop-more.tallies rs) none
    c.loop-more.invariant.merging)
