use Rattle.std.proofs.Common.{List, [], ◌∷◌, ◌++◌, length, map, sym, ◌∙◌, ap, subst, arith}
use Rattle.std.proofs.Common.{length-append}
use Rattle.std.proofs.lemmas.List.{map-append}
use Rattle.shared_books.specs.Passes.{SharedBookView, new_pass}
use Rattle.fare_service.specs.inside.ServiceView.{IsBookOf, AreOpened}
use Rattle.fare_service.proofs.PositionLemmas.{position_more}
use Rattle.fare_service.proofs.service.shard_books.open_books.Goals as goal

pub loop-shard-preserved : goal.loop-shard-preserved
loop-shard-preserved c =
    let books = c.push_reserved.ensures.items in
    let passes = c.push_reserved-in-loop-shard.ensures.items in
    let opened = c.in_ok-shared.ensures.book in
    let handed = c.open-book.ensures.book in
    let table = opened.table ∙ (ap (λ b. b.table) handed ∙ c.in_ok-own.ensures) in
    let shard = opened.shard ∙ (ap (λ b. b.shard) handed ∙ sym c.loop-shard.invariant.number) in
    let here : IsBookOf c.args.table.now (length c.loop-shard.books.items) c.args.shards
    c.in_ok-shared.shared =
    record {
      from_zero = opened.first_is;
      its_table = table;
      its_shard = shard;
      of_shards =
          opened.shards ∙ ap (λ b. b.shards) handed;
    } in
    let P : List SharedBookView → Type 0 = AreOpened c.args.table.now c.args.shards in
    record {
      books = subst P (sym books)
          (position_more (λ i b. IsBookOf c.args.table.now i c.args.shards b)
          c.loop-shard.books.items
          c.in_ok-shared.shared c.loop-shard.invariant.books here);
      number = omega (
        arith,
        ap length books,
        length-append c.loop-shard.books.items (c.in_ok-shared.shared ∷ []),
        c.loop-shard.invariant.number,
      );
      number_too = omega (
        arith,
        ap length passes,
        length-append c.loop-shard.passes.items (c.in_ok-shared.pass ∷ []),
        c.loop-shard.invariant.number_too,
      );
      passes = passes
          ∙ (ap (λ ps. ps ++ c.in_ok-shared.pass ∷ []) c.loop-shard.invariant.passes
          ∙ ap (λ p. map new_pass c.loop-shard.books.items ++ p ∷ []) c.in_ok-shared.ensures.pass
          ∙ sym (ap (map new_pass) books
          ∙ map-append new_pass c.loop-shard.books.items (c.in_ok-shared.shared ∷ [])));
      room = omega (arith, c.push_reserved.ensures.capacity, c.loop-shard.invariant.room);
      room_too = omega
          (arith, c.push_reserved-in-loop-shard.ensures.capacity, c.loop-shard.invariant.room_too);
      within = omega (arith, c.loop-shard-test.true);
    }
