use Rattle.std.proofs.Common.{◌≡◌, ◌<◌, ◌+◌, suc, ◌∙◌, [], ◌∷◌, take, length, ap, arith, get_or}
use Rattle.fare_service.proofs.ClaimLemmas.{left_until, left_here, left_step, left_all}
use Rattle.shared_books.specs.Passes.{PassView, fresh_pass}
use Rattle.std.proofs.Math.{ListN.set, Seq.map-set_same}
use Rattle.std.proofs.lemmas.List.{length-map, map-append, take_more}
use Rattle.fare_service.proofs.service.Service.split_passes.Goals as goal

pub loop-shard-preserved : goal.loop-shard-preserved
loop-shard-preserved g c =
    let old = c.args.old.now.items in
    let shard = c.loop-shard.shard in
    let within : shard < length old =
    omega (
      arith,
      c.loop-shard-test.true,
      c.loop-shard.invariant.end,
      ap length c.requires.old,
      length-map old (λ (p : PassView). p.book),
    ) in
    let here : c.index_mut.result.now ≡ get_or old shard c.index_mut.result.now =
    c.index_mut.ensures.value
    ∙ (ap (λ ps. get_or ps shard c.index_mut.result.now) c.loop-shard.invariant.old
    ∙ left_here shard old c.index_mut.result.now) in
    let taken = take_more old shard c.index_mut.result.now within in
    let one : suc shard ≡ shard + 1 = omega arith in
    record {
      old = ap (λ ps. set ps shard c.split.new.pass) c.loop-shard.invariant.old
          ∙ (left_step shard old c.split.new.pass c.index_mut.result.now within c.split.ensures.old
          here ∙ ap (λ n. left_until n old) one);
      books = map-set_same (λ p. p.book) c.loop-shard.old.items shard c.split.new.pass
          c.index_mut.result.now
          (ap (λ p. p.book) (c.split.ensures.old) ∙ ap (λ p. p.book) c.index_mut.ensures.value)
          ∙ c.loop-shard.invariant.books;
      new = cc (
        taken,
        map-append fresh_pass (take shard old) (c.index_mut.result.now ∷ []),
        c.push_reserved.ensures.items,
        c.in_ok-pass.ensures.new,
        here,
        c.loop-shard.invariant.new,
      );
      room = omega (arith, c.loop-shard.invariant.room, c.push_reserved.ensures.capacity);
      within = omega (arith, c.loop-shard-test.true);
      end = c.loop-shard.invariant.end;
    }

pub returns-clause-old : goal.returns-clause-old
returns-clause-old g c =
    c.loop-shard.invariant.old ∙ left_all c.loop-shard.shard c.args.old.now.items
    (omega (
      arith,
      c.loop-shard-test.false,
      c.loop-shard.invariant.end,
      ap length c.requires.old,
      length-map c.args.old.now.items (λ (p : PassView). p.book),
    ))
