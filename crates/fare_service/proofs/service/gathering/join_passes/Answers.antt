use Rattle.std.proofs.Common.{◌<◌, ◌∷◌, [], ◌++◌, length, refl, sym, ◌∙◌, ap, arith, append_assoc}
use Rattle.std.proofs.Common.{length-append}
use Rattle.fare_service.proofs.{ClaimLemmas.claims_step, JoinLemmas.join_step, Signing.joined_none}
use Rattle.fare_service.specs.Shares.{marks_at}
use Rattle.shared_books.specs.Passes.{PassView}
use Rattle.std.proofs.{Math.Seq.map-set_same, lemmas.List.length-map}
use Rattle.std.specs.Vec.Iter.{into_iter_items}
use Rattle.fare_service.proofs.service.gathering.join_passes.Goals as goal

pub loop-pass-init : goal.loop-pass-init
loop-pass-init c =
    let gives = c.into_iter-pass-iterator.ensures.into_iter_gives in
    record {
      may = tt;
      ends = tt;
      left = gives.0;
      left_len = gives.1 ∙ (c.args.other.ok.0 ∙ ap length (sym gives.0));
      position = refl;
      books = c.requires.into;
      claims = λ shard. (omega arith);
      joined = λ shard. joined_none (marks_at shard c.args.into.now.items);
    }

pub loop-pass-preserved : goal.loop-pass-preserved
loop-pass-preserved c =
    let steps = c.in-Some.ensures.steps in
    let within : c.loop-pass.shard < length c.loop-pass.into.items =
    omega (
      arith,
      c.loop-pass.invariant.position,
      ap length c.loop-pass.invariant.left,
      length-append c.loop-pass.yielded (into_iter_items c.loop-pass.pass-iterator),
      ap length steps.0,
      ap length c.loop-pass.invariant.books,
      length-map c.loop-pass.into.items (λ (p : PassView). p.book),
      ap length c.requires.other,
      length-map c.args.other.items (λ (p : PassView). p.book),
    ) in
    record {
      may = tt;
      ends = tt;
      left = append_assoc c.loop-pass.yielded (c.in-Some.pass ∷ [])
          (into_iter_items c.next.new.self) ∙ ap (λ ps. c.loop-pass.yielded ++ ps) (sym steps.0)
          ∙ c.loop-pass.invariant.left;
      left_len = omega (arith, steps.1, c.loop-pass.invariant.left_len, ap length steps.0);
      position = omega (
        arith,
        c.loop-pass.invariant.position,
        length-append c.loop-pass.yielded (c.in-Some.pass ∷ []),
      );
      books = map-set_same (λ p. p.book) c.loop-pass.into.items c.loop-pass.shard c.join.new.pass
          c.index_mut.result.now (c.join.ensures.book ∙ ap (λ p. p.book) c.index_mut.ensures.value)
          ∙ c.loop-pass.invariant.books;
      claims = λ shard. claims_step c.args.into.now.items c.loop-pass.yielded c.loop-pass.into.items
          c.loop-pass.shard c.index_mut.result.now c.in-Some.pass c.join.new.pass shard
          (c.loop-pass.invariant.claims shard) c.loop-pass.invariant.position within
          c.index_mut.ensures.value c.join.ensures.claims;
      joined = λ shard. join_step c.args.into.now.items c.loop-pass.yielded c.loop-pass.into.items
          c.loop-pass.shard c.index_mut.result.now c.in-Some.pass c.join.new.pass shard
          (c.loop-pass.invariant.joined shard) c.loop-pass.invariant.position within
          c.index_mut.ensures.value c.join.ensures;
    }
