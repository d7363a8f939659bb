use Rattle.std.proofs.Common.{◌≡◌, ◌<◌, ◌++◌, ◌∷◌, [], suc, length, ap, sym, ◌∙◌, arith, get_or}
use Rattle.std.proofs.lemmas.List.{length-append, length-set, get_or_default, append_assoc}
use Rattle.tap_views.specs.Shards.{shard_of_token}
use Rattle.tap_views.proofs.Sorted.{positions_few, hold_more}
use Rattle.tap_views.proofs.runs.sort_in.Goals as goal

pub push-requires : goal.push-requires
push-requires c =
    let shard = c.shard_of-shard.result in
    let within : shard < length c.loop-tap.lists =
    omega (arith, c.shard_of-shard.ensures.below, c.loop-tap.invariant.number) in
    let few = positions_few shard (length c.args.lists.now) 0 c.loop-tap.yielded in
    let all : length (c.loop-tap.yielded ++ c.loop-tap.tap-iterator) ≡ length c.args.batch.now =
    ap length c.loop-tap.invariant.all in
    let next : length c.loop-tap.tap-iterator ≡ suc (length c.next.new.self) =
    ap length c.in-Some.ensures.steps in
    rw (
      get_or_default c.loop-tap.lists shard c.index-lists-shard.result [] within,
      c.loop-tap.invariant.runs shard c.shard_of-shard.ensures.below,
    )
    (omega (
      arith,
      few,
      next,
      c.len-count.ensures.number,
      c.len-count.ensures.most,
      simp length-append at all,
    ))

pub loop-tap-preserved : goal.loop-tap-preserved
loop-tap-preserved c =
    let shard = c.shard_of-shard.result in
    let was = c.loop-tap.invariant in
    let within : shard < length c.loop-tap.lists =
    omega (arith, c.shard_of-shard.ensures.below, was.number) in
    record {
      may = tt;
      ends = tt;
      all = append_assoc c.loop-tap.yielded _ _
          ∙ ap (λ left. c.loop-tap.yielded ++ left) (sym c.in-Some.ensures.steps) ∙ was.all;
      position = rw length-append (omega (arith, was.position));
      number = rw length-set was.number;
      runs = hold_more _ c.loop-tap.lists c.loop-tap.yielded c.in-Some.tap shard c.push.new.self
          was.number
          (c.shard_of-shard.ensures.value
          ∙ ap (λ token. shard_of_token token (length c.args.lists.now)) c.token.ensures.bytes)
          c.shard_of-shard.ensures.below
          (c.push.ensures ∙ ap (λ list. list ++ c.loop-tap.position ∷ [])
          (get_or_default c.loop-tap.lists shard _ [] within)
          ∙ ap (λ n. get_or c.loop-tap.lists shard [] ++ n ∷ []) was.position)
          was.runs;
    }
