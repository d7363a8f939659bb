use Rattle.std.proofs.Common.{◌∙◌, sym, subst, List}
use Rattle.shard_book.proofs.RunLemmas.{posting-none, posting-room, posting-push}
use Rattle.std.specs.List.{AllByRecursion}
use Rattle.tap_views.specs.{Layout.Tap, Shards.IsShardTap}
use Rattle.shard_book.proofs.book.ShardBook.post_taps.Goals as goal

pub loop-tap-init : goal.loop-tap-init
loop-tap-init c =
    let run = c.args.run.now in
    posting-none run c.into_iter-tap-iterator.result c.args.self.now c.args.out.now
    (c.into_iter-tap-iterator.ensures.into_iter_gives ∙ c.taps-tap-items.ensures.taps)
    (subst (λ (taps : List Tap). AllByRecursion (IsShardTap run.shard run.shards) taps)
    (sym c.into_iter-tap-iterator.ensures.into_iter_gives) c.taps-tap-items.ensures.in_shard)
    c.requires.legal

pub push-requires : goal.push-requires
push-requires c = posting-room c.loop-tap.invariant c.in-Some.ensures.steps c.requires.room

pub loop-tap-preserved : goal.loop-tap-preserved
loop-tap-preserved c =
    posting-push c.loop-tap.invariant c.in-Some.ensures.steps
    (rw c.prefetch_every_sixteenth.ensures at c.in-Ok.ensures.ok) c.in-Ok.ensures.legal
    c.push.ensures.items c.push.ensures.spare
