use Rattle.std.proofs.Common.{◌≡◌, ℕ, length, take, min, sym, subst, ◌∙◌, arith}
use Rattle.std.proofs.lemmas.Bool.{false≢true}
use Rattle.shard_book.proofs.HistoryLemmas.{agree-more, ends-apart}
use Rattle.shard_book.proofs.difference.first_difference.Goals as goal

pub returns-then-not-agree : goal.returns-then-not-agree
returns-then-not-agree c = record {
  before = c.loop-i.invariant;
  here = λ same. false≢true (sym c.if-not-agree.true ∙ c.agree.ensures.1 same);
}

pub loop-i-preserved : goal.loop-i-preserved
loop-i-preserved c =
    agree-more c.args.book.now.entries c.args.list.now c.loop-i.i
    (omega (arith, c.len-len.ensures.len, c.min-shorter.ensures))
    (c.agree.ensures.0 c.if-not-agree.false) c.loop-i.invariant

pub returns-else-len-list : goal.returns-else-len-list
returns-else-len-list c =
    let is : c.min-shorter.result ≡ min (length c.args.book.now.entries) (length c.args.list.now) =
    omega (arith, c.len-len.ensures.len, c.min-shorter.ensures) in
    let here : c.loop-i.i ≡ c.min-shorter.result = omega arith in
    record {
      before = subst (λ (i : ℕ). take i c.args.book.now.entries ≡ take i c.args.list.now) here
          c.loop-i.invariant;
      here = ends-apart c.args.book.now.entries c.args.list.now c.min-shorter.result
          (λ (same : length c.args.book.now.entries ≡ length c.args.list.now). omega
          (arith, c.len-len.ensures.len)) is;
    }
