-- The taps that were taken lie between the places of the spans.
use Rattle.std.proofs.Common.{All, sym, subst, arith, ◌∙◌}
use Rattle.settled_bills.proofs.Parts.{From, UpTo, nondecreasing_between}
use Rattle.tap_views.specs.{TokenOrder.IsUpTo, declared.token.Token.Token}
use Rattle.settled_bills.proofs.part.part_of.Goals as goal

pub charge-requires-clause-none : goal.charge-requires-clause-none
charge-requires-clause-none g c = c.new-so_far.ensures.bill c.args.table.now

pub into_bill-requires : goal.into_bill-requires
into_bill-requires g c =
    let made = c.in_ok-count.ensures.charged in
    let counted = made.counted in
    let few = made.few in
    (c.args.table.now, made.taps, made.bill_is, omega (arith, counted, few))

pub returns : goal.returns
returns g c =
    let made = c.in_ok-count.ensures.charged in
    let taps = made.taps in
    let from = c.new-so_far.result.replay.token in
    let between = nondecreasing_between from taps made.nondecreasing in
    let first = c.new-so_far.ensures.token in
    let last = c.token-last.ensures ∙ made.last in
    record {
      taps = taps;
      in_files = λ files are.
          let have = c.in_ok-spans.ensures files
          c.in_ok-started.started.taker.merge.readers.items taps are
          (c.in_ok-started.ensures.placed files are) (made.taken.taken files are) in
          record {
            lists = have.lists;
            spanned = have.spanned;
            counted = c.in_ok-numbers.ensures ∙ have.counted;
            canonical = have.canonical;
          };
      named = made.taken.named;
      bill_is = c.in-Ok.ensures c.args.table.now taps made.bill_is;
      range = subst (λ (t : Token). IsUpTo t c.token-last.result) first
          (subst (λ (t : Token). IsUpTo from t) (sym last) between.2);
      from = subst (λ (t : Token). All (From t) taps) first between.0;
      up = subst (λ (t : Token). All (UpTo t) taps) (sym last) between.1;
      counted = made.counted;
      few = made.few;
    }
