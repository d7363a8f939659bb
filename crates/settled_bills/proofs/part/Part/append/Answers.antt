use Rattle.std.proofs.Common.{◌≡◌, ◌∙◌, ◌++◌, ap, arith, get_or, length-append, refl, sym}
use Rattle.settlement.specs.Posted.{HasName, token_of_tap}
use Rattle.settled_bills.proofs.JoinedParts.{begins_of, both_have, ends_of}
use Rattle.settled_bills.proofs.Parts.{From, UpTo, below_bound, billed_both, less_is_up}
use Rattle.settled_bills.specs.{Parts.added, inside.Charged.joined_spans}
use Rattle.std.proofs.lemmas.List.Elements.{All-append}
use Rattle.tap_views.proofs.TokensUp.{up_chain}
use Rattle.tap_views.specs.TokenOrder.{IsUpTo}
use Rattle.settled_bills.proofs.part.Part.append.Goals as goal

pub returns : goal.returns
returns c = λ fares known part next.
    let old = c.args.self.now in
    let more = c.args.more in
    let above = c.if-not-is_below.ensures refl in
    let below = below_bound part.taps next.taps old.last more.first part.up above next.from in
    let made = c.in_ok-joined.ensures in
    let spans = c.deref.ensures.value in
    let others = c.deref-2.ensures.value in
    let meet : ends_of old.spans.items ≡ begins_of more.spans.items =
    ap ends_of (sym spans) ∙ made.meet ∙ ap begins_of others in
    let joined : c.in_ok-joined.joined.spans.items
    ≡ joined_spans old.spans.items more.spans.items =
    made.spans ∙ (λ i. joined_spans (spans i) (others i)) in
    let sums : c.in_ok-joined.joined.numbers.items ≡ added old.numbers.items more.numbers.items =
    made.numbers ∙ (λ i. added (c.deref-3.ensures.value i) (c.deref-4.ensures.value i)) in
    let to_high : IsUpTo old.last more.first = less_is_up old.last more.first above in
    let long = length-append part.taps next.taps in
    let one = part.counted in
    let other = next.counted in
    let (fits, count) = c.in-Some.ensures in
    record {
      taps = part.taps ++ next.taps;
      in_files = λ files are. rw (joined, sums) (both_have files old.spans.items more.spans.items
          old.numbers.items more.numbers.items part.taps next.taps (part.in_files files are)
          (next.in_files files are) meet part.named next.named below);
      named = All-append HasName part.taps next.taps part.named next.named;
      bill_is = billed_both fares part.taps next.taps old.bill more.bill c.append.new.self below
          part.bill_is next.bill_is c.in_ok-append.ensures;
      range = up_chain old.first more.first more.last
          (up_chain old.first old.last more.first part.range to_high) next.range;
      from = All-append (From old.first) part.taps next.taps part.from (λ k d inside.
          up_chain old.first more.first (token_of_tap (get_or next.taps k d))
          (up_chain old.first old.last more.first part.range to_high) (next.from k d inside));
      up = All-append (UpTo more.last) part.taps next.taps (λ k d inside.
          up_chain (token_of_tap (get_or part.taps k d)) old.last more.last (part.up k d inside)
          (up_chain old.last more.first more.last to_high next.range)) next.up;
      counted = omega (arith, long, one, other, count);
      few = omega (arith, fits, count);
    }
