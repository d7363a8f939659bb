use Rattle.std.proofs.Common.{List, ◌++◌, ap, sym, ◌∙◌, arith}
use Rattle.histories.proofs.SumsByToken.{by_token_joined}
use Rattle.histories.proofs.SumsLemmas.{sums-append, sums-taps}
use Rattle.histories.specs.Sums.{Sums, add_sums, sums}
use Rattle.histories.specs.{SumsByKey.sums_by_token, TalliesByKey.HaveRoom, Tally.sums_of_tally}
use Rattle.settlement.specs.Bills.{HaveBillRoom}
use Rattle.tap_views.specs.declared.token.Token.{Token}
use Rattle.settlement.proofs.bill.Bill.append.Goals as goal

pub add_all-requires : goal.add_all-requires
unfolding HaveRoom
add_all-requires c =
    let r : HaveBillRoom c.args.self.now c.args.more = c.requires.room in
    (r.0, r.1, r.2.validators, r.3.validators, r.4)

pub add_all-requires-2 : goal.add_all-requires-2
add_all-requires-2 c =
    let r : HaveBillRoom c.args.self.now c.args.more = c.requires.room in
    let here = ap (λ (s : Sums). s.taps) r.2.totals ∙ sums-taps r.0 in
    let there = ap (λ (s : Sums). s.taps) r.3.totals ∙ sums-taps r.1 in
    let few = r.4 in
    omega (arith, here, there, few)

pub returns : goal.returns
returns c = λ entries others one other below. record {
  tokens = c.in_ok-append.ensures
      ∙ ap (λ (ts : List (Token × Sums)). ts ++ c.args.more.tokens) one.tokens
      ∙ ap (λ (ts : List (Token × Sums)). sums_by_token entries ++ ts) other.tokens
      ∙ sym (by_token_joined entries others below);
  counts = record {
    validators = c.in_ok-add_all.ensures entries others one.counts.validators
        other.counts.validators;
    totals = c.add_all-2.ensures
        ∙ ap (λ (s : Sums). add_sums s (sums_of_tally c.args.more.totals)) one.counts.totals
        ∙ ap (λ (s : Sums). add_sums (sums entries) s) other.counts.totals
        ∙ sym (sums-append entries others);
  };
}
