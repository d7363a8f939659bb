use Rattle.std.proofs.Common.{◌≡◌, ◌∙◌, ◌<◌, true, All, Bor, arith, length, ap, slice_set, subst}
use Rattle.std.proofs.lemmas.List.{length-map, length-set, Elements.All-map, Elements.All-push}
use Rattle.std.proofs.lemmas.{List.Elements.All-weaker, Map.Iter.iter_end, Map.Iter.iter_turn}
use Rattle.std.specs.Map.{keys_of, Iter.deref}
use Rattle.tap_views.specs.declared.token.Token.{Token}
use Rattle.tariffs.proofs.TokenFilter.{marked-more, marked-new}
use Rattle.tariffs.specs.RiderFilter.{may_contain, filter_bit}
use Rattle.tariffs.proofs.riders.marks.RiderFilter.new.Goals as goal

pub filter_bit-position-requires : goal.filter_bit-position-requires
filter_bit-position-requires c =
    let entries = c.args.riders.now.entries in
    let turn = iter_turn (deref {X = Token}) (keys_of entries) c.loop-token.yielded _ _ _ _
    (c.into_iter-token-iterator.ensures.into_iter_gives ∙ c.keys-token-items.ensures.rest)
    c.loop-token.yielded_by c.in-Some.token c.in-Some.is c.next.ensures.steps in
    let some = c.loop-token.invariant.some
    (omega (arith, turn.0, length-map entries (λ element. element.0))) in
    omega (arith, some)

pub loop-token-preserved : goal.loop-token-preserved
loop-token-preserved c =
    let marks = c.loop-token.marks.items in
    let position = c.filter_bit-position.result in
    let Old : Bor Token → Type 0 = λ token. may_contain marks token.now ≡ true in
    let New : Bor Token → Type 0 =
    λ token. may_contain (slice_set marks position true) token.now ≡ true in
    let long : c.len-in-loop-token.result ≡ length marks = omega arith in
    let inside : position < length marks = omega arith in
    record {
      marked =
          All-push New c.loop-token.yielded c.in-Some.token
          (All-weaker Old New (λ token was. marked-more marks position token.now inside was)
          c.loop-token.yielded c.loop-token.invariant.marked)
          (marked-new marks position c.in-Some.token.now (c.filter_bit-position.ensures.position
          ∙ ap (filter_bit c.in-Some.token.now) long) inside);
      some = λ any. let some = c.loop-token.invariant.some any in
          omega (arith, some, length-set marks position true);
      few = let few = c.loop-token.invariant.few in
          omega (arith, few, length-set marks position true);
    }

pub returns-clause-few : goal.returns-clause-few
returns-clause-few c = c.loop-token.invariant.few

pub returns-clause-marked : goal.returns-clause-marked
returns-clause-marked c =
    let P : Token → Type 0 = λ token. may_contain c.loop-token.marks.items token ≡ true in
    let whole = iter_end (deref {X = Token}) _ c.loop-token.yielded _ _ _ _
    (c.into_iter-token-iterator.ensures.into_iter_gives ∙ c.keys-token-items.ensures.rest)
    c.loop-token.yielded_by c.in-None.is c.next.ensures.steps in
    subst (All P) whole.0
    (All-map P (deref {X = Token}) c.loop-token.yielded c.loop-token.invariant.marked)
