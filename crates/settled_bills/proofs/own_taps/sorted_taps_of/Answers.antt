use Rattle.std.proofs.Common.{◌≡◌, ◌∙◌, All, List, Some, map, sym, ap, subst}
use Rattle.settlement.specs.Posted.{token_of_tap}
use Rattle.settled_bills.proofs.OwnTaps.{all_its, own_ends, own_in_order}
use Rattle.settled_bills.proofs.Takings.{Early}
use Rattle.settled_bills.specs.inside.Taken.{AreFollowing}
use Rattle.std.proofs.lemmas.Bool.{not-false}
use Rattle.tap_views.proofs.TokenLemmas.{same_token}
use Rattle.tap_views.specs.{Token.token_eq, UploadEnds.ArePlainEnds}
use Rattle.tap_views.specs.declared.encoder.TapFields.{TapFields}
use Rattle.tap_views.specs.declared.upload_end.UploadEnd.{UploadEnd, TheVariants.Posted}
use Rattle.settled_bills.proofs.own_taps.sorted_taps_of.Goals as goal

pub returns-clause-ended : goal.returns-clause-ended
returns-clause-ended g c = λ all are.
    subst (λ (ends : List UploadEnd). ArePlainEnds all ends)
    (sym (c.in_ok-ends.ensures.ends ∙ ap (map Posted) c.deref-2.ensures.value))
    (own_ends (Some c.args.token) all c.in_ok-own.own.taps.items c.in_ok-own.own.numbers.items
    (c.in_ok-own.ensures.own all are))

pub returns-clause-order : goal.returns-clause-order
returns-clause-order g c = λ all are.
    own_in_order c.args.token all c.in_ok-own.own.taps.items c.in_order-list.result.items
    c.in_ok-own.own.numbers.items (c.in_ok-own.ensures.own all are) c.in_order-list.ensures

pub returns-clause-early : goal.returns-clause-early
returns-clause-early g c =
    subst (λ (taps : List TapFields). All Early taps) c.deref-3.ensures.value c.in-Some.ensures.early

pub returns-clause-its : goal.returns-clause-its
returns-clause-its g c =
    subst (λ (taps : List TapFields). All (λ tap. token_of_tap tap ≡ c.args.token) taps)
    c.deref-3.ensures.value
    (all_its c.args.token c.deref-3.result.now
    (subst (AreFollowing c.args.token c.deref-3.result.now)
    (same_token c.in-Some.last c.args.token
    (not-false (token_eq c.in-Some.last c.args.token) (sym c.ne.ensures ∙ c.if-ne.false)))
    c.in-Some.ensures))
