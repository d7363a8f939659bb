use Rattle.std.proofs.Common.{◌≡◌, ◌&&◌, ◌==◌, ap, sym, ◌∙◌}
use Rattle.std.proofs.lemmas.Bool.Decides.{Decides-and, Decides-eqb}
use Rattle.std.proofs.lemmas.Slice.Eq.{bytes_eq-Decides, slice_eq-Decides}
use Rattle.std.specs.{Bool.Decides, Str.bytes_eq}
use Rattle.tap_views.specs.declared.encoder.TapFields.{TapFields}
use Rattle.sorted_taps.proofs.reader.TapReader.is_at.Goals as goal

same_tap : (a b : TapFields)
    → Decides (bytes_eq a.token b.token && (a.moment == b.moment && a.validator == b.validator))
    (a ≡ b)
same_tap a b =
    let each = Decides-and (bytes_eq a.token b.token) _ (bytes_eq-Decides a.token b.token)
    (Decides-and (a.moment == b.moment) _ (Decides-eqb a.moment b.moment)
    (Decides-eqb a.validator b.validator)) in (
      λ yes. let (token, (moment, validator)) = each.0 yes in
          λ i. record { token = token i; moment = moment i; validator = validator i },
      λ same. each.1 (ap (λ t. t.token) same, (ap (λ t. t.moment) same, ap (λ t. t.validator) same)),
    )

pub returns-then-self-other : goal.returns-then-self-other
returns-then-self-other c = λ yes. record {
  offset = c.if-self-other.true;
  ahead = sym c.ahead.ensures
      ∙ (slice_eq-Decides same_tap c.ahead.result.now c.ahead-then-self-other.result.now
      c.eq.result c.eq.ensures).0 yes ∙ c.ahead-then-self-other.ensures;
}
