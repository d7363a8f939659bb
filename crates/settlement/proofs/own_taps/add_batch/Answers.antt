use Rattle.std.proofs.Common.{◌≡◌, List, ◌∷◌, ◌++◌, append-nil, append_assoc, sym, ap, ◌∙◌, []}
use Rattle.std.proofs.Common.{true, false}
use Rattle.settlement.proofs.OnlyTaps.{is_its, only_here, only_more, only_not}
use Rattle.settlement.proofs.TokenRuns.{named_token}
use Rattle.tap_views.specs.{Encoding.fields_of, Token.token_eq}
use Rattle.tap_views.specs.declared.{encoder.TapFields.TapFields, token.Token.Token}
use Rattle.settlement.proofs.own_taps.add_batch.Goals as goal

pub loop-tap-preserved-in-Continue-1 : goal.loop-tap-preserved-in-Continue-1
loop-tap-preserved-in-Continue-1 c =
    let inv = c.loop-tap.invariant in
    let yielded = c.loop-tap.yielded in
    let tap = c.in-Some.tap in
    let token = c.args.token in
    let old = c.args.taps.now.items in
    let now = c.loop-tap.taps.items in
    let same : is_its token (fields_of tap) ≡ true =
    ap (λ (t : Token). token_eq t token)
    (named_token (fields_of tap) c.token.result.now c.of.result (sym c.token.ensures.bytes)
    c.of.ensures.bytes c.of.ensures.fits)
    ∙ sym c.eq.ensures ∙ c.if-eq.true in
    record {
      may = tt;
      ends = tt;
      all = append_assoc yielded (tap ∷ []) c.next.new.self
          ∙ ap (λ ts. yielded ++ ts) (sym c.in-Some.ensures.steps) ∙ inv.all;
      added = only_more token old now c.push.new.self.items yielded (tap ∷ []) inv.added
          (c.in_ok-push.ensures.items
          ∙ ap (λ (f : TapFields). now ++ f ∷ []) c.of-then-eq.ensures
          ∙ ap (λ (ts : List TapFields). now ++ ts)
          (sym (only_here token (fields_of tap) [] same)));
    }

pub loop-tap-preserved : goal.loop-tap-preserved
loop-tap-preserved c =
    let inv = c.loop-tap.invariant in
    let yielded = c.loop-tap.yielded in
    let tap = c.in-Some.tap in
    let token = c.args.token in
    let old = c.args.taps.now.items in
    let now = c.loop-tap.taps.items in
    let not : is_its token (fields_of tap) ≡ false =
    ap (λ (t : Token). token_eq t token)
    (named_token (fields_of tap) c.token.result.now c.of.result (sym c.token.ensures.bytes)
    c.of.ensures.bytes c.of.ensures.fits)
    ∙ sym c.eq.ensures ∙ c.if-eq.false in
    record {
      may = tt;
      ends = tt;
      all = append_assoc yielded (tap ∷ []) c.next.new.self
          ∙ ap (λ ts. yielded ++ ts) (sym c.in-Some.ensures.steps) ∙ inv.all;
      added = only_more token old now now yielded (tap ∷ []) inv.added
          (sym (ap (λ (ts : List TapFields). now ++ ts) (only_not token (fields_of tap) [] not)
          ∙ append-nil now));
    }
