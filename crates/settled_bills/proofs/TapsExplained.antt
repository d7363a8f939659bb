-- The lines of taps, and of more taps behind them.
use Rattle.std.proofs.Common.{◌≡◌, ℕ, List, [], ◌∷◌, ◌++◌, Option, Some, refl, sym, ap, subst, ◌∙◌}
use Rattle.std.proofs.Common.{append-nil, append_assoc, ◌<◌, All, arith, false, length}
use Rattle.std.proofs.Common.{length-append}
use Rattle.fare_texts.proofs.Beginnings.{begins_front}
use Rattle.fare_texts.proofs.PieceWriting.{along_append, consumed_next, consumed_on}
use Rattle.fare_texts.proofs.TextsExist.{along_exist}
use Rattle.fare_texts.specs.Explainers.{HasExplained, next_entry}
use Rattle.fare_texts.specs.{LedgerLines.IsLedgerLineAfter, Lines.AreLinesAlong, Lines.HasConsumed}
use Rattle.fare_texts.specs.{WrittenOut.Begins, declared.explainer.Explainer.Explainer}
use Rattle.histories.specs.{Entry.own, Entry.taps_of, Plain.answered, declared.entry.Entry.Entry}
use Rattle.settled_bills.specs.inside.ExplainedTaps.{AreExplained, Explains, HaveLines, MayExplain}
use Rattle.settlement.proofs.Concats.{posted_append}
use Rattle.settlement.proofs.Nondecreasing.{last_append, nondecreasing_append}
use Rattle.settlement.specs.Nondecreasing.{TapsNondecreasingFrom, last_token}
use Rattle.settlement.specs.Posted.{posted_after, token_of_tap, unposted}
use Rattle.std.specs.Prelude.{slice_get}
use Rattle.tap_views.proofs.{Lists.All-split, TokensUp.up_itself}
use Rattle.tap_views.specs.{Layout.moment_limit, Token.token_eq, TokenOrder.IsUpTo}
use Rattle.tap_views.specs.declared.{encoder.TapFields.TapFields, token.Token.Token}
use Rattle.tariffs.specs.Fares.{Fares}

-- ---- the lines

-- no taps have no lines
pub none_reported : (fares : Fares) (earlier : List Entry) (explainer : Explainer)
    → HasConsumed fares explainer earlier → AreExplained fares earlier [] explainer []
unfolding posted_after
none_reported fares earlier explainer consumed = record {
  are = refl;
  consumed = subst (λ (es : List Entry). HasConsumed fares explainer es) (sym (append-nil earlier))
      consumed;
}

-- the lines of two lists of taps, one after the other
pub reported_append : (fares : Fares) (earlier : List Entry) (xs ys : List TapFields)
    (explainer next : Explainer) (lines more : List ℕ)
    → AreExplained fares earlier xs explainer lines
    → AreExplained fares (earlier ++ posted_after fares earlier xs) ys next more
    → AreExplained fares earlier (xs ++ ys) next (lines ++ more)
reported_append fares earlier xs ys explainer next lines more front back =
    let first = posted_after fares earlier xs in
    let second = posted_after fares (earlier ++ first) ys in
    let joined = posted_append fares earlier xs ys in
    record {
      are = subst (λ (es : List Entry). AreLinesAlong fares earlier es (lines ++ more)) (sym joined)
          (along_append fares earlier first second lines more front.are back.are);
      consumed = subst (λ (es : List Entry). HasConsumed fares next (earlier ++ es)) (sym joined)
          (subst (λ (es : List Entry). HasConsumed fares next es)
          (append_assoc earlier first second)
          back.consumed);
    }

-- ---- taps that can be explained
abbrev Early : TapFields → Type 0
Early tap = tap.moment < moment_limit

-- those in front can be
pub may_front : (fares : Fares) (old : Explainer) (xs ys taps : List TapFields) → xs ++ ys ≡ taps
    → MayExplain fares old taps → MayExplain fares old xs
may_front fares old xs ys taps whole may =
    let long = ap length whole in
    let parts = length-append xs ys in
    let room = may.room in
    record {
      early = (All-split Early xs ys
          (subst (λ (ts : List TapFields). All Early ts) (sym whole) may.early)).0;
      nondecreasing = (nondecreasing_append old.token xs ys
          (subst (TapsNondecreasingFrom old.token) (sym whole) may.nondecreasing)).0;
      earlier = may.earlier;
      consumed = may.consumed;
      room = omega (arith, long, parts, room);
    }

-- and when they were, the others
pub may_rest : (fares : Fares) (old mid : Explainer) (xs ys taps : List TapFields)
    (said : List ℕ → Type 0) → xs ++ ys ≡ taps → MayExplain fares old taps
    → Explains fares old xs mid said → MayExplain fares mid ys
may_rest fares old mid xs ys taps said whole may is =
    let long = ap length whole in
    let parts = length-append xs ys in
    let room = may.room in
    let few = is.few in
    record {
      early = (All-split Early xs ys
          (subst (λ (ts : List TapFields). All Early ts) (sym whole) may.early)).1;
      nondecreasing = subst (λ (t : Token). TapsNondecreasingFrom t ys) (sym is.token)
          (nondecreasing_append old.token xs ys
          (subst (TapsNondecreasingFrom old.token) (sym whole) may.nondecreasing)).1;
      earlier = may.earlier ++ posted_after fares may.earlier xs;
      consumed = (is.lines may.earlier may.consumed).1.consumed;
      room = omega (arith, long, parts, room, few);
    }

-- ---- an explainer that goes on
pub explains_none : (fares : Fares) (explainer : Explainer) (said : List ℕ → Type 0) → said []
    → Explains fares explainer [] explainer said
explains_none fares explainer said none = record {
  lines = λ earlier consumed. ([], none_reported fares earlier explainer consumed, none);
  token = refl;
  few = omega arith;
}

pub explains_then : (fares : Fares) (old mid new : Explainer) (xs ys : List TapFields)
    (first next both : List ℕ → Type 0) → Explains fares old xs mid first
    → Explains fares mid ys new next → ((l m : List ℕ) → first l → next m → both (l ++ m))
    → Explains fares old (xs ++ ys) new both
explains_then fares old mid new xs ys first next both front back join =
    let long = length-append xs ys in
    let few = front.few in
    let more = back.few in
    record {
      lines = λ earlier consumed.
          let one = front.lines earlier consumed in
          let other = back.lines (earlier ++ posted_after fares earlier xs) one.1.consumed in (
            one.0 ++ other.0,
            reported_append fares earlier xs ys mid new one.0 other.0 one.1 other.1,
            join one.0 other.0 one.2 other.2,
          );
      token = back.token ∙ ap (λ (t : Token). last_token t ys) front.token
          ∙ sym (last_append old.token xs ys);
      few = omega (arith, long, few, more);
    }

-- what else can be said of the lines
pub explains_as : (fares : Fares) (old new : Explainer) (taps : List TapFields)
    (first next : List ℕ → Type 0) → Explains fares old taps new first
    → ((l : List ℕ) → first l → next l) → Explains fares old taps new next
explains_as fares old new taps first next is too = record {
  lines = λ earlier consumed.
      let one = is.lines earlier consumed in (one.0, one.1, too one.0 one.2);
  token = is.token;
  few = is.few;
}

-- ---- lines, whatever becomes of them
pub lines_exist : (fares : Fares) (old : Explainer) (taps : List TapFields)
    (said : List ℕ → Type 0) → ((l : List ℕ) → said l) → HaveLines fares old taps said
lines_exist fares old taps said all = λ earlier consumed.
    let some = along_exist fares earlier (posted_after fares earlier taps) in
    (some.0, some.1, all some.0)

pub lines_both : (fares : Fares) (earlier : List Entry) (xs ys taps : List TapFields)
    (lines more : List ℕ) → xs ++ ys ≡ taps
    → AreLinesAlong fares earlier (posted_after fares earlier xs) lines
    → AreLinesAlong fares (earlier ++ posted_after fares earlier xs)
    (posted_after fares (earlier ++ posted_after fares earlier xs) ys) more
    → AreLinesAlong fares earlier (posted_after fares earlier taps) (lines ++ more)
lines_both fares earlier xs ys taps lines more whole front back =
    let first = posted_after fares earlier xs in
    subst (λ (ts : List TapFields). AreLinesAlong fares earlier (posted_after fares earlier ts)
    (lines ++ more)) whole
    (subst (λ (es : List Entry). AreLinesAlong fares earlier es (lines ++ more))
    (sym (posted_append fares earlier xs ys))
    (along_append fares earlier first (posted_after fares (earlier ++ first) ys) lines more front
    back))

-- explained taps, and more
pub lines_then : (fares : Fares) (old mid : Explainer) (xs ys taps : List TapFields)
    (first next both : List ℕ → Type 0) → xs ++ ys ≡ taps → Explains fares old xs mid first
    → HaveLines fares mid ys next → ((l m : List ℕ) → first l → next m → both (l ++ m))
    → HaveLines fares old taps both
lines_then fares old mid xs ys taps first next both whole front back join = λ earlier consumed.
    let one = front.lines earlier consumed in
    let other = back (earlier ++ posted_after fares earlier xs) one.1.consumed in (
      one.0 ++ other.0,
      lines_both fares earlier xs ys taps one.0 other.0 whole one.1.are other.1,
      join one.0 other.0 one.2 other.2,
    )

-- more taps have lines too
pub lines_front : (fares : Fares) (old : Explainer) (xs ys taps : List TapFields)
    (first both : List ℕ → Type 0) → xs ++ ys ≡ taps → HaveLines fares old xs first
    → ((l m : List ℕ) → first l → both (l ++ m)) → HaveLines fares old taps both
lines_front fares old xs ys taps first both whole front join = λ earlier consumed.
    let entries = earlier ++ posted_after fares earlier xs in
    let one = front earlier consumed in
    let other = along_exist fares entries (posted_after fares entries ys) in (
      one.0 ++ other.0,
      lines_both fares earlier xs ys taps one.0 other.0 whole one.1 other.1,
      join one.0 other.0 one.2,
    )

-- the lines of explained taps
pub explained_lines : (fares : Fares) (old new : Explainer) (taps : List TapFields)
    (said : List ℕ → Type 0) → Explains fares old taps new said → HaveLines fares old taps said
explained_lines fares old new taps said is = λ earlier consumed.
    let one = is.lines earlier consumed in (one.0, one.1.are, one.2)

-- a beginning of a text that goes on
pub begins_longer : (a b : Option (List ℕ)) (x y z : List ℕ) → Begins a b (x ++ y)
    → Begins a b (x ++ (y ++ z))
begins_longer a b x y z started =
    subst (λ t. Begins a b t) (append_assoc x y z) (begins_front a b (x ++ y) z started)

-- ---- one tap
-- the next entry of the token is what the tap is answered
next_answered : (fares : Fares) (earlier : List Entry) (tap : TapFields) (token : Token)
    → token ≡ token_of_tap tap
    → next_entry fares token (own token earlier) tap.validator tap.moment
    ≡ answered fares earlier (unposted tap)
unfolding answered taps_of
next_answered fares earlier tap token is =
    ap (λ (t : Token). next_entry fares t (own t earlier) tap.validator tap.moment) is

answered_token : (fares : Fares) (earlier : List Entry) (tap : TapFields)
    → (answered fares earlier (unposted tap)).token ≡ token_of_tap tap
unfolding answered
answered_token fares earlier tap = refl

-- the line of one tap
pub one_reported : (fares : Fares) (earlier : List Entry) (tap : TapFields)
    (explainer next : Explainer)
    (line : List ℕ) → explainer.token ≡ token_of_tap tap → next.token ≡ explainer.token
    → HasConsumed fares explainer earlier
    → IsLedgerLineAfter fares explainer.token (own explainer.token earlier)
    (next_entry fares explainer.token (own explainer.token earlier) tap.validator tap.moment) line
    → HasExplained fares next (own explainer.token earlier
    ++ next_entry fares explainer.token (own explainer.token earlier) tap.validator tap.moment ∷ [])
    → AreExplained fares earlier (tap ∷ []) next line
unfolding posted_after
one_reported fares earlier tap explainer next line its same consumed is explained =
    let entry = answered fares earlier (unposted tap) in
    let of = next_answered fares earlier tap explainer.token its in
    let here : explainer.token ≡ entry.token = its ∙ sym (answered_token fares earlier tap) in
    record {
      are = (
        line,
        [],
        subst (λ (t : Token). IsLedgerLineAfter fares t (own t earlier) entry line) here
            (subst (λ (e : Entry). IsLedgerLineAfter fares explainer.token
            (own explainer.token earlier) e
            line)
            of is),
        refl,
        sym (append-nil line),
      );
      consumed = consumed_next fares explainer next earlier entry here same consumed
          (subst (λ (e : Entry). HasExplained fares next (own explainer.token earlier ++ e ∷ [])) of
          explained);
    }

-- taps that do not fall from a token do not fall from the first one's, which is not below it
pub nondecreasing_first : (token : Token) (taps : List TapFields) (first : TapFields)
    → slice_get taps 0 ≡ Some first → TapsNondecreasingFrom token taps
    → IsUpTo token (token_of_tap first) × TapsNondecreasingFrom (token_of_tap first) taps
nondecreasing_first token [] first is nondecreasing = cc
nondecreasing_first token (tap ∷ taps) first is (up, nondecreasing) =
    let same : tap ≡ first = cc in
    subst (λ (t : TapFields). IsUpTo token (token_of_tap t)
    × TapsNondecreasingFrom (token_of_tap t) (tap ∷ taps))
    same (up, (up_itself (token_of_tap tap), nondecreasing))

-- if there is a tap, the last token does not depend on the one before
pub last_first : (token other : Token) (taps : List TapFields) (first : TapFields)
    → slice_get taps 0 ≡ Some first → last_token token taps ≡ last_token other taps
last_first token other [] first is = cc
last_first token other (tap ∷ taps) first is = refl

-- what a fresh explainer made is as well made by one of a lower token
pub explains_later : (fares : Fares) (old fresh new : Explainer) (taps : List TapFields)
    (first : TapFields) (said : List ℕ → Type 0) → slice_get taps 0 ≡ Some first
    → HasExplained fares fresh [] → fresh.number ≡ 0 → IsUpTo old.token fresh.token
    → token_eq old.token fresh.token ≡ false → Explains fares fresh taps new said
    → Explains fares old taps new said
explains_later fares old fresh new taps first said some none zero up apart is =
    let few = is.few in
    record {
      lines = λ earlier consumed. is.lines earlier
          (consumed_on fares old fresh earlier consumed up apart none);
      token = is.token ∙ last_first fresh.token old.token taps first some;
      few = omega (arith, few, zero);
    }
