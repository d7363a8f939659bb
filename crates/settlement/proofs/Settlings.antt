-- Laws of settled histories.
use Rattle.std.proofs.Common.{◌≡◌, ℕ, List, ◌∷◌, ◌++◌, map, refl, sym, ap, subst, ◌∙◌, All, []}
use Rattle.account_rule.specs.declared.reply.Answer.TheVariants.{Stale}
use Rattle.histories.proofs.PlainReplies.{bare, plain_bare, plain_legal}
use Rattle.histories.specs.{Entry.AreEntriesOf, History.IsLegal}
use Rattle.histories.specs.Plain.{IsPlain, plain, plain_after, answered, unanswered}
use Rattle.histories.specs.declared.entry.Entry.{Entry}
use Rattle.settlement.proofs.{Histories.same_after, Own.IsNamedBy}
use Rattle.settlement.proofs.Placed.{all_ascending, no_earlier, Pairs, Ascends}
use Rattle.settlement.proofs.Sorting.{canonical_order, one_canonical}
use Rattle.settlement.proofs.Stale.{before_ascends, fields, has_same_moment, same_fields}
use Rattle.settlement.proofs.ValidTokens.{fields_named}
use Rattle.settlement.specs.{Alike.HaveSameTaps, SameMoments.HasSameMoment}
use Rattle.settlement.specs.{SameMoments.IsInTimeOrder, Settled.IsSettledHistory}
use Rattle.std.proofs.lemmas.List.Elements.{All-head, All-tail, All-contains}
use Rattle.std.proofs.lemmas.List.Sorted.{All-permutation}
use Rattle.std.specs.List.Sorted.{IsPermutation}
use Rattle.tap_parts.specs.Parts.{taps_of_uploads}
use Rattle.tap_views.proofs.ParseLemmas.{one_list}
use Rattle.tap_views.specs.{Encoding.fields_of, Files.AreValidTapsOfEach, Files.HasUniqueParse}
use Rattle.tap_views.specs.{Layout.Tap, Token.bytes_of, declared.encoder.TapFields.TapFields}
use Rattle.tariffs.specs.Fares.{Fares}

pub same_history : (fares : Fares) (uploads others : List (List ℕ)) (history again : List Entry)
    → All HasUniqueParse uploads → All HasUniqueParse others → HaveSameTaps uploads others
    → IsSettledHistory fares uploads history → IsSettledHistory fares others again → history ≡ again
same_history fares uploads others history again cuts other_cuts same one other =
    let here = one_list uploads same.taps one.taps cuts same.of_uploads one.of_uploads in
    let there = one_list others same.other_taps other.taps other_cuts same.of_others
    other.of_uploads in
    let P : List (List Tap) → Type 0 =
    λ ts. IsPermutation (map fields_of (taps_of_uploads ts))
    (map fields_of (taps_of_uploads same.other_taps)) in
    let Q : List (List Tap) → Type 0 =
    λ ts. IsPermutation (map fields_of (taps_of_uploads one.taps))
    (map fields_of (taps_of_uploads ts)) in
    let moved : IsPermutation (map fields_of (taps_of_uploads one.taps))
    (map fields_of (taps_of_uploads other.taps)) = subst Q there (subst P here same.moved) in
    let list = one_canonical (map fields_of (taps_of_uploads one.taps))
    (map fields_of (taps_of_uploads other.taps)) (map fields_of one.order)
    (map fields_of other.order) moved one.canonical other.canonical in
    one.entries ∙ same_after fares [] one.order other.order list ∙ sym other.entries

pub some_history : (fares : Fares) (uploads : List (List ℕ)) (taps : List (List Tap))
    → AreValidTapsOfEach uploads taps
    → (history : List Entry) × IsSettledHistory fares uploads history
some_history fares uploads taps each =
    let (order, canonical) = canonical_order (taps_of_uploads taps) in (
      plain fares order,
      record {
        taps = taps;
        of_uploads = each;
        order = order;
        canonical = canonical;
        entries = refl;
      },
    )

-- a settled history is legal
pub legal_history : (fares : Fares) (uploads : List (List ℕ)) (history : List Entry)
    → IsSettledHistory fares uploads history → IsLegal fares history
legal_history fares uploads history is =
    let L : List Entry → Type 0 = λ es. IsLegal fares es in
    subst L (sym is.entries) (plain_legal fares is.order)

-- the entries of named taps have the fields of the taps
zip_after : (fares : Fares) (earlier : List Entry) (taps : List Tap)
    → All IsNamedBy (map fields_of taps) → AreEntriesOf taps (plain_after fares earlier taps)
unfolding plain_after answered
zip_after fares earlier [] names = tt
zip_after fares earlier (tap ∷ taps) names = (
  record {
    token = All-head IsNamedBy (fields_of tap) (map fields_of taps) names;
    validator = refl;
    moment = refl;
  },
  zip_after fares (earlier ++ answered fares earlier (unanswered tap) ∷ []) taps
      (All-tail IsNamedBy (fields_of tap) (map fields_of taps) names),
)

module _ (fares : Fares) (uploads : List (List ℕ)) (cuts : All HasUniqueParse uploads)
    (later : List Entry) (p : IsPlain fares uploads later)
    (zip : AreEntriesOf (taps_of_uploads p.taps) later) where
  -- the bytes of the taps' tokens name them
  pub named_order : (history : List Entry) (is : IsSettledHistory fares uploads history)
      → All IsNamedBy (map fields_of is.order)
  named_order history is =
      let same = one_list uploads p.taps is.taps cuts p.each is.of_uploads in
      let N : List (List Tap) → Type 0 = λ ts. All IsNamedBy (map fields_of (taps_of_uploads ts)) in
      let names = subst N same
      (fields_named (taps_of_uploads p.taps) later zip (ap (map bare) p.entries
      ∙ plain_bare fares [] (taps_of_uploads p.taps))) in
      All-permutation IsNamedBy (map fields_of (taps_of_uploads is.taps)) (map fields_of is.order)
      is.canonical.moved names

  -- the settled history has the fields of the taps in their order
  in_order : (history : List Entry) (is : IsSettledHistory fares uploads history)
      → AreEntriesOf is.order history
  in_order history is =
      let E : List Entry → Type 0 = λ es. AreEntriesOf is.order es in
      subst E (sym is.entries) (zip_after fares [] is.order (named_order history is))

  pub each_once : (history : List Entry) (taps : List (List Tap))
      → IsSettledHistory fares uploads history → AreValidTapsOfEach uploads taps
      → (order : List Tap) × AreEntriesOf order history
      × IsPermutation (map fields_of (taps_of_uploads taps)) (map fields_of order)
  each_once history taps is each =
      let here = one_list uploads taps is.taps cuts each is.of_uploads in
      let P : List (List Tap) → Type 0 =
      λ ts. IsPermutation (map fields_of (taps_of_uploads ts)) (map fields_of is.order) in
      (is.order, in_order history is, subst P (sym here) is.canonical.moved)

  pub time_order : (history : List Entry) → IsSettledHistory fares uploads history
      → IsInTimeOrder history
  time_order history is = λ before entry after whole other there same.
      let E : List Entry → Type 0 = λ es. AreEntriesOf is.order es in
      let zipped = subst E whole (in_order history is) in
      let R : List TapFields → Type 0 = λ fs. Pairs Ascends fs in
      let all = before_ascends before entry after
      (subst R (same_fields is.order (before ++ entry ∷ after) zipped)
      (all_ascending (map fields_of is.order) is.canonical.sorted)) in
      let tokens = ap bytes_of same in
      no_earlier (fields other) (fields entry)
      (All-contains (λ (e : Entry). Ascends (fields e) (fields entry)) before other all there
      tokens) tokens

  pub stale : (before : List Entry) (entry : Entry) (after : List Entry)
      → IsSettledHistory fares uploads (before ++ entry ∷ after) → entry.answer ≡ Stale
      → HasSameMoment fares before entry
  stale before entry after is answer =
      has_same_moment fares before entry after (time_order (before ++ entry ∷ after) is)
      (legal_history fares uploads (before ++ entry ∷ after) is) answer
