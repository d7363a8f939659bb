-- Bills to which taps are added one by one.
use Rattle.std.proofs.Common.{◌≡◌, ◌≢◌, ◌+◌, true, false, List, [], ◌∷◌, ◌++◌, length, map, refl}
use Rattle.std.proofs.Common.{sym, ap, subst, ◌∙◌, arith, All, append-nil, append_assoc, get_or}
use Rattle.std.proofs.Common.{length-append}
use Rattle.histories.proofs.SumsByToken.{by_token_joined, one_token_list, below_same, none_of}
use Rattle.histories.proofs.SumsLemmas.{sums-append, sums-taps}
use Rattle.histories.specs.{Entry.own, Entry.reply_of, Plain.answered}
use Rattle.histories.specs.Sums.{Sums, add_sums, sums, sums_of_replies}
use Rattle.histories.specs.{SumsByKey.sums_by_token, SumsByKey.token_of, TalliesByKey.AreTallied}
use Rattle.histories.specs.{TalliesByKey.Tallies, Tally.sums_of_tally, declared.entry.Entry.Entry}
use Rattle.settlement.proofs.TokenRuns.{posted_length, posted_next, up_apart}
use Rattle.settlement.specs.{Bills.IsBillOf, Modes.AreModesOf, OpenBills.IsOpenBill}
use Rattle.settlement.specs.Posted.{posted}
use Rattle.settlement.specs.{Posted.token_of_tap, Posted.unposted, Replays.HasPosted}
use Rattle.settlement.specs.declared.{bill.Bill.Bill, kept_modes.KeptModes.KeptModes}
use Rattle.settlement.specs.declared.open_bill.OpenBill.{OpenBill}
use Rattle.std.proofs.lemmas.List.{map-append, Elements.All-append}
use Rattle.std.proofs.lemmas.List.Elements.{All-cons, All-head, All-map, All-nil, All-weaker}
use Rattle.std.specs.declared.cmp.Ordering.TheVariants.{Less}
use Rattle.tap_views.proofs.TokenLemmas.{less_apart, token_cmp-total, token_eq-sym}
use Rattle.tap_views.specs.{Token.token_cmp, Token.token_eq, TokenOrder.AreBelow, TokenOrder.IsUpTo}
use Rattle.tap_views.specs.declared.{encoder.TapFields.TapFields, token.Token.Token}
use Rattle.tariffs.specs.Fares.{Fares}

module _ (fares : Fares) (taps : List TapFields) (bill : OpenBill)
    (is : IsOpenBill fares taps bill) where
  -- all entries are below a higher token
  all_below : (next : Token) → IsUpTo bill.replay.token next → bill.replay.token ≢ next
      → AreBelow (map token_of (posted fares taps)) (next ∷ [])
  all_below next up apart =
      let token = bill.replay.token in
      let less : token_cmp token next ≡ Less = up_apart token next up apart in
      let P : Token → Type 0 = λ t. All (λ o. token_cmp t o ≡ Less) (next ∷ []) in
      let one : (t : Token) → token_cmp t next ≡ Less → P t =
      λ t is. All-cons (λ o. token_cmp t o ≡ Less) next [] is
      (All-nil (λ o. token_cmp t o ≡ Less)) in
      subst (λ (ts : List Token). AreBelow ts (next ∷ []))
      (sym (ap (map token_of) is.both ∙ map-append token_of is.lower is.last))
      (All-append P (map token_of is.lower) (map token_of is.last)
      (λ i d inside. let t = get_or (map token_of is.lower) i d in
      one t (token_cmp-total.trans t token next
      (All-head (λ o. token_cmp t o ≡ Less) token [] (is.below i d inside)) less))
      (All-map P token_of is.last
      (λ i d inside. subst P (sym (is.its i d inside)) (one token less))))

  -- as many taps are counted as there are
  pub counted_taps : (sums_of_tally bill.bill.totals).taps + (sums_of_tally bill.tally).taps
      ≡ length taps
  counted_taps =
      let low = ap (λ (s : Sums). s.taps) is.totals ∙ sums-taps is.lower in
      let high = ap (λ (s : Sums). s.taps) is.tally ∙ sums-taps is.last in
      let both = ap length is.both ∙ length-append is.lower is.last in
      let all = posted_length fares [] taps in
      omega (arith, low, high, both, all)

  -- a bill whose last token has no taps
  pub closed_none : bill.has_taps ≡ false → IsBillOf (posted fares taps) bill.bill
  closed_none none =
      let all : is.lower ≡ posted fares taps =
      sym (is.both ∙ ap (λ (es : List Entry). is.lower ++ es) (is.none none)
      ∙ append-nil is.lower) in
      record {
        tokens = is.tokens ∙ ap sums_by_token all;
        counts = record { validators = is.validators; totals = is.totals ∙ ap sums all };
      }

  -- a bill to which the last token's sums were added
  pub closed_some : (new : Bill) → bill.has_taps ≡ true
      → new.tokens ≡ bill.bill.tokens ++ (bill.replay.token, sums_of_tally bill.tally) ∷ []
      → sums_of_tally new.totals
      ≡ add_sums (sums_of_tally bill.bill.totals) (sums_of_tally bill.tally)
      → new.validators ≡ bill.bill.validators → IsBillOf (posted fares taps) new
  closed_some new some tokens totals validators =
      let token = bill.replay.token in
      record {
        tokens = tokens
            ∙ ap (λ (ts : List (Token × Sums)). ts ++ (token, sums_of_tally bill.tally) ∷ [])
            is.tokens
            ∙ ap (λ (s : Sums). sums_by_token is.lower ++ (token, s) ∷ []) is.tally
            ∙ sym (ap sums_by_token is.both ∙ by_token_joined is.lower is.last
            (below_same (map token_of is.lower) token is.last is.below is.its)
            ∙ ap (λ (ts : List (Token × Sums)). sums_by_token is.lower ++ ts)
            (one_token_list token is.last (is.some some) is.its));
        counts = record {
          validators = subst
              (λ (tallies : Tallies). AreTallied (posted fares taps) tallies)
              (sym validators) is.validators;
          totals = totals
              ∙ ap (λ (s : Sums). add_sums s (sums_of_tally bill.tally)) is.totals
              ∙ ap (λ (s : Sums). add_sums (sums is.lower) s) is.tally
              ∙ sym (ap sums is.both ∙ sums-append is.lower is.last);
        };
      }

  -- a bill that goes on to a higher token, of which no tap was added yet
  pub gone_on : (new : OpenBill) → IsBillOf (posted fares taps) new.bill
      → IsUpTo bill.replay.token new.replay.token → bill.replay.token ≢ new.replay.token
      → ((earlier : List Entry) → own new.replay.token earlier ≡ []
      → HasPosted fares new.replay earlier)
      → sums_of_tally new.tally ≡ sums_of_replies [] → new.has_taps ≡ false
      → new.modes ≡ bill.modes → IsOpenBill fares taps new
  gone_on new billed up apart holds tally none kept =
      let next = new.replay.token in
      let entries = posted fares taps in
      let below = all_below next up apart in
      record {
        lower = entries;
        last = [];
        both = sym (append-nil entries);
        below = below;
        its = All-nil (λ (entry : Entry). entry.token ≡ next);
        holds = holds entries (none_of next entries
            (All-weaker (λ t. All (λ o. token_cmp t o ≡ Less) (next ∷ []))
            (λ t. token_eq t next ≡ false) (λ t less.
            token_eq-sym t next
            ∙ less_apart t next (All-head (λ o. token_cmp t o ≡ Less) next [] less))
            (map token_of entries) below));
        tally = tally;
        some = λ some. absurd (let wrong : false ≡ true = sym none ∙ some in cc);
        none = λ _. refl;
        tokens = billed.tokens;
        totals = billed.counts.totals;
        validators = billed.counts.validators;
        modes = subst (λ (m : KeptModes). AreModesOf fares m.list.items) (sym kept) is.modes;
      }

  -- a tap more of the last token
  pub one_more : (new : OpenBill) (tap : TapFields) (entry : Entry)
      → token_of_tap tap ≡ bill.replay.token → new.replay.token ≡ bill.replay.token
      → entry ≡ answered fares (posted fares taps) (unposted tap)
      → HasPosted fares new.replay (posted fares taps ++ entry ∷ [])
      → sums_of_tally new.tally
      ≡ add_sums (sums_of_tally bill.tally) (sums_of_replies (reply_of entry ∷ []))
      → new.has_taps ≡ true → new.bill.tokens ≡ bill.bill.tokens
      → new.bill.totals ≡ bill.bill.totals
      → AreTallied (posted fares taps ++ entry ∷ []) new.bill.validators
      → AreModesOf fares new.modes.list.items → IsOpenBill fares (taps ++ tap ∷ []) new
  unfolding answered
  one_more new tap entry its same answer holds tally some tokens totals validators modes =
      let P : Entry → Type 0 = λ (e : Entry). e.token ≡ new.replay.token in
      let next : posted fares taps ++ entry ∷ [] ≡ posted fares (taps ++ tap ∷ []) =
      sym (posted_next fares taps tap
      ∙ ap (λ (e : Entry). posted fares taps ++ e ∷ []) (sym answer)) in
      let long = length-append is.last (entry ∷ []) in
      record {
        lower = is.lower;
        last = is.last ++ entry ∷ [];
        both = sym next ∙ ap (λ (es : List Entry). es ++ entry ∷ []) is.both
            ∙ append_assoc is.lower is.last (entry ∷ []);
        below = subst (λ (t : Token). AreBelow (map token_of is.lower) (t ∷ [])) (sym same)
            is.below;
        its = All-append P is.last (entry ∷ [])
            (subst (λ (t : Token). All (λ (e : Entry). e.token ≡ t) is.last) (sym same) is.its)
            (All-cons P entry [] (ap (λ (e : Entry). e.token) answer ∙ its ∙ sym same) (All-nil P));
        holds = subst (λ (es : List Entry). HasPosted fares new.replay es) next holds;
        tally = tally
            ∙ ap (λ (s : Sums). add_sums s (sums_of_replies (reply_of entry ∷ []))) is.tally
            ∙ sym (sums-append is.last (entry ∷ []));
        some = λ _. omega (arith, long);
        none = λ none. absurd (let wrong : true ≡ false = sym some ∙ none in cc);
        tokens = tokens ∙ is.tokens;
        totals = ap sums_of_tally totals ∙ is.totals;
        validators = subst (λ (es : List Entry). AreTallied es new.bill.validators) next
            validators;
        modes = modes;
      }
