-- Settled histories of uploads with the same set of taps bill alike.
use Rattle.std.proofs.Common.{◌≡◌, ℕ, ◌+◌, Bool, true, false, cond, List, [], ◌∷◌, ◌++◌, map}
use Rattle.std.proofs.Common.{Option, Some, None, filter, refl, sym, ap, subst, ◌∙◌, arith, All}
use Rattle.std.proofs.Common.{is_some}
use Rattle.account_rule.specs.Replies.{live_reply, reply, reply_with, ride_reply}
use Rattle.account_rule.specs.{Taps.is_later, TokenRules.TokenRules, TokenRules.rules_of}
use Rattle.account_rule.specs.Trips.{ends_in_transfer}
use Rattle.account_rule.specs.declared.reply.Answer.{Answer, TheVariants.Paid}
use Rattle.account_rule.specs.declared.reply.Answer.TheVariants.{Transfer, Capped, Stale, Unknown}
use Rattle.account_rule.specs.declared.{reply.Reply.Reply, tap.TapIn.TapIn}
use Rattle.fare_caps.proofs.AnswerLemmas.{is_charged, is_raised, is_same}
use Rattle.fare_caps.specs.{CapMeanings.capped_rules_of, CappedReplies.capped_reply}
use Rattle.fare_caps.specs.Caps.{CappedRules}
use Rattle.histories.specs.Entry.{is_at, is_of, own, reply_of, tap_of, taps_of}
use Rattle.histories.specs.Plain.{answered}
use Rattle.histories.specs.Sums.{is_capped, is_paid, is_transfer, sums, sums_of_replies}
use Rattle.histories.specs.{SumsByKey.entries_of_validator, declared.entry.Entry.Entry}
use Rattle.laws.proofs.{Posts.SameBill, Posts.after, Posts.plain_is_after, Sets.same_bill}
use Rattle.laws.proofs.States.{ride_is_live, same_windows, transfer_is_live}
use Rattle.laws.specs.Bills.{BillAlike, ChargeAlike, is_live, is_live_answer, live_entries}
use Rattle.laws.specs.TapSets.{AreSentAgain, HaveSameSetOfTaps, fields_of_uploads}
use Rattle.settlement.proofs.Histories.{entry_of}
use Rattle.settlement.specs.Settled.{IsSettledHistory}
use Rattle.std.proofs.lemmas.{Bool.true≢false, List.map-append, List.Concat.flat_map-append}
use Rattle.std.proofs.lemmas.List.Elements.{All-nil, All-cons, All-head, All-tail, All-filter}
use Rattle.std.proofs.lemmas.List.Elements.{All-append, All-contains, All-contains_itself}
use Rattle.std.proofs.lemmas.List.Elements.{All-weaker, Contains-append_left}
use Rattle.std.proofs.lemmas.List.Sorted.{Contains-permutation, IsPermutation-sym}
use Rattle.std.proofs.lemmas.List.Sums.{sum_by-cons}
use Rattle.std.specs.Prelude.{Contains, sum_by}
use Rattle.tap_parts.specs.Parts.{taps_of_uploads}
use Rattle.tap_views.proofs.{Lists.filter-filter, Lists.AllZip-append, ParseLemmas.one_list}
use Rattle.tap_views.specs.{Encoding.fields_of, Files.AreValidTaps, Files.HasUniqueParse}
use Rattle.tap_views.specs.{Layout.Tap, Token.bytes_of, declared.encoder.TapFields.TapFields}
use Rattle.tariffs.specs.Fares.{Fares}
use Rattle.fare_caps.proofs.AnswerLemmas as capped

-- ---- what is no ride and no transfer costs nothing
abbrev Free : Entry → Type 0
Free entry = is_live entry ≡ false → entry.cents ≡ 0

-- the reply that these tests choose, to a ride for which this is paid
abbrev chosen : Bool → Bool → Bool → Option ℕ → Reply
chosen known later transfer paid =
    cond known (cond later (cond transfer (reply_with Transfer 0) (ride_reply paid))
    (reply_with Stale 0)) (reply_with Unknown 0)

free_chosen : (known later transfer : Bool) (paid : Option ℕ)
    → is_live_answer (chosen known later transfer paid).answer ≡ false
    → (chosen known later transfer paid).cents ≡ 0
unfolding reply_with ride_reply
free_chosen false later transfer paid e = refl
free_chosen true false transfer paid e = refl
free_chosen true true true paid e = refl
free_chosen true true false None e = refl
free_chosen true true false (Some cents) e = absurd (let h : true ≡ false = e in cc)

plain_free : (rules : TokenRules) (earlier : List TapIn) (tap : TapIn)
    → is_live_answer (reply rules earlier tap).answer ≡ false → (reply rules earlier tap).cents ≡ 0
unfolding reply live_reply
plain_free rules earlier tap e =
    free_chosen (is_some tap.mode) (is_later earlier tap.moment)
    (ends_in_transfer rules (earlier ++ tap ∷ [])) _ e

free_reply : (rules : CappedRules) (earlier : List TapIn) (tap : TapIn)
    → is_live_answer (capped_reply rules earlier tap).answer ≡ false
    → (capped_reply rules earlier tap).cents ≡ 0
free_reply rules earlier tap e = elim (capped.answered rules earlier tap) [
  | is_same same ↦ ap (λ (r : Reply). r.cents) same
      ∙ plain_free rules.rules earlier tap
      (sym (ap (λ (r : Reply). is_live_answer r.answer) same) ∙ e)
  | is_charged paid other one two ↦
      absurd (true≢false (sym (ride_is_live paid)
      ∙ sym (ap (λ (r : Reply). is_live_answer r.answer) one) ∙ e))
  | is_raised cents one two ↦
      absurd (true≢false (sym (transfer_is_live cents)
      ∙ sym (ap (λ (r : Reply). is_live_answer r.answer) one) ∙ e))
]

free_after : (fares : Fares) (earlier : List Entry) (fs : List TapFields)
    → All Free (after fares earlier fs)
unfolding after answered
free_after fares earlier [] = All-nil Free
free_after fares earlier (f ∷ fs) =
    let entry = answered fares earlier (entry_of f) in
    All-cons Free entry (after fares (earlier ++ entry ∷ []) fs)
    (free_reply (capped_rules_of fares (bytes_of (entry_of f).token))
    (taps_of fares (entry_of f).token earlier) (tap_of fares (entry_of f)))
    (free_after fares (earlier ++ entry ∷ []) fs)

-- ---- sums over rides and transfers
sum_live : (f : Reply → ℕ) (es : List Entry)
    → All (λ e. is_live e ≡ false → f (reply_of e) ≡ 0) es
    → sum_by f (map reply_of es) ≡ sum_by f (map reply_of (live_entries es))
unfolding live_entries
sum_live f [] all = refl
sum_live f (e ∷ es) all =
    let Dead : Entry → Type 0 = λ e. is_live e ≡ false → f (reply_of e) ≡ 0 in
    by_test (is_live e) refl (All-head Dead e es all) (sum_live f es (All-tail Dead e es all))
  where
    by_test : (b : Bool) → is_live e ≡ b → (is_live e ≡ false → f (reply_of e) ≡ 0)
        → sum_by f (map reply_of es) ≡ sum_by f (map reply_of (filter is_live es))
        → sum_by f (map reply_of (e ∷ es))
        ≡ sum_by f (map reply_of (cond b (e ∷ filter is_live es) (filter is_live es)))
    by_test true is dead rest =
        sum_by-cons f (reply_of e) (map reply_of es)
        ∙ ap (λ n. f (reply_of e) + n) rest
        ∙ sym (sum_by-cons f (reply_of e) (map reply_of (filter is_live es)))
    by_test false is dead rest =
        let first = sum_by-cons f (reply_of e) (map reply_of es) in
        let none = dead is in
        omega (arith, first, none, rest)

-- a test of answers that none passes but rides and transfers
none_dead : (p : Answer → Bool) → ((a : Answer) → is_live_answer a ≡ false → p a ≡ false)
    → (es : List Entry)
    → All (λ e. is_live e ≡ false → cond {A = ℕ} (p (reply_of e).answer) 1 0 ≡ 0) es
none_dead p dead [] =
    All-nil (λ (e : Entry). is_live e ≡ false → cond {A = ℕ} (p (reply_of e).answer) 1 0 ≡ 0)
none_dead p dead (e ∷ es) =
    All-cons (λ (e : Entry). is_live e ≡ false → cond {A = ℕ} (p (reply_of e).answer) 1 0 ≡ 0) e es
    (λ is. ap (λ b. cond b 1 0) (dead e.answer is)) (none_dead p dead es)

dead_paid : (a : Answer) → is_live_answer a ≡ false → is_paid a ≡ false
dead_paid Paid e = e
dead_paid Transfer e = refl
dead_paid Capped e = refl
dead_paid Stale e = refl
dead_paid Unknown e = refl

dead_transfer : (a : Answer) → is_live_answer a ≡ false → is_transfer a ≡ false
dead_transfer Paid e = refl
dead_transfer Transfer e = e
dead_transfer Capped e = refl
dead_transfer Stale e = refl
dead_transfer Unknown e = refl

dead_capped : (a : Answer) → is_live_answer a ≡ false → is_capped a ≡ false
dead_capped Paid e = refl
dead_capped Transfer e = refl
dead_capped Capped e = e
dead_capped Stale e = refl
dead_capped Unknown e = refl

same_charges : (one other : List Entry) → All Free one → All Free other
    → live_entries one ≡ live_entries other → ChargeAlike (sums one) (sums other)
unfolding sums_of_replies
same_charges one other free free_too lines = record {
  paid = by_sum (λ r. cond (is_paid r.answer) 1 0) (none_dead is_paid dead_paid one)
      (none_dead is_paid dead_paid other);
  transfers = by_sum (λ r. cond (is_transfer r.answer) 1 0)
      (none_dead is_transfer dead_transfer one) (none_dead is_transfer dead_transfer other);
  capped = by_sum (λ r. cond (is_capped r.answer) 1 0) (none_dead is_capped dead_capped one)
      (none_dead is_capped dead_capped other);
  cents = by_sum (λ r. r.cents) free free_too;
}
  where
    by_sum : (f : Reply → ℕ) → All (λ e. is_live e ≡ false → f (reply_of e) ≡ 0) one
        → All (λ e. is_live e ≡ false → f (reply_of e) ≡ 0) other
        → sum_by f (map reply_of one) ≡ sum_by f (map reply_of other)
    by_sum f dead dead_too =
        sum_live f one dead ∙ ap (λ es. sum_by f (map reply_of es)) lines
        ∙ sym (sum_live f other dead_too)

-- ---- parts of histories
pub live_filter : (q : Entry → Bool) (es : List Entry)
    → live_entries (filter q es) ≡ filter q (live_entries es)
unfolding live_entries
live_filter q es = filter-filter is_live q es

of_part : (q : Entry → Bool) (one other : List Entry) → All Free one → All Free other
    → live_entries one ≡ live_entries other
    → ChargeAlike (sums (filter q one)) (sums (filter q other))
of_part q one other free free_too lines =
    same_charges (filter q one) (filter q other) (All-filter q Free one free)
    (All-filter q Free other free_too)
    (live_filter q one ∙ ap (filter q) lines ∙ sym (live_filter q other))

bill_alike : (fares : Fares) (xs ys : List TapFields) → SameBill fares [] xs ys
    → BillAlike fares (after fares [] xs) (after fares [] ys)
unfolding own entries_of_validator
bill_alike fares xs ys same =
    let one = after fares [] xs in
    let other = after fares [] ys in
    let free = free_after fares [] xs in
    let free_too = free_after fares [] ys in
    record {
      lines = same.lines;
      totals = same_charges one other free free_too same.lines;
      tokens = λ token. of_part (is_of token) one other free free_too same.lines;
      validators = λ validator. of_part (is_at validator) one other free free_too same.lines;
      windows = λ token. same_windows (rules_of fares (bytes_of token)) (taps_of fares token one)
          (taps_of fares token other) (same.states token);
    }

-- ---- the law
among : (xs ys one other : List TapFields) → (z : TapFields) → All (Contains ys) xs
    → (Contains one z → Contains xs z) → (Contains ys z → Contains other z) → Contains one z
    → Contains other z
among xs ys one other z all from to c = to (All-contains (Contains ys) xs z all (from c))

pub set_is_billed : (fares : Fares) (uploads others : List (List ℕ)) (history again : List Entry)
    → All HasUniqueParse uploads → All HasUniqueParse others → HaveSameSetOfTaps uploads others
    → IsSettledHistory fares uploads history → IsSettledHistory fares others again
    → BillAlike fares history again
set_is_billed fares uploads others history again cuts other_cuts same one other =
    let here = one_list uploads same.taps one.taps cuts same.of_uploads one.of_uploads in
    let there = one_list others same.other_taps other.taps other_cuts same.of_others
    other.of_uploads in
    let mine = fields_of_uploads one.taps in
    let yours = fields_of_uploads other.taps in
    let xs = map fields_of one.order in
    let ys = map fields_of other.order in
    let A : List (List Tap) → Type 0 =
    λ ts. All (Contains (fields_of_uploads same.other_taps)) (fields_of_uploads ts) in
    let B : List (List Tap) → Type 0 = λ ts. All (Contains (fields_of_uploads ts)) mine in
    let C : List (List Tap) → Type 0 =
    λ ts. All (Contains (fields_of_uploads ts)) (fields_of_uploads same.other_taps) in
    let D : List (List Tap) → Type 0 = λ ts. All (Contains mine) (fields_of_uploads ts) in
    let sent : All (Contains yours) mine = subst B there (subst A here same.there) in
    let back : All (Contains mine) yours = subst D there (subst C here same.back) in
    let bill = same_bill fares xs ys one.canonical.sorted other.canonical.sorted
    (λ z. among mine yours xs ys z sent
    (Contains-permutation xs mine z (IsPermutation-sym mine xs one.canonical.moved))
    (Contains-permutation yours ys z other.canonical.moved))
    (λ z. among yours mine ys xs z back
    (Contains-permutation ys yours z (IsPermutation-sym yours ys other.canonical.moved))
    (Contains-permutation mine xs z one.canonical.moved)) in
    let P : List Entry → Type 0 = λ es. BillAlike fares es again in
    let Q : List Entry → Type 0 = λ es. BillAlike fares (after fares [] xs) es in
    subst P (sym (one.entries ∙ plain_is_after fares [] one.order))
    (subst Q (sym (other.entries ∙ plain_is_after fares [] other.order))
    (bill_alike fares xs ys bill))

fields_append : (taps more : List (List Tap))
    → fields_of_uploads (taps ++ more) ≡ fields_of_uploads taps ++ fields_of_uploads more
fields_append taps more =
    ap (map fields_of) (flat_map-append (λ (upload : List Tap). upload) taps more)
    ∙ map-append fields_of (taps_of_uploads taps) (taps_of_uploads more)

same_set_again : (uploads more : List (List ℕ)) → AreSentAgain uploads more
    → HaveSameSetOfTaps uploads (uploads ++ more)
same_set_again uploads more sent =
    let mine = fields_of_uploads sent.taps in
    let extra = fields_of_uploads sent.more_taps in
    let A : List TapFields → Type 0 = λ fs. All (Contains fs) mine in
    let B : List TapFields → Type 0 = λ fs. All (Contains mine) fs in
    let both = sym (fields_append sent.taps sent.more_taps) in
    record {
      taps = sent.taps;
      other_taps = sent.taps ++ sent.more_taps;
      of_uploads = sent.of_uploads;
      of_others = AllZip-append AreValidTaps uploads sent.taps more sent.more_taps sent.of_uploads
          sent.of_more;
      there = subst A both (All-weaker (Contains mine) (Contains (mine ++ extra))
          (λ f c. Contains-append_left mine extra f c) mine (All-contains_itself mine));
      back = subst B both
          (All-append (Contains mine) mine extra (All-contains_itself mine) sent.there);
    }

pub repeats_billed : (fares : Fares) (uploads more : List (List ℕ)) (history again : List Entry)
    → All HasUniqueParse uploads → All HasUniqueParse more → AreSentAgain uploads more
    → IsSettledHistory fares uploads history → IsSettledHistory fares (uploads ++ more) again
    → BillAlike fares history again
repeats_billed fares uploads more history again cuts more_cuts sent one other =
    set_is_billed fares uploads (uploads ++ more) history again cuts
    (All-append HasUniqueParse uploads more cuts more_cuts) (same_set_again uploads more sent) one
    other
