-- Entries in the tallies of validators.
use Rattle.std.proofs.Common.{◌≡◌, ℕ, ◌==◌, ◌+◌, ◌≤◌, ◌^◌, Bool, true, false, cond, ◌||◌, List, []}
use Rattle.std.proofs.Common.{◌∷◌, ◌++◌, length, map, zero, suc, slice_get, Option, Some, None}
use Rattle.std.proofs.Common.{refl, sym, ap, ◌∙◌, arith}
use Rattle.account_rule.specs.declared.reply.Reply.{Reply}
use Rattle.histories.proofs.ByKeyLemmas.{kept-or, keys-push, sums-push, taps-few}
use Rattle.histories.proofs.SumsLemmas.{add_assoc, add_none, same_seven, sums-append}
use Rattle.histories.specs.{ByKey.with_key, Counts.sums_of_counts, Entry.reply_of, Sums.Sums}
use Rattle.histories.specs.{Sums.add_sums, Sums.sums, Sums.sums_of_replies, SumsByKey.validator_of}
use Rattle.histories.specs.TalliesByKey.{AreByKey, AreTallied, HasRoom, HaveRoom, Tallies}
use Rattle.histories.specs.TalliesByKey.{has_validator, kept_as, kept_sums, sums_at}
use Rattle.histories.specs.{Tally.sums_of_tally, declared.entry.Entry.Entry}
use Rattle.histories.specs.declared.sums.{counts.Counts.Counts, tally.Tally.Tally}
use Rattle.histories.specs.inside.{Added.AreAdded, Keys.same_number}
use Rattle.indexmap.specs.IndexMap.{set_value_at}
use Rattle.std.proofs.{Math.Bool.or-true, lemmas.Cmp.nat_eq_equiv}
use Rattle.std.proofs.lemmas.List.{map-append, Elements.filter-append, Folds.list_any-append}
use Rattle.std.specs.HashMap.{HashMap, Updates, get}
use Rattle.std.specs.{List.list_any, Map.lookup, Option.is_some, Option.unwrap_or}

-- sums that were added in another order
swapped : (a b c d : Sums)
    → add_sums (add_sums (add_sums a c) d) b ≡ add_sums (add_sums a b) (add_sums c d)
swapped a b c d =
    same_seven (omega arith) (omega arith) (omega arith)
    (omega arith) (omega arith) (omega arith) (omega arith)

or-swapped : (a b c d : Bool) → (((a || c) || d) || b) ≡ ((a || b) || (c || d))
or-swapped true b c d = refl
or-swapped false true true d = refl
or-swapped false true false true = refl
or-swapped false true false false = refl
or-swapped false false true d = refl
or-swapped false false false true = refl
or-swapped false false false false = refl

-- ---- one entry more
-- the counts of a pair, if there is one
counts_in : Option (ℕ × Counts) → Counts → Counts
counts_in None other = other
counts_in (Some pair) other = pair.1

-- the counts at a validator's place hold the sums that are kept for it
pub kept-at : (pairs : List (ℕ × Counts)) (position validator there : ℕ) (counts kept : Counts)
    (found : Option Counts) → slice_get pairs position ≡ Some (validator, counts)
    → slice_get pairs position ≡ Some (there, kept) → found ≡ Some counts
    → sums_of_counts kept ≡ kept_as sums_of_counts found
unfolding counts_in
kept-at pairs position validator there counts kept found at same_position is =
    let same : counts ≡ kept =
    ap (λ (o : Option (ℕ × Counts)). counts_in o kept) (sym at ∙ same_position) in
    ap sums_of_counts (sym same) ∙ sym (ap (kept_as sums_of_counts) is)

-- a value that is written as it was changes nothing
pub value-as-was : (pairs : List (ℕ × Counts)) (position validator : ℕ) (kept written : Counts)
    → slice_get pairs position ≡ Some (validator, kept) → written ≡ kept
    → set_value_at pairs position written ≡ pairs
unfolding counts_in
value-as-was [] position validator kept written at same = refl
value-as-was (pair ∷ pairs) zero validator kept written at same =
    ap (λ (c : Counts). (pair.0, c) ∷ pairs)
    (same ∙ sym (ap (λ (o : Option (ℕ × Counts)). counts_in o kept) at))
value-as-was (pair ∷ pairs) (suc position) validator kept written at same =
    ap (λ (ps : List (ℕ × Counts)). pair ∷ ps)
    (value-as-was pairs position validator kept written at same)

pub tallied-push : (before : List Entry) (entry : Entry) (old new : Tallies) (counts : Counts)
    → ((q : ℕ) → lookup (λ k. q == k) new.small
    ≡ cond (entry.validator == q) (Some counts) (lookup (λ k. q == k) old.small))
    → ((q : ℕ) → (entry.validator == q) ≡ false
    → lookup (λ k. q == k) new.wide ≡ lookup (λ k. q == k) old.wide)
    → add_sums (kept_sums (lookup (λ k. entry.validator == k) new.wide)) (sums_of_counts counts)
    ≡ add_sums (sums_at old entry.validator) (sums_of_replies (reply_of entry ∷ []))
    → AreTallied before old → AreTallied (before ++ entry ∷ []) new
tallied-push before entry old new counts small wide added tallied =
    let v = entry.validator in
    let at : lookup (λ k. v == k) new.small ≡ Some counts =
    small v ∙ ap (λ (b : Bool). cond b (Some counts) (lookup (λ k. v == k) old.small))
    (nat_eq_equiv.refl v) in
    let is_added : sums_at new v ≡ add_sums (sums_at old v) (sums_of_replies (reply_of entry ∷ [])) =
    ap (λ (o : Option Counts). add_sums (kept_sums (lookup (λ k. v == k) new.wide))
    (kept_as sums_of_counts o)) at ∙ added in
    let is_there : has_validator new v ≡ true =
    ap (λ (o : Option Counts). is_some (lookup (λ k. v == k) new.wide) || is_some o) at
    ∙ or-true (is_some (lookup (λ k. v == k) new.wide)) in
    let others : (q : ℕ) → (v == q) ≡ false
    → (sums_at new q ≡ sums_at old q) × (has_validator new q ≡ has_validator old q) =
    λ q apart.
    let one = wide q apart in
    let other : lookup (λ k. q == k) new.small ≡ lookup (λ k. q == k) old.small =
    small q ∙ ap (λ (b : Bool). cond b (Some counts) (lookup (λ k. q == k) old.small)) apart in (
      (λ i. add_sums (kept_sums (one i)) (kept_as sums_of_counts (other i))),
      (λ i. is_some (one i) || is_some (other i)),
    ) in
    record {
      sums = sums-push nat_eq_equiv same_number validator_of before entry (sums_at old)
          (sums_at new) (has_validator old) (has_validator new) is_added is_there others
          tallied.sums;
      keys = keys-push nat_eq_equiv same_number validator_of before entry (sums_at old)
          (sums_at new) (has_validator old) (has_validator new) is_added is_there others
          tallied.keys;
    }

-- the small counts that an entry is added to hold the sums that were kept
pub found : {value kept : Option Counts} (fresh counts : Counts) → counts ≡ unwrap_or value fresh
    → value ≡ kept → sums_of_counts fresh ≡ sums_of_replies []
    → sums_of_counts counts ≡ kept_as sums_of_counts kept
found {kept = kept} fresh counts is same none =
    kept-or sums_of_counts kept fresh counts
    (is ∙ ap (λ (o : Option Counts). unwrap_or o fresh) same) none

-- small counts of the entry's validator that were written
pub tallied-small : {S : Type 0} (before : List Entry) (entry : Entry)
    (old next : HashMap ℕ Counts S) (pairs : List (ℕ × Counts)) (wide : List (ℕ × Tally))
    (kept counts : Counts) (answered : Reply)
    → pairs ≡ next.entries → Updates ◌==◌ old next entry.validator (Some counts)
    → sums_of_counts kept ≡ kept_as sums_of_counts (get ◌==◌ old entry.validator)
    → answered ≡ reply_of entry
    → sums_of_counts counts ≡ add_sums (sums_of_counts kept) (sums_of_replies (answered ∷ []))
    → AreTallied before (record { small = old.entries; wide = wide })
    → AreTallied (before ++ entry ∷ []) (record { small = pairs; wide = wide })
tallied-small before entry old next pairs wide kept counts answered same updates is is_reply
    added =
    let reply : Sums = sums_of_replies (reply_of entry ∷ []) in
    let w : Sums = kept_sums (lookup (λ k. entry.validator == k) wide) in
    tallied-push before entry (record { small = old.entries; wide = wide })
    (record { small = pairs; wide = wide }) counts
    (λ q. ap (λ (es : List (ℕ × Counts)). lookup (λ k. q == k) es) same ∙ updates.0 q)
    (λ q apart. refl)
    (ap (add_sums w) (added
    ∙ (λ i. add_sums (is i) (sums_of_replies (is_reply i ∷ []))))
    ∙ sym (add_assoc w (kept_as sums_of_counts (get ◌==◌ old entry.validator)) reply))

-- small counts that were full, which went with the reply to the wide tally
pub tallied-full : {S : Type 0} (before : List Entry) (entry : Entry)
    (old next : HashMap ℕ Counts S) (pairs : List (ℕ × Counts)) (was now : List (ℕ × Tally))
    (kept none : Counts) (full sum : Tally) (answered : Reply)
    → pairs ≡ next.entries → Updates ◌==◌ old next entry.validator (Some none)
    → sums_of_counts none ≡ sums_of_replies []
    → sums_of_counts kept ≡ kept_as sums_of_counts (get ◌==◌ old entry.validator)
    → answered ≡ reply_of entry
    → sums_of_tally full ≡ add_sums (sums_of_counts kept) (sums_of_replies (answered ∷ []))
    → sums_of_tally sum
    ≡ add_sums (kept_sums (lookup (λ k. entry.validator == k) was)) (sums_of_tally full)
    → ((q : ℕ) → lookup (λ k. q == k) now
    ≡ cond (entry.validator == q) (Some sum) (lookup (λ k. q == k) was))
    → AreTallied before (record { small = old.entries; wide = was })
    → AreTallied (before ++ entry ∷ []) (record { small = pairs; wide = now })
tallied-full before entry old next pairs was now kept none full sum answered same updates nothing
    is is_reply taken added wide =
    let v = entry.validator in
    let reply : Sums = sums_of_replies (reply_of entry ∷ []) in
    let w : Sums = kept_sums (lookup (λ k. v == k) was) in
    let at : lookup (λ k. v == k) now ≡ Some sum =
    wide v ∙ ap (λ (b : Bool). cond b (Some sum) (lookup (λ k. v == k) was))
    (nat_eq_equiv.refl v) in
    tallied-push before entry (record { small = old.entries; wide = was })
    (record { small = pairs; wide = now }) none
    (λ q. ap (λ (es : List (ℕ × Counts)). lookup (λ k. q == k) es) same ∙ updates.0 q)
    (λ q apart. wide q
    ∙ ap (λ (b : Bool). cond b (Some sum) (lookup (λ k. q == k) was)) apart)
    ((λ i. add_sums (kept_sums (at i)) (nothing i))
    ∙ add_none (sums_of_tally sum)
    ∙ added
    ∙ ap (add_sums w) (taken ∙ (λ i. add_sums (is i) (sums_of_replies (is_reply i ∷ []))))
    ∙ sym (add_assoc w (kept_as sums_of_counts (get ◌==◌ old v)) reply))

-- ---- room
pub tallied-room : (tallies a : Tallies) (more validator : ℕ) → tallies ≡ a → HasRoom a more
    → (sums_at tallies validator).taps + more ≤ 2 ^ 95
unfolding HasRoom
tallied-room tallies a more validator is_a room =
    let few = taps-few ◌==◌ validator_of validator room.0 (sums_at tallies validator)
    (ap (λ (t : Tallies). sums_at t validator) is_a ∙ room.1.sums validator) in
    let bound : length room.0 + more ≤ 2 ^ 95 = room.2 in
    omega (arith, few, bound)

pub full-room : (small : List (ℕ × Counts)) (wide : List (ℕ × Tally)) (tallies : Tallies)
    (validator : ℕ) (kept : Counts) (full : Tally)
    → record { small = small; wide = wide } ≡ tallies → HasRoom tallies 1
    → sums_of_counts kept ≡ kept_as sums_of_counts (lookup (λ k. validator == k) small)
    → sums_of_tally full ≡ sums_of_counts kept
    → (kept_sums (lookup (λ k. validator == k) wide)).taps + (sums_of_tally full).taps + 1
    ≤ 2 ^ 95
full-room small wide tallies validator kept full view room is taken =
    let all = tallied-room (record { small = small; wide = wide }) tallies 1 validator view room in
    let taps = ap (λ (s : Sums). s.taps) (taken ∙ is) in
    omega (arith, all, taps)

pub one-reply : (reply : Reply) → (sums_of_replies (reply ∷ [])).taps ≡ 1
unfolding sums_of_replies
one-reply reply = refl

pub both-room : (first more a b : Tallies) (validator : ℕ) → first ≡ a → more ≡ b → HaveRoom a b
    → (sums_at first validator).taps + (sums_at more validator).taps ≤ 2 ^ 95
unfolding HaveRoom
both-room first more a b validator is_a is_b room =
    let few = taps-few ◌==◌ validator_of validator room.0 (sums_at first validator)
    (ap (λ (t : Tallies). sums_at t validator) is_a ∙ room.2.sums validator) in
    let few_more = taps-few ◌==◌ validator_of validator room.1 (sums_at more validator)
    (ap (λ (t : Tallies). sums_at t validator) is_b ∙ room.3.sums validator) in
    let bound : length room.0 + length room.1 ≤ 2 ^ 95 = room.4 in
    omega (arith, few, few_more, bound)

-- ---- tallies that were added up
pub tallied-append : (first more : Tallies) (one new : List (ℕ × Tally)) (before after : List Entry)
    → AreAdded ◌==◌ sums_of_tally first.wide more.wide one
    → AreAdded ◌==◌ sums_of_counts one more.small new
    → AreTallied before first → AreTallied after more
    → AreTallied (before ++ after) (record { small = first.small; wide = new })
unfolding with_key
tallied-append first more one new before after wide small front back =
    let S : Tallies → ℕ → Sums = λ t q. kept_as sums_of_counts (lookup (λ k. q == k) t.small) in
    let W : List (ℕ × Tally) → ℕ → Sums = λ t q. kept_sums (lookup (λ k. q == k) t) in
    let hasS : Tallies → ℕ → Bool = λ t q. is_some (lookup (λ k. q == k) t.small) in
    let hasW : List (ℕ × Tally) → ℕ → Bool = λ t q. is_some (lookup (λ k. q == k) t) in
    record {
      sums = λ q.
          ap (λ (s : Sums). add_sums s (S first q))
          (small.sums q ∙ ap (λ (s : Sums). add_sums s (S more q)) (wide.sums q))
          ∙ swapped (W first.wide q) (S first q) (W more.wide q) (S more q)
          ∙ (λ i. add_sums (front.sums q i) (back.sums q i))
          ∙ sym (sums-append (with_key ◌==◌ validator_of q before)
          (with_key ◌==◌ validator_of q after))
          ∙ ap sums (sym (filter-append (λ (e : Entry). validator_of e == q) before after));
      keys = λ q.
          ap (λ (b : Bool). b || hasS first q)
          (small.keys q ∙ ap (λ (b : Bool). b || hasS more q) (wide.keys q))
          ∙ or-swapped (hasW first.wide q) (hasS first q) (hasW more.wide q) (hasS more q)
          ∙ (λ i. front.keys q i || back.keys q i)
          ∙ sym (list_any-append (λ k. q == k) (map validator_of before) (map validator_of after))
          ∙ ap (λ (ks : List ℕ). list_any (λ k. q == k) ks)
          (sym (map-append validator_of before after));
    }

-- all of them in one map
pub tallied-map : (tallies : Tallies) (all : List (ℕ × Tally)) (entries : List Entry)
    → AreAdded ◌==◌ sums_of_counts tallies.wide tallies.small all → AreTallied entries tallies
    → AreByKey ◌==◌ validator_of entries all
tallied-map tallies all entries added tallied = record {
  sums = λ q. added.sums q ∙ tallied.sums q;
  keys = λ q. added.keys q ∙ tallied.keys q;
}

-- no tallies of no entries
pub tallied-none : (small : List (ℕ × Counts)) (wide : List (ℕ × Tally)) → small ≡ []
    → wide ≡ [] → AreTallied [] (record { small = small; wide = wide })
unfolding with_key sums_of_replies
tallied-none small wide no_small no_wide = record {
  sums = λ v i. sums_at (record { small = no_small i; wide = no_wide i }) v;
  keys = λ v i. has_validator (record { small = no_small i; wide = no_wide i }) v;
}
