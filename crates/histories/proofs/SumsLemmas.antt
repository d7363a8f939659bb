-- Sums of two lists are the sums of both, joined.
use Rattle.std.proofs.Common.{◌≡◌, ℕ, ◌+◌, ◌<◌, List, [], ◌∷◌, ◌++◌, length, take, get_or, map}
use Rattle.std.proofs.Common.{cond, sym, ap, ◌∙◌}
use Rattle.account_rule.specs.declared.reply.Reply.{Reply}
use Rattle.histories.specs.{Entry.reply_of, Sums.Sums, Sums.sums, Sums.sums_of_replies}
use Rattle.histories.specs.Sums.{add_sums, is_paid, is_transfer, is_capped, is_stale, is_unknown}
use Rattle.histories.specs.declared.entry.Entry.{Entry}
use Rattle.std.proofs.Math.Nat.{add-zero, add_assoc as plus_assoc, zero-add}
use Rattle.std.proofs.lemmas.List.{length-append, map-append, length-map, take_more}
use Rattle.std.proofs.lemmas.List.Sums.{sum_by-append}

-- sums are their seven numbers
abbrev pub seven : ℕ → ℕ → ℕ → ℕ → ℕ → ℕ → ℕ → Sums
seven a b c d e f g = record {
  taps = a;
  paid = b;
  transfers = c;
  capped = d;
  stale = e;
  unknown = f;
  cents = g;
}

-- sums with the same seven numbers are the same
pub same_seven : {a a' b b' c c' d d' e e' f f' g g' : ℕ} → a ≡ a' → b ≡ b' → c ≡ c' → d ≡ d'
    → e ≡ e' → f ≡ f' → g ≡ g' → seven a b c d e f g ≡ seven a' b' c' d' e' f' g'
same_seven p q r s t u v = cc

-- ---- sums are added in any order, and those of nothing change none
pub add_none : (s : Sums) → add_sums s (sums []) ≡ s
unfolding sums_of_replies
add_none s =
    same_seven (add-zero s.taps) (add-zero s.paid) (add-zero s.transfers) (add-zero s.capped)
    (add-zero s.stale) (add-zero s.unknown) (add-zero s.cents)

-- the sums of nothing, first, change none
pub none_add : (s : Sums) → add_sums (sums []) s ≡ s
unfolding sums_of_replies
none_add s =
    same_seven (zero-add s.taps) (zero-add s.paid) (zero-add s.transfers) (zero-add s.capped)
    (zero-add s.stale) (zero-add s.unknown) (zero-add s.cents)

-- sums are added in any grouping
pub add_assoc : (a b c : Sums) → add_sums (add_sums a b) c ≡ add_sums a (add_sums b c)
add_assoc a b c = λ i. record {
  taps = plus_assoc a.taps b.taps c.taps i;
  paid = plus_assoc a.paid b.paid c.paid i;
  transfers = plus_assoc a.transfers b.transfers c.transfers i;
  capped = plus_assoc a.capped b.capped c.capped i;
  stale = plus_assoc a.stale b.stale c.stale i;
  unknown = plus_assoc a.unknown b.unknown c.unknown i;
  cents = plus_assoc a.cents b.cents c.cents i;
}

-- ---- sums of two lists
pub replies-append : (xs ys : List Reply)
    → sums_of_replies (xs ++ ys) ≡ add_sums (sums_of_replies xs) (sums_of_replies ys)
unfolding sums_of_replies
replies-append xs ys = λ i. record {
  taps = length-append xs ys i;
  paid = sum_by-append (λ (reply : Reply). cond (is_paid reply.answer) 1 0) xs ys i;
  transfers = sum_by-append (λ (reply : Reply). cond (is_transfer reply.answer) 1 0) xs ys i;
  capped = sum_by-append (λ (reply : Reply). cond (is_capped reply.answer) 1 0) xs ys i;
  stale = sum_by-append (λ (reply : Reply). cond (is_stale reply.answer) 1 0) xs ys i;
  unknown = sum_by-append (λ (reply : Reply). cond (is_unknown reply.answer) 1 0) xs ys i;
  cents = sum_by-append (λ (reply : Reply). reply.cents) xs ys i;
}

-- the sums of two lists of entries are added
pub sums-append : (xs ys : List Entry) → sums (xs ++ ys) ≡ add_sums (sums xs) (sums ys)
sums-append xs ys = ap sums_of_replies (map-append reply_of xs ys)
    ∙ replies-append (map reply_of xs) (map reply_of ys)

-- the taps counted are the entries
pub sums-taps : (entries : List Entry) → (sums entries).taps ≡ length entries
unfolding sums_of_replies
sums-taps entries = length-map entries reply_of

-- one entry more in the sums of a front
pub sums-more : (entries : List Entry) (i : ℕ) (blank : Entry) (answered : Reply) (old new : Sums)
    → i < length entries → answered ≡ reply_of (get_or entries i blank)
    → old ≡ sums (take i entries) → new ≡ add_sums old (sums_of_replies (answered ∷ []))
    → new ≡ sums (take (i + 1) entries)
sums-more entries i blank answered old new within is_reply before added =
    added
    ∙ ap (λ (s : Sums). add_sums s (sums_of_replies (answered ∷ []))) before
    ∙ ap (λ (r : Reply). add_sums (sums (take i entries)) (sums_of_replies (r ∷ []))) is_reply
    ∙ sym (sums-append (take i entries) (get_or entries i blank ∷ []))
    ∙ ap sums (sym (take_more entries i blank within))
