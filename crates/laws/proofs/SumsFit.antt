-- The sums of a history have 64 bits, if the fares have bounded terms.
use Rattle.std.proofs.Common.{refl, arith}
use Rattle.account_rule.specs.declared.reply.Answer.{Answer, TheVariants.Paid}
use Rattle.account_rule.specs.declared.reply.Answer.TheVariants.{Transfer, Capped, Stale, Unknown}
use Rattle.account_rule.specs.declared.reply.Reply.{Reply}
use Rattle.histories.specs.Entry.{is_at, is_of, own, reply_of}
use Rattle.histories.specs.{Increasing.increasing, Sums.is_capped, Sums.is_paid}
use Rattle.histories.specs.Sums.{is_stale, is_transfer, is_unknown, sums, Sums, sums_of_replies}
use Rattle.histories.specs.SumsByKey.{entries_of_validator, sums_by_token, sums_by_validator}
use Rattle.histories.specs.SumsByKey.{token_of, tokens, validator_of, validators}
use Rattle.histories.specs.declared.entry.Entry.{Entry}
use Rattle.part_texts.proofs.HistoryParts.{all_ascending, increasing_few}
use Rattle.report_texts.specs.Numbers.{AreCounts, IsTokenSum, IsValidatorSum}
use Rattle.std.proofs.lemmas.List.{length-map}
use Rattle.std.proofs.lemmas.List.Elements.{All-filter, All-map, All-weaker, recursion_from_All}
use Rattle.std.proofs.lemmas.List.Sums.{sum_by-cons}
use Rattle.std.specs.{List.AllByRecursion, Ordering.nat_cmp}
use Rattle.std.specs.Prelude.{◌≡◌, ℕ, ◌+◌, ◌*◌, ◌<◌, ◌≤◌, ◌^◌, Bool, true, false, cond, List, []}
use Rattle.std.specs.Prelude.{◌∷◌, length, map, filter, All, sum_by}
use Rattle.tap_views.specs.{Token.Fits, Token.token_cmp, declared.token.Token.Token}

-- the sums of the history can be those of taps, in 64 bits
pub record CanBeSummed (history : List Entry) : Type 0 where
  pub totals : AreCounts (sums history)
  pub validators_number : length (sums_by_validator history) < 2 ^ 64
  pub validators : All IsValidatorSum (sums_by_validator history)
  pub tokens_number : length (sums_by_token history) < 2 ^ 64
  pub tokens : All IsTokenSum (sums_by_token history)

-- the entry's validator has 32 bits, and its token 16 bytes
abbrev pub EntryFits : Entry → Type 0
EntryFits entry = (entry.validator < 2 ^ 32) × Fits entry.token

-- the entry costs no more than the greatest fare of a table
abbrev pub CostsFew : Entry → Type 0
CostsFew entry = entry.cents ≤ 100_000

abbrev count : (Answer → Bool) → List Reply → ℕ
count test replies = sum_by (λ reply. cond (test reply.answer) 1 0) replies

abbrev cents_of : List Entry → ℕ
cents_of entries = sum_by (λ reply. reply.cents) (map reply_of entries)

-- ---- counts
one_answer : (a : Answer) → cond (is_paid a) 1 0 + cond (is_transfer a) 1 0 + cond (is_capped a) 1 0
    + cond (is_stale a) 1 0 + cond (is_unknown a) 1 0 ≡ 1
one_answer Paid = refl
one_answer Transfer = refl
one_answer Capped = refl
one_answer Stale = refl
one_answer Unknown = refl

answers : (replies : List Reply) → length replies
    ≡ count is_paid replies + count is_transfer replies + count is_capped replies
    + count is_stale replies + count is_unknown replies
answers [] = refl
answers (r ∷ replies) = omega (
  arith,
  answers replies,
  one_answer r.answer,
  sum_by-cons (λ (reply : Reply). cond (is_paid reply.answer) 1 0) r replies,
  sum_by-cons (λ (reply : Reply). cond (is_transfer reply.answer) 1 0) r replies,
  sum_by-cons (λ (reply : Reply). cond (is_capped reply.answer) 1 0) r replies,
  sum_by-cons (λ (reply : Reply). cond (is_stale reply.answer) 1 0) r replies,
  sum_by-cons (λ (reply : Reply). cond (is_unknown reply.answer) 1 0) r replies,
)

most : (entries : List Entry) → AllByRecursion CostsFew entries
    → cents_of entries ≤ length entries * 100_000
most [] few = omega arith
most (entry ∷ entries) few = omega (
  arith,
  few.0,
  most entries few.1,
  sum_by-cons (λ (reply : Reply). reply.cents) (reply_of entry) (map reply_of entries),
)

counts_fit : (entries : List Entry) → length entries < 2 ^ 47 → All CostsFew entries
    → AreCounts (sums entries)
unfolding sums_of_replies
counts_fit entries small few =
    let cheap = most entries (recursion_from_All CostsFew entries few) in
    record {
      taps = omega (arith, small, length-map entries reply_of);
      answers = answers (map reply_of entries);
      cents = omega (arith, small, cheap);
      most = omega (arith, cheap, length-map entries reply_of);
    }

-- ---- some of the entries
fewer : (p : Entry → Bool) (entries : List Entry) → length (filter p entries) ≤ length entries
fewer p [] = omega arith
fewer p (entry ∷ entries) = by_test (p entry) refl (fewer p entries)
  where
    by_test : (b : Bool) → p entry ≡ b → length (filter p entries) ≤ length entries
        → length (filter p (entry ∷ entries)) ≤ length (entry ∷ entries)
    by_test true is short = rw is (omega (arith, short))
    by_test false is short = rw is (omega (arith, short))

some_fit : (p : Entry → Bool) (entries : List Entry) → length entries < 2 ^ 47
    → All CostsFew entries → AreCounts (sums (filter p entries))
some_fit p entries small few =
    counts_fit (filter p entries) (omega (arith, fewer p entries, small))
    (All-filter p CostsFew entries few)

-- ---- how many keys there are
pub summed : (entries : List Entry) → length entries < 2 ^ 47 → All CostsFew entries
    → All EntryFits entries → CanBeSummed entries
unfolding sums_by_validator sums_by_token validators tokens entries_of_validator own
summed entries small few fit =
    let numbers = map validator_of entries in
    let names = map token_of entries in
    let by_number : ℕ → ℕ × Sums = λ v. (v, sums (filter (is_at v) entries)) in
    let by_name : Token → Token × Sums = λ t. (t, sums (filter (is_of t) entries)) in
    let numbers_fit = all_ascending nat_cmp (λ v. v < 2 ^ 32) numbers
    (All-map (λ v. v < 2 ^ 32) validator_of entries
    (All-weaker EntryFits (λ e. e.validator < 2 ^ 32) (λ e fits. fits.0) entries fit)) in
    let names_fit = all_ascending token_cmp Fits names
    (All-map Fits token_of entries
    (All-weaker EntryFits (λ e. Fits e.token) (λ e fits. fits.1) entries fit)) in
    record {
      totals = counts_fit entries small few;
      validators_number = omega (
        arith,
        small,
        length-map (increasing nat_cmp numbers) by_number,
        increasing_few nat_cmp numbers,
        length-map entries validator_of,
      );
      validators = All-map IsValidatorSum by_number (increasing nat_cmp numbers)
          (All-weaker (λ v. v < 2 ^ 32) (λ v. IsValidatorSum (by_number v))
          (λ v fits. record {
            validator = fits;
            counts = some_fit (is_at v) entries small few;
          }) (increasing nat_cmp numbers) numbers_fit);
      tokens_number = omega (
        arith,
        small,
        length-map (increasing token_cmp names) by_name,
        increasing_few token_cmp names,
        length-map entries token_of,
      );
      tokens = All-map IsTokenSum by_name (increasing token_cmp names)
          (All-weaker Fits (λ t. IsTokenSum (by_name t))
          (λ t fits. record {
            token = fits;
            counts = some_fit (is_of t) entries small few;
          }) (increasing token_cmp names) names_fit);
    }
