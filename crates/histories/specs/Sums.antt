-- Sums over replies and over entries.
use Rattle.account_rule.specs.declared.reply.Answer.{Answer, TheVariants.Paid}
use Rattle.account_rule.specs.declared.reply.Answer.TheVariants.{Transfer, Capped, Stale, Unknown}
use Rattle.account_rule.specs.declared.reply.Reply.{Reply}
use Rattle.histories.specs.Entry.{reply_of}
use Rattle.histories.specs.declared.{entry.Entry.Entry, sums.totals.Totals.Totals}
use Rattle.std.specs.Prelude.{ℕ, ◌+◌, ◌==◌, Bool, true, false, not, List, [], ◌∷◌, length, map}
use Rattle.std.specs.Prelude.{count_by, sum_by}

-- whether the answer is that the ride is paid
abbrev pub is_paid : Answer → Bool
is_paid Paid = true
is_paid _ = false

-- whether it is that the tap is a transfer
abbrev pub is_transfer : Answer → Bool
is_transfer Transfer = true
is_transfer _ = false

-- whether it is that the limits make the ride free
abbrev pub is_capped : Answer → Bool
is_capped Capped = true
is_capped _ = false

-- whether it is that the tap is stale
abbrev pub is_stale : Answer → Bool
is_stale Stale = true
is_stale _ = false

-- whether it is that the validator is unknown
abbrev pub is_unknown : Answer → Bool
is_unknown Unknown = true
is_unknown _ = false

-- how many taps, how many of each answer, and the cents
pub record Sums : Type 0 where
  pub taps : ℕ
  pub paid : ℕ
  pub transfers : ℕ
  pub capped : ℕ
  pub stale : ℕ
  pub unknown : ℕ
  pub cents : ℕ

-- what a `Totals` holds
abbrev pub sums_of : Totals → Sums
sums_of totals = record {
  taps = totals.taps;
  paid = totals.paid;
  transfers = totals.transfers;
  capped = totals.capped;
  stale = totals.stale;
  unknown = totals.unknown;
  cents = totals.cents;
}

-- the sums of a list of replies
unfoldable pub sums_of_replies : List Reply → Sums
sums_of_replies replies = record {
  taps = length replies;
  paid = count_by (λ reply. is_paid reply.answer) replies;
  transfers = count_by (λ reply. is_transfer reply.answer) replies;
  capped = count_by (λ reply. is_capped reply.answer) replies;
  stale = count_by (λ reply. is_stale reply.answer) replies;
  unknown = count_by (λ reply. is_unknown reply.answer) replies;
  cents = sum_by (λ reply. reply.cents) replies;
}

-- the sums of a history: those of its replies
abbrev pub sums : List Entry → Sums
sums entries = sums_of_replies (map reply_of entries)

-- two sums, added up
abbrev pub add_sums : Sums → Sums → Sums
add_sums a b = record {
  taps = a.taps + b.taps;
  paid = a.paid + b.paid;
  transfers = a.transfers + b.transfers;
  capped = a.capped + b.capped;
  stale = a.stale + b.stale;
  unknown = a.unknown + b.unknown;
  cents = a.cents + b.cents;
}

-- some sums, added up
abbrev pub add_all : List Sums → Sums
add_all [] = sums []
add_all (s ∷ more) = add_sums s (add_all more)

-- whether there is a tap
abbrev pub has_taps : Sums → Bool
has_taps sums = not (sums.taps == 0)
