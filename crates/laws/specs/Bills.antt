-- What histories charge: their rides and transfers, and the sums of these.
use Rattle.account_rule.specs.{Laws.is_ride, TokenRules.rules_of, Windows.windows}
use Rattle.account_rule.specs.declared.{reply.Answer.Answer, tap.TapIn.TapIn}
use Rattle.fare_caps.specs.{CapMeanings.capped_rules_of, CappedReplies.capped_reason}
use Rattle.histories.specs.Entry.{own, reply_of, taps_of}
use Rattle.histories.specs.Sums.{Sums, is_stale, is_unknown, sums}
use Rattle.histories.specs.{SumsByKey.entries_of_validator, declared.entry.Entry.Entry}
use Rattle.std.specs.Prelude.{◌≡◌, ℕ, ◌≤◌, Bool, not, ◌||◌, List, count_by, filter, map, nat_lt}
use Rattle.tap_views.specs.{Token.bytes_of, declared.token.Token.Token}
use Rattle.tariffs.specs.Fares.{Fares, class_at, class_of, meaning_at, transfer_terms}

-- whether the answer is to a live tap: a ride or a transfer
abbrev pub is_live_answer : Answer → Bool
is_live_answer answer = not (is_stale answer || is_unknown answer)

-- whether the entry is a ride or a transfer
abbrev pub is_live : Entry → Bool
is_live entry = is_live_answer entry.answer

-- the rides and transfers of a history, in its order
unfoldable pub live_entries : List Entry → List Entry
live_entries entries = filter is_live entries

-- as many paid rides, transfers and capped rides, and the same cents
pub record ChargeAlike (one other : Sums) : Type 0 where
  pub paid : one.paid ≡ other.paid
  pub transfers : one.transfers ≡ other.transfers
  pub capped : one.capped ≡ other.capped
  pub cents : one.cents ≡ other.cents

-- The histories have the same rides and transfers, each with what it costs, in the same order. So
-- they charge the same in all, of each token and at each validator, and each token has the same
-- windows.
pub record BillAlike (fares : Fares) (one other : List Entry) : Type 0 where
  pub lines : live_entries one ≡ live_entries other
  pub totals : ChargeAlike (sums one) (sums other)
  pub tokens : (token : Token) → ChargeAlike (sums (own token one)) (sums (own token other))
  pub validators : (validator : ℕ) → ChargeAlike (sums (entries_of_validator validator one))
      (sums (entries_of_validator validator other))
  pub windows : (token : Token)
      → windows (rules_of fares (bytes_of token)) (taps_of fares token one)
      ≡ windows (rules_of fares (bytes_of token)) (taps_of fares token other)

-- the token's rides and transfers before the moment, with what they cost
abbrev pub bill_before : Token → ℕ → List Entry → List Entry
bill_before token moment entries =
    filter (λ entry. nat_lt entry.moment moment) (live_entries (own token entries))

-- both tokens have the same terms, fares and transfers at each moment, as two riders of one class
-- do
abbrev pub HaveSameTerms : Fares → Token → Token → Type 0
HaveSameTerms fares token other =
    (moment : ℕ)
    → class_at (meaning_at fares moment) (class_of (meaning_at fares moment) (bytes_of token))
    ≡ class_at (meaning_at fares moment) (class_of (meaning_at fares moment) (bytes_of other))

-- a ride of the token gives one transfer at most, at each moment
abbrev pub GivesOneAtMost : Fares → Token → Type 0
GivesOneAtMost fares token =
    (moment : ℕ)
    → (transfer_terms (meaning_at fares moment)
    (class_of (meaning_at fares moment) (bytes_of token))).taps
    ≤ 1

-- the entry as one of the token's
abbrev pub entry_for : Token → Entry → Entry
entry_for token entry = record entry { token = token }

-- The one token in its history and the other in the other history have the same lines in the same
-- order, but for the token: each with the same moment, validator, answer and cents. The rule takes
-- the same taps of both, and says the same of them: the reason of each tap after those before it,
-- and the windows.
pub record ChargedAlike (fares : Fares) (token other : Token) (history again : List Entry)
    : Type 0 where
  pub lines : own other again ≡ map (entry_for other) (own token history)
  pub taps : taps_of fares other again ≡ taps_of fares token history
  pub reasons : (earlier : List TapIn) (tap : TapIn)
      → capped_reason (capped_rules_of fares (bytes_of other)) earlier tap
      ≡ capped_reason (capped_rules_of fares (bytes_of token)) earlier tap
  pub windows : windows (rules_of fares (bytes_of other)) (taps_of fares other again)
      ≡ windows (rules_of fares (bytes_of token)) (taps_of fares token history)

-- the entries before the moment, with what they cost: those of stale and unknown taps, too
abbrev pub lines_before : ℕ → List Entry → List Entry
lines_before moment entries = filter (λ entry. nat_lt entry.moment moment) entries

-- how many rides the token has in the history, paid or capped
abbrev pub rides_of : Token → List Entry → ℕ
rides_of token entries = count_by is_ride (map reply_of (own token entries))
