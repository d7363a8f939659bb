-- What a thread makes of a list of taps. Private functions alone cite this.
use Rattle.fare_texts.specs.declared.explainer.Explainer.{Explainer}
use Rattle.settled_bills.specs.{inside.ExplainedTaps.Explains, declared.slot.WorkerSlot.WorkerSlot}
use Rattle.settlement.specs.Nondecreasing.{TapsNondecreasingFrom}
use Rattle.std.specs.List.{between}
use Rattle.std.specs.Prelude.{◌≡◌, ◌≤◌, true, false, List, length, string_bytes}
use Rattle.tap_views.specs.{Encoding.AreEarly, Token.token_eq, TokenOrder.IsUpTo}
use Rattle.tap_views.specs.declared.{encoder.TapFields.TapFields, token.Token.Token}
use Rattle.tariffs.specs.Fares.{Fares}

-- the taps' moments are before 2100, and their tokens never fall
pub record IsSoundList (taps : List TapFields) : Type 0 where
  pub early : AreEarly (λ (tap : TapFields). tap.moment) taps
  pub from : Token
  pub nondecreasing : TapsNondecreasingFrom from taps

-- the slot's text has the lines of the taps, whatever explainer of a lower token than the first
-- tap's goes on by them
pub record IsWhole (fares : Fares) (taps : List TapFields) (slot : WorkerSlot) : Type 0 where
  pub first : (token : Token) → TapsNondecreasingFrom token taps → IsUpTo token slot.first
  pub explains : (old : Explainer) → IsUpTo old.token slot.first
      → token_eq old.token slot.first ≡ false
      → Explains fares old taps slot.explainer (λ lines. string_bytes slot.text ≡ lines)

-- the slot's text has all lines of its taps, which are some of these, if the slot says so
abbrev pub HasSat : Fares → List TapFields → WorkerSlot → Type 0
HasSat fares taps slot = slot.is_whole ≡ true → (slot.begin ≤ slot.end)
    × (slot.end ≤ length taps) × IsWhole fares (between slot.begin slot.end taps) slot
