-- A list of taps is all taps of one token, in the order in which they were posted.
use Rattle.account_rule.specs.declared.tap.TapIn.{TapIn}
use Rattle.std.specs.{List.list_all, Option.option_to_list}
use Rattle.std.specs.Prelude.{ℕ, Bool, if◌then◌else◌, List, [], ◌∷◌, ◌++◌, Option, None, is_some}
use Rattle.std.specs.Prelude.{option_map, filter, nat_lt}
use Rattle.tariffs.specs.declared.mode.Mode.{Mode}

-- whether the moment is greater than the moments of all known taps of the list
unfoldable pub is_later : List TapIn → ℕ → Bool
is_later earlier moment =
    list_all (λ tap. nat_lt tap.moment moment) (filter (λ tap. is_some tap.mode) earlier)

-- a tap that the rule looks at: its validator is known, and it is later than all known taps before
-- it
pub record LiveTap : Type 0 where
  pub moment : ℕ
  pub mode : Mode

-- the live tap of this moment and mode
unfoldable pub live_at : ℕ → Mode → LiveTap
live_at moment mode = record { moment = moment; mode = mode }

-- the tap, if it is live after the earlier ones
unfoldable pub live_tap : List TapIn → TapIn → Option LiveTap
live_tap earlier tap =
    if is_later earlier tap.moment then option_map (live_at tap.moment) tap.mode else None

-- the live ones of the taps that follow the earlier ones
unfoldable pub live_after : List TapIn → List TapIn → List LiveTap
live_after earlier [] = []
live_after earlier (tap ∷ taps) =
    option_to_list (live_tap earlier tap) ++ live_after (earlier ++ tap ∷ []) taps

-- the live taps
unfoldable pub live : List TapIn → List LiveTap
live taps = live_after [] taps
