-- Taps that came after a tap of their token that is as late or later.
use Rattle.histories.specs.{Sums.is_stale, declared.entry.Entry.Entry}
use Rattle.std.specs.List.{list_any}
use Rattle.std.specs.Prelude.{ℕ, ◌+◌, ◌==◌, ◌&&◌, Bool, not, List, [], ◌∷◌, ◌++◌, if◌then◌else◌}
use Rattle.tap_views.specs.Token.{token_eq}

-- whether two entries are of equal taps: of one token, at one moment, at one validator
abbrev pub are_same_moment : Entry → Entry → Bool
are_same_moment entry other =
    token_eq entry.token other.token
    && (entry.moment == other.moment && entry.validator == other.validator)

-- whether the entry is stale, and no equal tap is among these before it
abbrev pub is_late : List Entry → Entry → Bool
is_late before entry =
    is_stale entry.answer && not (list_any (λ earlier. are_same_moment earlier entry) before)

-- how many of the entries that follow these are stale and follow no equal tap
abbrev pub late_after : List Entry → List Entry → ℕ
late_after before [] = 0
late_after before (entry ∷ entries) =
    (if is_late before entry then 1 else 0) + late_after (before ++ entry ∷ []) entries

-- how many entries of the history are stale and follow no equal tap
abbrev pub late_taps : List Entry → ℕ
late_taps entries = late_after [] entries
