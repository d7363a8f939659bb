-- Sets of taps, by what equal taps share.
use Rattle.histories.specs.{Sums.is_stale, declared.entry.Entry.Entry}
use Rattle.shard_book.specs.declared.late.TapKey.{TapKey}
use Rattle.std.specs.List.{list_any}
use Rattle.std.specs.Prelude.{◌≡◌, ◌==◌, ◌&&◌, Bool, false, not, cond, List}
use Rattle.tap_views.specs.Token.{token_eq}

-- what equal taps share
abbrev pub key_of : Entry → TapKey
key_of entry =
    record { token = entry.token; moment = entry.moment; validator = entry.validator }

-- whether two taps are equal
abbrev pub key_eq : TapKey → TapKey → Bool
key_eq a b = token_eq a.token b.token && (a.moment == b.moment && a.validator == b.validator)

-- whether one of the entries is stale and of this tap
abbrev pub has_stale : List Entry → TapKey → Bool
has_stale entries key = list_any (λ entry. is_stale entry.answer && key_eq (key_of entry) key) entries

-- whether one of the entries is of this tap
abbrev pub has_tap : List Entry → TapKey → Bool
has_tap entries key = list_any (λ entry. key_eq (key_of entry) key) entries

-- the keys are those of stale entries
abbrev pub AreStale : List Entry → List TapKey → Type 0
AreStale entries keys = (key : TapKey) → list_any (key_eq key) keys ≡ has_stale entries key

-- the keys are those of stale entries of the history that are not of a tap among those before
abbrev pub AreLeft : List Entry → List Entry → List TapKey → Type 0
AreLeft history before keys =
    (key : TapKey) → list_any (key_eq key) keys ≡ (has_stale history key && not (has_tap before key))

-- the other keys are left
abbrev pub IsTaken : TapKey → List TapKey → List TapKey → Type 0
IsTaken taken old new =
    (key : TapKey)
    → list_any (key_eq key) new ≡ cond (key_eq taken key) false (list_any (key_eq key) old)
