-- What private functions alone say of sums to which entries are added.
use Rattle.histories.specs.declared.entry.Entry.{Entry}
use Rattle.ledger_check.specs.{Ledger.token_number, OpenSums.AreOpenSums}
use Rattle.ledger_check.specs.declared.open_sums.OpenSums.{OpenSums}
use Rattle.std.specs.Prelude.{◌<◌, ◌≤◌, ◌^◌, All, List, length}
use Rattle.tap_views.specs.declared.token.Token.{Token}

-- no entry has a token above this one
abbrev pub AreUpTo : Token → List Entry → Type 0
AreUpTo token entries = All (λ before. token_number before.token ≤ token_number token) entries

-- an entry of the token may be added to those that were
abbrev pub HasRoomFor : Token → OpenSums → Type 0
HasRoomFor token held = (entries : List Entry) × AreOpenSums entries held × AreUpTo token entries
    × (length entries < 2 ^ 62)

-- no more entries were added than a ledger has
abbrev pub AreFew : OpenSums → Type 0
AreFew held = (entries : List Entry) × AreOpenSums entries held × (length entries ≤ 2 ^ 62)
