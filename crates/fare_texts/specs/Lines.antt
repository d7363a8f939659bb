-- The lines of entries in order of token, as they are written one after another.
use Rattle.fare_texts.specs.{Explainers.HasExplained, LedgerLines.IsLedgerLineAfter}
use Rattle.fare_texts.specs.declared.explainer.Explainer.{Explainer}
use Rattle.histories.specs.{Entry.own, declared.entry.Entry.Entry}
use Rattle.std.specs.Prelude.{◌≡◌, ℕ, List, [], ◌∷◌, ◌++◌}
use Rattle.tap_views.specs.{TokenOrder.IsUpTo, declared.token.Token.Token}
use Rattle.tariffs.specs.Fares.{Fares}

-- no entry's token is above this one
abbrev pub AreUpTo : List Entry → Token → Type 0
AreUpTo [] token = Unit {0}
AreUpTo (entry ∷ entries) token = IsUpTo entry.token token × AreUpTo entries token

-- the entries' tokens never fall, from this one on
abbrev pub NondecreasingFrom : Token → List Entry → Type 0
NondecreasingFrom token [] = Unit {0}
NondecreasingFrom token (entry ∷ entries) = IsUpTo token entry.token × NondecreasingFrom entry.token entries

-- the entries' tokens never fall
abbrev pub Nondecreasing : List Entry → Type 0
Nondecreasing [] = Unit {0}
Nondecreasing (entry ∷ entries) = NondecreasingFrom entry.token entries

-- the line of an entry that is after these: the one that it has among the entries of its token
abbrev pub IsLineAfter : Fares → List Entry → Entry → List ℕ → Type 0
IsLineAfter fares earlier entry line =
    IsLedgerLineAfter fares entry.token (own entry.token earlier) entry line

-- the lines of entries that are after these
abbrev pub AreLinesAlong : Fares → List Entry → List Entry → List ℕ → Type 0
AreLinesAlong fares earlier [] text = text ≡ []
AreLinesAlong fares earlier (entry ∷ entries) text =
    (line : List ℕ) × (rest : List ℕ) × IsLineAfter fares earlier entry line
    × AreLinesAlong fares (earlier ++ entry ∷ []) entries rest × (text ≡ line ++ rest)

-- of these entries, the explainer has taken those of its token; no token of theirs is above it
pub record HasConsumed (fares : Fares) (explainer : Explainer) (earlier : List Entry) : Type 0 where
  pub explained : HasExplained fares explainer (own explainer.token earlier)
  pub up : AreUpTo earlier explainer.token
