-- A token's explained statement in each form.
use Rattle.fare_texts.specs.{Explained.IsExplained, ExplainedJson.json_of}
use Rattle.fare_texts.specs.declared.form.Form.{Form, TheVariants.Text, TheVariants.Json}
use Rattle.histories.specs.{Entry.own, declared.entry.Entry.Entry}
use Rattle.std.specs.Prelude.{◌≡◌, ℕ, List}
use Rattle.tap_views.specs.declared.token.Token.{Token}
use Rattle.tariffs.specs.Fares.{Fares}

-- the explained statement of a token with these entries, in this form
abbrev pub IsExplainedIn : Form → Fares → Token → List Entry → List ℕ → Type 0
IsExplainedIn Text fares token entries text = IsExplained fares token entries text
IsExplainedIn Json fares token entries text = text ≡ json_of fares token entries

-- the explained statement of a token over a history, in this form
abbrev pub IsExplainedOver : Form → Fares → List Entry → Token → List ℕ → Type 0
IsExplainedOver form fares history token text =
    IsExplainedIn form fares token (own token history) text
