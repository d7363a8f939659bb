-- What an explainer represents.
use Rattle.account_rule.specs.declared.reply.Answer.TheVariants.{Unknown}
use Rattle.fare_caps.specs.{CapMeanings.capped_rules_of, CappedReplies.capped_reply}
use Rattle.fare_caps.specs.Represents.{Represents}
use Rattle.fare_texts.specs.declared.explainer.Explainer.{Explainer}
use Rattle.hex.specs.Hex.{encode_lower}
use Rattle.histories.specs.{Entry.tap_of, declared.entry.Entry.Entry}
use Rattle.std.specs.Prelude.{◌≡◌, ℕ, List, length, map}
use Rattle.tap_views.specs.{Token.bytes_of, declared.token.Token.Token}
use Rattle.tariffs.specs.Fares.{Fares}

-- the entry of a token's tap at a validator and a moment, which follows the token's earlier
-- entries: it has the account rule's reply
abbrev pub next_entry : Fares → Token → List Entry → ℕ → ℕ → Entry
next_entry fares token earlier validator moment =
    let tap : Entry = record {
      token = token;
      validator = validator;
      moment = moment;
      answer = Unknown;
      cents = 0;
    } in
    let replied = capped_reply (capped_rules_of fares (bytes_of token))
    (map (tap_of fares) earlier) (tap_of fares tap) in
    record {
      token = token;
      validator = validator;
      moment = moment;
      answer = replied.answer;
      cents = replied.cents;
    }

-- the explainer has taken these entries: its account represents their taps, and its number counts
-- them; and it has its token's digits
pub record HasExplained (fares : Fares) (explainer : Explainer)
    (entries : List Entry) : Type 0 where
  pub holds : Represents (capped_rules_of fares (bytes_of explainer.token)) explainer.account
      (map (tap_of fares) entries)
  pub counted : explainer.number ≡ length entries
  pub digits : explainer.digits ≡ encode_lower (bytes_of explainer.token)
