-- Taps that are posted in their order, by their fields.
use Rattle.account_rule.specs.declared.reply.Answer.TheVariants.{Unknown}
use Rattle.histories.specs.{Plain.answered, Plain.token_of_bytes, declared.entry.Entry.Entry}
use Rattle.std.specs.Prelude.{◌≡◌, List, ◌∷◌, ◌++◌, filter, []}
use Rattle.tap_views.specs.Token.{Fits, bytes_of, token_eq}
use Rattle.tap_views.specs.declared.{encoder.TapFields.TapFields, token.Token.Token}
use Rattle.tariffs.specs.Fares.{Fares}

-- the token of a tap
abbrev pub token_of_tap : TapFields → Token
token_of_tap tap = token_of_bytes tap.token

-- the taps of one token, in their order
abbrev pub only : Token → List TapFields → List TapFields
only token taps = filter (λ tap. token_eq (token_of_tap tap) token) taps

-- the fields of a tap, in an entry that has no reply yet
abbrev pub unposted : TapFields → Entry
unposted tap = record {
  token = token_of_tap tap;
  validator = tap.validator;
  moment = tap.moment;
  answer = Unknown;
  cents = 0;
}

-- the entries of taps that follow earlier ones
unfoldable pub posted_after : Fares → List Entry → List TapFields → List Entry
posted_after fares earlier [] = []
posted_after fares earlier (tap ∷ taps) =
    answered fares earlier (unposted tap)
    ∷ posted_after fares (earlier ++ answered fares earlier (unposted tap) ∷ []) taps

-- the history of taps that are posted one after the other
abbrev pub posted : Fares → List TapFields → List Entry
posted fares taps = posted_after fares [] taps

-- the 16 bytes of the tap's token name it
pub record HasName (tap : TapFields) : Type 0 where
  pub named : bytes_of (token_of_tap tap) ≡ tap.token
  pub fits : Fits (token_of_tap tap)
