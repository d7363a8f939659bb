-- Taps whose tokens do not fall.
use Rattle.settlement.specs.Posted.{token_of_tap}
use Rattle.std.specs.Prelude.{List, [], ◌∷◌}
use Rattle.tap_views.specs.TokenOrder.{IsUpTo}
use Rattle.tap_views.specs.declared.{encoder.TapFields.TapFields, token.Token.Token}

-- the taps' tokens never fall, from this one on
abbrev pub TapsNondecreasingFrom : Token → List TapFields → Type 0
TapsNondecreasingFrom token [] = Unit {0}
TapsNondecreasingFrom token (tap ∷ taps) =
    IsUpTo token (token_of_tap tap) × TapsNondecreasingFrom (token_of_tap tap) taps

-- the token of the last tap, or this one if there is none
abbrev pub last_token : Token → List TapFields → Token
last_token token [] = token
last_token token (tap ∷ taps) = last_token (token_of_tap tap) taps
