-- The fields of a ledger's line that are not plain numbers.
use Rattle.ledger_fields.specs.{Moments.is_moment, declared.field.Field.Field}
use Rattle.ledger_fields.specs.declared.field.Field.TheVariants.{LaterMoment, Moment, PastMoment}
use Rattle.ledger_fields.specs.declared.field.Field.TheVariants.{Reason, Ride, Token, Word}
use Rattle.line_forms.specs.Numbers.{number_in}
use Rattle.std.specs.List.{list_all}
use Rattle.std.specs.Prelude.{◌==◌, ◌&&◌, ◌||◌, ◌^◌, ℕ, Bool, List, is_some, length, nat_le}

-- a digit of a token: `0` to `9`, or `a` to `f`
abbrev pub is_token_byte : ℕ → Bool
is_token_byte byte = (nat_le 48 byte && nat_le byte 57) || (nat_le 97 byte && nat_le byte 102)

-- a byte of a word: `a` to `z`, a hyphen, or this mark
abbrev pub is_word_byte : ℕ → ℕ → Bool
is_word_byte mark byte = (nat_le 97 byte && nat_le byte 122) || ((byte == 45) || (byte == mark))

-- at most so many bytes of a word
abbrev pub is_word : ℕ → ℕ → List ℕ → Bool
is_word most mark text = nat_le (length text) most && list_all (is_word_byte mark) text

-- the text is one of the field
abbrev pub fits : Field → List ℕ → Bool
fits Token text = (length text == 32) && list_all is_token_byte text
fits Moment text = is_moment 2100 text
fits PastMoment text = (length text == 0) || is_moment 2100 text
fits LaterMoment text = (length text == 0) || is_moment 10000 text
fits Word text = is_word 16 45 text
fits Reason text = is_word 32 58 text
fits Ride text = (length text == 0) || is_some (number_in (2 ^ 32) text)
