-- What the lines of a report say. Each line is read by one total function.
use Rattle.hex.specs.{Hex.decode_sized, Hex.encode_lower, declared.error.FromHexError.FromHexError}
use Rattle.histories.specs.Sums.{Sums}
use Rattle.line_forms.specs.Forms.{Reader, after_read, said_by, then_read, value_if, with_rest}
use Rattle.line_forms.specs.Numbers.{number_at}
use Rattle.std.specs.Int.{from_be_bytes, w64}
use Rattle.std.specs.Prelude.{ℕ, ◌+◌, ◌*◌, ◌^◌, ◌&&◌, List, codes, cond, nat_eq, nat_le, nat_lt}
use Rattle.std.specs.Prelude.{Option, Some, None, Result, Ok, Err, option_map, take, drop, length}
use Rattle.std.specs.Str.{bytes_eq}
use Rattle.tap_views.specs.declared.fault.LayoutFault.{LayoutFault}
use Rattle.tap_views.specs.declared.fault.LayoutFault.TheVariants.{Short, Magic, Flags, TooMany}
use Rattle.tap_views.specs.declared.fault.LayoutFault.TheVariants.{Length, Moment}
use Rattle.tap_views.specs.declared.{token.Token.Token, upload_end.UploadEnd.UploadEnd}
use Rattle.tap_views.specs.declared.upload_end.UploadEnd.TheVariants.{Posted, Refused}

-- the number of 64 bits after a word
abbrev pub count_at : List ℕ → Reader ℕ
count_at word = after_read word (number_at (2 ^ 64))

-- the number of a line that is a word, a number and a line feed, as `validators 3`
abbrev pub head_in : List ℕ → List ℕ → Option ℕ
head_in word line = said_by (count_at word) line

-- what is made of a value that was read
abbrev pub chosen : {A B : Type 0} → (A → Option B) → Option (A × List ℕ) → Option (B × List ℕ)
chosen choice None = None
chosen choice (Some parts) = with_rest (choice parts.0) parts.1

-- ---- counts
abbrev pub Counted : Type 0
Counted = ℕ × (ℕ × (ℕ × (ℕ × (ℕ × (ℕ × ℕ)))))

-- `taps 2 paid 1 transfers 1 capped 0 stale 0 unknown 0 cents 300`, of which the first word is given
abbrev pub counted_read : List ℕ → Reader Counted
counted_read word =
    then_read (count_at word) (then_read (count_at (codes " paid "))
    (then_read (count_at (codes " transfers ")) (then_read (count_at (codes " capped "))
    (then_read (count_at (codes " stale ")) (then_read (count_at (codes " unknown "))
    (count_at (codes " cents ")))))))

abbrev pub sums_with : Counted → Sums
sums_with n = record {
  taps = n.0;
  paid = n.1.0;
  transfers = n.1.1.0;
  capped = n.1.1.1.0;
  stale = n.1.1.1.1.0;
  unknown = n.1.1.1.1.1.0;
  cents = n.1.1.1.1.1.1;
}

-- the sums of these counts, if each tap has one answer, and no more cents than 32 bits hold
abbrev pub sums_by : Counted → Option Sums
sums_by n = value_if
    (nat_eq n.0 (n.1.0 + n.1.1.0 + n.1.1.1.0 + n.1.1.1.1.0 + n.1.1.1.1.1.0)
    && nat_le n.1.1.1.1.1.1 (n.0 * 4294967295)) (sums_with n)

-- the sums in such counts
abbrev pub counts_read : List ℕ → Reader Sums
counts_read word text = chosen sums_by (counted_read word text)

-- the sums in `totals taps 6 paid 3 ..`
abbrev pub totals_in : List ℕ → Option Sums
totals_in line = said_by (counts_read (codes "totals taps ")) line

-- ---- validators
abbrev pub validator_if : Option (ℕ × Sums) → Option (ℕ × Sums)
validator_if None = None
validator_if (Some sum) = value_if (nat_lt sum.0 (2 ^ 32)) sum

-- the validator and its sums in `validator 9 taps 1 paid 0 ..`
abbrev pub validator_in : List ℕ → Option (ℕ × Sums)
validator_in line = validator_if
    (said_by (then_read (count_at (codes "validator ")) (counts_read (codes " taps "))) line)

-- ---- tokens
abbrev pub token_with : List ℕ → Token
token_with bytes = record {
  high = from_be_bytes w64 (take 8 bytes);
  low = from_be_bytes w64 (drop 8 bytes);
}

abbrev pub again : List ℕ → Result (List ℕ) FromHexError → Option Token
again digits (Ok bytes) = value_if (bytes_eq (encode_lower bytes) digits) (token_with bytes)
again digits (Err e) = None

-- the token that 32 hexadecimal digits in lower case spell
abbrev pub token_in : List ℕ → Option Token
token_in digits = again digits (decode_sized digits 16)

-- the token whose digits are in front
abbrev pub token_read : Reader Token
token_read text =
    cond (nat_lt (length text) 32) None (with_rest (token_in (take 32 text)) (drop 32 text))

-- the token and its sums in `token 000000000000000000000000000000a1 taps 4 paid 2 ..`
abbrev pub token_line_in : List ℕ → Option (Token × Sums)
token_line_in line = said_by
    (then_read (after_read (codes "token ") token_read) (counts_read (codes " taps "))) line

-- ---- uploads
-- the layout fault whose name has this number; what the fault has beside its name is 0
abbrev pub fault_by : ℕ → Option LayoutFault
fault_by number =
    cond (nat_eq number 1) (Some (Short 0)) (cond (nat_eq number 2) (Some Magic)
    (cond (nat_eq number 3) (Some Flags) (cond (nat_eq number 4) (Some (TooMany 0))
    (cond (nat_eq number 5) (Some (Length 0 0)) (cond (nat_eq number 6) (Some (Moment 0)) None)))))

abbrev pub refused_by : Option (ℕ × (ℕ × ℕ)) → Option UploadEnd
refused_by None = None
refused_by (Some n) = option_map (λ fault. Refused n.0 n.1.0 fault) (fault_by n.1.1)

-- the end in ` refused 2 at 64 L5`, with the line feed
abbrev pub refused_in : List ℕ → Option UploadEnd
refused_in text = refused_by (said_by (then_read (count_at (codes " refused "))
    (then_read (count_at (codes " at ")) (count_at (codes " L")))) text)

abbrev pub end_or : Option ℕ → Option UploadEnd → Option UploadEnd
end_or (Some taps) other = Some (Posted taps)
end_or None other = other

-- the end in ` posted 4`, or in ` refused 2 at 64 L5`, with the line feed
abbrev pub end_in : List ℕ → Option UploadEnd
end_in text = end_or (head_in (codes " posted ") text) (refused_in text)

abbrev pub upload_if : Option (ℕ × List ℕ) → Option (ℕ × UploadEnd)
upload_if None = None
upload_if (Some parts) = option_map (λ end. (parts.0, end)) (end_in parts.1)

-- the upload's number and its end in `upload 0 posted 4`
abbrev pub upload_in : List ℕ → Option (ℕ × UploadEnd)
upload_in line = upload_if (count_at (codes "upload ") line)
