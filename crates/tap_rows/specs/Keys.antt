-- Keys of tokens: HMAC-SHA-256 (RFC 2104), over SHA-256.
use Rattle.std.specs.Prelude.{◌==◌, ◌-◌, ◌++◌, ℕ, Err, List, Ok, Result, bit_xor}
use Rattle.std.specs.Prelude.{if◌then◌else◌, length, map, nat_lt, replicate, slice_index, take}
use Rattle.sha2.specs.Sha256.{sha256}
use Rattle.tap_rows.specs.declared.agency.key.WrongKey.{WrongKey}
use Rattle.tap_rows.specs.declared.agency.key.WrongKey.TheVariants as wrong

-- a text of 64 bytes at most as a block of 64, with zeros after it
abbrev pub with_zeros : List ℕ → List ℕ
with_zeros text = text ++ replicate (64 - length text) 0

-- the block of a key: its bytes, or its SHA-256 if it has more than a block
abbrev pub block_of : List ℕ → List ℕ
block_of key = with_zeros (if nat_lt 64 (length key) then sha256 key else key)

-- a block with this mask on each of its bytes
abbrev pub masked : ℕ → List ℕ → List ℕ
masked mask block = map (λ byte. bit_xor byte mask) block

-- the code of a text under the key of this block: its HMAC-SHA-256
abbrev pub code_by : List ℕ → List ℕ → List ℕ
code_by block text = sha256 (masked 0x5c block ++ sha256 (masked 0x36 block ++ text))

-- the key in a file: its bytes, without one line feed at the end
abbrev pub key_in : List ℕ → List ℕ
key_in text = if nat_lt 0 (length text) then (if slice_index text (length text - 1) == 10
    then take (length text - 1) text else text) else text

-- the block of the key in a file, or why it is none
abbrev pub key_of : List ℕ → Result (List ℕ) WrongKey
key_of text = if length (key_in text) == 0 then Err wrong.Empty
    else (if nat_lt 65_536 (length (key_in text)) then Err wrong.Long
    else Ok (block_of (key_in text)))
