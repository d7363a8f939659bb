-- What packed entries stand for stays if accounts are only appended.
use Rattle.std.proofs.Common.{◌≡◌, ℕ, zero, suc, ◌+◌, ◌*◌, ◌<◌, ◌/◌, ◌%◌, ◌^◌, List, [], ◌∷◌, ◌++◌}
use Rattle.std.proofs.Common.{Option, Some, refl, sym, ap, subst, ◌∙◌, slice_get, unwrap_or, arith}
use Rattle.account_rule.specs.declared.reply.Answer.{Answer, TheVariants.Paid}
use Rattle.account_rule.specs.declared.reply.Answer.TheVariants.{Transfer, Capped, Stale, Unknown}
use Rattle.account_rule.specs.declared.reply.Reply.{Reply}
use Rattle.histories.specs.{Positions.count_position, declared.entry.Entry.Entry}
use Rattle.shard_book.specs.declared.accounts.KeptAccount.{KeptAccount}
use Rattle.shard_book.specs.declared.packed.PackedEntry.{PackedEntry}
use Rattle.shard_book.specs.inside.Packed.{ArePlaced, HasToken, KeepPositions, answer_at, entry_of}
use Rattle.shard_book.specs.inside.Packed.{entry_with, history_of, no_token, bits_answer}
use Rattle.shard_book.specs.inside.Packed.{bits_cents, bits_moment}
use Rattle.std.proofs.lemmas.List.{map-append}
use Rattle.std.proofs.lemmas.List.Elements.{All-nil, All-head, All-tail, All-push, All-weaker}
use Rattle.std.proofs.lemmas.Nat.{div-mul-add, mod-mul-add}
use Rattle.std.proofs.lemmas.Option.{get_or_from_slice_get, slice_get-map, slice_get_within}
use Rattle.std.specs.{Map.keys_of, Option.option_map}
use Rattle.tap_views.specs.declared.token.Token.{Token}

-- the answer with the number of an answer is that answer
answer-back : (answer : Answer) → answer_at (count_position answer) ≡ answer
answer-back Paid = refl
answer-back Transfer = refl
answer-back Capped = refl
answer-back Stale = refl
answer-back Unknown = refl

-- the number of an answer takes three bits
position-below : (answer : Answer) → count_position answer < 8
position-below Paid = omega arith
position-below Transfer = omega arith
position-below Capped = omega arith
position-below Stale = omega arith
position-below Unknown = omega arith

-- the bits of an entry give their three parts back
pub moment-back : (cents number moment : ℕ) → moment < 2 ^ 42
    → bits_moment ((cents * 8 + number) * 2 ^ 42 + moment) ≡ moment
moment-back cents number moment early = mod-mul-add (cents * 8 + number) (2 ^ 42) moment early

-- what is above the moment
upper-back : (upper moment : ℕ) → moment < 2 ^ 42 → (upper * 2 ^ 42 + moment) / 2 ^ 42 ≡ upper
upper-back upper moment early = div-mul-add upper (2 ^ 42) moment early

pub answer-in_bits : (cents moment : ℕ) (answer : Answer) → moment < 2 ^ 42
    → bits_answer ((cents * 8 + count_position answer) * 2 ^ 42 + moment) ≡ answer
answer-in_bits cents moment answer early =
    ap (λ (upper : ℕ). answer_at (upper % 8))
    (upper-back (cents * 8 + count_position answer) moment early)
    ∙ ap answer_at (mod-mul-add cents 8 (count_position answer) (position-below answer))
    ∙ answer-back answer

pub cents-in_bits : (cents moment : ℕ) (answer : Answer) → moment < 2 ^ 42
    → bits_cents ((cents * 8 + count_position answer) * 2 ^ 42 + moment) ≡ cents
cents-in_bits cents moment answer early =
    ap (λ (upper : ℕ). upper / 8) (upper-back (cents * 8 + count_position answer) moment early)
    ∙ div-mul-add cents 8 (count_position answer) (position-below answer)

abbrev pub record_of : Token → ℕ → ℕ → Answer → ℕ → Entry
record_of token validator moment answer cents = record {
  token = token;
  validator = validator;
  moment = moment;
  answer = answer;
  cents = cents;
}

-- the packed entry's fields, with a token
abbrev pub with_token : PackedEntry → Token → Entry
with_token packed token = record {
  token = token;
  validator = packed.validator;
  moment = bits_moment packed.bits;
  answer = bits_answer packed.bits;
  cents = bits_cents packed.bits;
}

-- an entry by its parts
pub parts-same : (token : Token) (validator bits moment : ℕ) (reply : Reply)
    → bits_moment bits ≡ moment → bits_answer bits ≡ reply.answer → bits_cents bits ≡ reply.cents
    → record_of token validator (bits_moment bits) (bits_answer bits) (bits_cents bits)
    ≡ entry_with token validator moment reply
parts-same token validator bits moment reply is_moment is_answer is_cents =
    ap (λ (m : ℕ). record_of token validator m (bits_answer bits) (bits_cents bits)) is_moment
    ∙ ap (λ (a : Answer). record_of token validator moment a (bits_cents bits)) is_answer
    ∙ ap (λ (cents : ℕ). record_of token validator moment reply.answer cents) is_cents

-- the entry that is read of a packed one, with its answer
pub answer-same : (packed : PackedEntry) (token : Token) (answer : Answer)
    → answer ≡ bits_answer packed.bits
    → record_of token packed.validator (bits_moment packed.bits) answer (bits_cents packed.bits)
    ≡ with_token packed token
answer-same packed token answer is =
    ap (λ (a : Answer). record_of token packed.validator (bits_moment packed.bits) a
    (bits_cents packed.bits)) is

-- a packed entry stands for the entry of the token at its place
pub entry-at : (tokens : List Token) (packed : PackedEntry) (token : Token)
    → slice_get tokens packed.position ≡ Some token
    → entry_of tokens packed ≡ with_token packed token
unfolding entry_of
entry-at tokens packed token at =
    ap (λ (found : Option Token). with_token packed (unwrap_or found no_token)) at

-- what is found in a front is found in the list
slice_get-front : {X : Type 0} (xs ys : List X) (i : ℕ) (x : X) → slice_get xs i ≡ Some x
    → slice_get (xs ++ ys) i ≡ Some x
slice_get-front [] ys i x is = cc
slice_get-front (y ∷ xs) ys zero x is = is
slice_get-front (y ∷ xs) ys (suc i) x is = slice_get-front xs ys i x is

-- no account moves if the tokens stay
pub keep_same : {before after : List Token} → after ≡ before → KeepPositions before after
keep_same same = record {
  each = λ at token is. subst (λ (tokens : List Token). slice_get tokens at ≡ Some token)
      (sym same) is;
}

-- nor by one change after another
pub keep_then : {before between after : List Token} → KeepPositions before between
    → KeepPositions between after → KeepPositions before after
keep_then first second =
    record { each = λ at token is. second.each at token (first.each at token is) }

-- nor if an account is opened behind all others
pub keep_entries : (before after : List (Token × KeptAccount)) (opened : Token × KeptAccount)
    → after ≡ before ++ opened ∷ [] → KeepPositions (keys_of before) (keys_of after)
keep_entries before after opened is = record {
  each = λ at token there.
      ap (λ (es : List (Token × KeptAccount)). slice_get (keys_of es) at) is
      ∙ ap (λ (tokens : List Token). slice_get tokens at)
      (map-append (λ (e : Token × KeptAccount). e.0) before (opened ∷ []))
      ∙ slice_get-front (keys_of before) (opened.0 ∷ []) at token there;
}

-- the token of the entry at a place
pub token-at : (entries : List (Token × KeptAccount)) (at : ℕ) (token : Token) (kept : KeptAccount)
    → slice_get entries at ≡ Some (token, kept) → slice_get (keys_of entries) at ≡ Some token
token-at entries at token kept is =
    slice_get-map (λ (e : Token × KeptAccount). e.0) entries at
    ∙ ap (option_map (λ (e : Token × KeptAccount). e.0)) is

-- a packed history stands for the same entries if no account moves
pub history-kept : (before after : List Token) (packed : List PackedEntry) → ArePlaced before packed
    → KeepPositions before after → history_of after packed ≡ history_of before packed
history-kept before after [] placed keep = refl
history-kept before after (entry ∷ packed) placed keep =
    let here : HasToken before entry.position =
    All-head (λ (e : PackedEntry). HasToken before e.position) entry packed placed.each in
    let rest : history_of after packed ≡ history_of before packed =
    history-kept before after packed
    (record {
      each = All-tail (λ (e : PackedEntry). HasToken before e.position) entry packed
          placed.each;
    }) keep in
    let one : entry_of after entry ≡ entry_of before entry =
    entry-at after entry here.0 (keep.each entry.position here.0 here.1)
    ∙ sym (entry-at before entry here.0 here.1) in
    ap (λ (e : Entry). e ∷ history_of after packed) one
    ∙ ap (λ (es : List Entry). entry_of before entry ∷ es) rest

-- so does one that stayed
pub history-same : (before after : List Token) (packed next : List PackedEntry) → next ≡ packed
    → ArePlaced before packed → KeepPositions before after
    → history_of after next ≡ history_of before packed
history-same before after packed next same placed keep =
    ap (history_of after) same ∙ history-kept before after packed placed keep

-- and with one entry more for one more
pub history-push : (before after : List Token) (packed next : List PackedEntry) (more : PackedEntry)
    (entry : Entry) → next ≡ packed ++ more ∷ [] → ArePlaced before packed
    → KeepPositions before after
    → entry_of after more ≡ entry → history_of after next ≡ history_of before packed ++ entry ∷ []
history-push before after packed next more entry is placed keep holds =
    ap (history_of after) is
    ∙ map-append (entry_of after) packed (more ∷ [])
    ∙ ap (λ (es : List Entry). es ++ entry_of after more ∷ [])
    (history-kept before after packed placed keep)
    ∙ ap (λ (e : Entry). history_of before packed ++ e ∷ []) holds

-- places stay those of accounts
pub placed-kept : (before after : List Token) (packed next : List PackedEntry) → next ≡ packed
    → ArePlaced before packed → KeepPositions before after → ArePlaced after next
placed-kept before after packed next same placed keep =
    subst (λ (es : List PackedEntry). ArePlaced after es) (sym same) (record {
      each = All-weaker (λ (e : PackedEntry). HasToken before e.position)
          (λ (e : PackedEntry). HasToken after e.position)
          (λ e here. (here.0, keep.each e.position here.0 here.1)) packed placed.each;
    })

pub placed-push : (before after : List Token) (packed next : List PackedEntry) (more : PackedEntry)
    → next ≡ packed ++ more ∷ [] → ArePlaced before packed → KeepPositions before after
    → HasToken after more.position → ArePlaced after next
placed-push before after packed next more is placed keep here =
    subst (λ (es : List PackedEntry). ArePlaced after es) (sym is) (record {
      each = All-push (λ (e : PackedEntry). HasToken after e.position) packed more
          (placed-kept before after packed packed refl placed keep).each here;
    })

pub placed-none : (tokens : List Token) (packed : List PackedEntry) → packed ≡ []
    → ArePlaced tokens packed
placed-none tokens packed empty =
    subst (λ (es : List PackedEntry). ArePlaced tokens es) (sym empty)
    (record { each = All-nil (λ (e : PackedEntry). HasToken tokens e.position) })

-- the entry at a place of the history
pub read-at : (tokens : List Token) (packed : List PackedEntry) (i : ℕ) (entry : PackedEntry)
    → slice_get packed i ≡ Some entry
    → slice_get (history_of tokens packed) i ≡ Some (entry_of tokens entry)
read-at tokens packed i entry is =
    slice_get-map (entry_of tokens) packed i ∙ ap (option_map (entry_of tokens)) is

-- has the place of an account
pub placed-at : (tokens : List Token) (packed : List PackedEntry) (i : ℕ) (entry : PackedEntry)
    → ArePlaced tokens packed → slice_get packed i ≡ Some entry → HasToken tokens entry.position
placed-at tokens packed i entry placed is =
    subst (λ (e : PackedEntry). HasToken tokens e.position)
    (get_or_from_slice_get packed i entry entry is)
    (placed.each i entry (slice_get_within packed i entry is))
