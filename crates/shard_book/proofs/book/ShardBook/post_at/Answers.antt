use Rattle.std.proofs.Common.{refl, ◌≡◌, ℕ, List, [], ◌∷◌, ◌++◌, Some, slice_get, subst, sym, ap}
use Rattle.std.proofs.Common.{◌∙◌, arith}
use Rattle.histories.specs.declared.entry.Entry.{Entry}
use Rattle.shard_book.proofs.PackedLemmas.{history-push, history-same, placed-push}
use Rattle.shard_book.proofs.SoundLemmas.{book-still, sound-post}
use Rattle.shard_book.proofs.book.ShardBook.post_at.Goals.{After-push_reserved}
use Rattle.shard_book.specs.{Book.Book, Book.with_entries, declared.packed.PackedEntry.PackedEntry}
use Rattle.shard_book.specs.inside.Packed.{history_of, tokens_of}
use Rattle.shard_book.specs.inside.Sound.{AreKept, IsSound}
use Rattle.tap_views.proofs.Choices.{OnErr_any}
use Rattle.tap_views.specs.{Shards.shard_of_token, Token.bytes_of}
use Rattle.tariffs.specs.Fares.{Fares}
use Rattle.shard_book.proofs.book.ShardBook.post_at.Goals as goal

pub step-requires-clause-kept : goal.step-requires-clause-kept
unfolding AreKept
step-requires-clause-kept c = (_, c.self.invariant.sound.kept c.of-token.result)

pub of-packed-requires-clause-early : goal.of-packed-requires-clause-early
of-packed-requires-clause-early c = omega (arith, c.moment_ms-moment.ensures.early)

abbrev book_of : Fares → ℕ → ℕ → List Entry → Book
book_of table shard shards entries =
    record { table = table; shard = shard; shards = shards; entries = entries }

pub invariant_of-self-in_err-position : goal.invariant_of-self-in_err-position
invariant_of-self-in_err-position c =
    book-still c.reserve.ensures.items c.in_err-position.ensures.positions
    c.in_err-position.ensures.err
    c.in_err-position.ensures.counting c.self.invariant

pub returns-in_err-position-clause-err : goal.returns-in_err-position-clause-err
returns-in_err-position-clause-err c =
    OnErr_any _ _
    (ap (λ (entries : List Entry). book_of c.self.inside.table c.self.inside.shard
    c.self.inside.shards entries)
    (history-same (tokens_of c.self.inside.accounts) (tokens_of c.step.new.self)
    c.self.inside.history.items c.reserve.new.self.items c.reserve.ensures.items
    c.self.invariant.placed c.in_err-position.ensures.positions)
    ∙ c.self.view_is)

pub returns-in_err-position-clause-legal : goal.returns-in_err-position-clause-legal
returns-in_err-position-clause-legal c =
    (book-still c.reserve.ensures.items c.in_err-position.ensures.positions
    c.in_err-position.ensures.err
    c.in_err-position.ensures.counting c.self.invariant).sound.legal

-- the entry that was appended
abbrev entry_of_post : After-push_reserved → Entry
entry_of_post c = record {
  token = c.of-token.result;
  validator = c.validator_number-validator.result;
  moment =
      c.moment_ms-moment.result;
  answer = c.in_ok-position.reply.answer;
  cents =
      c.in_ok-position.reply.cents;
}

-- the packed one was appended to the old ones
packed_push : (c : After-push_reserved)
    → c.push_reserved.new.self.items ≡ c.self.inside.history.items ++ c.of-packed.result ∷ []
packed_push c = c.push_reserved.ensures.items
    ∙ ap (λ (entries : List PackedEntry). entries ++ c.of-packed.result ∷ [])
    c.reserve.ensures.items

-- so the entry was appended to the old entries
pushed : (c : After-push_reserved)
    → history_of (tokens_of c.step.new.self) c.push_reserved.new.self.items
    ≡ history_of (tokens_of c.self.inside.accounts) c.self.inside.history.items ++ entry_of_post
    c ∷ []
pushed c =
    history-push (tokens_of c.self.inside.accounts) (tokens_of c.step.new.self)
    c.self.inside.history.items c.push_reserved.new.self.items c.of-packed.result (entry_of_post c)
    (packed_push c) c.self.invariant.placed c.in_ok-position.ensures.positions
    (c.of-packed.ensures.holds (tokens_of c.step.new.self) c.of-token.result
    c.in_ok-position.ensures.position)

-- the parts of the book are sound with it
sound : (c : After-push_reserved)
    → IsSound c.self.inside.table c.self.inside.shard c.self.inside.shards c.step.new.self
    (history_of (tokens_of c.step.new.self) c.push_reserved.new.self.items)
sound c =
    let tap = c.args.tap.now in
    let view : book_of c.self.inside.table c.self.inside.shard c.self.inside.shards
    (history_of (tokens_of c.self.inside.accounts) c.self.inside.history.items) ≡ c.args.self.now =
    c.self.view_is in
    let token : bytes_of c.of-token.result ≡ tap.token =
    c.of-token.ensures.bytes ∙ c.token-bytes.ensures.bytes in
    sound-post (entry_of_post c) c.mode_of-mode.result
    (pushed c)
    c.self.invariant.sound
    (ap (λ (bytes : List ℕ). shard_of_token bytes c.self.inside.shards) token
    ∙ ap (λ (b : Book). shard_of_token tap.token b.shards) view ∙ c.requires.here
    ∙ sym (ap (λ (b : Book). b.shard) view))
    c.of-token.ensures.fits
    c.mode_of-mode.ensures.mode
    c.in_ok-position.ensures.steps

pub invariant_of-self-2 : goal.invariant_of-self-2
invariant_of-self-2 c = record {
  sound = sound c;
  placed = placed-push (tokens_of c.self.inside.accounts) (tokens_of c.step.new.self)
      c.self.inside.history.items c.push_reserved.new.self.items c.of-packed.result
      (packed_push c) c.self.invariant.placed c.in_ok-position.ensures.positions (
        c.of-token.result,
        subst
            (λ (position : ℕ). slice_get (tokens_of c.step.new.self) position
            ≡ Some c.of-token.result)
            (sym c.of-packed.ensures.position) c.in_ok-position.ensures.position,
      );
}

pub returns-clause-ok : goal.returns-clause-ok
returns-clause-ok c = record {
  entry = entry_of_post c;
  of_tap = record {
    token = c.of-token.ensures.bytes ∙ c.token-bytes.ensures.bytes;
    validator =
        c.validator_number-validator.ensures;
    moment = c.moment_ms-moment.ensures.number;
  };
  replied = refl;
  appended =
      ap (λ (entries : List Entry). book_of c.self.inside.table c.self.inside.shard
      c.self.inside.shards entries) (pushed c)
      ∙ ap (λ (book : Book). with_entries book (entry_of_post c ∷ [])) c.self.view_is;
}

pub returns-clause-legal : goal.returns-clause-legal
returns-clause-legal c = (sound c).legal
