-- A book stays sound when a tap is posted.
use Rattle.std.proofs.Common.{◌≡◌, ℕ, List, [], ◌∷◌, ◌++◌, false, refl, sym, ap, subst, ◌∙◌, Option}
use Rattle.std.proofs.Common.{None, ◌<◌, ◌≤◌}
use Rattle.account_rule.specs.declared.tap.TapIn.{TapIn}
use Rattle.fare_caps.specs.{CapMeanings.capped_rules_of, CappedReplies.capped_reply}
use Rattle.fare_caps.specs.Represents.{no_further}
use Rattle.histories.proofs.Histories.{legal-none, legal-push, tap_of-post}
use Rattle.histories.specs.Entry.{own, tap_of, taps_of, reply_of}
use Rattle.histories.specs.{History.IsReplied, Sums.sums_of_replies, Sums.add_sums}
use Rattle.histories.specs.declared.entry.Entry.{Entry}
use Rattle.shard_book.proofs.CountingLemmas.{counted-same, counted-push, counted-none}
use Rattle.shard_book.proofs.KeptLemmas.{kept-push}
use Rattle.shard_book.proofs.PackedLemmas.{history-same, placed-kept, placed-none}
use Rattle.shard_book.specs.declared.{accounts.Accounts.Accounts, packed.PackedEntry.PackedEntry}
use Rattle.shard_book.specs.inside.Accounts.{further_at, kept_at, IsCounting, HasKept, StaysKept}
use Rattle.shard_book.specs.inside.Accounts.{Steps, StillKept, StillRepresents, counted}
use Rattle.shard_book.specs.inside.Packed.{KeepPositions, history_of, tokens_of}
use Rattle.shard_book.specs.inside.Sound.{IsBook, IsSound, AreKept}
use Rattle.std.proofs.lemmas.List.Elements.{All-nil, All-push}
use Rattle.std.specs.Option.{option_map}
use Rattle.tap_views.specs.{Shards.shard_of_token, Token.Fits, Token.bytes_of, Token.token_eq}
use Rattle.tap_views.specs.declared.token.Token.{Token}
use Rattle.tariffs.specs.{Fares.Fares, Fares.mode_at, declared.mode.Mode.Mode}

-- nothing was posted: the entries are the same, and what is kept of the tokens stands on
pub sound-on : {table : Fares} {shard shards : ℕ} {accounts after : Accounts}
    {entries items : List Entry} → items ≡ entries
    → ((other : Token) → StillRepresents (kept_at accounts other) (kept_at after other))
    → ((other : Token) → further_at after other ≡ further_at accounts other)
    → (IsCounting after → IsCounting accounts) → IsSound table shard shards accounts entries
    → IsSound table shard shards after items
unfolding AreKept
sound-on {table} {shard} {shards} {accounts} {after} {entries} {items} same others further counting
    sound =
    subst (λ (es : List Entry). IsSound table shard shards after es) (sym same) (record {
      within = sound.within;
      few = sound.few;
      legal = sound.legal;
      here = sound.here;
      fits = sound.fits;
      kept = λ token. rw (further token) ((others token).kept table (bytes_of token)
          (further_at accounts token) (taps_of table token entries) (sound.kept token));
      counted = λ counts. counted-same accounts after entries (sound.counted (counting counts))
          (λ other. (others other).sums);
    })

-- one entry was posted
pub sound-push : {table : Fares} {shard shards : ℕ} {accounts after : Accounts}
    {entries items : List Entry} (entry : Entry) → items ≡ entries ++ entry ∷ []
    → IsSound table shard shards accounts entries
    → shard_of_token (bytes_of entry.token) shards ≡ shard
    → Fits entry.token
    → IsReplied table entries entry
    → HasKept table after entry.token (taps_of table entry.token entries ++ tap_of table entry ∷ [])
    → (IsCounting after → counted (kept_at after entry.token)
    ≡ add_sums (counted (kept_at accounts entry.token)) (sums_of_replies (reply_of entry ∷ [])))
    → (IsCounting after → IsCounting accounts)
    → ((other : Token) → token_eq entry.token other ≡ false → StaysKept accounts after other)
    → IsSound table shard shards after items
sound-push {table} {shard} {shards} {accounts} {after} {entries} {items} entry pushed sound here
    fits replied own_kept added counting others =
    subst (λ (es : List Entry). IsSound table shard shards after es) (sym pushed) (record {
      within = sound.within;
      few = sound.few;
      legal = legal-push table entries entry sound.legal replied;
      here = record {
        each = All-push (λ (e : Entry). shard_of_token (bytes_of e.token) shards ≡ shard)
            entries entry sound.here.each here;
      };
      fits = All-push (λ (e : Entry). Fits e.token) entries entry sound.fits fits;
      kept = kept-push table accounts after entries entry sound.kept own_kept others;
      counted = λ counts. counted-push accounts after entries entry
          (sound.counted (counting counts)) (added counts)
          (λ other apart. (others other apart).kept);
    })

-- one tap was posted: what the account's step gives makes the book sound again
pub sound-post : {table : Fares} {shard shards : ℕ} {accounts after : Accounts}
    {entries items : List Entry} (entry : Entry) (mode : Option Mode)
    → items ≡ entries ++ entry ∷ []
    → IsSound table shard shards accounts entries
    → shard_of_token (bytes_of entry.token) shards ≡ shard
    → Fits entry.token
    → option_map (λ m. m.position) mode ≡ mode_at table entry.moment entry.validator
    → Steps table entry.token (record { moment = entry.moment; mode = mode }) accounts after
    (reply_of entry)
    → IsSound table shard shards after items
unfolding AreKept IsReplied
sound-post {table} {shard} {shards} {accounts} {after} {entries} {items} entry mode pushed sound
    here fits is_mode steps =
    let tap_is : tap_of table entry ≡ record { moment = entry.moment; mode = mode } =
    tap_of-post table entry mode is_mode in
    sound-push entry pushed sound here fits
    (steps.reply _ (sound.kept entry.token)
    ∙ ap (λ (tap : TapIn). capped_reply (capped_rules_of table (bytes_of entry.token))
    (taps_of table entry.token entries) tap) (sym tap_is))
    (subst (λ (tap : TapIn). HasKept table after entry.token
    (taps_of table entry.token entries ++ tap ∷ [])) (sym tap_is)
    (steps.kept _ (sound.kept entry.token)))
    steps.counted steps.counting steps.others

-- a book without entries and without accounts is sound
pub sound-none : {table : Fares} {shard shards : ℕ} {accounts : Accounts} {items : List Entry}
    → items ≡ [] → shard < shards → shards ≤ 64 → ((token : Token) → kept_at accounts token ≡ None)
    → ((token : Token) → further_at accounts token ≡ no_further)
    → IsSound table shard shards accounts items
unfolding AreKept taps_of own
sound-none {table} {shard} {shards} {accounts} {items} empty within few none fresh =
    subst (λ (es : List Entry). IsSound table shard shards accounts es) (sym empty) (record {
      within = within;
      few = few;
      legal = legal-none table;
      here = record
          { each = All-nil (λ (e : Entry). shard_of_token (bytes_of e.token) shards ≡ shard) };
      fits = All-nil (λ (e : Entry). Fits e.token);
      kept = λ token. rw (none token, fresh token) (refl, refl);
      counted = λ _. counted-none accounts none;
    })

-- nothing was posted, and no account moved: the parts are still those of a book
pub book-on : {table : Fares} {shard shards : ℕ} {accounts after : Accounts}
    {packed next : List PackedEntry} → next ≡ packed
    → KeepPositions (tokens_of accounts) (tokens_of after)
    → ((other : Token) → StillRepresents (kept_at accounts other) (kept_at after other))
    → ((other : Token) → further_at after other ≡ further_at accounts other)
    → (IsCounting after → IsCounting accounts) → IsBook table shard shards accounts packed
    → IsBook table shard shards after next
book-on {table} {shard} {shards} {accounts} {after} {packed} {next} same keep others further
    counting
    book =
    record {
      sound = sound-on
          (history-same (tokens_of accounts) (tokens_of after) packed next same book.placed keep)
          others further
          counting book.sound;
      placed = placed-kept (tokens_of accounts) (tokens_of after) packed next same book.placed keep;
    }

-- likewise of all that is kept
pub book-still : {table : Fares} {shard shards : ℕ} {accounts after : Accounts}
    {packed next : List PackedEntry} → next ≡ packed
    → KeepPositions (tokens_of accounts) (tokens_of after)
    → ((other : Token) → StillKept accounts after other)
    → (IsCounting after → IsCounting accounts) → IsBook table shard shards accounts packed
    → IsBook table shard shards after next
book-still same keep others counting book =
    book-on same keep (λ other. (others other).still) (λ other. (others other).further)
    counting book

-- what a new book is made of are the parts of a book
pub book-none : {table : Fares} {shard shards : ℕ} {accounts : Accounts} {packed : List PackedEntry}
    → packed ≡ [] → shard < shards → shards ≤ 64 → ((token : Token) → kept_at accounts token ≡ None)
    → ((token : Token) → further_at accounts token ≡ no_further)
    → IsBook table shard shards accounts packed
book-none {table} {shard} {shards} {accounts} {packed} empty within few none fresh = record {
  sound = sound-none (ap (history_of (tokens_of accounts)) empty) within few none fresh;
  placed = placed-none (tokens_of accounts) packed empty;
}
