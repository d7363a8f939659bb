-- Entries that are collected one after another.
use Rattle.std.proofs.Common.{◌≡◌, ℕ, ◌+◌, List, [], ◌∷◌, ◌++◌, Option, Some, unwrap_or, take, sym}
use Rattle.std.proofs.Common.{ap, ◌∙◌, append_assoc, ◌<◌, length, get_or}
use Rattle.fare_service.specs.{declared.spot.Spot.Spot, inside.Spots.book_at, inside.Spots.entry_in}
use Rattle.fare_service.specs.inside.Spots.{entry_at_spot, no_entry, position_at, entries_at_spots}
use Rattle.histories.proofs.OwnEntries.{own-append}
use Rattle.histories.specs.{Entry.own, declared.entry.Entry.Entry}
use Rattle.shard_book.specs.Book.{Book, all_entries}
use Rattle.std.proofs.lemmas.List.{flat_map_more, map-append, take_more}
use Rattle.std.proofs.lemmas.Option.{slice_get_within, slice_get-get_or, get_or_from_slice_get}
use Rattle.std.specs.Prelude.{option_and_then, slice_get}
use Rattle.tap_views.proofs.Lists.{take_next}
use Rattle.tap_views.specs.declared.token.Token.{Token}

-- the entry at a spot
pub spot_entry : (books : List Book) (spot : Spot) (index position : ℕ) (book : Book)
    (entry : Entry)
    → book_at spot ≡ index → position_at spot ≡ position → slice_get books index ≡ Some book
    → slice_get book.entries position ≡ Some entry → entry_at_spot books spot ≡ entry
unfolding entry_at_spot
spot_entry books spot index position book entry at_book at_position there at =
    ap (λ (i : ℕ). unwrap_or (entry_in books i (position_at spot)) no_entry) at_book
    ∙ ap (λ (i : ℕ). unwrap_or (entry_in books index i) no_entry) at_position
    ∙ ap (λ (found : Option Book). unwrap_or
    (option_and_then (λ (b : Book). slice_get b.entries position) found) no_entry) there
    ∙ ap (λ (found : Option Entry). unwrap_or found no_entry) at

pub seen_more : (books : List Book) (first old new : List Spot) (one : Spot) (index i : ℕ)
    (book : Book) → new ≡ old ++ one ∷ []
    → entries_at_spots books old ≡ entries_at_spots books first ++ take i book.entries
    → book_at one ≡ index → position_at one ≡ i → slice_get books index ≡ Some book
    → i < length book.entries
    → entries_at_spots books new ≡ entries_at_spots books first ++ take (i + 1) book.entries
seen_more books first old new one index i book is so_far at_book at_position there within =
    let entry : Entry = get_or book.entries i no_entry in
    let at : slice_get book.entries i ≡ Some entry =
    slice_get-get_or book.entries i no_entry within in
    ap (entries_at_spots books) is ∙ map-append (entry_at_spot books) old (one ∷ [])
    ∙ ap (λ (es : List Entry). es ++ entry_at_spot books one ∷ []) so_far
    ∙ ap (λ (e : Entry). (entries_at_spots books first ++ take i book.entries) ++ e ∷ [])
    (spot_entry books one index i book entry at_book at_position there at)
    ∙ append_assoc (entries_at_spots books first) (take i book.entries) (entry ∷ [])
    ∙ ap (λ (es : List Entry). entries_at_spots books first ++ es)
    (take_next book.entries i entry at)

-- the spots of one book more
pub seen_books : (books : List Book) (old new : List Spot) (i : ℕ) (book : Book)
    → slice_get books i ≡ Some book → entries_at_spots books old ≡ all_entries (take i books)
    → entries_at_spots books new ≡ entries_at_spots books old ++ book.entries
    → entries_at_spots books new ≡ all_entries (take (i + 1) books)
seen_books books old new i book at so_far is =
    let more : take i books ++ book ∷ [] ≡ take (i + 1) books =
    ap (λ (b : Book). take i books ++ b ∷ []) (sym (get_or_from_slice_get books i book book at))
    ∙ sym (take_more books i book (slice_get_within books i book at)) in
    is ∙ ap (λ (es : List Entry). es ++ book.entries) so_far
    ∙ flat_map_more (λ (b : Book). b.entries) [] (take i books) book ∙ ap all_entries more

pub own_books : (books : List Book) (i : ℕ) (book : Book) (token : Token) (old new : List Entry)
    → i < length books → book ≡ get_or books i book
    → old ≡ own token (all_entries (take i books)) → new ≡ old ++ own token book.entries
    → new ≡ own token (all_entries (take (i + 1) books))
own_books books i book token old new within same so_far is =
    let more : take i books ++ book ∷ [] ≡ take (i + 1) books =
    ap (λ (b : Book). take i books ++ b ∷ []) same ∙ sym (take_more books i book within) in
    is ∙ ap (λ (es : List Entry). es ++ own token book.entries) so_far
    ∙ sym (own-append token (all_entries (take i books)) book.entries)
    ∙ ap (own token)
    (flat_map_more (λ (b : Book). b.entries) [] (take i books) book ∙ ap all_entries more)
