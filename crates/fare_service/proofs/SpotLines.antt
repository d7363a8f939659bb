-- What stands at spots, from a place on.
use Rattle.std.proofs.Common.{◌≡◌, ℕ, ◌+◌, ◌<◌, List, [], ◌∷◌, ◌++◌, Some, length, take, drop}
use Rattle.std.proofs.Common.{get_or, ap, subst, ◌∙◌, add-one, drop-cons, arith}
use Rattle.fare_service.specs.declared.spot.Spot.{Spot}
use Rattle.fare_service.specs.inside.Spots.{entry_at_spot, entries_at_spots}
use Rattle.fare_texts.specs.Lines.{Nondecreasing, NondecreasingFrom}
use Rattle.histories.specs.declared.entry.Entry.{Entry}
use Rattle.shard_book.specs.Book.{Book}
use Rattle.std.proofs.{Math.Seq.take-suc, lemmas.List.get_or-map, lemmas.List.length-map}
use Rattle.std.specs.Prelude.{slice_get}
use Rattle.tap_views.proofs.TokensUp.{up_itself}
use Rattle.tap_views.specs.{TokenOrder.IsUpTo, declared.token.Token.Token}

-- what stands before, at and from a place of what stands at spots
pub seen_taken : (books : List Book) (list : List Spot) (position : ℕ) (other : Spot)
    → position < length list
    → take (position + 1) (entries_at_spots books list)
    ≡ take position (entries_at_spots books list) ++ entry_at_spot books
    (get_or list position other) ∷ []
seen_taken books list position other within =
    let inside : position < length (entries_at_spots books list) =
    omega (arith, length-map list (entry_at_spot books), within) in
    (rw (add-one)
    (take-suc (entries_at_spots books list) position (entry_at_spot books other) inside))
    ∙ ap (λ (entry : Entry). take position (entries_at_spots books list) ++ entry ∷ [])
    (get_or-map (entry_at_spot books) list position other (entry_at_spot books other) within)

seen_left : (books : List Book) (list : List Spot) (position : ℕ) (other : Spot)
    → position < length list
    → drop position (entries_at_spots books list)
    ≡ entry_at_spot books (get_or list position other) ∷ drop (position + 1)
    (entries_at_spots books list)
seen_left books list position other within =
    let inside : position < length (entries_at_spots books list) =
    omega (arith, length-map list (entry_at_spot books), within) in
    (rw (add-one)
    (drop-cons (entries_at_spots books list) position (entry_at_spot books other) inside))
    ∙ ap (λ (entry : Entry). entry ∷ drop (position + 1) (entries_at_spots books list))
    (get_or-map (entry_at_spot books) list position other (entry_at_spot books other) within)

pub ascend_here : (books : List Book) (list : List Spot) (position : ℕ) (other : Spot)
    (token : Token)
    → position < length list → NondecreasingFrom token (drop position (entries_at_spots books list))
    → IsUpTo token (entry_at_spot books (get_or list position other)).token
ascend_here books list position other token within nondecreasing =
    let both : NondecreasingFrom token
    (entry_at_spot books (get_or list position other) ∷ drop (position + 1)
    (entries_at_spots books list)) =
    subst (λ (es : List Entry). NondecreasingFrom token es)
    (seen_left books list position other within)
    nondecreasing in
    both.0

pub ascend_on : (books : List Book) (list : List Spot) (position : ℕ) (other : Spot) (token : Token)
    → position < length list → NondecreasingFrom token (drop position (entries_at_spots books list))
    → NondecreasingFrom (entry_at_spot books (get_or list position other)).token
    (drop (position + 1) (entries_at_spots books list))
ascend_on books list position other token within nondecreasing =
    let both : NondecreasingFrom token
    (entry_at_spot books (get_or list position other) ∷ drop (position + 1)
    (entries_at_spots books list)) =
    subst (λ (es : List Entry). NondecreasingFrom token es)
    (seen_left books list position other within)
    nondecreasing in
    both.1

-- entries in order of token do not fall from the first one's token
pub ascend_first : (books : List Book) (list : List Spot) (first : Spot)
    → slice_get list 0 ≡ Some first → Nondecreasing (entries_at_spots books list)
    → NondecreasingFrom (entry_at_spot books first).token (entries_at_spots books list)
ascend_first books [] first is nondecreasing = tt
ascend_first books (one ∷ list) first is nondecreasing =
    let same : one ≡ first = cc in
    subst (λ (x : Spot). NondecreasingFrom (entry_at_spot books x).token
    (entries_at_spots books (one ∷ list))) same
    (up_itself (entry_at_spot books one).token, nondecreasing)
