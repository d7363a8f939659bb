-- Tallies that were made of chunks of the books, and are added up in the order of the chunks.
use Rattle.std.proofs.Common.{◌≡◌, ℕ, ◌+◌, ◌*◌, ◌/◌, ◌%◌, min, ◌<◌, ◌≤◌, ◌^◌, List, [], ◌∷◌}
use Rattle.std.proofs.Common.{◌++◌, length, take, drop, suc, refl, sym, ap, subst, ◌∙◌, arith}
use Rattle.std.proofs.Common.{append_assoc, length-append, drop-drop}
use Rattle.histories.specs.TalliesByKey.{AreTallied, HaveRoom, Tallies}
use Rattle.histories.specs.declared.entry.Entry.{Entry}
use Rattle.shard_book.proofs.BookSums.{parts-room, parts-tallied, parts-few}
use Rattle.shard_book.specs.Book.{Book, all_entries}
use Rattle.std.proofs.lemmas.Grind.{div_ceil_times}
use Rattle.std.proofs.lemmas.List.{take-append-drop, append-nil, drop_all, nil_from_length}
use Rattle.std.specs.Prelude.{Result, Ok, IfOk, OnOk, slice_index_or}

-- no chunks are of no books
pub no-chunks : (size : ℕ) (books : List Book) → 0 < size
    → 0 ≡ length books / size + min 1 (length books % size) → books ≡ []
no-chunks size books some none =
    let all : length books ≤ 0 * size =
    subst (λ (n : ℕ). length books ≤ n * size) (sym none)
    (div_ceil_times (length books) size some).0 in
    nil_from_length books (grind (arith, all))

module _ {E : Type 0} where
  -- what came of tallying these books
  pub record IsTallied (books : List Book) (result : Result Tallies E) : Type 0 where
    pub tallied : IfOk result (AreTallied (all_entries books))
    pub few : OnOk result (length (all_entries books) ≤ length books * 2 ^ 64)

  -- what came of tallying the chunks of these books, in their order
  abbrev pub AreChunksTallied : ℕ → List Book → List (Result Tallies E) → Type 0
  AreChunksTallied size books [] = books ≡ []
  AreChunksTallied size books (result ∷ results) =
      IsTallied (take size books) result × AreChunksTallied size (drop size books) results

  -- the tallies now are those of the books before, and the results left are of the books after
  pub record IsMerging (books : List Book) (now : Tallies)
      (left : List (Result Tallies E)) : Type 0 where
    pub size : ℕ
    pub before : List Book
    pub after : List Book
    pub whole : books ≡ before ++ after
    pub tallied : AreTallied (all_entries before) now
    pub few : length (all_entries before) ≤ length before * 2 ^ 64
    pub rest : AreChunksTallied size after left

  -- results that are of the chunks by their numbers are of the chunks in their order
  pub chunks-tallied : (size : ℕ) (books : List Book) (n : ℕ)
      (results : List (Result Tallies E))
      → length books ≤ (n + length results) * size
      → ((k : ℕ) (d : Result Tallies E) → k < length results
      → IsTallied (take size (drop ((n + k) * size) books)) (slice_index_or results k d))
      → AreChunksTallied size (drop (n * size) books) results
  chunks-tallied size books n [] all each = drop_all (n * size) books (grind arith)
  chunks-tallied size books n (result ∷ results) all each =
      let here : n + 0 ≡ n = omega arith in
      let next : (n + 1) * size ≡ n * size + size = grind arith in (
        subst (λ (m : ℕ). IsTallied (take size (drop (m * size) books)) result) here
            (each 0 result (omega arith)),
        subst (λ (bs : List Book). AreChunksTallied size bs results)
            (ap (λ (m : ℕ). drop m books) next ∙ sym (drop-drop size (n * size) books))
            (chunks-tallied size books (n + 1) results
            (subst (λ (m : ℕ). length books ≤ m * size) (omega arith) all)
            (λ k d l. subst
            (λ (m : ℕ). IsTallied (take size (drop (m * size) books)) (slice_index_or results k d))
            (omega arith) (each (suc k) d (omega arith)))),
      )

  -- results that are of the chunks by their numbers, as many as there are chunks
  pub all-tallied : (size : ℕ) (books : List Book) (results : List (Result Tallies E))
      → 0 < size → length results ≡ length books / size + min 1 (length books % size)
      → ((n : ℕ) (d : Result Tallies E) → n < length results
      → IsTallied (take size (drop (n * size) books)) (slice_index_or results n d))
      → AreChunksTallied size books results
  all-tallied size books results some number each =
      let all : length books ≤ (0 + length results) * size =
      subst (λ (n : ℕ). length books ≤ n * size) (sym number ∙ (omega arith))
      (div_ceil_times (length books) size some).0 in
      let start : 0 * size ≡ 0 = omega arith in
      subst (λ (n : ℕ). AreChunksTallied size (drop n books) results) start
      (chunks-tallied size books 0 results all
      (λ k d l. subst
      (λ (n : ℕ). IsTallied (take size (drop (n * size) books)) (slice_index_or results k d))
      (omega arith) (each k d l)))

  -- the first tallies are those of the first chunk
  pub merging-first : (size : ℕ) (books : List Book) (first : Tallies)
      (left : List (Result Tallies E))
      → AreChunksTallied size books (Ok first ∷ left) → IsMerging books first left
  merging-first size books first left tallied = record {
    size = size;
    before = take size books;
    after = drop size books;
    whole = sym (take-append-drop size books);
    tallied = tallied.0.tallied;
    few = tallied.0.few;
    rest = tallied.1;
  }

  module _ (books : List Book) (now : Tallies) (more : Tallies)
      (left : List (Result Tallies E))
      (merging : IsMerging books now (Ok more ∷ left)) where
    abbrev chunk : List Book
    chunk = take merging.size merging.after

    cut : books ≡ (merging.before ++ chunk) ++ drop merging.size merging.after
    cut = merging.whole ∙ ap (λ (bs : List Book). merging.before ++ bs)
        (sym (take-append-drop merging.size merging.after))
        ∙ sym (append_assoc merging.before chunk (drop merging.size merging.after))

    -- there is room for the tallies of the next chunk
    pub merging-room : length books ≤ 64 → HaveRoom now more
    merging-room few =
        let all : length books
        ≡ length (merging.before ++ chunk) + length (drop merging.size merging.after) =
        ap length cut ∙ length-append (merging.before ++ chunk) (drop merging.size merging.after) in
        parts-room (merging.before ++ chunk) merging.before chunk now more
        (omega (arith, few, all)) refl
        merging.few merging.rest.0.few merging.tallied merging.rest.0.tallied

    -- the tallies of the next chunk are added
    pub merging-more : (new : Tallies)
        → ((before after : List Entry) → AreTallied before now → AreTallied after more
        → AreTallied (before ++ after) new)
        → IsMerging books new left
    merging-more new adds = record {
      size = merging.size;
      before = merging.before ++ chunk;
      after = drop merging.size merging.after;
      whole = cut;
      tallied = parts-tallied (merging.before ++ chunk) merging.before chunk new refl
          (adds (all_entries merging.before) (all_entries chunk) merging.tallied
          merging.rest.0.tallied);
      few = parts-few (merging.before ++ chunk) merging.before chunk refl merging.few
          merging.rest.0.few;
      rest = merging.rest.1;
    }

  module _ (books : List Book) (now : Tallies) (merging : IsMerging books now []) where
    -- once nothing is left, the books before are all books
    whole : books ≡ merging.before
    whole = merging.whole ∙ ap (λ (bs : List Book). merging.before ++ bs) merging.rest
        ∙ append-nil merging.before

    pub merging-tallied : AreTallied (all_entries books) now
    merging-tallied = subst (λ (bs : List Book). AreTallied (all_entries bs) now) (sym whole)
        merging.tallied
