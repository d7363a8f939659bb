-- The sums over the books are those over the plain history.
use Rattle.std.proofs.Common.{refl, sym, ◌∙◌, ap, inl, inr, subst, get_or, mod-lt}
use Rattle.fare_service.proofs.{GatheredWork.Given, HeadlineLemmas.gathered_of}
use Rattle.fare_service.proofs.{OwnVisits.filter_none, PlainEnds.plain_ends}
use Rattle.fare_service.proofs.PlainLists.{passes_alone}
use Rattle.fare_service.proofs.PlainUploads.{AllNamed, same_own}
use Rattle.fare_service.specs.{Outcomes.OutcomeView, Plain.IsUncutGathering}
use Rattle.fare_service.specs.Printed.{report_of, report_with}
use Rattle.histories.proofs.OwnEntries.{own_none}
use Rattle.histories.proofs.SameEntries.{IncreasingNumbers, IncreasingTokens, same_by_token}
use Rattle.histories.proofs.SameEntries.{same_by_validator, same_entries, same_sums}
use Rattle.histories.specs.{Entry.is_of, Entry.own, Keys.same_token, Sums.sums}
use Rattle.histories.specs.SumsByKey.{sums_by_validator, sums_by_token}
use Rattle.histories.specs.declared.entry.Entry.{Entry}
use Rattle.report_texts.specs.{OverHistory.IsReportOver, Report.report}
use Rattle.shard_book.specs.Book.{Book, AreOfShard, all_entries}
use Rattle.std.proofs.lemmas.{Bool.cases_lt, Bool.false_from_ne_true, List.get_or_past}
use Rattle.std.proofs.lemmas.{List.Elements.All-weaker, Option.slice_get-get_or}
use Rattle.std.specs.Prelude.{ℕ, ◌≡◌, ◌≢◌, ◌⊎◌, ◌<◌, ◌≤◌, false, List, [], length, filter, All, Some}
use Rattle.std.specs.Prelude.{slice_get}
use Rattle.tap_views.specs.{Files.HasUniqueParse, Shards.shard_of_token, Token.bytes_of}
use Rattle.tap_views.specs.declared.{token.Token.Token, upload_end.UploadEnd.UploadEnd}

-- ---- the books' entries

own_alone : (token : Token) (books : List Book) (empty : Book) (at : ℕ) → empty.entries ≡ []
    → ((i : ℕ) → i ≢ at → own token (get_or books i empty).entries ≡ [])
    → own token (all_entries books) ≡ own token (get_or books at empty).entries
unfolding own
own_alone token books empty at none others =
    passes_alone (is_of token) (λ (book : Book). book.entries) books empty at
    (ap (filter (is_of token)) none) others

-- a book of another shard has no entry of the token
own_elsewhere : (token : Token) (shard shards : ℕ) (entries : List Entry)
    → All (λ entry. shard_of_token (bytes_of entry.token) shards ≡ shard) entries
    → shard_of_token (bytes_of token) shards ≢ shard → own token entries ≡ []
unfolding own
own_elsewhere token shard shards entries here apart =
    filter_none (is_of token) entries
    (All-weaker (λ entry. shard_of_token (bytes_of entry.token) shards ≡ shard)
    (λ entry. is_of token entry ≡ false)
    (λ entry h. false_from_ne_true (is_of token entry)
    (λ is. apart
    (ap (λ t. shard_of_token (bytes_of t) shards) (sym (same_token entry.token token is)) ∙ h)))
    entries here)

abbrev pub AllHere : OutcomeView → Type 0
AllHere outcome = (shard : ℕ) (book : Book) → slice_get outcome.books shard ≡ Some book
    → AreOfShard book.shard book.shards book.entries

module _ (given : Given) (outcome : OutcomeView) (history : List Entry)
    (some : 0 < length outcome.books) (named : AllNamed outcome) (here : AllHere outcome)
    (cuts : All HasUniqueParse given.uploads)
    (w : IsUncutGathering given.table given.shards given.uploads outcome history) where
  -- the entries of a token in all books are those of the plain history
  pub own_all : (token : Token) → own token (all_entries outcome.books) ≡ own token history
  own_all token =
      let shards = length outcome.books in
      let shard = shard_of_token (bytes_of token) shards in
      let empty : Book = record { table = given.table; shard = 0; shards = 0; entries = [] } in
      let there = slice_get-get_or outcome.books shard empty (mod-lt _ some) in
      let book = get_or outcome.books shard empty in
      own_alone token outcome.books empty shard refl (λ i. elsewhere empty refl i)
      ∙ same_own given outcome history some named cuts w token book there
    where
      elsewhere : (empty : Book) → empty.entries ≡ [] → (i : ℕ)
          → i ≢ shard_of_token (bytes_of token) (length outcome.books)
          → own token (get_or outcome.books i empty).entries ≡ []
      elsewhere empty none i apart = by_position (cases_lt i (length outcome.books))
        where
          by_position : (i < length outcome.books) ⊎ (length outcome.books ≤ i)
              → own token (get_or outcome.books i empty).entries ≡ []
          by_position (inl within) =
              let book = get_or outcome.books i empty in
              let at = slice_get-get_or outcome.books i empty within in
              let b = w.headline.books i book at in
              let A : ℕ → ℕ → Type 0 =
              λ s n. All (λ entry. shard_of_token (bytes_of entry.token) n ≡ s) book.entries in
              let S : ℕ → Type 0 = λ s. A s book.shards in
              let N : ℕ → Type 0 = λ n. A i n in
              own_elsewhere token i (length outcome.books) book.entries
              (subst N (b.2 ∙ sym w.headline.shards_are) (subst S b.1 (here i book at).each))
              (λ e. apart (sym e))
          by_position (inr past) =
              ap (λ (b : Book). own token b.entries) (get_or_past outcome.books i empty past)
              ∙ (ap (own token) none ∙ own_none token)

  -- with any ends of uploads, the sums of the report are those of the plain history
  pub same_sums_with : IncreasingNumbers → IncreasingTokens → (ends : List UploadEnd)
      → report_with ends outcome
      ≡ report ends (sums history) (sums_by_validator history) (sums_by_token history)
  same_sums_with numbers names ends =
      let entries = all_entries outcome.books in
      let totals : sums entries ≡ sums history =
      same_sums entries history (same_entries entries history own_all) in
      λ i. report ends (totals i) (same_by_validator numbers names entries history own_all i)
      (same_by_token numbers names entries history own_all i)

  -- the report is that over the plain history
  pub same_report : IncreasingNumbers → IncreasingTokens
      → IsReportOver given.uploads history (report_of outcome)
  same_report numbers names =
      record {
        ends = outcome.ends;
        of_uploads = plain_ends given w.works outcome some
            (gathered_of given w.works outcome w.headline) w.whole;
        shown = same_sums_with numbers names outcome.ends;
      }
