-- The headline, from what was gathered, and what was gathered, from the headline.
use Rattle.std.proofs.Common.{refl, sym, ◌∙◌, ap, inl, inr, subst, arith, eq-eqb, ne_eqb}
use Rattle.fare_service.proofs.AddingLemmas.{gathered_sums}
use Rattle.fare_service.proofs.GatheredWork.{Given, IsBookOfWork, IsGathered}
use Rattle.fare_service.proofs.{OwnVisits.filter_none, PlacingLemmas.occurs_once}
use Rattle.fare_service.proofs.Signing.{step_no, step_yes}
use Rattle.fare_service.specs.Headline.{Signed, by_worker, end_of, IsOneThread, Headline}
use Rattle.fare_service.specs.{Limits.BookKeepsLimits, Outcomes.OutcomeView, Runs.entries_to}
use Rattle.fare_service.specs.Shares.{Worked, all_works, all_visits}
use Rattle.histories.specs.Sums.{sums}
use Rattle.shard_book.specs.{Book.Book, Book.all_entries, Windows.WindowsKeepLimits}
use Rattle.shared_books.specs.Marks.{history_of_visits}
use Rattle.std.proofs.lemmas.{Bool.cases_lt, Bool.Decides.eqb_tells, List.get_or_past}
use Rattle.std.proofs.lemmas.List.Elements.{All-nil, All-cons, All-weaker}
use Rattle.std.proofs.lemmas.Option.{slice_get-get_or, get_or_from_slice_get}
use Rattle.std.specs.List.{flat_map}
use Rattle.std.specs.Prelude.{ℕ, ◌≡◌, ◌≢◌, ◌⊎◌, ◌<◌, ◌≤◌, ◌==◌, true, false, List, [], ◌∷◌, ◌++◌}
use Rattle.std.specs.Prelude.{length, map, All, Some, slice_get, slice_index_or}
use Rattle.tap_views.specs.declared.upload_end.UploadEnd.TheVariants.{Undrawn}
use Rattle.tariffs.specs.Fares.{Fares}

-- visits one after another, in either word
joined_visits : (visits : List Signed)
    → history_of_visits (map (λ v. v.entries) visits) ≡ flat_map (λ v. v.entries) visits
joined_visits [] = refl
joined_visits (v ∷ visits) = ap (λ es. v.entries ++ es) (joined_visits visits)

thread_of : (table : Fares) (shard shards : ℕ) (works : List (List Worked)) (book : Book)
    → IsBookOfWork table shard shards works book → IsOneThread shard works book.entries
thread_of table shard shards works book is = record {
  visits = is.visits;
  history = is.history ∙ joined_visits is.visits;
  order = λ worker. by_position worker (cases_lt worker (length works));
}
  where
    by_position : (worker : ℕ) → (worker < length works) ⊎ (length works ≤ worker)
        → by_worker worker is.visits
        ≡ entries_to shard (all_visits (slice_index_or works worker []))
    by_position worker (inl within) =
        is.order worker (slice_index_or works worker []) (slice_get-get_or works worker [] within)
    by_position worker (inr past) =
        ap (map (λ v. v.entries))
        (filter_none (λ v. v.worker == worker) is.visits
        (All-weaker (λ v. v.worker < length works) (λ v. (v.worker == worker) ≡ false)
        (λ v h. ne_eqb v.worker worker (λ e. omega (arith, e, h, past))) is.visits is.signed))
        ∙ sym (ap (λ done. entries_to shard (all_visits done)) (get_or_past works worker [] past))

-- all visits were made by workers, if none is another's
all_signed : (workers : ℕ) (visits : List Signed)
    → ((worker : ℕ) → workers ≤ worker → by_worker worker visits ≡ [])
    → All (λ v. v.worker < workers) visits
all_signed workers [] none = All-nil (λ (v : Signed). v.worker < workers)
all_signed workers (v ∷ visits) none =
    All-cons (λ x. x.worker < workers) v visits (here (cases_lt v.worker workers))
    (all_signed workers visits (λ worker past. rest worker past (eqb_tells v.worker worker)))
  where
    here : (v.worker < workers) ⊎ (workers ≤ v.worker) → v.worker < workers
    here (inl h) = h
    here (inr past) = absurd
        (let h : v.entries ∷ by_worker v.worker visits ≡ [] =
        sym (step_yes v.worker v visits (eq-eqb v.worker v.worker refl)) ∙ none v.worker past in cc)

    rest : (worker : ℕ) → workers ≤ worker
        → (((v.worker == worker) ≡ true) × (v.worker ≡ worker))
        ⊎ (((v.worker == worker) ≡ false) × (v.worker ≢ worker)) → by_worker worker visits ≡ []
    rest worker past (inl (b, e)) =
        absurd (let h : v.entries ∷ by_worker worker visits ≡ [] =
        sym (step_yes worker v visits b) ∙ none worker past in cc)
    rest worker past (inr (b, ne)) = sym (step_no worker v visits b) ∙ none worker past

-- the headline holds of what was gathered
pub headline_of : (given : Given) (works : List (List Worked)) (outcome : OutcomeView)
    → IsGathered given works outcome → outcome.totals ≡ sums (all_entries outcome.books)
    → ((shard : ℕ) (book : Book) → slice_get outcome.books shard ≡ Some book → BookKeepsLimits book)
    → ((upload : ℕ) → end_of upload (all_works works) ≡ Undrawn
    → All (λ w. w.upload < upload) (all_works works))
    → Headline given.table given.shards given.uploads works outcome
headline_of given works outcome is totals limits undrawn = record {
  worked = is.each;
  drawn_once = is.once;
  uploads = is.uploads;
  ended = is.ends;
  undrawn = λ upload at. undrawn upload (sym (is.ends upload Undrawn at));
  shards_are = is.shards;
  books = λ shard book at. let b = is.books shard book at in
      (b.its_table, b.its_shard, b.of_shards);
  one_thread = λ shard book at. thread_of given.table shard given.shards works book
      (is.books shard book at);
  occur_once = λ shard book at. occurs_once given works outcome is shard book at;
  legal = λ shard book at. (is.books shard book at).legal;
  totals = gathered_sums given works outcome is totals;
  limits = λ shard book at token. let L : Fares → Type 0 =
      λ t. WindowsKeepLimits t book.entries token in
      subst L (is.books shard book at).its_table ((limits shard book at).windows token);
}

-- what was gathered, of which the headline holds
pub gathered_of : (given : Given) (works : List (List Worked)) (outcome : OutcomeView)
    → Headline given.table given.shards given.uploads works outcome → IsGathered given works outcome
gathered_of given works outcome h = record {
  each = h.worked;
  once = h.drawn_once;
  shards = h.shards_are;
  books = book;
  uploads = h.uploads;
  ends = h.ended;
  workers = h.totals.each;
}
  where
    book : (shard : ℕ) (b : Book) → slice_get outcome.books shard ≡ Some b
        → IsBookOfWork given.table shard given.shards works b
    book shard b at =
        let thread = h.one_thread shard b at in
        let opened = h.books shard b at in
        record {
          visits = thread.visits;
          history = thread.history ∙ sym (joined_visits thread.visits);
          signed = all_signed (length works) thread.visits
              (λ worker past. thread.order worker
              ∙ ap (λ done. entries_to shard (all_visits done)) (get_or_past works worker [] past));
          order = λ worker done there. thread.order worker
              ∙ ap (λ d. entries_to shard (all_visits d))
              (get_or_from_slice_get works worker done [] there);
          its_table = opened.0;
          its_shard = opened.1;
          of_shards = opened.2;
          legal = h.legal shard b at;
        }
