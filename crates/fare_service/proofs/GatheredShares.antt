-- Shares are gathered: what their workers did is an outcome of files, with which the uploads were
-- lent.
use Rattle.std.proofs.Common.{refl, sym, ◌∙◌, ap, inl, inr, subst}
use Rattle.fare_service.proofs.GatherLemmas.{Reported, all_each, book_of_work, drawn_all}
use Rattle.fare_service.proofs.GatherLemmas.{ends_reported, get_replicate, keepings, kept_length}
use Rattle.fare_service.proofs.GatherLemmas.{not_drawn, totals_all}
use Rattle.fare_service.proofs.GatheredWork.{given_of, IsGathered}
use Rattle.fare_service.proofs.PlainLists.{All-flat, flat-All}
use Rattle.fare_service.proofs.UploadFileSource.{upload_file_source, provided_number}
use Rattle.fare_service.specs.Headline.{end_of, HasOutcome, HasRunOver, loads_at}
use Rattle.fare_service.specs.{Lending.AreProvidedAs, Lending.origin_at, Outcomes.OutcomeView}
use Rattle.fare_service.specs.{ServiceView.ServiceView, ServiceView.shards_of, ShareView.ShareView}
use Rattle.fare_service.specs.Shares.{Worked, all_works, IsShareOf, IsWorked, IsWorkOf, KeepsWorks}
use Rattle.fare_service.specs.{Shares.file_at, Shares.loads_of, inside.Closing.IsClosedWork}
use Rattle.fare_service.specs.inside.{Joining.with_all_done, ServiceView.IsService}
use Rattle.histories.specs.Sums.{Sums}
use Rattle.shard_book.specs.Book.{Book}
use Rattle.shared_books.specs.Drawing.{NoneTwice}
use Rattle.std.proofs.lemmas.List.Elements.{All-head, All-map, All-tail}
use Rattle.std.specs.{List.AllZip, List.flat_map, Prelude.ℕ}
use Rattle.std.specs.Prelude.{◌≡◌, List, [], ◌∷◌, ◌++◌, length, map, replicate, All, slice_index_or}
use Rattle.tap_views.specs.declared.upload_end.UploadEnd.{UploadEnd, TheVariants.Undrawn}
use Rattle.world.specs.Origins.{Origin, IsFrom, loads_from, with_loads}
use Rattle.world.specs.Run.{Run, nothing_yet}

-- what was gathered of shares, by what each keeps
pub record HasGathered (service : ServiceView) (shares : List ShareView) (outcome : OutcomeView)
    : Type 0 where
  pub files : List (List ℕ)
  pub provided : AreProvidedAs service.uploads files
  pub works : List (List Worked)
  pub kept : AllZip (KeepsWorks service) shares works
  pub gathered : IsGathered (given_of service files) works outcome

pub has_gathered : (service : ServiceView) → IsService service → (shares : List ShareView)
    → All (IsShareOf service) shares → (closed : List Book)
    → IsClosedWork service.books shares closed
    → (ends : List UploadEnd)
    → ends ≡ with_all_done (replicate (length service.uploads) Undrawn) shares
    → length ends ≡ length service.uploads
    → (workers : List Sums) → workers ≡ map (λ share. share.totals) shares → (totals : Sums)
    (run : Run)
    → HasGathered service shares (record {
      books = closed;
      ends = ends;
      workers = workers;
      totals = totals;
      run = run;
    })
has_gathered service is shares all closed work ends are number workers sums_are totals run =
    let k = keepings service shares all in
    let D : List ℕ → Type 0 = NoneTwice in
    let once = subst D (drawn_all service shares k.0 k.1) work.once in
    let provided = upload_file_source service (all_works k.0)
    (All-flat (IsWorked service) k.0 (all_each service shares k.0 k.1)) once in
    record {
      files = provided.files;
      provided = provided.provided;
      works = k.0;
      kept = k.1;
      gathered = record {
        each = flat-All (IsWorkOf (shards_of service) provided.files) k.0 provided.each;
        once = once;
        shards = work.number;
        books = λ shard book at. book_of_work service is shares k.0 k.1 shard book
            (work.books shard book at);
        uploads = number ∙ sym (provided_number service.uploads provided.files provided.provided);
        ends = λ upload end at. by_reported k.0 upload end
            (ends_reported service shares k.0 k.1 once ends are upload end at);
        workers = sums_are ∙ totals_all service shares k.0 k.1;
      };
    }
  where
    by_reported : (works : List (List Worked)) (upload : ℕ) (end : UploadEnd)
        → Reported (replicate (length service.uploads) Undrawn) (all_works works) upload end
        → end ≡ end_of upload (all_works works)
    by_reported works upload end (inl (none, there)) =
        get_replicate (length service.uploads) upload end there
        ∙ sym (not_drawn (all_works works) upload none)
    by_reported works upload end (inr (some, e)) = e

-- the loads of works are those of their files
loads_drawn : (uploads : List Origin) (files : List (List ℕ)) (works : List Worked)
    → All (λ w. w.file ≡ file_at files w.upload) works
    → loads_of uploads works ≡ flat_map (loads_at uploads files) (map (λ w. w.upload) works)
loads_drawn uploads files [] provided = refl
loads_drawn uploads files (w ∷ works) provided =
    let P : Worked → Type 0 = λ x. x.file ≡ file_at files x.upload in
    ap (λ f. loads_from (origin_at uploads w.upload) f ++ loads_of uploads works)
    (All-head P w works provided)
    ∙ ap (λ loads. loads_at uploads files w.upload ++ loads)
    (loads_drawn uploads files works (All-tail P w works provided))

-- a run of this number of workers was gathered
pub has_run : (service : ServiceView) (shares : List ShareView) (workers : ℕ)
    (outcome : OutcomeView) → length shares ≡ workers → HasOutcome service shares outcome
    → HasRunOver service.table (shards_of service) service.uploads workers outcome
has_run service shares workers outcome number is = record {
  files = is.files;
  provided = is.provided;
  run = (is.works, sym (kept_length service shares is.works is.kept) ∙ number, is.headline);
  loaded = record {
    from = All-map (λ upload. IsFrom (origin_at service.uploads upload) (file_at is.files upload))
        (λ w. w.upload) works
        (λ k d few. from (slice_index_or works k d) (each k d few) (of k d few).provided);
    loads = is.loads ∙ ap (with_loads nothing_yet)
        (loads_drawn service.uploads is.files works (λ k d few. (of k d few).provided));
  };
}
  where
    works : List Worked
    works = all_works is.works

    each : All (IsWorked service) works
    each = All-flat (IsWorked service) is.works (all_each service shares is.works is.kept)

    of : All (IsWorkOf (shards_of service) is.files) works
    of = All-flat (IsWorkOf (shards_of service) is.files) is.works is.headline.worked

    from : (w : Worked) → IsWorked service w → w.file ≡ file_at is.files w.upload
        → IsFrom (origin_at service.uploads w.upload) (file_at is.files w.upload)
    from w worked provided =
        subst (IsFrom (origin_at service.uploads w.upload)) provided worked.from
