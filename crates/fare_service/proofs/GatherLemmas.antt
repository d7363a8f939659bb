-- Shares are gathered: their ends, books and sums by what their workers did.
use Rattle.std.proofs.Common.{refl, sym, ◌∙◌, ap, inl, inr, subst, arith, eq-eqb, append_assoc}
use Rattle.std.proofs.Common.{append-nil}
use Rattle.fare_service.proofs.GatheredWork.{Given, IsBookOfWork}
use Rattle.fare_service.proofs.{PlainLists.All-flat, ShareLemmas.loads_append}
use Rattle.fare_service.specs.{Closing.IsHistoryOf, Headline.end_of, Runs.entries_of}
use Rattle.fare_service.specs.{ServiceView.ServiceView, ServiceView.shards_of, ShareView.ShareView}
use Rattle.fare_service.specs.Shares.{Worked, all_visits, all_works, done_of, IsWorked, IsWorkOf}
use Rattle.fare_service.specs.Shares.{KeepsWorks, IsShareOf, IsEndOf, loads_of}
use Rattle.fare_service.specs.{declared.service.share.Done.Done, inside.Closing.IsClosedWork}
use Rattle.fare_service.specs.inside.Joining.{with_done, with_all_done, with_runs}
use Rattle.fare_service.specs.inside.Outcomes.{IsOutcome}
use Rattle.fare_service.specs.inside.ServiceView.{IsService, IsBookOf}
use Rattle.histories.specs.{History.IsLegal, Sums.Sums, Sums.sums}
use Rattle.shard_book.specs.Book.{Book, all_entries}
use Rattle.shared_books.specs.Drawing.{AllBelow, NoneTwice, times}
use Rattle.std.proofs.lemmas.{Bool.cases_lt, Bool.Decides.eqb_tells, List.map-append}
use Rattle.std.proofs.lemmas.List.Elements.{All-nil, All-cons, All-head, All-tail, All-append}
use Rattle.std.proofs.lemmas.List.{Elements.All-map, Elements.All-weaker, Sums.sum_by-cons}
use Rattle.std.proofs.lemmas.Slice.Zip.{AllZip-long}
use Rattle.std.specs.{List.flat_map, List.AllZip, Prelude.ℕ, Prelude.zero}
use Rattle.std.specs.Prelude.{suc, ◌≡◌, ◌≢◌, ◌⊎◌, ◌+◌, ◌<◌, ◌≤◌, ◌==◌, true, false, List, [], ◌∷◌}
use Rattle.std.specs.Prelude.{◌++◌, length, map, replicate, slice_set, All, slice_get, Some, cond}
use Rattle.tap_views.specs.declared.upload_end.UploadEnd.{UploadEnd}
use Rattle.tap_views.specs.declared.upload_end.UploadEnd.TheVariants.{Posted, Refused, Cut, Undrawn}
use Rattle.tariffs.specs.Fares.{Fares}
use Rattle.world.specs.{Origins.with_loads, Run.Load, Run.Run, Run.nothing_yet, Run.with_all}

-- what each share keeps
abbrev pub Kept : ServiceView → List ShareView → List (List Worked) → Type 0
Kept service shares works = AllZip (KeepsWorks service) shares works

pub keepings : (service : ServiceView) (shares : List ShareView) → All (IsShareOf service) shares
    → (works : List (List Worked)) × Kept service shares works
keepings service [] all = ([], tt)
keepings service (s ∷ shares) all =
    let first = All-head (IsShareOf service) s shares all in
    let rest = keepings service shares (All-tail (IsShareOf service) s shares all) in
    (first.works ∷ rest.0, (first.keeps, rest.1))

pub all_each : (service : ServiceView) (shares : List ShareView) (works : List (List Worked))
    → Kept service shares works → All (λ done. All (IsWorked service) done) works
all_each service [] [] kept = All-nil (λ done. All (IsWorked service) done)
all_each service [] (w ∷ works) kept = absurd kept
all_each service (s ∷ shares) [] kept = absurd kept
all_each service (s ∷ shares) (w ∷ works) kept =
    All-cons (λ done. All (IsWorked service) done) w works kept.0.each
    (all_each service shares works kept.1)

pub each_work : (given : Given) (works : List (List Worked))
    → All (λ done. All (IsWorkOf given.shards given.uploads) done) works
    → All (IsWorkOf given.shards given.uploads) (all_works works)
each_work given [] all = All-nil (IsWorkOf given.shards given.uploads)
each_work given (w ∷ works) all =
    All-append (IsWorkOf given.shards given.uploads) w (all_works works)
    (All-head (λ done. All (IsWorkOf given.shards given.uploads) done) w works all)
    (each_work given works
    (All-tail (λ done. All (IsWorkOf given.shards given.uploads) done) w works all))

pub drawn_all : (service : ServiceView) (shares : List ShareView) (works : List (List Worked))
    → Kept service shares works
    → flat_map (λ share. share.drawer.drawn) shares ≡ map (λ w. w.upload) (all_works works)
drawn_all service [] [] kept = refl
drawn_all service [] (w ∷ works) kept = absurd kept
drawn_all service (s ∷ shares) [] kept = absurd kept
drawn_all service (s ∷ shares) (w ∷ works) kept =
    ap (λ ds. ds ++ flat_map (λ (share : ShareView). share.drawer.drawn) shares) kept.0.drawn
    ∙ ap (λ ds. map (λ (x : Worked). x.upload) w ++ ds) (drawn_all service shares works kept.1)
    ∙ sym (map-append (λ x. x.upload) w (all_works works))

loads_after : (service : ServiceView) (shares : List ShareView) (works : List (List Worked))
    → Kept service shares works → (before : List Load)
    → with_runs (with_loads nothing_yet before) shares
    ≡ with_loads nothing_yet (before ++ loads_of service.uploads (all_works works))
loads_after service [] [] kept before = ap (with_loads nothing_yet) (sym (append-nil before))
loads_after service [] (w ∷ works) kept before = absurd kept
loads_after service (s ∷ shares) [] kept before = absurd kept
loads_after service (s ∷ shares) (w ∷ works) kept before =
    let own = loads_of service.uploads w in
    let others = loads_of service.uploads (all_works works) in
    ap (λ r. with_runs (with_all (with_loads nothing_yet before) r) shares) kept.0.loads
    ∙ loads_after service shares works kept.1 (before ++ own)
    ∙ ap (with_loads nothing_yet) (append_assoc before own others
    ∙ ap (λ loads. before ++ loads) (sym (loads_append service.uploads w (all_works works))))

-- the calls of all shares are the loads of all works
pub loads_all : (service : ServiceView) (shares : List ShareView) (works : List (List Worked))
    → Kept service shares works
    → with_runs nothing_yet shares
    ≡ with_loads nothing_yet (loads_of service.uploads (all_works works))
loads_all service shares works kept = loads_after service shares works kept []

pub totals_all : (service : ServiceView) (shares : List ShareView) (works : List (List Worked))
    → Kept service shares works
    → map (λ share. share.totals) shares ≡ map (λ done. sums (entries_of (all_visits done))) works
totals_all service [] [] kept = refl
totals_all service [] (w ∷ works) kept = absurd kept
totals_all service (s ∷ shares) [] kept = absurd kept
totals_all service (s ∷ shares) (w ∷ works) kept =
    ap (λ t. t ∷ map (λ (share : ShareView). share.totals) shares) kept.0.totals
    ∙ ap (λ ts. sums (entries_of (all_visits w)) ∷ ts) (totals_all service shares works kept.1)

pub kept_length : (service : ServiceView) (shares : List ShareView) (works : List (List Worked))
    → Kept service shares works → length shares ≡ length works
kept_length service shares works kept = sym (AllZip-long (KeepsWorks service) shares works kept)

kept_at : (service : ServiceView) (shares : List ShareView) (works : List (List Worked))
    (worker : ℕ) (done : List Worked) → Kept service shares works
    → slice_get works worker ≡ Some done
    → (share : ShareView) × (slice_get shares worker ≡ Some share) × KeepsWorks service share done
kept_at service [] [] worker done kept at = absurd (cc)
kept_at service [] (w ∷ works) worker done kept at = absurd kept
kept_at service (s ∷ shares) [] worker done kept at = absurd kept
kept_at service (s ∷ shares) (w ∷ works) zero done kept at =
    let same : w ≡ done = cc in
    let K : List Worked → Type 0 = KeepsWorks service s in
    (s, refl, subst K same kept.0)
kept_at service (s ∷ shares) (w ∷ works) (suc worker) done kept at =
    kept_at service shares works worker done kept.1 at

-- the ends, of what all did
reported-append : (ends : List UploadEnd) (xs ys : List Done)
    → with_done ends (xs ++ ys) ≡ with_done (with_done ends xs) ys
reported-append ends [] ys = refl
reported-append ends (d ∷ xs) ys = reported-append (slice_set ends d.upload d.end) xs ys

reported_works : (service : ServiceView) (ends : List UploadEnd) (shares : List ShareView)
    (works : List (List Worked)) → Kept service shares works
    → with_all_done ends shares ≡ with_done ends (map done_of (all_works works))
reported_works service ends [] [] kept = refl
reported_works service ends [] (w ∷ works) kept = absurd kept
reported_works service ends (s ∷ shares) [] kept = absurd kept
reported_works service ends (s ∷ shares) (w ∷ works) kept =
    ap (λ ds. with_all_done (with_done ends ds) shares) kept.0.done
    ∙ reported_works service (with_done ends (map done_of w)) shares works kept.1
    ∙ sym (reported-append ends (map done_of w) (map done_of (all_works works)))
    ∙ ap (with_done ends) (sym (map-append done_of w (all_works works)))

set_same : (ends : List UploadEnd) (upload : ℕ) (new end : UploadEnd)
    → slice_get (slice_set ends upload new) upload ≡ Some end → end ≡ new
set_same [] upload new end at = absurd (cc)
set_same (e ∷ ends) zero new end at = let h : new ≡ end = cc in sym h
set_same (e ∷ ends) (suc upload) new end at = set_same ends upload new end at

set_other : (ends : List UploadEnd) (upload other : ℕ) (new : UploadEnd) → upload ≢ other
    → slice_get (slice_set ends upload new) other ≡ slice_get ends other
set_other [] upload other new apart = refl
set_other (e ∷ ends) zero zero new apart = absurd (apart refl)
set_other (e ∷ ends) zero (suc other) new apart = refl
set_other (e ∷ ends) (suc upload) zero new apart = refl
set_other (e ∷ ends) (suc upload) (suc other) new apart =
    set_other ends upload other new (λ h. apart (ap suc h))

pub get_replicate : (number upload : ℕ) (end : UploadEnd)
    → slice_get (replicate number Undrawn) upload ≡ Some end → end ≡ Undrawn
get_replicate zero upload end at = absurd (cc)
get_replicate (suc number) zero end at = let h : Undrawn ≡ end = cc in sym h
get_replicate (suc number) (suc upload) end at = get_replicate number upload end at

-- how often an upload was drawn
abbrev pub drawn_times : ℕ → List Worked → ℕ
drawn_times upload works = times upload (map (λ w. w.upload) works)

pub times_same : (w : Worked) (works : List Worked) (upload : ℕ) → (w.upload == upload) ≡ true
    → drawn_times upload (w ∷ works) ≡ 1 + drawn_times upload works
times_same w works upload is =
    sum_by-cons (λ x. cond (x == upload) 1 0) w.upload (map (λ x. x.upload) works)
    ∙ ap (λ b. cond b 1 0 + drawn_times upload works) is

pub times_other : (w : Worked) (works : List Worked) (upload : ℕ) → (w.upload == upload) ≡ false
    → drawn_times upload (w ∷ works) ≡ drawn_times upload works
times_other w works upload is =
    omega (
      arith,
      sum_by-cons (λ x. cond (x == upload) 1 0) w.upload (map (λ x. x.upload) works),
      ap {B = ℕ} (λ b. cond b 1 0) is,
    )

pub end_same : (w : Worked) (works : List Worked) (upload : ℕ) → (w.upload == upload) ≡ true
    → end_of upload (w ∷ works) ≡ w.end
end_same w works upload is = ap (λ b. cond b w.end (end_of upload works)) is

pub end_other : (w : Worked) (works : List Worked) (upload : ℕ) → (w.upload == upload) ≡ false
    → end_of upload (w ∷ works) ≡ end_of upload works
end_other w works upload is = ap (λ b. cond b w.end (end_of upload works)) is

pub fewer_after : (w : Worked) (works : List Worked) → NoneTwice (map (λ x. x.upload) (w ∷ works))
    → NoneTwice (map (λ x. x.upload) works)
fewer_after w works once x = by_test (eqb_tells w.upload x)
  where
    by_test : (((w.upload == x) ≡ true) × (w.upload ≡ x))
        ⊎ (((w.upload == x) ≡ false) × (w.upload ≢ x)) → drawn_times x works ≤ 1
    by_test (inl (is, same)) = omega (arith, once x, times_same w works x is)
    by_test (inr (is, apart)) = omega (arith, once x, times_other w works x is)

-- an upload with its end was not drawn, or it ended as the one that drew it reports
abbrev pub Reported : List UploadEnd → List Worked → ℕ → UploadEnd → Type 0
Reported ends works upload end =
    ((drawn_times upload works ≡ 0) × (slice_get ends upload ≡ Some end))
    ⊎ ((0 < drawn_times upload works) × (end ≡ end_of upload works))

reported_end : (ends : List UploadEnd) (works : List Worked) (upload : ℕ) (end : UploadEnd)
    → NoneTwice (map (λ w. w.upload) works)
    → slice_get (with_done ends (map done_of works)) upload ≡ Some end
    → Reported ends works upload end
reported_end ends [] upload end once at = inl (refl, at)
reported_end ends (w ∷ works) upload end once at =
    by_test (eqb_tells w.upload upload)
    (reported_end (slice_set ends w.upload w.end) works upload end (fewer_after w works once) at)
  where
    by_test : (((w.upload == upload) ≡ true) × (w.upload ≡ upload))
        ⊎ (((w.upload == upload) ≡ false) × (w.upload ≢ upload))
        → Reported (slice_set ends w.upload w.end) works upload end
        → Reported ends (w ∷ works) upload end
    by_test (inl (is, same)) (inl (none, there)) =
        let S : ℕ → Type 0 = λ u. slice_get (slice_set ends u w.end) upload ≡ Some end in
        inr (
          omega (arith, times_same w works upload is),
          set_same ends upload w.end end (subst S same there) ∙ sym (end_same w works upload is),
        )
    by_test (inl (is, same)) (inr (some, ended)) =
        absurd (omega (arith, times_same w works upload is, some, once upload))
    by_test (inr (is, apart)) (inl (none, there)) =
        inl (
          times_other w works upload is ∙ none,
          sym (set_other ends w.upload upload w.end apart)
              ∙ there,
        )
    by_test (inr (is, apart)) (inr (some, ended)) =
        inr (
          omega (arith, times_other w works upload is, some),
          ended
              ∙ sym (end_other w works upload is),
        )

-- an upload that was drawn ended
never_undrawn : (service : ServiceView) (w : Worked) → IsWorked service w → w.end ≢ Undrawn
never_undrawn service w worked = by_end w.end worked.ended
  where
    by_end : (end : UploadEnd)
        → IsEndOf (shards_of service) w.file worked.batches worked.rest w.visits end
        → end ≢ Undrawn
    by_end Undrawn e is = e
    by_end (Posted taps) e is = absurd (cc)
    by_end (Refused taps offset fault) e is = absurd (cc)
    by_end (Cut taps) e is = absurd (cc)

drawn_ended : (service : ServiceView) (works : List Worked) (upload : ℕ)
    → All (IsWorked service) works → 0 < drawn_times upload works → end_of upload works ≢ Undrawn
drawn_ended service [] upload all some = absurd (omega (arith, some))
drawn_ended service (w ∷ works) upload all some =
    by_test (eqb_tells w.upload upload)
    (drawn_ended service works upload (All-tail (IsWorked service) w works all))
  where
    by_test : (((w.upload == upload) ≡ true) × (w.upload ≡ upload))
        ⊎ (((w.upload == upload) ≡ false) × (w.upload ≢ upload))
        → (0 < drawn_times upload works → end_of upload works ≢ Undrawn)
        → end_of upload (w ∷ works) ≢ Undrawn
    by_test (inl (is, same)) rest e =
        never_undrawn service w (All-head (IsWorked service) w works all)
        (sym (end_same w works upload is) ∙ e)
    by_test (inr (is, apart)) rest e =
        rest (omega (arith, some, times_other w works upload is))
        (sym (end_other w works upload is) ∙ e)

pub not_drawn : (works : List Worked) (upload : ℕ) → drawn_times upload works ≡ 0
    → end_of upload works ≡ Undrawn
not_drawn [] upload none = refl
not_drawn (w ∷ works) upload none = by_test (eqb_tells w.upload upload) (not_drawn works upload)
  where
    by_test : (((w.upload == upload) ≡ true) × (w.upload ≡ upload))
        ⊎ (((w.upload == upload) ≡ false) × (w.upload ≢ upload))
        → (drawn_times upload works ≡ 0 → end_of upload works ≡ Undrawn)
        → end_of upload (w ∷ works) ≡ Undrawn
    by_test (inl (is, same)) rest = absurd (omega (arith, none, times_same w works upload is))
    by_test (inr (is, apart)) rest =
        end_other w works upload is ∙ rest (omega (arith, none, times_other w works upload is))

-- the ends that the shares report
pub ends_reported : (service : ServiceView) (shares : List ShareView) (works : List (List Worked))
    → Kept service shares works → NoneTwice (map (λ w. w.upload) (all_works works))
    → (ends : List UploadEnd)
    → ends ≡ with_all_done (replicate (length service.uploads) Undrawn) shares
    → (upload : ℕ) (end : UploadEnd) → slice_get ends upload ≡ Some end
    → Reported (replicate (length service.uploads) Undrawn) (all_works works) upload end
ends_reported service shares works kept once ends are upload end at =
    let G : List UploadEnd → Type 0 = λ es. slice_get es upload ≡ Some end in
    reported_end (replicate (length service.uploads) Undrawn) (all_works works) upload end once
    (subst G (are ∙ reported_works service (replicate (length service.uploads) Undrawn) shares works
    kept) at)

pub book_of_work : (service : ServiceView) → IsService service
    → (shares : List ShareView) (works : List (List Worked)) → Kept service shares works
    → (shard : ℕ) (book : Book) → IsHistoryOf service.books shares shard book
    → IsBookOfWork service.table shard (shards_of service) works book
book_of_work service is shares works kept shard book h =
    let opened : IsBookOf service.table shard (shards_of service) h.shared =
    is.books shard h.shared h.at in
    let L : Fares → Type 0 = λ t. IsLegal t book.entries in
    record {
      visits = h.visits;
      history = h.history;
      signed = All-weaker (λ v. v.worker < length shares) (λ v. v.worker < length works)
          (λ v p. omega (arith, p, kept_length service shares works kept)) h.visits h.signed;
      order = λ worker done at. let k = kept_at service shares works worker done kept at in
          h.order worker k.0 k.1 ∙ k.2.visits shard;
      its_table = h.table ∙ opened.its_table;
      its_shard = h.its_shard ∙ opened.its_shard;
      of_shards = h.of_shards ∙ opened.of_shards;
      legal = subst L (h.table ∙ opened.its_table) h.legal;
    }

pub reported_undrawn : (service : ServiceView) (shares : List ShareView)
    → All (IsShareOf service) shares → (closed : List Book)
    → IsClosedWork service.books shares closed
    → (ends : List UploadEnd)
    → ends ≡ with_all_done (replicate (length service.uploads) Undrawn) shares
    → length ends ≡ length service.uploads
    → (upload : ℕ) → slice_get ends upload ≡ Some Undrawn
    → All (λ share. share.drawer.seen ≤ upload) shares
reported_undrawn service shares all closed work ends are number upload at =
    let k = keepings service shares all in
    let D : List ℕ → Type 0 = NoneTwice in
    let once = subst D (drawn_all service shares k.0 k.1) work.once in
    by_reported k.0 k.1 (ends_reported service shares k.0 k.1 once ends are upload Undrawn at)
  where
    by_reported : (works : List (List Worked)) → Kept service shares works
        → Reported (replicate (length service.uploads) Undrawn) (all_works works) upload Undrawn
        → All (λ share. share.drawer.seen ≤ upload) shares
    by_reported works kept (inl (none, there)) =
        work.undrawn upload (ap (times upload) (drawn_all service shares works kept) ∙ none)
    by_reported works kept (inr (some, e)) =
        absurd (drawn_ended service (all_works works) upload
        (All-flat (IsWorked service) works (all_each service shares works kept)) some (sym e))

-- uploads below a number
all_below : (works : List Worked) (n : ℕ) → AllBelow n (map (λ w. w.upload) works)
    → All (λ w. w.upload < n) works
all_below [] n below = All-nil (λ (w : Worked). w.upload < n)
all_below (w ∷ works) n below =
    All-cons (λ x. x.upload < n) w works (here (cases_lt w.upload n)) (all_below works n rest)
  where
    here : (w.upload < n) ⊎ (n ≤ w.upload) → w.upload < n
    here (inl h) = h
    here (inr h) = absurd
        (omega (
          arith,
          below w.upload h,
          times_same w works w.upload (eq-eqb w.upload w.upload refl),
        ))

    rest : AllBelow n (map (λ x. x.upload) works)
    rest x above = omega (
      arith,
      below x above,
      sum_by-cons (λ u. cond (u == x) 1 0) w.upload (map (λ (y : Worked). y.upload) works),
    )

-- the uploads that nobody drew are the last ones
pub undrawn_last : (service : ServiceView) (shares : List ShareView) (works : List (List Worked))
    → Kept service shares works → (closed : List Book) → IsClosedWork service.books shares closed
    → (upload : ℕ) → end_of upload (all_works works) ≡ Undrawn
    → All (λ w. w.upload < upload) (all_works works)
undrawn_last service shares works kept closed work upload ended =
    by_times (cases_lt 0 (drawn_times upload (all_works works)))
  where
    by_times : (0 < drawn_times upload (all_works works))
        ⊎ (drawn_times upload (all_works works) ≤ 0)
        → All (λ w. w.upload < upload) (all_works works)
    by_times (inl some) =
        absurd (drawn_ended service (all_works works) upload
        (All-flat (IsWorked service) works (all_each service shares works kept)) some ended)
    by_times (inr few) =
        let none : times upload (flat_map (λ share. share.drawer.drawn) shares) ≡ 0 =
        ap (times upload) (drawn_all service shares works kept) ∙ omega (arith, few) in
        let B : List ℕ → Type 0 = AllBelow upload in
        all_below (all_works works) upload
        (subst B (drawn_all service shares works kept) (work.last upload none))

-- what always holds of an outcome holds
pub is_outcome : (service : ServiceView) → IsService service
    → (shares : List ShareView) (closed : List Book) → IsClosedWork service.books shares closed
    → (ends : List UploadEnd) → length ends ≡ length service.uploads
    → (workers : List Sums) (totals : Sums) (run : Run) → totals ≡ sums (all_entries closed)
    → IsOutcome (record {
      books = closed;
      ends = ends;
      workers = workers;
      totals = totals;
      run = run;
    })
is_outcome service is shares closed work ends number workers totals run of_books = record {
  some_shard = omega (arith, work.number, is.some_shard);
  few_shards = omega (arith, work.number, is.few_shards);
  shards = λ shard book at. let h = work.books shard book at in
      h.of_shards ∙ (is.books shard h.shared h.at).of_shards ∙ sym work.number;
  few_uploads = omega (arith, number, is.few_uploads);
  of_books = of_books;
}

-- each share's uploads are uploads of the service
pub done_within : (service : ServiceView) (uploads : ℕ) (shares : List ShareView)
    → length service.uploads ≡ uploads → All (IsShareOf service) shares
    → All (λ share. All (λ d. d.upload < uploads) share.done) shares
done_within service uploads shares number all =
    All-weaker (IsShareOf service) (λ share. All (λ d. d.upload < uploads) share.done)
    (λ s h. of_share s h) shares all
  where
    of_share : (s : ShareView) → IsShareOf service s → All (λ d. d.upload < uploads) s.done
    of_share s h =
        let P : List Done → Type 0 = All (λ d. d.upload < uploads) in
        subst P (sym h.keeps.done)
        (All-map (λ d. d.upload < uploads) done_of h.works
        (All-weaker (IsWorked service) (λ w. w.upload < uploads)
        (λ w q. omega (arith, q.within, number)) h.works h.keeps.each))
