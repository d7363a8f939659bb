-- For which tap each entry of a book stands.
use Rattle.std.proofs.Common.{refl, sym, ◌∙◌, ap, inl, inr, subst, arith, get_or, eq-eqb, ne_eqb}
use Rattle.fare_service.proofs.GatherLemmas.{drawn_times, times_same, each_work}
use Rattle.fare_service.proofs.GatheredWork.{Given, IsBookOfWork, IsGathered}
use Rattle.fare_service.proofs.OwnVisits.{IsOwnVisit, own_worked, shard_taps, works_on, no_works_on}
use Rattle.fare_service.proofs.OwnVisits.{end_posted, filter_none}
use Rattle.fare_service.proofs.Signing.{step_no, step_yes}
use Rattle.fare_service.specs.{Headline.Signed, Headline.by_worker, Outcomes.OutcomeView}
use Rattle.fare_service.specs.Placing.{Origin, of_upload, posted_of, OccurOnce, WerePostedOf}
use Rattle.fare_service.specs.Runs.{RunVisit, IsEntered, entries_to}
use Rattle.fare_service.specs.Shares.{Worked, all_visits, IsWorkOf, all_works, file_at}
use Rattle.fare_service.specs.inside.Runs.{visits_to}
use Rattle.histories.specs.{Entry.IsEntryOf, declared.entry.Entry.Entry}
use Rattle.shard_book.specs.Book.{Book}
use Rattle.shared_books.specs.{Drawing.times, Marks.history_of_visits}
use Rattle.std.proofs.lemmas.Bool.{cases_lt, cases_Bool, Decides.eqb_tells}
use Rattle.std.proofs.lemmas.List.{map-append, length-map, nil_from_length, get_or_past}
use Rattle.std.proofs.lemmas.List.Elements.{All-nil, All-cons, All-head, All-tail, All-append}
use Rattle.std.proofs.lemmas.List.Elements.{All-filter, All-weaker, All-map, filter-append}
use Rattle.std.proofs.lemmas.List.{Folds.flat_map-map, Sums.sum_by-append, Sums.sum_by-cons}
use Rattle.std.proofs.lemmas.Option.{slice_get-get_or}
use Rattle.std.specs.List.{flat_map, AllZip}
use Rattle.std.specs.Prelude.{ℕ, zero, suc, ◌≡◌, ◌≢◌, ◌⊎◌, ◌+◌, ◌<◌, ◌≤◌, ◌==◌, Bool, true, false}
use Rattle.std.specs.Prelude.{cond, List, [], ◌∷◌, ◌++◌, length, map, filter, All, slice_get, Some}
use Rattle.tap_views.proofs.Lists.{filter-filter, AllZip-append}
use Rattle.tap_views.specs.{Layout.Tap, Shards.run_of, declared.upload_end.UploadEnd.UploadEnd}

-- a visit, and the upload of its taps
record Labeled : Type 0 where
  upload : ℕ
  visit : RunVisit

abbrev label : ℕ → RunVisit → Labeled
label upload visit = record { upload = upload; visit = visit }

abbrev entries_made : Labeled → List Entry
entries_made x = x.visit.entries

abbrev labeled : List Worked → List Labeled
labeled done = flat_map (λ w. map (label w.upload) w.visits) done

abbrev to_shard : ℕ → List Worked → List Labeled
to_shard shard done = filter (λ x. x.visit.shard == shard) (labeled done)

abbrev works_at : ℕ → List (List Worked) → List Worked
works_at worker works = get_or works worker []

map-map : {X Y Z : Type 0} (g : Y → Z) (f : X → Y) (xs : List X)
    → map g (map f xs) ≡ map (λ x. g (f x)) xs
map-map g f [] = refl
map-map g f (x ∷ xs) = ap (λ ys. g (f x) ∷ ys) (map-map g f xs)

kept_map : {X Y : Type 0} (f : X → Y) (b : Bool) (x : X) (xs : List X)
    → cond b (f x ∷ map f xs) (map f xs) ≡ map f (cond b (x ∷ xs) xs)
kept_map f true x xs = refl
kept_map f false x xs = refl

pub filter-map : {X Y : Type 0} (p : Y → Bool) (f : X → Y) (xs : List X)
    → filter p (map f xs) ≡ map f (filter (λ x. p (f x)) xs)
filter-map p f [] = refl
filter-map p f (x ∷ xs) =
    ap (λ ys. cond (p (f x)) (f x ∷ ys) ys) (filter-map p f xs)
    ∙ kept_map f (p (f x)) x (filter (λ y. p (f y)) xs)

-- the visits without their labels
unlabeled : (done : List Worked) → map (λ x. x.visit) (labeled done) ≡ all_visits done
unlabeled [] = refl
unlabeled (w ∷ done) =
    map-append (λ (x : Labeled). x.visit) (map (label w.upload) w.visits) (labeled done)
    ∙ (ap (λ vs. vs ++ map (λ (x : Labeled). x.visit) (labeled done))
    (map-map (λ (x : Labeled). x.visit) (label w.upload) w.visits ∙ same w.visits)
    ∙ ap (λ vs. w.visits ++ vs) (unlabeled done))
  where
    same : (vs : List RunVisit) → map (λ v. v) vs ≡ vs
    same [] = refl
    same (v ∷ vs) = ap (λ ws. v ∷ ws) (same vs)

unlabeled_to : (shard : ℕ) (done : List Worked)
    → map (λ x. x.visit) (to_shard shard done) ≡ visits_to shard (all_visits done)
unlabeled_to shard done =
    sym (filter-map (λ v. v.shard == shard) (λ (x : Labeled). x.visit) (labeled done))
    ∙ ap (filter (λ v. v.shard == shard)) (unlabeled done)

entries_are : (shard : ℕ) (done : List Worked)
    → map entries_made (to_shard shard done) ≡ entries_to shard (all_visits done)
entries_are shard done =
    sym (map-map (λ (v : RunVisit). v.entries) (λ (x : Labeled). x.visit) (to_shard shard done))
    ∙ ap (map (λ v. v.entries)) (unlabeled_to shard done)

-- how often an upload was drawn, by the one and the others
drawn-append : (upload : ℕ) (xs ys : List Worked)
    → drawn_times upload (xs ++ ys) ≡ drawn_times upload xs + drawn_times upload ys
drawn-append upload xs ys =
    ap (times upload) (map-append (λ (w : Worked). w.upload) xs ys)
    ∙ sum_by-append (λ x. cond (x == upload) 1 0) (map (λ (w : Worked). w.upload) xs)
    (map (λ (w : Worked). w.upload) ys)

drawn_at : (upload worker : ℕ) (works : List (List Worked))
    → drawn_times upload (works_at worker works) ≤ drawn_times upload (all_works works)
drawn_at upload worker [] = omega arith
drawn_at upload zero (done ∷ works) = omega (arith, drawn-append upload done (all_works works))
drawn_at upload (suc worker) (done ∷ works) =
    omega (arith, drawn-append upload done (all_works works), drawn_at upload worker works)

-- the only worker that drew an upload
record IsSole (upload : ℕ) (works : List (List Worked)) : Type 0 where
  worker : ℕ
  only : (w : ℕ) → 0 < drawn_times upload (works_at w works) → w ≡ worker
  found : works_on upload (all_works works) ≡ works_on upload (works_at worker works)

sole : (upload : ℕ) (works : List (List Worked)) → drawn_times upload (all_works works) ≤ 1
    → IsSole upload works
sole upload [] once =
    record { worker = 0; only = λ w some. absurd (omega (arith, some)); found = refl }
sole upload (done ∷ works) once =
    by_count (cases_lt 0 (drawn_times upload done))
    (sole upload works (omega (arith, once, drawn-append upload done (all_works works))))
  where
    both : works_on upload (done ++ all_works works)
        ≡ works_on upload done ++ works_on upload (all_works works)
    both = filter-append (λ w. w.upload == upload) done (all_works works)

    by_count : (0 < drawn_times upload done) ⊎ (drawn_times upload done ≤ 0) → IsSole upload works
        → IsSole upload (done ∷ works)
    by_count (inl some) rest =
        record {
          worker = 0;
          only = only;
          found =
              both ∙ (ap (λ ws. works_on upload done ++ ws)
              (no_works_on upload (all_works works) none)
              ∙ nothing (works_on upload done));
        }
      where
        none : drawn_times upload (all_works works) ≡ 0
        none = omega (arith, once, drawn-append upload done (all_works works), some)

        nothing : (ws : List Worked) → ws ++ [] ≡ ws
        nothing [] = refl
        nothing (w ∷ ws) = ap (λ xs. w ∷ xs) (nothing ws)

        only : (w : ℕ) → 0 < drawn_times upload (works_at w (done ∷ works)) → w ≡ 0
        only zero h = refl
        only (suc w) h = absurd (omega (arith, h, drawn_at upload w works, none))
    by_count (inr few) rest =
        let none : drawn_times upload done ≡ 0 = omega (arith, few) in
        record {
          worker = suc rest.worker;
          only = only;
          found =
              both ∙ (ap (λ ws. ws ++ works_on upload (all_works works))
              (no_works_on upload done none) ∙ rest.found);
        }
      where
        only : (w : ℕ) → 0 < drawn_times upload (works_at w (done ∷ works)) → w ≡ suc rest.worker
        only zero h = absurd (omega (arith, h, few))
        only (suc w) h = ap suc (rest.only w h)

-- what is known of a labelled visit of a worker
record IsMade (given : Given) (works : List (List Worked)) (worker : ℕ) (x : Labeled) : Type
    0 where
  entered : IsEntered given.shards x.visit
  within : x.upload < length given.uploads
  drawn : 0 < drawn_times x.upload (works_at worker works)

drawn_there : (done : List Worked) → All (λ w. 0 < drawn_times w.upload done) done
drawn_there [] = All-nil (λ (w : Worked). 0 < drawn_times w.upload [])
drawn_there (w ∷ done) =
    All-cons (λ x. 0 < drawn_times x.upload (w ∷ done)) w done
    (omega (arith, times_same w done w.upload (eq-eqb w.upload w.upload refl)))
    (All-weaker (λ x. 0 < drawn_times x.upload done) (λ x. 0 < drawn_times x.upload (w ∷ done))
    (λ x h. omega (
      arith,
      h,
      sum_by-cons (λ u. cond (u == x.upload) 1 0) w.upload
          (map (λ (y : Worked). y.upload) done),
    )) done (drawn_there done))

labeled_all : (Q : Labeled → Type 0) (done : List Worked)
    → All (λ w. All (λ v. Q (label w.upload v)) w.visits) done → All Q (labeled done)
labeled_all Q [] all = All-nil Q
labeled_all Q (w ∷ done) all =
    All-append Q (map (label w.upload) w.visits) (labeled done)
    (All-map Q (label w.upload) w.visits
    (All-head (λ x. All (λ v. Q (label x.upload v)) x.visits) w done all))
    (labeled_all Q done (All-tail (λ x. All (λ v. Q (label x.upload v)) x.visits) w done all))

both_all : {X : Type 0} (P Q : X → Type 0) (xs : List X) → All P xs → All Q xs
    → All (λ x. P x × Q x) xs
both_all P Q [] p q = All-nil (λ x. P x × Q x)
both_all P Q (x ∷ xs) p q =
    All-cons (λ y. P y × Q y) x xs (All-head P x xs p, All-head Q x xs q)
    (both_all P Q xs (All-tail P x xs p) (All-tail Q x xs q))

each_at : (given : Given) (works : List (List Worked))
    → All (λ done. All (IsWorkOf given.shards given.uploads) done) works → (worker : ℕ)
    → All (IsWorkOf given.shards given.uploads) (works_at worker works)
each_at given [] all worker = All-nil (IsWorkOf given.shards given.uploads)
each_at given (done ∷ works) all zero =
    All-head (λ d. All (IsWorkOf given.shards given.uploads) d) done works all
each_at given (done ∷ works) all (suc worker) =
    each_at given works (All-tail (λ d. All (IsWorkOf given.shards given.uploads) d) done works all)
    worker

all_made : (given : Given) (works : List (List Worked))
    → All (λ done. All (IsWorkOf given.shards given.uploads) done) works → (shard worker : ℕ)
    → All (IsMade given works worker) (to_shard shard (works_at worker works))
all_made given works each shard worker =
    let done = works_at worker works in
    All-filter (λ x. x.visit.shard == shard) (IsMade given works worker) (labeled done)
    (labeled_all (IsMade given works worker) done
    (All-weaker
    (λ w. IsWorkOf given.shards given.uploads w
    × (0 < drawn_times w.upload (works_at worker works)))
    (λ w. All (λ v. IsMade given works worker (label w.upload v)) w.visits) of_work done
    (both_all (IsWorkOf given.shards given.uploads)
    (λ w. 0 < drawn_times w.upload (works_at worker works)) done (each_at given works each worker)
    (drawn_there done))))
  where
    of_work : (w : Worked)
        → (IsWorkOf given.shards given.uploads w
        × (0 < drawn_times w.upload (works_at worker works)))
        → All (λ v. IsMade given works worker (label w.upload v)) w.visits
    of_work w (is, drawn) =
        All-weaker (IsEntered given.shards) (λ v. IsMade given works worker (label w.upload v))
        (λ v e. record { entered = e; within = is.within; drawn = drawn }) w.visits is.entered

-- the entry has the fields of the tap's bytes
abbrev IsEntryOfOrigin : Origin → Entry → Type 0
IsEntryOfOrigin origin entry = IsEntryOf origin.tap entry

-- the taps of a visit, each with its upload
abbrev origins_of : Labeled → List Origin
origins_of x = map (λ p. record { upload = x.upload; tap = p }) x.visit.taps

origin_fields : (upload : ℕ) (taps : List Tap) (entries : List Entry)
    → AllZip IsEntryOf taps entries
    → AllZip IsEntryOfOrigin (map (λ p. record { upload = upload; tap = p }) taps) entries
origin_fields upload [] [] h = tt
origin_fields upload [] (e ∷ entries) h = absurd h
origin_fields upload (p ∷ taps) [] h = absurd h
origin_fields upload (p ∷ taps) (e ∷ entries) h = (h.0, origin_fields upload taps entries h.1)

-- the taps of one upload among a visit's
origin_yes : (upload from : ℕ) (taps : List Tap) → (from == upload) ≡ true
    → of_upload upload (map (λ p. record { upload = from; tap = p }) taps) ≡ taps
origin_yes upload from [] b = refl
origin_yes upload from (p ∷ taps) b =
    let more : List Origin =
    filter (λ o. o.upload == upload) (map (λ q. record { upload = from; tap = q }) taps) in
    ap (λ t. map (λ (o : Origin). o.tap)
    (cond t (record { upload = from; tap = p } ∷ more) more)) b
    ∙ ap (λ ts. p ∷ ts) (origin_yes upload from taps b)

origin_no : (upload from : ℕ) (taps : List Tap) → (from == upload) ≡ false
    → of_upload upload (map (λ p. record { upload = from; tap = p }) taps) ≡ []
origin_no upload from [] b = refl
origin_no upload from (p ∷ taps) b =
    let more : List Origin =
    filter (λ o. o.upload == upload) (map (λ q. record { upload = from; tap = q }) taps) in
    ap (λ t. map (λ (o : Origin). o.tap)
    (cond t (record { upload = from; tap = p } ∷ more) more)) b
    ∙ origin_no upload from taps b

of_upload-append : (upload : ℕ) (xs ys : List Origin)
    → of_upload upload (xs ++ ys) ≡ of_upload upload xs ++ of_upload upload ys
of_upload-append upload xs ys =
    ap (map (λ (o : Origin). o.tap)) (filter-append (λ o. o.upload == upload) xs ys)
    ∙ map-append (λ (o : Origin). o.tap) (filter (λ o. o.upload == upload) xs)
    (filter (λ o. o.upload == upload) ys)

-- the taps of one upload among those of labelled visits
abbrev taps_for : ℕ → List Labeled → List Tap
taps_for upload xs = flat_map (λ x. x.visit.taps) (filter (λ x. x.upload == upload) xs)

-- The signed visits of a book, as origins: of each upload those of the worker that drew it.
record IsSpread (visits : List Signed) (drawer : ℕ → ℕ) (left : ℕ → List Labeled) : Type 0 where
  origins : List Origin
  fields : AllZip IsEntryOfOrigin origins (history_of_visits (map (λ v. v.entries) visits))
  exactly : (upload : ℕ) → of_upload upload origins ≡ taps_for upload (left (drawer upload))

module _ (given : Given) (works : List (List Worked)) (drawer : ℕ → ℕ)
    (only : (upload w : ℕ) → 0 < drawn_times upload (works_at w works) → w ≡ drawer upload) where
  spread : (visits : List Signed) (left : ℕ → List Labeled)
      → ((w : ℕ) → by_worker w visits ≡ map entries_made (left w))
      → ((w : ℕ) → All (IsMade given works w) (left w)) → IsSpread visits drawer left
  spread [] left same all = record {
    origins = [];
    fields = tt;
    exactly = λ upload. sym (ap (taps_for upload)
        (nil_from_length (left (drawer upload))
        (sym (length-map (left (drawer upload)) entries_made)
        ∙ ap length (sym (same (drawer upload))))));
  }
  spread (v ∷ visits) left same all =
      next (λ l s a. spread visits l s a) (left v.worker) refl
    where
      next : ((l : ℕ → List Labeled) → ((w : ℕ) → by_worker w visits ≡ map entries_made (l w))
          → ((w : ℕ) → All (IsMade given works w) (l w)) → IsSpread visits drawer l)
          → (xs : List Labeled) → left v.worker ≡ xs → IsSpread (v ∷ visits) drawer left
      next go [] e =
          absurd (let h : v.entries ∷ by_worker v.worker visits ≡ [] =
          sym (step_yes v.worker v visits (eq-eqb v.worker v.worker refl))
          ∙ (same v.worker ∙ ap (map entries_made) e) in cc)
      next go (x ∷ xs) e = record {
        origins = origins_of x ++ rest.origins;
        fields = AllZip-append IsEntryOfOrigin (origins_of x) v.entries rest.origins
            (history_of_visits (map (λ z. z.entries) visits))
            (origin_fields x.upload x.visit.taps v.entries
            (subst F (sym here) (All-head (IsMade given works v.worker) x xs first).entered.fields))
            rest.fields;
        exactly = λ upload. of_upload-append upload (origins_of x) rest.origins
            ∙ exactly upload (eqb_tells v.worker (drawer upload)) (eqb_tells x.upload upload);
      }
        where
          first : All (IsMade given works v.worker) (x ∷ xs)
          first = let A : List Labeled → Type 0 = All (IsMade given works v.worker) in
              subst A e (all v.worker)

          F : List Entry → Type 0
          F es = AllZip IsEntryOf x.visit.taps es

          begins : v.entries ∷ by_worker v.worker visits ≡ entries_made x ∷ map entries_made xs
          begins = sym (step_yes v.worker v visits (eq-eqb v.worker v.worker refl))
              ∙ (same v.worker ∙ ap (map entries_made) e)

          here : v.entries ≡ entries_made x
          here = cc begins

          then : by_worker v.worker visits ≡ map entries_made xs
          then = cc begins

          later : (w : ℕ) → (((v.worker == w) ≡ true) × (v.worker ≡ w))
              ⊎ (((v.worker == w) ≡ false) × (v.worker ≢ w))
              → by_worker w visits ≡ map entries_made (cond (v.worker == w) xs (left w))
          later w (inl (b, k)) =
              sym (ap (λ n. by_worker n visits) k)
              ∙ (then ∙ sym (ap (λ t. map entries_made (cond t xs (left w))) b))
          later w (inr (b, k)) =
              sym (step_no w v visits b)
              ∙ (same w ∙ sym (ap (λ t. map entries_made (cond t xs (left w))) b))

          each : (w : ℕ) → (((v.worker == w) ≡ true) × (v.worker ≡ w))
              ⊎ (((v.worker == w) ≡ false) × (v.worker ≢ w))
              → All (IsMade given works w) (cond (v.worker == w) xs (left w))
          each w (inl (b, k)) =
              let A : Bool → Type 0 = λ t. All (IsMade given works w) (cond t xs (left w)) in
              let N : ℕ → Type 0 = λ n. All (IsMade given works n) xs in
              subst A (sym b) (subst N k (All-tail (IsMade given works v.worker) x xs first))
          each w (inr (b, k)) =
              let A : Bool → Type 0 = λ t. All (IsMade given works w) (cond t xs (left w)) in
              subst A (sym b) (all w)

          rest : IsSpread visits drawer (λ w. cond (v.worker == w) xs (left w))
          rest = go (λ w. cond (v.worker == w) xs (left w))
              (λ w. later w (eqb_tells v.worker w)) (λ w. each w (eqb_tells v.worker w))

          exactly : (upload : ℕ)
              → (((v.worker == drawer upload) ≡ true) × (v.worker ≡ drawer upload))
              ⊎ (((v.worker == drawer upload) ≡ false) × (v.worker ≢ drawer upload))
              → (((x.upload == upload) ≡ true) × (x.upload ≡ upload))
              ⊎ (((x.upload == upload) ≡ false) × (x.upload ≢ upload))
              → of_upload upload (origins_of x) ++ of_upload upload rest.origins
              ≡ taps_for upload (left (drawer upload))
          exactly upload (inl (b, k)) u =
              ap (λ ts. of_upload upload (origins_of x) ++ ts)
              (rest.exactly upload ∙ ap (λ t. taps_for upload (cond t xs (left (drawer upload)))) b)
              ∙ by_upload u ∙ ap (taps_for upload) (sym e ∙ ap left k)
            where
              more : List Labeled
              more = filter (λ y. y.upload == upload) xs

              by_upload : (((x.upload == upload) ≡ true) × (x.upload ≡ upload))
                  ⊎ (((x.upload == upload) ≡ false) × (x.upload ≢ upload))
                  → of_upload upload (origins_of x) ++ taps_for upload xs
                  ≡ taps_for upload (x ∷ xs)
              by_upload (inl (c, i)) =
                  ap (λ ts. ts ++ taps_for upload xs) (origin_yes upload x.upload x.visit.taps c)
                  ∙ sym (ap (λ t. flat_map (λ (y : Labeled). y.visit.taps) (cond t (x ∷ more) more))
                  c)
              by_upload (inr (c, i)) =
                  ap (λ ts. ts ++ taps_for upload xs) (origin_no upload x.upload x.visit.taps c)
                  ∙ sym (ap (λ t. flat_map (λ (y : Labeled). y.visit.taps) (cond t (x ∷ more) more))
                  c)
          exactly upload (inr (b, k)) (inl (c, i)) =
              let D : ℕ → Type 0 = λ n. 0 < drawn_times n (works_at v.worker works) in
              absurd (k (only upload v.worker
              (subst D i (All-head (IsMade given works v.worker) x xs first).drawn)))
          exactly upload (inr (b, k)) (inr (c, i)) =
              ap (λ ts. ts ++ of_upload upload rest.origins)
              (origin_no upload x.upload x.visit.taps c)
              ∙ rest.exactly upload
              ∙ ap (λ t. taps_for upload (cond t xs (left (drawer upload)))) b

-- what one test keeps, another one keeps that it implies
pub filter_within : {X : Type 0} (p q : X → Bool) (xs : List X) → All (λ x. p x ≡ true → q x ≡ true) xs
    → filter p xs ≡ filter p (filter q xs)
filter_within p q [] all = refl
filter_within p q (x ∷ xs) all =
    by_tests (cases_Bool (p x)) (cases_Bool (q x))
    (All-head (λ y. p y ≡ true → q y ≡ true) x xs all)
    (filter_within p q xs (All-tail (λ y. p y ≡ true → q y ≡ true) x xs all))
  where
    by_tests : (p x ≡ true) ⊎ (p x ≡ false) → (q x ≡ true) ⊎ (q x ≡ false)
        → (p x ≡ true → q x ≡ true) → filter p xs ≡ filter p (filter q xs)
        → filter p (x ∷ xs) ≡ filter p (filter q (x ∷ xs))
    by_tests (inl b) c implies rest =
        ap (λ ys. cond (p x) (x ∷ ys) ys) rest
        ∙ sym (ap (λ t. filter p (cond t (x ∷ filter q xs) (filter q xs))) (implies b))
    by_tests (inr b) (inl c) implies rest =
        ap (λ ys. cond (p x) (x ∷ ys) ys) rest
        ∙ sym (ap (λ t. filter p (cond t (x ∷ filter q xs) (filter q xs))) c)
    by_tests (inr b) (inr c) implies rest =
        ap (λ t. cond t (x ∷ filter p xs) (filter p xs)) b
        ∙ (rest ∙ sym (ap (λ t. filter p (cond t (x ∷ filter q xs) (filter q xs))) c))

-- the labelled visits for one upload
labels_for : (upload : ℕ) (done : List Worked)
    → filter (λ x. x.upload == upload) (labeled done) ≡ labeled (works_on upload done)
labels_for upload [] = refl
labels_for upload (w ∷ done) =
    filter-append (λ (x : Labeled). x.upload == upload) (map (label w.upload) w.visits)
    (labeled done) ∙ by_test (cases_Bool (w.upload == upload)) (labels_for upload done)
  where
    same : (vs : List RunVisit) → (w.upload == upload) ≡ true
        → filter (λ x. x.upload == upload) (map (label w.upload) vs) ≡ map (label w.upload) vs
    same [] b = refl
    same (v ∷ vs) b =
        let more : List Labeled = filter (λ x. x.upload == upload) (map (label w.upload) vs) in
        ap (λ t. cond t (label w.upload v ∷ more) more) b
        ∙ ap (λ ys. label w.upload v ∷ ys) (same vs b)

    none : (vs : List RunVisit) → (w.upload == upload) ≡ false
        → filter (λ x. x.upload == upload) (map (label w.upload) vs) ≡ []
    none [] b = refl
    none (v ∷ vs) b =
        let more : List Labeled = filter (λ x. x.upload == upload) (map (label w.upload) vs) in
        ap (λ t. cond t (label w.upload v ∷ more) more) b ∙ none vs b

    by_test : ((w.upload == upload) ≡ true) ⊎ ((w.upload == upload) ≡ false)
        → filter (λ x. x.upload == upload) (labeled done) ≡ labeled (works_on upload done)
        → filter (λ x. x.upload == upload) (map (label w.upload) w.visits) ++ filter
        (λ x. x.upload == upload) (labeled done) ≡ labeled (works_on upload (w ∷ done))
    by_test (inl b) rest =
        ap (λ ys. ys ++ filter (λ (x : Labeled). x.upload == upload) (labeled done))
        (same w.visits b)
        ∙ (ap (λ ys. map (label w.upload) w.visits ++ ys) rest
        ∙ sym (ap (λ t. labeled (cond t (w ∷ works_on upload done) (works_on upload done))) b))
    by_test (inr b) rest =
        ap (λ ys. ys ++ filter (λ (x : Labeled). x.upload == upload) (labeled done))
        (none w.visits b)
        ∙ (rest ∙ sym
        (ap (λ t. labeled (cond t (w ∷ works_on upload done) (works_on upload done))) b))

own_all : (given : Given) (works : List Worked) → All (IsWorkOf given.shards given.uploads) works
    → All (IsOwnVisit given.shards) (all_visits works)
own_all given [] all = All-nil (IsOwnVisit given.shards)
own_all given (w ∷ works) all =
    All-append (IsOwnVisit given.shards) w.visits (all_visits works)
    (own_worked given w (All-head (IsWorkOf given.shards given.uploads) w works all))
    (own_all given works (All-tail (IsWorkOf given.shards given.uploads) w works all))

-- the taps of one upload in a shard's book are those that the worker that drew it posted
taps_posted_for : (given : Given) (works : List (List Worked))
    → All (λ done. All (IsWorkOf given.shards given.uploads) done) works → (shard upload : ℕ)
    → (s : IsSole upload works)
    → taps_for upload (to_shard shard (works_at s.worker works))
    ≡ run_of shard given.shards (posted_of upload (all_works works))
taps_posted_for given works each shard upload s =
    ap (flat_map (λ (x : Labeled). x.visit.taps))
    (filter-filter (λ (x : Labeled). x.upload == upload) (λ x. x.visit.shard == shard)
    (labeled (works_at s.worker works))
    ∙ (ap (filter (λ (x : Labeled). x.visit.shard == shard))
    (labels_for upload (works_at s.worker works)) ∙ ap (to_shard shard) (sym s.found)))
    ∙ (sym (flat_map-map (λ (v : RunVisit). v.taps) (λ (x : Labeled). x.visit)
    (to_shard shard (works_on upload (all_works works))))
    ∙ (ap (flat_map (λ (v : RunVisit). v.taps))
    (unlabeled_to shard (works_on upload (all_works works)))
    ∙ sym (shard_taps shard given.shards (all_visits (works_on upload (all_works works)))
    (own_all given (works_on upload (all_works works))
    (All-filter (λ w. w.upload == upload) (IsWorkOf given.shards given.uploads) (all_works works)
    (each_work given works each))))))

by_worker_at : (given : Given) (shard : ℕ) (works : List (List Worked)) (book : Book)
    → (is : IsBookOfWork given.table shard given.shards works book) → (w : ℕ)
    → by_worker w is.visits ≡ map entries_made (to_shard shard (works_at w works))
by_worker_at given shard works book is w = by_position (cases_lt w (length works))
  where
    by_position : (w < length works) ⊎ (length works ≤ w)
        → by_worker w is.visits ≡ map entries_made (to_shard shard (works_at w works))
    by_position (inl within) =
        is.order w (works_at w works) (slice_get-get_or works w [] within)
        ∙ sym (entries_are shard (works_at w works))
    by_position (inr past) =
        ap (map (λ v. v.entries))
        (filter_none (λ v. v.worker == w) is.visits
        (All-weaker (λ v. v.worker < length works) (λ v. (v.worker == w) ≡ false)
        (λ v h. ne_eqb v.worker w (λ e. omega (arith, e, h, past))) is.visits is.signed))
        ∙ sym (ap (λ done. map entries_made (to_shard shard done)) (get_or_past works w [] past))

-- each posted tap of a shard has one entry in its book
pub occurs_once : (given : Given) (works : List (List Worked)) (outcome : OutcomeView)
    → IsGathered given works outcome → (shard : ℕ) (book : Book)
    → slice_get outcome.books shard ≡ Some book
    → OccurOnce shard given.shards (all_works works) book.entries
occurs_once given works outcome is shard book at =
    let work = is.books shard book at in
    let s = spread given works (λ upload. (sole_of upload).worker)
    (λ upload. (sole_of upload).only) work.visits (λ w. to_shard shard (works_at w works))
    (by_worker_at given shard works book work) (all_made given works is.each shard) in
    let F : List Entry → Type 0 = AllZip IsEntryOfOrigin s.origins in
    record {
      origins = s.origins;
      fields = subst F (sym work.history) s.fields;
      exactly = λ upload. s.exactly upload
          ∙ taps_posted_for given works is.each shard upload (sole_of upload);
    }
  where
    sole_of : (upload : ℕ) → IsSole upload works
    sole_of upload = sole upload works (is.once upload)

-- what each upload's end reports was posted of it
pub posted_reported : (given : Given) (works : List (List Worked)) (outcome : OutcomeView)
    → IsGathered given works outcome → (upload : ℕ) (end : UploadEnd)
    → slice_get outcome.ends upload ≡ Some end
    → WerePostedOf given.shards (file_at given.uploads upload) end
    (posted_of upload (all_works works))
posted_reported given works outcome is upload end e =
    let E : UploadEnd → Type 0 =
    λ x. WerePostedOf given.shards (file_at given.uploads upload) x
    (posted_of upload (all_works works)) in
    subst E (sym (is.ends upload end e))
    (end_posted given upload (all_works works) (each_work given works is.each) is.once)
