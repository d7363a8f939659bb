-- The files of uploads that were lent: the bytes with which each was lent.
use Rattle.std.proofs.Common.{refl, sym, ◌∙◌, ap, inl, inr, subst, arith, eq-eqb}
use Rattle.fare_service.proofs.GatherLemmas.{fewer_after}
use Rattle.fare_service.proofs.PlainLists.{count, count_other, count_same}
use Rattle.fare_service.specs.Lending.{AreProvidedAs, origin_at}
use Rattle.fare_service.specs.ServiceView.{ServiceView, shards_of}
use Rattle.fare_service.specs.Shares.{Worked, IsEndOf, IsWorked, IsWorkOf, file_at}
use Rattle.shared_books.specs.Drawing.{NoneTwice}
use Rattle.std.proofs.lemmas.{Bool.Decides.eqb_tells, List.Elements.All-nil, List.Elements.All-cons}
use Rattle.std.specs.Prelude.{ℕ, zero, suc, ◌≡◌, ◌≢◌, ◌⊎◌, ◌+◌, ◌<◌, ◌==◌, true, false, cond, List}
use Rattle.std.specs.Prelude.{[], ◌∷◌, length, map, All, slice_index_or}
use Rattle.tap_views.specs.Files.{IsFile}
use Rattle.world.specs.Origins.{Origin, nowhere, memory, file, anywhere, IsFrom}

abbrev pub IsTest : ℕ → ℕ → Type 0
IsTest m n = (((m == n) ≡ true) × (m ≡ n)) ⊎ (((m == n) ≡ false) × (m ≢ n))

-- an upload that is not among those that were drawn
pub not_again : (works : List Worked) (upload : ℕ)
    → count upload (map (λ w. w.upload) works) ≡ 0 → All (λ w. w.upload ≢ upload) works
not_again [] upload none = All-nil (λ w. w.upload ≢ upload)
not_again (w ∷ works) upload none =
    All-cons (λ x. x.upload ≢ upload) w works
    (λ same. absurd
    (omega (
      arith,
      none,
      count_same upload w.upload (map (λ x. x.upload) works) (eq-eqb w.upload upload same),
    )))
    (not_again works upload (by_test (eqb_tells w.upload upload)))
  where
    by_test : IsTest w.upload upload → count upload (map (λ x. x.upload) works) ≡ 0
    by_test (inl (is, same)) =
        absurd (omega (arith, none, count_same upload w.upload (map (λ x. x.upload) works) is))
    by_test (inr (is, apart)) =
        sym (count_other upload w.upload (map (λ x. x.upload) works) is) ∙ none

-- the bytes with which an upload was lent; none if nobody drew it
abbrev provided_as : List Worked → ℕ → List ℕ
provided_as [] upload = []
provided_as (w ∷ works) upload = cond (w.upload == upload) w.file (provided_as works upload)

-- if no upload was drawn twice, each was lent with the bytes that the one who drew it posted
provided_reported : (works : List Worked) → NoneTwice (map (λ w. w.upload) works)
    → All (λ w. w.file ≡ provided_as works w.upload) works
provided_reported [] once = All-nil (λ w. w.file ≡ provided_as [] w.upload)
provided_reported (w ∷ works) once =
    let test : (w.upload == w.upload) ≡ true = eq-eqb w.upload w.upload refl in
    let rest = provided_reported works (fewer_after w works once) in
    let others = not_again works w.upload
    (omega (arith, once w.upload, count_same w.upload w.upload (map (λ x. x.upload) works) test)) in
    All-cons (λ x. x.file ≡ provided_as (w ∷ works) x.upload) w works
    (sym (ap (λ b. cond b w.file (provided_as works w.upload)) test))
    (λ k d few. later (slice_index_or works k d) (others k d few) (rest k d few))
  where
    later : (x : Worked) → x.upload ≢ w.upload → x.file ≡ provided_as works x.upload
        → x.file ≡ provided_as (w ∷ works) x.upload
    later x apart reported = reported ∙ by_test (eqb_tells w.upload x.upload)
      where
        by_test : IsTest w.upload x.upload
            → provided_as works x.upload ≡ provided_as (w ∷ works) x.upload
        by_test (inl (hit, same)) = absurd (apart (sym same))
        by_test (inr (miss, other)) =
            sym (ap (λ b. cond b w.file (provided_as works x.upload)) miss)

-- the bytes that memory holds, or these
abbrev file_for : Origin → List ℕ → List ℕ
file_for (memory known) provided = known
file_for _ provided = provided

abbrev files_from : (ℕ → List ℕ) → ℕ → List Origin → List (List ℕ)
files_from provided first [] = []
files_from provided first (origin ∷ uploads) =
    file_for origin (provided first) ∷ files_from provided (suc first) uploads

are_provided : (provided : ℕ → List ℕ) (first : ℕ) (uploads : List Origin)
    → AreProvidedAs uploads (files_from provided first uploads)
are_provided provided first [] = tt
are_provided provided first (nowhere ∷ uploads) = (tt, are_provided provided (suc first) uploads)
are_provided provided first (memory known ∷ uploads) =
    (refl, are_provided provided (suc first) uploads)
are_provided provided first (file name ∷ uploads) = (tt, are_provided provided (suc first) uploads)
are_provided provided first (anywhere ∷ uploads) = (tt, are_provided provided (suc first) uploads)

-- there are as many files as uploads
pub provided_number : (uploads : List Origin) (files : List (List ℕ))
    → AreProvidedAs uploads files → length files ≡ length uploads
provided_number [] [] provided = refl
provided_number [] (f ∷ files) provided = absurd provided
provided_number (origin ∷ uploads) [] provided = absurd provided
provided_number (origin ∷ uploads) (f ∷ files) provided =
    ap suc (provided_number uploads files provided.1)

file_there : (provided : ℕ → List ℕ) (first : ℕ) (uploads : List Origin) (upload : ℕ)
    → upload < length uploads
    → file_at (files_from provided first uploads) upload
    ≡ file_for (origin_at uploads upload) (provided (first + upload))
file_there provided first [] upload few = absurd (omega (arith, few))
file_there provided first (origin ∷ uploads) zero few =
    let same : first ≡ first + 0 = omega arith in ap (λ n. file_for origin (provided n)) same
file_there provided first (origin ∷ uploads) (suc upload) few =
    let same : suc first + upload ≡ first + suc upload = omega arith in
    file_there provided (suc first) uploads upload (omega (arith, few))
    ∙ ap (λ n. file_for (origin_at uploads upload) (provided n)) same

same_file : (origin : Origin) (provided bytes : List ℕ) → IsFrom origin bytes
    → bytes ≡ provided → file_for origin provided ≡ bytes
same_file nowhere provided bytes is same = absurd is
same_file (memory known) provided bytes is same = sym is
same_file (file name) provided bytes is same = sym same
same_file anywhere provided bytes is same = sym same

-- The files of a service's uploads, of which these works were done.
pub record UploadFileSource (service : ServiceView) (works : List Worked) : Type 0 where
  pub files : List (List ℕ)
  pub provided : AreProvidedAs service.uploads files
  pub each : All (IsWorkOf (shards_of service) files) works

pub upload_file_source : (service : ServiceView) (works : List Worked)
    → All (IsWorked service) works
    → NoneTwice (map (λ w. w.upload) works) → UploadFileSource service works
upload_file_source service works all once = record {
  files = files;
  provided = are;
  each = λ k d few. one (slice_index_or works k d) (all k d few)
      (provided_reported works once k d few);
}
  where
    provided : ℕ → List ℕ
    provided = provided_as works

    files : List (List ℕ)
    files = files_from provided 0 service.uploads

    are : AreProvidedAs service.uploads files
    are = are_provided provided 0 service.uploads

    one : (w : Worked) → IsWorked service w → w.file ≡ provided w.upload
        → IsWorkOf (shards_of service) files w
    one w is reported =
        let from_zero : 0 + w.upload ≡ w.upload = omega arith in
        let at : file_at files w.upload ≡ w.file =
        file_there provided 0 service.uploads w.upload is.within
        ∙ (ap (λ n. file_for (origin_at service.uploads w.upload) (provided n)) from_zero
        ∙ same_file (origin_at service.uploads w.upload) (provided w.upload) w.file is.from
        reported) in
        let F : List ℕ → Type 0 = λ f. IsFile f is.batches is.rest in
        let E : List ℕ → Type 0 =
        λ f. IsEndOf (shards_of service) f is.batches is.rest w.visits w.end in
        record {
          within = omega (arith, is.within, provided_number service.uploads files are);
          provided = sym at;
          batches = is.batches;
          rest = is.rest;
          is_file = subst F (sym at) is.is_file;
          ended = subst E (sym at) is.ended;
          entered = is.entered;
        }

-- uploads that memory holds are lent with what it holds
pub known_files : {A : Type 0} (bytes : A → List ℕ) (uploads : List A) (files : List (List ℕ))
    → AreProvidedAs (map (λ upload. memory (bytes upload)) uploads) files
    → files ≡ map bytes uploads
known_files bytes [] [] provided = refl
known_files bytes [] (f ∷ files) provided = absurd provided
known_files bytes (upload ∷ uploads) [] provided = absurd provided
known_files bytes (upload ∷ uploads) (f ∷ files) provided =
    ap (λ (f : List ℕ). f ∷ files) provided.0
    ∙ ap (λ (fs : List (List ℕ)). bytes upload ∷ fs) (known_files bytes uploads files provided.1)
