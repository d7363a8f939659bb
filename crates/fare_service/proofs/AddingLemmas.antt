-- Sums over the books, over the workers and over the uploads are one.
use Rattle.std.proofs.Common.{refl, sym, ◌∙◌, ap, inl, inr, arith, eq-eqb, ne_eqb}
use Rattle.account_rule.specs.declared.reply.Reply.{Reply}
use Rattle.fare_service.proofs.GatherLemmas.{times_same, fewer_after, not_drawn, end_same}
use Rattle.fare_service.proofs.{GatherLemmas.end_other, GatheredShares.has_gathered}
use Rattle.fare_service.proofs.GatheredWork.{Given, IsBookOfWork, IsGathered, given_of}
use Rattle.fare_service.specs.{Adding.AddUp, Headline.Signed, Headline.end_of, Outcomes.OutcomeView}
use Rattle.fare_service.specs.Runs.{RunVisit, IsEntered, entries_of, taps_posted}
use Rattle.fare_service.specs.{ServiceView.ServiceView, ShareView.ShareView, Shares.Worked}
use Rattle.fare_service.specs.Shares.{all_visits, IsWorkOf, IsEndOf, IsShareOf, all_works, file_at}
use Rattle.fare_service.specs.inside.{Closing.IsClosedWork, Joining.with_all_done, Runs.visits_to}
use Rattle.fare_service.specs.inside.ServiceView.{IsService}
use Rattle.histories.proofs.SumsLemmas.{same_seven, sums-append, add_none}
use Rattle.histories.specs.Entry.{reply_of}
use Rattle.histories.specs.Sums.{Sums, sums, sums_of, sums_of_replies, add_sums, is_paid}
use Rattle.histories.specs.Sums.{is_transfer, is_capped, is_stale, is_unknown, add_all}
use Rattle.histories.specs.declared.{entry.Entry.Entry, sums.totals.Totals.Totals}
use Rattle.shard_book.specs.Book.{Book, all_entries}
use Rattle.shared_books.specs.{Drawing.NoneTwice, Marks.history_of_visits}
use Rattle.std.proofs.lemmas.{Bool.Decides.eqb_tells, Grind.flat_map-append}
use Rattle.std.proofs.lemmas.List.{length-append, append-nil, take_more, drop_more, drop_all}
use Rattle.std.proofs.lemmas.List.Elements.{All-nil, All-head, All-tail, All-append, All-weaker}
use Rattle.std.proofs.lemmas.List.Sums.{sum_by-cons, sum_by-append}
use Rattle.std.specs.List.{flat_map}
use Rattle.std.specs.Prelude.{ℕ, zero, suc, ◌≡◌, ◌≢◌, ◌⊎◌, ◌+◌, ◌<◌, ◌≤◌, ◌==◌, Bool, true, false}
use Rattle.std.specs.Prelude.{cond, List, [], ◌∷◌, ◌++◌, length, map, filter, take, drop, get_or}
use Rattle.std.specs.Prelude.{replicate, All, slice_get, Some, sum_by}
use Rattle.tap_views.specs.{UploadEnds.taps_of_end, declared.upload_end.UploadEnd.UploadEnd}
use Rattle.tap_views.specs.declared.upload_end.UploadEnd.TheVariants.{Posted, Refused, Cut, Undrawn}
use Rattle.tariffs.specs.Fares.{Fares}
use Rattle.world.specs.Run.{nothing_yet}

-- f of the first n numbers, added up
abbrev pub sum_below : (ℕ → ℕ) → ℕ → ℕ
sum_below f zero = 0
sum_below f (suc n) = f 0 + sum_below (λ i. f (suc i)) n

pub sum_below-same : (n : ℕ) (f g : ℕ → ℕ) → ((i : ℕ) → f i ≡ g i) → sum_below f n ≡ sum_below g n
sum_below-same zero f g e = refl
sum_below-same (suc n) f g e =
    let first : f 0 ≡ g 0 = e 0 in
    let rest : sum_below (λ i. f (suc i)) n ≡ sum_below (λ i. g (suc i)) n =
    sum_below-same n (λ i. f (suc i)) (λ i. g (suc i)) (λ i. e (suc i)) in
    omega arith

sum_below-add : (n : ℕ) (f g : ℕ → ℕ) → sum_below (λ i. f i + g i) n ≡ sum_below f n + sum_below g n
sum_below-add zero f g = refl
sum_below-add (suc n) f g =
    let rest : sum_below (λ i. f (suc i) + g (suc i)) n
    ≡ sum_below (λ i. f (suc i)) n + sum_below (λ i. g (suc i)) n =
    sum_below-add n (λ i. f (suc i)) (λ i. g (suc i)) in
    omega arith

sum_below-none : (n : ℕ) → sum_below (λ i. 0) n ≡ 0
sum_below-none zero = refl
sum_below-none (suc n) = omega (arith, sum_below-none n)

suc_eqb : (k i : ℕ) → (suc k == suc i) ≡ (k == i)
suc_eqb k i = by_test (eqb_tells k i)
  where
    by_test : (((k == i) ≡ true) × (k ≡ i)) ⊎ (((k == i) ≡ false) × (k ≢ i))
        → (suc k == suc i) ≡ (k == i)
    by_test (inl (b, e)) = eq-eqb (suc k) (suc i) (ap suc e) ∙ sym b
    by_test (inr (b, ne)) = ne_eqb (suc k) (suc i) (λ h. ne (omega (arith, h))) ∙ sym b

sum_below-one : (n k x : ℕ) → k < n → sum_below (λ i. cond (k == i) x 0) n ≡ x
sum_below-one zero k x within = absurd (omega (arith, within))
sum_below-one (suc n) zero x within =
    let rest : sum_below (λ i. cond (0 == suc i) x 0) n ≡ 0 =
    sum_below-same n (λ i. cond (0 == suc i) x 0) (λ i. 0)
    (λ i. ap (λ b. cond b x 0) (ne_eqb 0 (suc i) (λ h. omega (arith, h)))) ∙ sum_below-none n in
    omega arith
sum_below-one (suc n) (suc k) x within =
    let first : cond (suc k == 0) x 0 ≡ 0 =
    ap (λ b. cond b x 0) (ne_eqb (suc k) 0 (λ h. omega (arith, h))) in
    let rest : sum_below (λ i. cond (suc k == suc i) x 0) n ≡ x =
    sum_below-same n (λ i. cond (suc k == suc i) x 0) (λ i. cond (k == i) x 0)
    (λ i. ap (λ b. cond b x 0) (suc_eqb k i)) ∙ sum_below-one n k x (omega (arith, within)) in
    omega arith

-- one element more, if it is kept
kept_sum : {X : Type 0} (g : X → ℕ) (b : Bool) (x : X) (xs : List X)
    → sum_by g (cond b (x ∷ xs) xs) ≡ cond b (g x) 0 + sum_by g xs
kept_sum g true x xs = sum_by-cons g x xs
kept_sum g false x xs = omega arith

-- a sum by keys is the sum over the keys
pub sum_by_key : {X : Type 0} (key g : X → ℕ) (n : ℕ) (xs : List X) → All (λ x. key x < n) xs
    → sum_by g xs ≡ sum_below (λ k. sum_by g (filter (λ x. key x == k) xs)) n
sum_by_key key g n [] all = sym (sum_below-none n)
sum_by_key key g n (x ∷ xs) all =
    sum_by-cons g x xs
    ∙ (ap (λ s. g x + s) (sum_by_key key g n xs (All-tail (λ y. key y < n) x xs all))
    ∙ (ap (λ s. s + sum_below (λ k. sum_by g (filter (λ y. key y == k) xs)) n)
    (sym (sum_below-one n (key x) (g x) (All-head (λ y. key y < n) x xs all)))
    ∙ (sym (sum_below-add n (λ k. cond (key x == k) (g x) 0)
    (λ k. sum_by g (filter (λ y. key y == k) xs)))
    ∙ sym (sum_below-same n (λ k. sum_by g (filter (λ y. key y == k) (x ∷ xs)))
    (λ k. cond (key x == k) (g x) 0 + sum_by g (filter (λ y. key y == k) xs))
    (λ k. kept_sum g (key x == k) x (filter (λ y. key y == k) xs))))))

-- a sum over places is the sum of the list
pub sum_of_positions : {X : Type 0} (g : X → ℕ) (xs : List X) (h : ℕ → ℕ)
    → ((i : ℕ) (x : X) → slice_get xs i ≡ Some x → h i ≡ g x)
    → sum_below h (length xs) ≡ sum_by g xs
sum_of_positions g [] h e = refl
sum_of_positions g (x ∷ xs) h e =
    let first : h 0 ≡ g x = e 0 x refl in
    let rest : sum_below (λ i. h (suc i)) (length xs) ≡ sum_by g xs =
    sum_of_positions g xs (λ i. h (suc i)) (λ i y at. e (suc i) y at) in
    let both : sum_by g (x ∷ xs) ≡ g x + sum_by g xs = sum_by-cons g x xs in
    omega arith

-- sums in either order
swapped : {X : Type 0} (g : ℕ → X → ℕ) (n : ℕ) (xs : List X)
    → sum_below (λ i. sum_by (g i) xs) n ≡ sum_by (λ x. sum_below (λ i. g i x) n) xs
swapped g n [] = sum_below-none n
swapped g n (x ∷ xs) =
    sum_below-same n (λ i. sum_by (g i) (x ∷ xs)) (λ i. g i x + sum_by (g i) xs)
    (λ i. sum_by-cons (g i) x xs)
    ∙ (sum_below-add n (λ i. g i x) (λ i. sum_by (g i) xs)
    ∙ (ap (λ s. sum_below (λ i. g i x) n + s) (swapped g n xs)
    ∙ sym (sum_by-cons (λ y. sum_below (λ i. g i y) n) x xs)))

same_sum : {X : Type 0} (f g : X → ℕ) (xs : List X) → All (λ x. f x ≡ g x) xs
    → sum_by f xs ≡ sum_by g xs
same_sum f g [] all = refl
same_sum f g (x ∷ xs) all =
    let first : f x ≡ g x = All-head (λ y. f y ≡ g y) x xs all in
    let rest : sum_by f xs ≡ sum_by g xs = same_sum f g xs (All-tail (λ y. f y ≡ g y) x xs all) in
    sum_by-cons f x xs ∙ (ap (λ k. k + sum_by f xs) first ∙ ap (λ k. g x + k) rest)
    ∙ sym (sum_by-cons g x xs)

pub sum_by-flat_map : {X Y : Type 0} (f : Y → ℕ) (g : X → List Y) (xs : List X)
    → sum_by f (flat_map g xs) ≡ sum_by (λ x. sum_by f (g x)) xs
sum_by-flat_map f g [] = refl
sum_by-flat_map f g (x ∷ xs) =
    sum_by-append f (g x) (flat_map g xs) ∙ ap (λ k. sum_by f (g x) + k) (sum_by-flat_map f g xs)
    ∙ sym (sum_by-cons (λ y. sum_by f (g y)) x xs)

sum_by-joined : {X : Type 0} (f : Entry → ℕ) (g : X → List Entry) (xs : List X)
    → sum_by f (history_of_visits (map g xs)) ≡ sum_by (λ x. sum_by f (g x)) xs
sum_by-joined f g [] = refl
sum_by-joined f g (x ∷ xs) =
    sum_by-append f (g x) (history_of_visits (map g xs))
    ∙ ap (λ k. sum_by f (g x) + k) (sum_by-joined f g xs)
    ∙ sym (sum_by-cons (λ y. sum_by f (g y)) x xs)

-- a sum over mapped elements
pub sum_by-map : {X Y : Type 0} (f : Y → ℕ) (g : X → Y) (xs : List X)
    → sum_by f (map g xs) ≡ sum_by (λ x. f (g x)) xs
sum_by-map f g [] = refl
sum_by-map f g (x ∷ xs) =
    sum_by-cons f (g x) (map g xs) ∙ ap (λ k. f (g x) + k) (sum_by-map f g xs)
    ∙ sym (sum_by-cons (λ y. f (g y)) x xs)

-- f of the entries of a shard's book is f of the entries of the workers' visits to the shard
sum_of_book : (f : Entry → ℕ) (table : Fares) (shard shards : ℕ) (works : List (List Worked))
    (book : Book) → IsBookOfWork table shard shards works book
    → sum_by f book.entries
    ≡ sum_by (λ done. sum_by (λ v. sum_by f v.entries) (visits_to shard (all_visits done))) works
sum_of_book f table shard shards works book is =
    let ent : Signed → ℕ = λ v. sum_by f v.entries in
    ap (sum_by f) is.history
    ∙ (sum_by-joined f (λ (v : Signed). v.entries) is.visits
    ∙ (sum_by_key (λ (v : Signed). v.worker) ent (length works) is.visits is.signed
    ∙ sum_of_positions
    (λ done. sum_by (λ (v : RunVisit). sum_by f v.entries) (visits_to shard (all_visits done)))
    works (λ w. sum_by ent (filter (λ v. v.worker == w) is.visits)) own))
  where
    own : (worker : ℕ) (done : List Worked) → slice_get works worker ≡ Some done
        → sum_by (λ v. sum_by f v.entries) (filter (λ v. v.worker == worker) is.visits)
        ≡ sum_by (λ v. sum_by f v.entries) (visits_to shard (all_visits done))
    own worker done at =
        sym (sum_by-joined f (λ (v : Signed). v.entries)
        (filter (λ v. v.worker == worker) is.visits))
        ∙ (ap (λ vs. sum_by f (history_of_visits vs)) (is.order worker done at)
        ∙ sum_by-joined f (λ (v : RunVisit). v.entries) (visits_to shard (all_visits done)))

all_within : (given : Given) (done : List Worked) → All (IsWorkOf given.shards given.uploads) done
    → All (λ v. v.shard < given.shards) (all_visits done)
all_within given [] all = All-nil (λ (v : RunVisit). v.shard < given.shards)
all_within given (w ∷ done) all =
    All-append (λ (v : RunVisit). v.shard < given.shards) w.visits (all_visits done)
    (All-weaker (IsEntered given.shards) (λ v. v.shard < given.shards) (λ v e. e.within) w.visits
    (All-head (IsWorkOf given.shards given.uploads) w done all).entered)
    (all_within given done (All-tail (IsWorkOf given.shards given.uploads) w done all))

-- f of all books' entries is f of all entries that the workers' visits made
sum_of_books : (f : Entry → ℕ) (given : Given) (works : List (List Worked)) (outcome : OutcomeView)
    → IsGathered given works outcome
    → sum_by f (all_entries outcome.books)
    ≡ sum_by f (flat_map (λ done. entries_of (all_visits done)) works)
sum_of_books f given works outcome is =
    let ent : RunVisit → ℕ = λ v. sum_by f v.entries in
    let at_shard : ℕ → List Worked → ℕ = λ s done. sum_by ent (visits_to s (all_visits done)) in
    let h : ℕ → ℕ = λ s. sum_by (at_shard s) works in
    sum_by-flat_map f (λ (b : Book). b.entries) outcome.books
    ∙ (sym (sum_of_positions (λ (b : Book). sum_by f b.entries) outcome.books h
    (λ s b at. sym (sum_of_book f given.table s given.shards works b (is.books s b at))))
    ∙ (ap (sum_below h) is.shards
    ∙ (swapped at_shard given.shards works
    ∙ (same_sum (λ done. sum_below (λ s. at_shard s done) given.shards)
    (λ done. sum_by f (entries_of (all_visits done))) works each
    ∙ sym (sum_by-flat_map f (λ done. entries_of (all_visits done)) works)))))
  where
    here : (done : List Worked) → All (IsWorkOf given.shards given.uploads) done
        → sum_below (λ s. sum_by (λ v. sum_by f v.entries) (visits_to s (all_visits done)))
        given.shards ≡ sum_by f (entries_of (all_visits done))
    here done all =
        sym (sum_by_key (λ (v : RunVisit). v.shard) (λ v. sum_by f v.entries) given.shards
        (all_visits done) (all_within given done all))
        ∙ sym (sum_by-flat_map f (λ (v : RunVisit). v.entries) (all_visits done))

    each : All
        (λ done. sum_below
        (λ s. sum_by (λ (v : RunVisit). sum_by f v.entries) (visits_to s (all_visits done)))
        given.shards ≡ sum_by f (entries_of (all_visits done))) works
    each =
        All-weaker (λ done. All (IsWorkOf given.shards given.uploads) done)
        (λ done. sum_below
        (λ s. sum_by (λ (v : RunVisit). sum_by f v.entries) (visits_to s (all_visits done)))
        given.shards ≡ sum_by f (entries_of (all_visits done))) here works is.each

pub length_sum : {X : Type 0} (xs : List X) → length xs ≡ sum_by (λ x. 1) xs
length_sum [] = refl
length_sum (x ∷ xs) = omega (arith, length_sum xs, sum_by-cons (λ y. 1) x xs)

-- lists of entries on which all such functions agree have the same sums
same_sums : (xs ys : List Entry) → ((f : Entry → ℕ) → sum_by f xs ≡ sum_by f ys) → sums xs ≡ sums ys
unfolding sums_of_replies
same_sums xs ys same =
    same_seven
    (length_sum (map reply_of xs) ∙ each (λ r. 1) ∙ sym (length_sum (map reply_of ys)))
    (each (λ r. cond (is_paid r.answer) 1 0))
    (each (λ r. cond (is_transfer r.answer) 1 0))
    (each (λ r. cond (is_capped r.answer) 1 0))
    (each (λ r. cond (is_stale r.answer) 1 0))
    (each (λ r. cond (is_unknown r.answer) 1 0))
    (each (λ r. r.cents))
  where
    each : (f : Reply → ℕ) → sum_by f (map reply_of xs) ≡ sum_by f (map reply_of ys)
    each f = sum_by-map f reply_of xs ∙ same (λ e. f (reply_of e)) ∙ sym (sum_by-map f reply_of ys)

-- the sums of lists, one after another
add_flat : {X : Type 0} (g : X → List Entry) (xs : List X)
    → sums (flat_map g xs) ≡ add_all (map (λ x. sums (g x)) xs)
add_flat g [] = refl
add_flat g (x ∷ xs) = sums-append (g x) (flat_map g xs) ∙ ap (add_sums (sums (g x))) (add_flat g xs)

pub taps_of_sums : (entries : List Entry) → (sums entries).taps ≡ sum_by (λ e. 1) entries
unfolding sums_of_replies
taps_of_sums entries = length_sum (map reply_of entries) ∙ sum_by-map (λ r. 1) reply_of entries

-- what an upload's end reports of its taps
pub reported_end_taps : (given : Given) (w : Worked) → IsWorkOf given.shards given.uploads w
    → taps_of_end w.end ≡ taps_posted w.visits
reported_end_taps given w is = by_end w.end is.ended
  where
    by_end : (end : UploadEnd)
        → IsEndOf given.shards (file_at given.uploads w.upload) is.batches is.rest w.visits end
        → taps_of_end end ≡ taps_posted w.visits
    by_end (Posted taps) e = e.2
    by_end (Refused taps offset fault) e = e.2
    by_end (Cut taps) e = e.1
    by_end Undrawn e = absurd e

-- what is counted of the ends, upload by upload and work by work
ends_sum : (f : UploadEnd → ℕ) → f Undrawn ≡ 0 → (n : ℕ) (works : List Worked)
    → NoneTwice (map (λ w. w.upload) works) → All (λ w. w.upload < n) works
    → sum_below (λ u. f (end_of u works)) n ≡ sum_by (λ w. f w.end) works
ends_sum f blank n [] once all =
    sum_below-same n (λ u. f Undrawn) (λ u. 0) (λ u. blank) ∙ sum_below-none n
ends_sum f blank n (w ∷ works) once all =
    sum_below-same n (λ u. f (end_of u (w ∷ works)))
    (λ u. cond (w.upload == u) (f w.end) 0 + f (end_of u works))
    (λ u. step u (eqb_tells w.upload u))
    ∙ (sum_below-add n (λ u. cond (w.upload == u) (f w.end) 0) (λ u. f (end_of u works))
    ∙ (ap (λ k. k + sum_below (λ u. f (end_of u works)) n)
    (sum_below-one n w.upload (f w.end) (All-head (λ x. x.upload < n) w works all))
    ∙ (ap (λ k. f w.end + k)
    (ends_sum f blank n works (fewer_after w works once) (All-tail (λ x. x.upload < n) w works all))
    ∙ sym (sum_by-cons (λ x. f x.end) w works))))
  where
    step : (u : ℕ) → (((w.upload == u) ≡ true) × (w.upload ≡ u))
        ⊎ (((w.upload == u) ≡ false) × (w.upload ≢ u))
        → f (end_of u (w ∷ works)) ≡ cond (w.upload == u) (f w.end) 0 + f (end_of u works)
    step u (inl (b, e)) =
        let none : f (end_of u works) ≡ 0 =
        ap f (not_drawn works u (omega (arith, once u, times_same w works u b))) ∙ blank in
        let left : f (end_of u (w ∷ works)) ≡ f w.end = ap f (end_same w works u b) in
        let right : cond (w.upload == u) (f w.end) 0 ≡ f w.end = ap (λ t. cond t (f w.end) 0) b in
        omega arith
    step u (inr (b, ne)) =
        let left : f (end_of u (w ∷ works)) ≡ f (end_of u works) = ap f (end_other w works u b) in
        let right : cond (w.upload == u) (f w.end) 0 ≡ 0 = ap (λ t. cond t (f w.end) 0) b in
        omega arith

-- the taps that the uploads' ends report are those of the workers' visits
uploads_sum : (given : Given) (works : List (List Worked))
    → All (λ done. All (IsWorkOf given.shards given.uploads) done) works
    → sum_by (λ w. taps_of_end w.end) (all_works works)
    ≡ sum_by (λ e. 1) (flat_map (λ done. entries_of (all_visits done)) works)
uploads_sum given works each =
    sum_by-flat_map (λ w. taps_of_end w.end) (λ (done : List Worked). done) works
    ∙ (same_sum (λ done. sum_by (λ w. taps_of_end w.end) done)
    (λ done. sum_by (λ e. 1) (entries_of (all_visits done))) works
    (All-weaker (λ done. All (IsWorkOf given.shards given.uploads) done)
    (λ done. sum_by (λ w. taps_of_end w.end) done ≡ sum_by (λ e. 1) (entries_of (all_visits done)))
    here works each)
    ∙ sym (sum_by-flat_map (λ e. 1) (λ done. entries_of (all_visits done)) works))
  where
    one : (w : Worked) → IsWorkOf given.shards given.uploads w
        → taps_of_end w.end ≡ sum_by (λ v. sum_by (λ e. 1) v.entries) w.visits
    one w is = reported_end_taps given w is
        ∙ (length_sum (entries_of w.visits)
        ∙ sum_by-flat_map (λ e. 1) (λ (v : RunVisit). v.entries) w.visits)

    here : (done : List Worked) → All (IsWorkOf given.shards given.uploads) done
        → sum_by (λ w. taps_of_end w.end) done ≡ sum_by (λ e. 1) (entries_of (all_visits done))
    here done all =
        same_sum (λ w. taps_of_end w.end) (λ w. sum_by (λ v. sum_by (λ e. 1) v.entries) w.visits)
        done
        (All-weaker (IsWorkOf given.shards given.uploads)
        (λ w. taps_of_end w.end ≡ sum_by (λ v. sum_by (λ e. 1) v.entries) w.visits) one done all)
        ∙ (sym (sum_by-flat_map (λ (v : RunVisit). sum_by (λ e. 1) v.entries)
        (λ (w : Worked). w.visits) done)
        ∙ sym (sum_by-flat_map (λ e. 1) (λ (v : RunVisit). v.entries) (all_visits done)))

all_uploads : (given : Given) (works : List (List Worked))
    → All (λ done. All (IsWorkOf given.shards given.uploads) done) works
    → All (λ w. w.upload < length given.uploads) (all_works works)
all_uploads given [] each = All-nil (λ (w : Worked). w.upload < length given.uploads)
all_uploads given (done ∷ works) each =
    All-append (λ (w : Worked). w.upload < length given.uploads) done (all_works works)
    (All-weaker (IsWorkOf given.shards given.uploads) (λ w. w.upload < length given.uploads)
    (λ w is. is.within) done
    (All-head (λ d. All (IsWorkOf given.shards given.uploads) d) done works each))
    (all_uploads given works
    (All-tail (λ d. All (IsWorkOf given.shards given.uploads) d) done works each))

-- what is counted of the works' ends is counted of the ends
pub ends_are : (f : UploadEnd → ℕ) → f Undrawn ≡ 0
    → (given : Given) (works : List (List Worked)) (outcome : OutcomeView)
    → IsGathered given works outcome
    → sum_by (λ w. f w.end) (all_works works) ≡ sum_by f outcome.ends
ends_are f blank given works outcome is =
    sym (ends_sum f blank (length given.uploads) (all_works works) is.once
    (all_uploads given works is.each))
    ∙ (ap (sum_below (λ u. f (end_of u (all_works works)))) (sym is.uploads)
    ∙ sum_of_positions f outcome.ends (λ u. f (end_of u (all_works works)))
    (λ u end at. ap f (sym (is.ends u end at))))

-- the books and the workers have the same totals, whatever is known of them
pub workers_add_up : (given : Given) (works : List (List Worked)) (outcome : OutcomeView)
    → IsGathered given works outcome → sums (all_entries outcome.books) ≡ add_all outcome.workers
workers_add_up given works outcome is =
    let made : List Entry = flat_map (λ done. entries_of (all_visits done)) works in
    same_sums (all_entries outcome.books) made (λ f. sum_of_books f given works outcome is)
    ∙ (add_flat (λ done. entries_of (all_visits done)) works ∙ ap add_all (sym is.workers))

-- what was gathered adds up
pub gathered_sums : (given : Given) (works : List (List Worked)) (outcome : OutcomeView)
    → IsGathered given works outcome → outcome.totals ≡ sums (all_entries outcome.books)
    → AddUp works outcome
gathered_sums given works outcome is totals =
    let made : List Entry = flat_map (λ done. entries_of (all_visits done)) works in
    let by_works : outcome.totals ≡ sums made =
    totals ∙ same_sums (all_entries outcome.books) made
    (λ f. sum_of_books f given works outcome is) in
    record {
      each = is.workers;
      books = totals ∙ add_flat (λ (b : Book). b.entries) outcome.books;
      workers = totals ∙ workers_add_up given works outcome is;
      uploads = ap (λ s. s.taps) by_works
          ∙ (taps_of_sums made
          ∙ (sym (uploads_sum given works is.each)
          ∙ ends_are taps_of_end refl given works outcome is));
    }

-- the entries of one book more
pub entries_more : (books : List Book) (i : ℕ) (blank : Book) → i < length books
    → length (all_entries (take (i + 1) books))
    ≡ length (all_entries (take i books)) + length (get_or books i blank).entries
entries_more books i blank within =
    ap (λ bs. length (all_entries bs)) (take_more books i blank within)
    ∙ (ap (λ es. length es)
    (flat_map-append (λ (book : Book). book.entries) (take i books) (get_or books i blank ∷ [])
    ∙ ap (λ es. all_entries (take i books) ++ es) (append-nil (get_or books i blank).entries))
    ∙ length-append (all_entries (take i books)) (get_or books i blank).entries)

-- the totals of the workers that are left: those of the next one, and of the others
pub next_worker : (workers : List Totals) (i : ℕ) (blank : Totals) → i < length workers
    → add_all (map sums_of (drop i workers))
    ≡ add_sums (sums_of (get_or workers i blank)) (add_all (map sums_of (drop (i + 1) workers)))
next_worker workers i blank within =
    ap (λ ts. add_all (map sums_of ts)) (drop_more workers i blank within)

pub none_left : (s : Sums) (workers : List Totals) (i : ℕ) → length workers ≤ i
    → add_sums s (add_all (map sums_of (drop i workers))) ≡ s
none_left s workers i all =
    ap (λ ts. add_sums s (add_all (map sums_of ts))) (drop_all i workers all) ∙ add_none s

zero_add : (n : ℕ) → 0 + n ≡ n
zero_add n = omega arith

-- nothing, and some totals
pub from_nothing : (none s : Sums) → none ≡ sums_of_replies [] → add_sums none s ≡ s
unfolding sums_of_replies
from_nothing none s is =
    ap (λ n. add_sums n s) is
    ∙ same_seven (zero_add s.taps) (zero_add s.paid) (zero_add s.transfers) (zero_add s.capped)
    (zero_add s.stale) (zero_add s.unknown) (zero_add s.cents)

-- the totals of the shares are those of the books that were closed with them
pub shares_add_up : (service : ServiceView) → IsService service → (shares : List ShareView)
    → All (IsShareOf service) shares → (closed : List Book)
    → IsClosedWork service.books shares closed
    → (ends : List UploadEnd)
    → ends ≡ with_all_done (replicate (length service.uploads) Undrawn) shares
    → length ends ≡ length service.uploads
    → (workers : List Sums) → workers ≡ map (λ share. share.totals) shares
    → sums (all_entries closed) ≡ add_all workers
shares_add_up service is shares all closed work ends are number workers sums_are =
    let o = has_gathered service is shares all closed work ends are number workers sums_are
    (sums (all_entries closed)) nothing_yet in
    workers_add_up (given_of service o.files) o.works
    (record {
      books = closed;
      ends = ends;
      workers = workers;
      totals = sums (all_entries closed);
      run = nothing_yet;
    }) o.gathered

-- few entries, few taps
pub few_taps : (entries : List Entry) (workers : Sums) (most : ℕ) → sums entries ≡ workers
    → length entries ≤ most → workers.taps ≤ most
few_taps entries workers most same few =
    omega (arith, ap (λ s. s.taps) same, taps_of_sums entries, length_sum entries)
