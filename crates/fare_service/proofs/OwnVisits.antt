-- What was posted of an upload: its visits' taps, shard by shard.
use Rattle.std.proofs.Common.{refl, sym, ◌∙◌, ap, inl, inr, subst, append-nil, append_assoc, arith}
use Rattle.std.proofs.Common.{length-append, eqb-true, eq-eqb, ne_eqb}
use Rattle.fare_service.proofs.GatherLemmas.{drawn_times, times_same, times_other, fewer_after}
use Rattle.fare_service.proofs.{GatherLemmas.end_same, GatherLemmas.end_other, GatheredWork.Given}
use Rattle.fare_service.specs.{Headline.end_of, Placing.posted_of, Placing.in_posting_order}
use Rattle.fare_service.specs.{Placing.WerePostedOf, Runs.PostedRun}
use Rattle.fare_service.specs.Runs.{posted_run, if_any, runs_below, runs_of, RunVisit, IsEntered}
use Rattle.fare_service.specs.Runs.{run_of_visit, ArePostedWhole, AreCut, entries_of, taps_posted}
use Rattle.fare_service.specs.Shares.{Worked, all_visits, IsWorkOf, IsEndOf, file_at}
use Rattle.fare_service.specs.inside.Runs.{visits_to}
use Rattle.histories.specs.Entry.{IsEntryOf}
use Rattle.shared_books.specs.Drawing.{NoneTwice}
use Rattle.std.proofs.lemmas.{Bool.Decides.eqb_tells, List.length-take-le}
use Rattle.std.proofs.lemmas.List.{take_at, take-append-drop, Concat.flat_map-append}
use Rattle.std.proofs.lemmas.List.Elements.{All-nil, All-cons, All-head, All-tail, All-append}
use Rattle.std.proofs.lemmas.List.Elements.{All-take, All-weaker, filter-append, filter_passes}
use Rattle.std.proofs.lemmas.Slice.Zip.{AllZip-long}
use Rattle.std.specs.List.{flat_map}
use Rattle.std.specs.Prelude.{ℕ, zero, suc, ◌≡◌, ◌≢◌, ◌⊎◌, ◌+◌, ◌<◌, ◌==◌, Bool, true, false, cond}
use Rattle.std.specs.Prelude.{List, [], ◌∷◌, ◌++◌, length, map, filter, take, drop, All}
use Rattle.tap_views.proofs.Lists.{All-front, All-back, All-unmap}
use Rattle.tap_views.specs.{Files.IsFile, Layout.Tap, Shards.shard_of_token, Shards.run_of}
use Rattle.tap_views.specs.declared.upload_end.UploadEnd.{UploadEnd}
use Rattle.tap_views.specs.declared.upload_end.UploadEnd.TheVariants.{Posted, Refused, Cut, Undrawn}

-- each tap of a run is of its shard
pub IsOwnRun : ℕ → PostedRun → Type 0
IsOwnRun shards r = All (λ p. shard_of_token p.token shards ≡ r.shard) r.taps

pub own_taps : (shard shards : ℕ) (placed : List Tap)
    → All (λ p. shard_of_token p.token shards ≡ shard) (run_of shard shards placed)
own_taps shard shards placed =
    All-weaker (λ p. (shard_of_token p.token shards == shard) ≡ true)
    (λ p. shard_of_token p.token shards ≡ shard)
    (λ p is. eqb-true (shard_of_token p.token shards) shard is)
    (run_of shard shards placed)
    (filter_passes (λ p. shard_of_token p.token shards == shard) placed)

own_if_any : (shard shards : ℕ) (taps : List Tap)
    → All (λ p. shard_of_token p.token shards ≡ shard) taps
    → All (IsOwnRun shards) (if_any shard taps)
unfolding IsOwnRun
own_if_any shard shards [] all = All-nil (IsOwnRun shards)
own_if_any shard shards (tap ∷ taps) all =
    All-cons (IsOwnRun shards) (posted_run shard (tap ∷ taps)) [] all (All-nil (IsOwnRun shards))

own_below : (shards n : ℕ) (taps : List Tap)
    → All (IsOwnRun shards) (runs_below shards n taps)
own_below shards zero taps = All-nil (IsOwnRun shards)
own_below shards (suc n) taps =
    All-append (IsOwnRun shards) (runs_below shards n taps) (if_any n (run_of n shards taps))
    (own_below shards n taps)
    (own_if_any n shards (run_of n shards taps) (own_taps n shards taps))

pub own_runs : (shards : ℕ) (batches : List (List Tap))
    → All (IsOwnRun shards) (runs_of shards batches)
own_runs shards [] = All-nil (IsOwnRun shards)
own_runs shards (batch ∷ batches) =
    All-append (IsOwnRun shards) (runs_below shards shards batch)
    (runs_of shards batches)
    (own_below shards shards batch)
    (own_runs shards batches)

-- each tap of a visit is of its shard
pub IsOwnVisit : ℕ → RunVisit → Type 0
IsOwnVisit shards v = IsOwnRun shards (run_of_visit v)

own_posted : (shards : ℕ) (runs : List PostedRun) (visits : List RunVisit)
    → All (IsOwnRun shards) runs → ArePostedWhole runs visits → All (IsOwnVisit shards) visits
unfolding IsOwnVisit
own_posted shards runs visits all posted =
    let P : List PostedRun → Type 0 = All (IsOwnRun shards) in
    All-unmap (IsOwnRun shards) run_of_visit visits (subst P (sym posted) all)

own_take : (shards posted : ℕ) (r : PostedRun) → IsOwnRun shards r
    → IsOwnRun shards (posted_run r.shard (take posted r.taps))
unfolding IsOwnRun
own_take shards posted r own =
    All-take (λ p. shard_of_token p.token shards ≡ r.shard) posted r.taps own

own_cut : (shards : ℕ) (runs : List PostedRun) (visits : List RunVisit) → All (IsOwnRun shards) runs
    → AreCut runs visits → All (IsOwnVisit shards) visits
own_cut shards runs visits all c = made c.made
  where
    whole : All (IsOwnRun shards) (c.before ++ c.cut ∷ c.after)
    whole = let P : List PostedRun → Type 0 = All (IsOwnRun shards) in subst P c.all all

    before : All (IsOwnRun shards) c.before
    before = All-front (IsOwnRun shards) c.before (c.cut ∷ c.after) whole

    cut : IsOwnRun shards c.cut
    cut = All-head (IsOwnRun shards) c.cut c.after
        (All-back (IsOwnRun shards) c.before (c.cut ∷ c.after) whole)

    made : ((map run_of_visit visits ≡ c.before)
        ⊎ ((posted : ℕ) × (posted < length c.cut.taps)
        × (map run_of_visit visits
        ≡ c.before ++ posted_run c.cut.shard (take posted c.cut.taps) ∷ [])))
        → All (IsOwnVisit shards) visits
    made (inl e) = own_posted shards c.before visits before e
    made (inr (posted, few, e)) =
        own_posted shards (c.before ++ posted_run c.cut.shard (take posted c.cut.taps) ∷ []) visits
        (All-append (IsOwnRun shards) c.before
        (posted_run c.cut.shard (take posted c.cut.taps) ∷ []) before
        (All-cons (IsOwnRun shards) (posted_run c.cut.shard (take posted c.cut.taps)) []
        (own_take shards posted c.cut cut) (All-nil (IsOwnRun shards)))) e

pub own_worked : (given : Given) (w : Worked) → IsWorkOf given.shards given.uploads w
    → All (IsOwnVisit given.shards) w.visits
own_worked given w is = by_end w.end is.ended
  where
    own : All (IsOwnRun given.shards) (runs_of given.shards is.batches)
    own = own_runs given.shards is.batches

    by_end : (end : UploadEnd)
        → IsEndOf given.shards (file_at given.uploads w.upload) is.batches is.rest w.visits end
        → All (IsOwnVisit given.shards) w.visits
    by_end (Posted taps) e =
        own_posted given.shards (runs_of given.shards is.batches) w.visits own e.1
    by_end (Refused taps offset fault) e =
        own_posted given.shards (runs_of given.shards is.batches) w.visits own e.1
    by_end (Cut taps) e = own_cut given.shards (runs_of given.shards is.batches) w.visits own e.0
    by_end Undrawn e = absurd e

-- a test that all pass, or none
pub filter_all : {X : Type 0} (p : X → Bool) (xs : List X) → All (λ x. p x ≡ true) xs
    → filter p xs ≡ xs
filter_all p [] all = refl
filter_all p (x ∷ xs) all =
    ap (λ b. cond b (x ∷ filter p xs) (filter p xs)) (All-head (λ y. p y ≡ true) x xs all)
    ∙ ap (λ ys. x ∷ ys) (filter_all p xs (All-tail (λ y. p y ≡ true) x xs all))

-- a test that no element passes keeps none
pub filter_none : {X : Type 0} (p : X → Bool) (xs : List X) → All (λ x. p x ≡ false) xs
    → filter p xs ≡ []
filter_none p [] all = refl
filter_none p (x ∷ xs) all =
    ap (λ b. cond b (x ∷ filter p xs) (filter p xs)) (All-head (λ y. p y ≡ false) x xs all)
    ∙ filter_none p xs (All-tail (λ y. p y ≡ false) x xs all)

one_visit : (shard shards : ℕ) (v : RunVisit) → IsOwnVisit shards v
    → (((v.shard == shard) ≡ true) × (v.shard ≡ shard))
    ⊎ (((v.shard == shard) ≡ false) × (v.shard ≢ shard))
    → run_of shard shards v.taps ≡ cond (v.shard == shard) v.taps []
unfolding IsOwnVisit IsOwnRun
one_visit shard shards v own (inl (b, e)) =
    filter_all (λ p. shard_of_token p.token shards == shard) v.taps
    (All-weaker (λ p. shard_of_token p.token shards ≡ v.shard)
    (λ p. (shard_of_token p.token shards == shard) ≡ true)
    (λ p h. eq-eqb (shard_of_token p.token shards) shard (h ∙ e)) v.taps own)
    ∙ sym (ap (λ t. cond t v.taps []) b)
one_visit shard shards v own (inr (b, ne)) =
    filter_none (λ p. shard_of_token p.token shards == shard) v.taps
    (All-weaker (λ p. shard_of_token p.token shards ≡ v.shard)
    (λ p. (shard_of_token p.token shards == shard) ≡ false)
    (λ p h. ne_eqb (shard_of_token p.token shards) shard (λ k. ne (sym h ∙ k))) v.taps own)
    ∙ sym (ap (λ t. cond t v.taps []) b)

kept_taps : (b : Bool) (v : RunVisit) (visits : List RunVisit)
    → flat_map (λ x. x.taps) (cond b (v ∷ visits) visits)
    ≡ cond b v.taps [] ++ flat_map (λ x. x.taps) visits
kept_taps true v visits = refl
kept_taps false v visits = refl

-- the taps of a shard among those of the visits are those of the visits to the shard
pub shard_taps : (shard shards : ℕ) (visits : List RunVisit) → All (IsOwnVisit shards) visits
    → run_of shard shards (flat_map (λ v. v.taps) visits)
    ≡ flat_map (λ v. v.taps) (visits_to shard visits)
shard_taps shard shards [] all = refl
shard_taps shard shards (v ∷ visits) all =
    filter-append (λ p. shard_of_token p.token shards == shard) v.taps
    (flat_map (λ x. x.taps) visits)
    ∙ (ap (λ ts. ts ++ run_of shard shards (flat_map (λ x. x.taps) visits))
    (one_visit shard shards v (All-head (IsOwnVisit shards) v visits all) (eqb_tells v.shard shard))
    ∙ (ap (λ ts. cond (v.shard == shard) v.taps [] ++ ts)
    (shard_taps shard shards visits (All-tail (IsOwnVisit shards) v visits all))
    ∙ sym (kept_taps (v.shard == shard) v (visits_to shard visits))))

-- each tap of the visits has an entry
pub visits_length : (shards : ℕ) (visits : List RunVisit) → All (IsEntered shards) visits
    → taps_posted visits ≡ length (flat_map (λ v. v.taps) visits)
visits_length shards [] all = refl
visits_length shards (v ∷ visits) all =
    let here : length v.taps ≡ length v.entries =
    sym (AllZip-long IsEntryOf v.taps v.entries
    (All-head (IsEntered shards) v visits all).fields) in
    let rest : length (entries_of visits) ≡ length (flat_map (λ x. x.taps) visits) =
    visits_length shards visits (All-tail (IsEntered shards) v visits all) in
    omega (
      arith,
      length-append v.entries (entries_of visits),
      length-append v.taps (flat_map (λ (x : RunVisit). x.taps) visits),
    )

runs_taps_are : (visits : List RunVisit)
    → flat_map (λ v. v.taps) visits ≡ flat_map (λ r. r.taps) (map run_of_visit visits)
runs_taps_are [] = refl
runs_taps_are (v ∷ visits) = ap (λ ts. v.taps ++ ts) (runs_taps_are visits)

pub posted_taps_are : (runs : List PostedRun) (visits : List RunVisit) → ArePostedWhole runs visits
    → flat_map (λ v. v.taps) visits ≡ flat_map (λ r. r.taps) runs
posted_taps_are runs visits posted =
    runs_taps_are visits ∙ ap (λ rs. flat_map (λ (r : PostedRun). r.taps) rs) posted

take_front : {X : Type 0} (xs ys zs : List X) → zs ≡ xs ++ ys → take (length xs) zs ≡ xs
take_front xs ys zs e = ap (take (length xs)) e ∙ take_at xs ys (length xs) refl

-- the first taps in posting order
pub record IsFront (order taps : List Tap) : Type 0 where
  pub fewer : length taps < length order
  pub front : taps ≡ take (length taps) order

pub cut_taps_are : (runs : List PostedRun) (visits : List RunVisit) → AreCut runs visits
    → IsFront (flat_map (λ r. r.taps) runs) (flat_map (λ v. v.taps) visits)
cut_taps_are runs visits c = made c.made
  where
    order : flat_map (λ r. r.taps) runs
        ≡ flat_map (λ r. r.taps) c.before ++ (c.cut.taps ++ flat_map (λ r. r.taps) c.after)
    order = ap (λ rs. flat_map (λ (r : PostedRun). r.taps) rs) c.all
        ∙ flat_map-append (λ (r : PostedRun). r.taps) c.before (c.cut ∷ c.after)

    made : ((map run_of_visit visits ≡ c.before)
        ⊎ ((posted : ℕ) × (posted < length c.cut.taps)
        × (map run_of_visit visits
        ≡ c.before ++ posted_run c.cut.shard (take posted c.cut.taps) ∷ [])))
        → IsFront (flat_map (λ r. r.taps) runs) (flat_map (λ v. v.taps) visits)
    made (inl e) =
        let xs = flat_map (λ (r : PostedRun). r.taps) c.before in
        let same : flat_map (λ v. v.taps) visits ≡ xs = posted_taps_are c.before visits e in
        let F : List Tap → Type 0 = IsFront (flat_map (λ r. r.taps) runs) in
        subst F (sym same) (record {
          fewer = omega (
            arith,
            ap length order,
            length-append xs (c.cut.taps ++ flat_map (λ (r : PostedRun). r.taps) c.after),
            length-append c.cut.taps (flat_map (λ (r : PostedRun). r.taps) c.after),
            c.some_tap,
          );
          front = sym
              (take_front xs (c.cut.taps ++ flat_map (λ (r : PostedRun). r.taps) c.after)
              (flat_map (λ r. r.taps) runs) order);
        })
    made (inr (posted, few, e)) =
        let before = flat_map (λ (r : PostedRun). r.taps) c.before in
        let part : List Tap = take posted c.cut.taps in
        let xs = before ++ part in
        let same : flat_map (λ v. v.taps) visits ≡ xs =
        posted_taps_are (c.before ++ posted_run c.cut.shard part ∷ []) visits e
        ∙ (flat_map-append (λ (r : PostedRun). r.taps) c.before (posted_run c.cut.shard part ∷ [])
        ∙ ap (λ ts. before ++ ts) (append-nil part)) in
        let F : List Tap → Type 0 = IsFront (flat_map (λ r. r.taps) runs) in
        let many : length part ≡ posted = length-take-le posted c.cut.taps (omega (arith, few)) in
        let all : length (flat_map (λ r. r.taps) runs)
        ≡ length before
        + (length c.cut.taps + length (flat_map (λ (r : PostedRun). r.taps) c.after)) =
        omega (
          arith,
          ap length order,
          length-append before (c.cut.taps ++ flat_map (λ (r : PostedRun). r.taps) c.after),
          length-append c.cut.taps (flat_map (λ (r : PostedRun). r.taps) c.after),
        ) in
        let split : c.cut.taps ≡ part ++ drop posted c.cut.taps =
        sym (take-append-drop posted c.cut.taps) in
        let whole : flat_map (λ r. r.taps) runs
        ≡ xs ++ (drop posted c.cut.taps ++ flat_map (λ (r : PostedRun). r.taps) c.after) =
        order ∙ (ap (λ ts. before ++ (ts ++ flat_map (λ (r : PostedRun). r.taps) c.after)) split
        ∙ (ap (λ ts. before ++ ts)
        (append_assoc part (drop posted c.cut.taps) (flat_map (λ (r : PostedRun). r.taps) c.after))
        ∙ sym (append_assoc before part
        (drop posted c.cut.taps ++ flat_map (λ (r : PostedRun). r.taps) c.after)))) in
        subst F (sym same) (record {
          fewer = omega (arith, all, many, few, length-append before part);
          front = sym
              (take_front xs
              (drop posted c.cut.taps ++ flat_map (λ (r : PostedRun). r.taps) c.after)
              (flat_map (λ r. r.taps) runs) whole);
        })

-- what an end reports of an upload is what its visits posted
worked_posted : (given : Given) (w : Worked) → IsWorkOf given.shards given.uploads w
    → WerePostedOf given.shards (file_at given.uploads w.upload) w.end
    (flat_map (λ v. v.taps) w.visits)
worked_posted given w is = by_end w.end is.ended
  where
    number : taps_posted w.visits ≡ length (flat_map (λ v. v.taps) w.visits)
    number = visits_length given.shards w.visits is.entered

    by_end : (end : UploadEnd)
        → IsEndOf given.shards (file_at given.uploads w.upload) is.batches is.rest w.visits end
        → WerePostedOf given.shards (file_at given.uploads w.upload) end
        (flat_map (λ v. v.taps) w.visits)
    by_end (Posted taps) e =
        let R : List ℕ → Type 0 = IsFile (file_at given.uploads w.upload) is.batches in (
          is.batches,
          subst R e.0 is.is_file,
          posted_taps_are (runs_of given.shards is.batches) w.visits e.1,
          e.2 ∙ number,
        )
    by_end (Refused taps offset fault) e = (
      is.batches,
      is.rest,
      is.is_file,
      e.0,
      posted_taps_are (runs_of given.shards is.batches) w.visits e.1,
      e.2 ∙ number,
    )
    by_end (Cut taps) e =
        let f = cut_taps_are (runs_of given.shards is.batches) w.visits e.0 in (
          is.batches,
          is.rest,
          is.is_file,
          omega (arith, f.fewer, e.1, number),
          f.front
              ∙ ap (λ n. take n (in_posting_order given.shards is.batches)) (sym (e.1 ∙ number)),
        )
    by_end Undrawn e = absurd e

-- the works on one upload
abbrev pub works_on : ℕ → List Worked → List Worked
works_on upload works = filter (λ w. w.upload == upload) works

pub no_works_on : (upload : ℕ) (works : List Worked) → drawn_times upload works ≡ 0
    → works_on upload works ≡ []
no_works_on upload [] none = refl
no_works_on upload (w ∷ works) none = by_test (eqb_tells w.upload upload) (no_works_on upload works)
  where
    by_test : (((w.upload == upload) ≡ true) × (w.upload ≡ upload))
        ⊎ (((w.upload == upload) ≡ false) × (w.upload ≢ upload))
        → (drawn_times upload works ≡ 0 → works_on upload works ≡ [])
        → works_on upload (w ∷ works) ≡ []
    by_test (inl (b, e)) rest = absurd (omega (arith, none, times_same w works upload b))
    by_test (inr (b, ne)) rest =
        ap (λ t. cond t (w ∷ works_on upload works) (works_on upload works)) b
        ∙ rest (omega (arith, none, times_other w works upload b))

-- an upload's end reports what was posted of it
pub end_posted : (given : Given) (upload : ℕ) (works : List Worked)
    → All (IsWorkOf given.shards given.uploads) works → NoneTwice (map (λ w. w.upload) works)
    → WerePostedOf given.shards (file_at given.uploads upload) (end_of upload works)
    (posted_of upload works)
end_posted given upload [] all once = refl
end_posted given upload (w ∷ works) all once =
    by_test (eqb_tells w.upload upload)
    (end_posted given upload works (All-tail (IsWorkOf given.shards given.uploads) w works all)
    (fewer_after w works once))
  where
    by_test : (((w.upload == upload) ≡ true) × (w.upload ≡ upload))
        ⊎ (((w.upload == upload) ≡ false) × (w.upload ≢ upload))
        → WerePostedOf given.shards (file_at given.uploads upload) (end_of upload works)
        (posted_of upload works)
        → WerePostedOf given.shards (file_at given.uploads upload) (end_of upload (w ∷ works))
        (posted_of upload (w ∷ works))
    by_test (inl (b, e)) rest =
        let none : works_on upload works ≡ [] =
        no_works_on upload works (omega (arith, once upload, times_same w works upload b)) in
        let only : works_on upload (w ∷ works) ≡ w ∷ [] =
        ap (λ t. cond t (w ∷ works_on upload works) (works_on upload works)) b
        ∙ ap (λ ws. w ∷ ws) none in
        let taps : posted_of upload (w ∷ works) ≡ flat_map (λ v. v.taps) w.visits =
        ap (λ ws. flat_map (λ (v : RunVisit). v.taps) (all_visits ws)) only
        ∙ ap (λ vs. flat_map (λ (v : RunVisit). v.taps) vs) (append-nil w.visits) in
        let U : ℕ → Type 0 =
        λ u. WerePostedOf given.shards (file_at given.uploads u) w.end
        (flat_map (λ v. v.taps) w.visits) in
        let E : UploadEnd → Type 0 =
        λ end. WerePostedOf given.shards (file_at given.uploads upload) end
        (flat_map (λ v. v.taps) w.visits) in
        let T : List Tap → Type 0 =
        WerePostedOf given.shards (file_at given.uploads upload) (end_of upload (w ∷ works)) in
        subst T (sym taps)
        (subst E (sym (end_same w works upload b))
        (subst U e
        (worked_posted given w (All-head (IsWorkOf given.shards given.uploads) w works all))))
    by_test (inr (b, ne)) rest =
        let same : posted_of upload (w ∷ works) ≡ posted_of upload works =
        ap (λ t. flat_map (λ (v : RunVisit). v.taps)
        (all_visits (cond t (w ∷ works_on upload works) (works_on upload works)))) b in
        let E : UploadEnd → Type 0 =
        λ end. WerePostedOf given.shards (file_at given.uploads upload) end
        (posted_of upload works) in
        let T : List Tap → Type 0 =
        WerePostedOf given.shards (file_at given.uploads upload) (end_of upload (w ∷ works)) in
        subst T (sym same) (subst E (sym (end_other w works upload b)) rest)
