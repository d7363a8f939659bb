-- What a share keeps, one upload after another.
use Rattle.std.proofs.Common.{refl, sym, ◌∙◌, ap, subst, arith, append_assoc, append-nil}
use Rattle.std.proofs.Common.{length-append}
use Rattle.fare_service.proofs.VisitLemmas.{made_none, made_more, entries_to-append, own-others}
use Rattle.fare_service.proofs.VisitLemmas.{no_taps}
use Rattle.fare_service.specs.{Claims.claims_at, Claims.left_share, Lending.origin_at}
use Rattle.fare_service.specs.Runs.{RunVisit, entries_to, entries_of}
use Rattle.fare_service.specs.{ServiceView.ServiceView, ServiceView.shards_of, ShareView.ShareView}
use Rattle.fare_service.specs.Shares.{Worked, all_visits, done_of, IsWorked, KeepsWorks, IsShareOf}
use Rattle.fare_service.specs.Shares.{IsFresh, HasWorked, HasVisited, made_visits_at, made_visits}
use Rattle.fare_service.specs.{Shares.books_of, Shares.loads_of, declared.service.share.Done.Done}
use Rattle.histories.proofs.SumsLemmas.{sums-append}
use Rattle.histories.specs.Sums.{Sums, sums, add_sums}
use Rattle.shared_books.specs.Claims.{all_claims, claims_given, claims_left}
use Rattle.shared_books.specs.{Drawing.DrawerView, Passes.PassView}
use Rattle.shared_books.specs.Passes.{SharedBookView, new_pass, fresh_pass, left_pass, seen_by}
use Rattle.std.proofs.lemmas.{Grind.flat_map-append, List.map-append}
use Rattle.std.proofs.lemmas.List.Elements.{All-nil, All-cons, All-append}
use Rattle.std.specs.Prelude.{ℕ, zero, suc, ◌≡◌, ◌+◌, ◌*◌, ◌^◌, ◌≤◌, ◌<◌, List, [], ◌∷◌, ◌++◌}
use Rattle.std.specs.Prelude.{length, map}
use Rattle.world.proofs.Laws.{more_loads, no_loads}
use Rattle.world.specs.Origins.{Origin, loads_from, with_loads}
use Rattle.world.specs.Run.{Run, nothing_yet}

pub all_visits-append : (xs ys : List Worked)
    → all_visits (xs ++ ys) ≡ all_visits xs ++ all_visits ys
all_visits-append xs ys = flat_map-append (λ w. w.visits) xs ys

pub loads_append : (uploads : List Origin) (xs ys : List Worked)
    → loads_of uploads (xs ++ ys) ≡ loads_of uploads xs ++ loads_of uploads ys
loads_append uploads xs ys =
    flat_map-append (λ w. loads_from (origin_at uploads w.upload) w.file) xs ys

-- nothing was done with the share
pub worked_none : (service : ServiceView) (old new : ShareView)
    → new.drawer.claims ≡ old.drawer.claims → new.drawer.drawn ≡ old.drawer.drawn
    → new.done ≡ old.done → new.passes ≡ old.passes → new.totals ≡ old.totals
    → new.run ≡ old.run → HasWorked service old new []
worked_none service old new claims drawn done passes totals run =
    let P : List PassView → Type 0 =
    λ ps. HasVisited (shards_of service) old.passes ps old.totals new.totals [] in
    let T : Sums → Type 0 =
    λ t. HasVisited (shards_of service) old.passes old.passes old.totals t [] in
    record {
      each = All-nil (IsWorked service);
      claims = claims;
      drawn = drawn ∙ sym (append-nil old.drawer.drawn);
      done = done ∙ sym (append-nil old.done);
      made = subst P (sym passes)
          (subst T (sym totals) (made_none (shards_of service) old.passes old.totals));
      loads = run ∙ sym (no_loads old.run);
    }

-- one upload was drawn and posted
pub worked_one : (service : ServiceView) (old new : ShareView) (w : Worked) → IsWorked service w
    → new.drawer.claims ≡ old.drawer.claims → new.drawer.drawn ≡ old.drawer.drawn ++ w.upload ∷ []
    → new.done ≡ old.done ++ done_of w ∷ []
    → HasVisited (shards_of service) old.passes new.passes old.totals new.totals w.visits
    → new.run ≡ with_loads old.run (loads_from (origin_at service.uploads w.upload) w.file)
    → HasWorked service old new (w ∷ [])
worked_one service old new w is claims drawn done made provided =
    let loads = loads_from (origin_at service.uploads w.upload) w.file in
    let P : List RunVisit → Type 0 =
    λ vs. HasVisited (shards_of service) old.passes new.passes old.totals new.totals vs in
    record {
      each = All-cons (IsWorked service) w [] is (All-nil (IsWorked service));
      claims = claims;
      drawn = drawn;
      done = done;
      made = subst P (sym (append-nil w.visits)) made;
      loads = provided ∙ ap (with_loads old.run) (sym (append-nil loads));
    }

-- some uploads, and then others
pub worked_more : (service : ServiceView) (a b c : ShareView) (xs ys : List Worked)
    → HasWorked service a b xs → HasWorked service b c ys → HasWorked service a c (xs ++ ys)
worked_more service a b c xs ys p q =
    let P : List RunVisit → Type 0 =
    λ vs. HasVisited (shards_of service) a.passes c.passes a.totals c.totals vs in
    record {
      each = All-append (IsWorked service) xs ys p.each q.each;
      claims = q.claims ∙ p.claims;
      drawn = q.drawn
          ∙ (ap (λ ds. ds ++ map (λ w. w.upload) ys) p.drawn
          ∙ append_assoc a.drawer.drawn (map (λ w. w.upload) xs) (map (λ w. w.upload) ys)
          ∙ ap (λ ds. a.drawer.drawn ++ ds) (sym (map-append (λ w. w.upload) xs ys)));
      done = q.done
          ∙ (ap (λ ds. ds ++ map done_of ys) p.done
          ∙ append_assoc a.done (map done_of xs) (map done_of ys)
          ∙ ap (λ ds. a.done ++ ds) (sym (map-append done_of xs ys)));
      made = subst P (sym (all_visits-append xs ys))
          (made_more (shards_of service) a.passes b.passes c.passes a.totals b.totals c.totals
          (all_visits xs) (all_visits ys) p.made q.made);
      loads = q.loads
          ∙ (ap (λ r. with_loads r (loads_of service.uploads ys)) p.loads
          ∙ more_loads a.run (loads_of service.uploads xs) (loads_of service.uploads ys)
          ∙ ap (with_loads a.run) (sym (loads_append service.uploads xs ys)));
    }

-- what a share keeps after it went on
pub keeps_more : (service : ServiceView) (old new : ShareView) (works more : List Worked)
    → KeepsWorks service old works → HasWorked service old new more
    → KeepsWorks service new (works ++ more)
keeps_more service old new works more k h = record {
  each = All-append (IsWorked service) works more k.each h.each;
  drawn = h.drawn
      ∙ (ap (λ ds. ds ++ map (λ w. w.upload) more) k.drawn
      ∙ sym (map-append (λ w. w.upload) works more));
  done = h.done ∙ (ap (λ ds. ds ++ map done_of more) k.done ∙ sym (map-append done_of works more));
  visits = λ s. h.made.visits s
      ∙ (ap (λ vs. vs ++ entries_to s (all_visits more)) (k.visits s)
      ∙ sym (ap (entries_to s) (all_visits-append works more)
      ∙ entries_to-append s (all_visits works) (all_visits more)));
  totals = h.made.counted ∙ (ap (λ t. add_sums t (sums (entries_of (all_visits more)))) k.totals
      ∙ sym (ap (λ vs. sums (entries_of vs)) (all_visits-append works more)
      ∙ ap sums (flat_map-append (λ v. v.entries) (all_visits works) (all_visits more))
      ∙ sums-append (entries_of (all_visits works)) (entries_of (all_visits more))));
  loads = h.loads
      ∙ (ap (λ r. with_loads r (loads_of service.uploads more)) k.loads
      ∙ ap (with_loads nothing_yet) (sym (loads_append service.uploads works more)));
}

pub share_more : (service : ServiceView) (old new : ShareView) (more : List Worked)
    → (share : IsShareOf service old) → HasWorked service old new more
    → new.drawer.drawn_from ≡ old.drawer.drawn_from
    → new.totals.taps ≤ old.totals.taps + 2 ^ 60 * length more → IsShareOf service new
share_more service old new more share h drawn_from few = record {
  drawer = drawn_from ∙ share.drawer;
  passes = h.made.books ∙ share.passes;
  works = share.works ++ more;
  keeps = keeps_more service old new share.works more share.keeps h;
  room = omega (arith, few, share.room, length-append share.works more);
}

abbrev pub holding : DrawerView → List PassView → Sums → List Done → Run → ShareView
holding drawer passes totals done run =
    record { drawer = drawer; passes = passes; totals = totals; done = done; run = run }

-- passes of which none made a visit
pub own_none : {A : Type 0} (f : A → PassView) → ((x : A) → made_visits (f x).marks ≡ [])
    → (shard : ℕ) (xs : List A) → made_visits_at shard (map f xs) ≡ []
own_none f none shard [] = refl
own_none f none zero (x ∷ xs) = none x
own_none f none (suc shard) (x ∷ xs) = own_none f none shard xs

pub own_new : (shard : ℕ) (books : List SharedBookView)
    → made_visits_at shard (map new_pass books) ≡ []
own_new shard books = own_none new_pass (λ b. refl) shard books

pub own_split : (shard : ℕ) (passes : List PassView)
    → made_visits_at shard (map fresh_pass passes) ≡ []
own_split shard passes = own_none fresh_pass (λ p. own-others (seen_by p)) shard passes

pub books_new : (books : List SharedBookView) → books_of (map new_pass books) ≡ books
books_new [] = refl
books_new (b ∷ bs) = ap (λ xs. b ∷ xs) (books_new bs)

pub own_left : (shard : ℕ) (passes : List PassView)
    → made_visits_at shard (map left_pass passes) ≡ made_visits_at shard passes
own_left shard [] = refl
own_left zero (p ∷ ps) = refl
own_left (suc shard) (p ∷ ps) = own_left shard ps

pub books_left : (passes : List PassView) → books_of (map left_pass passes) ≡ books_of passes
books_left [] = refl
books_left (p ∷ ps) = ap (λ xs. p.book ∷ xs) (books_left ps)

-- the share that a split leaves is a share still
pub share_left : (service : ServiceView) (share : ShareView) → IsShareOf service share
    → IsShareOf service (left_share share)
share_left service share is = record {
  drawer = is.drawer;
  passes = books_left share.passes ∙ is.passes;
  works = is.works;
  keeps = record {
    each = is.keeps.each;
    drawn = is.keeps.drawn;
    done = is.keeps.done;
    visits =
        λ s. own_left s share.passes ∙ is.keeps.visits s;
    totals = is.keeps.totals;
    loads = is.keeps.loads;
  };
  room = is.room;
}

pub claims_left_at : (shard : ℕ) (passes : List PassView)
    → claims_at shard (map left_pass passes) ≡ claims_left (claims_at shard passes)
claims_left_at shard [] = refl
claims_left_at zero (p ∷ ps) = refl
claims_left_at (suc shard) (p ∷ ps) = claims_left_at shard ps

pub claims_given_at : (shard : ℕ) (passes : List PassView)
    → claims_at shard (map fresh_pass passes) ≡ claims_given (claims_at shard passes)
claims_given_at shard [] = refl
claims_given_at zero (p ∷ ps) = refl
claims_given_at (suc shard) (p ∷ ps) = claims_given_at shard ps

pub claims_new_at : (shard : ℕ) (books : List SharedBookView) → shard < length books
    → claims_at shard (map new_pass books) ≡ all_claims
claims_new_at shard [] within = absurd (omega arith)
claims_new_at zero (b ∷ bs) within = refl
claims_new_at (suc shard) (b ∷ bs) within = claims_new_at shard bs (omega arith)

pub books_split : (passes : List PassView) → books_of (map fresh_pass passes) ≡ books_of passes
books_split [] = refl
books_split (p ∷ ps) = ap (λ xs. p.book ∷ xs) (books_split ps)

-- a share with which nothing was done
pub fresh_share : (service : ServiceView) (share : ShareView) → IsFresh share
    → share.drawer.drawn_from ≡ service.drawing → books_of share.passes ≡ service.books
    → IsShareOf service share
fresh_share service share fresh drawn_from books = record {
  drawer = drawn_from;
  passes = books;
  works = [];
  keeps = record {
    each = All-nil (IsWorked service);
    drawn = fresh.drawn;
    done = fresh.done;
    visits = fresh.visits;
    totals = fresh.totals;
    loads = fresh.run;
  };
  room = omega (arith, ap (λ s. s.taps) fresh.totals, no_taps);
}
