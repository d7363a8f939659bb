-- Shares that are joined into one.
use Rattle.fare_service.specs.{Claims.claims_at, Faults.visits_held, Headline.Signed}
use Rattle.fare_service.specs.{Headline.by_worker, ShareView.ShareView}
use Rattle.fare_service.specs.Shares.{books_of, made_visits, marks_at, made_visits_at}
use Rattle.fare_service.specs.declared.service.share.Done.{Done}
use Rattle.shared_books.specs.{Drawing.Drawing, Drawing.DrawerView, Marks.visits_of}
use Rattle.shared_books.specs.{Marks.joined_marks, Marks.Apart, Marks.Begins, Passes.SharedBookView}
use Rattle.shared_books.specs.{Passes.PassView, declared.turns.rule.Mark.Mark}
use Rattle.std.specs.List.{flat_map, AllZip}
use Rattle.std.specs.Prelude.{◌≡◌, ◌⊎◌, ℕ, ◌+◌, ◌≤◌, nat_lt, false, List, [], ◌∷◌, length, All}
use Rattle.std.specs.Prelude.{slice_get, Some, slice_set, sum_by}
use Rattle.tap_views.specs.declared.upload_end.UploadEnd.{UploadEnd}
use Rattle.world.specs.Run.{Run, with_all}

-- the ends with those of some uploads, of which the last counts
abbrev pub with_done : List UploadEnd → List Done → List UploadEnd
with_done ends [] = ends
with_done ends (d ∷ done) = with_done (slice_set ends d.upload d.end) done

-- the ends, with those of all shares
abbrev pub with_all_done : List UploadEnd → List ShareView → List UploadEnd
with_all_done ends [] = ends
with_all_done ends (share ∷ shares) = with_all_done (with_done ends share.done) shares

-- what was done, and then what the calls of all shares did, share by share
abbrev pub with_runs : Run → List ShareView → Run
with_runs run [] = run
with_runs run (share ∷ shares) = with_runs (with_all run share.run) shares

-- the sign of a mark, after the first i workers were joined
pub record IsSign (i nobody : ℕ) (s : Signed) (m : Mark) : Type 0 where
  pub visit : s.entries ≡ m.visit
  pub mine : m.mine ≡ nat_lt s.worker i
  pub other : m.mine ≡ false → s.worker ≡ nobody

-- each sign is that of its mark
abbrev pub AreSigns : ℕ → ℕ → List Signed → List Mark → Type 0
AreSigns i nobody signs marks = AllZip (IsSign i nobody) signs marks

-- two lists of marks that were joined
pub record AreJoined (old other new : List Mark) : Type 0 where
  pub marks : new ≡ joined_marks old other
  pub apart : Apart old other
  pub begins : Begins (visits_of old) (visits_of other) ⊎ Begins (visits_of other) (visits_of old)
  pub held : length (made_visits new) ≡ length (made_visits old) + length (made_visits other)

-- the passes to a shard were joined
abbrev pub AreJoinedAt : ℕ → List PassView → List PassView → List PassView → Type 0
AreJoinedAt shard old other new =
    AreJoined (marks_at shard old) (marks_at shard other) (marks_at shard new)

-- who made which visit to a shard
pub record AreSignedAt (nobody shard : ℕ) (shares : List ShareView) (passes : List PassView)
    : Type 0 where
  pub signs : List Signed
  pub of_marks : AreSigns (length shares) nobody signs (marks_at shard passes)
  pub made : (worker : ℕ) (share : ShareView) → slice_get shares worker ≡ Some share
      → by_worker worker signs ≡ made_visits_at shard share.passes

-- the share belongs to the drawing and to the books
pub record Belongs (drawing : Drawing) (books : List SharedBookView) (share : ShareView)
    : Type 0 where
  pub drawn_from : share.drawer.drawn_from ≡ drawing
  pub of_books : books_of share.passes ≡ books

-- a drawer and passes that have what these shares had
pub record IsJoinedOf (drawing : Drawing) (books : List SharedBookView) (nobody : ℕ)
    (shares : List ShareView) (drawer : DrawerView) (passes : List PassView) : Type 0 where
  pub drawn_from : drawer.drawn_from ≡ drawing
  pub claims : drawer.claims ≡ sum_by (λ share. share.drawer.claims) shares
  pub pass_claims : (shard : ℕ)
      → claims_at shard passes ≡ sum_by (λ share. claims_at shard share.passes) shares
  pub drawn : drawer.drawn ≡ flat_map (λ share. share.drawer.drawn) shares
  pub seen : All (λ share. share.drawer.seen ≤ drawer.seen) shares
  pub of_books : books_of passes ≡ books
  pub signed : (shard : ℕ) → AreSignedAt nobody shard shares passes
  pub held : (shard : ℕ) → length (made_visits_at shard passes) ≡ visits_held shard shares
  pub longest : (shard : ℕ)
      → All (λ share. length (marks_at shard share.passes) ≤ length (marks_at shard passes)) shares
