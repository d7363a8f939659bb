-- A worker that goes on, and where it stops.
use Rattle.std.proofs.Common.{refl, sym, ◌∙◌, ap, inl, inr}
use Rattle.fare_service.proofs.ShareLemmas.{worked_none, worked_one, worked_more}
use Rattle.fare_service.specs.{Lending.origin_at, Runs.RunVisit}
use Rattle.fare_service.specs.{ServiceView.ServiceView, ServiceView.shards_of, ShareView.ShareView}
use Rattle.fare_service.specs.Shares.{Worked, HasWorked, IsWorked, HasVisited, WentOn}
use Rattle.fare_service.specs.Stopping.{SomeFull, MayGoOn, StoppedCleanly, WasCut}
use Rattle.fare_service.specs.{declared.service.share.Done.Done, inside.Shares.worked}
use Rattle.shared_books.specs.Passes.{PassView}
use Rattle.std.proofs.lemmas.List.Elements.{All-nil, All-cons, All-append, All-weaker}
use Rattle.std.specs.Option.{option_to_list}
use Rattle.std.specs.Prelude.{◌≡◌, ◌+◌, ℕ, List, [], ◌∷◌, ◌++◌, All, length, Some, None}
use Rattle.world.specs.Origins.{loads_from, with_loads}

-- the worker worked on these uploads, and went on after each
abbrev pub Going : ServiceView → ShareView → ShareView → Type 0
Going service old new =
    (more : List Worked) × HasWorked service old new more × All (MayGoOn new.passes) more

-- who knew of a full shard knows of one still
still : (p q : List PassView) → (SomeFull p → SomeFull q) → (works : List Worked)
    → All (MayGoOn p) works → All (MayGoOn q) works
still p q more works all = All-weaker (MayGoOn p) (MayGoOn q) (λ w h. one w h) works all
  where
    one : (w : Worked) → MayGoOn p w → MayGoOn q w
    one w (inl whole) = inl whole
    one w (inr some) = inr (more some)

pub going_more : (service : ServiceView) (old a b : ShareView) (w : Worked) → Going service old a
    → HasWorked service a b (w ∷ []) → (SomeFull a.passes → SomeFull b.passes) → MayGoOn b.passes w
    → Going service old b
going_more service old a b w (more, worked, all) one full goes = (
  more ++ w ∷ [],
  worked_more service old a b more (w ∷ []) worked one,
  All-append (MayGoOn b.passes) more (w ∷ []) (still a.passes b.passes full more all)
      (All-cons (MayGoOn b.passes) w [] goes (All-nil (MayGoOn b.passes))),
)

-- no upload was left
pub stopped_none : (service : ServiceView) (old a b : ShareView) → Going service old a
    → HasWorked service a b [] → (SomeFull a.passes → SomeFull b.passes)
    → b.drawer.seen ≡ length service.uploads
    → StoppedCleanly service old b
stopped_none service old a b (more, worked, all) none full seen = record {
  before = more;
  last = None;
  worked = worked_more service old a b more [] worked none;
  went_on = still a.passes b.passes full more all;
  stopped = seen;
}

-- the last upload was cut
pub stopped_cut : (service : ServiceView) (old a b : ShareView) (w : Worked) → Going service old a
    → HasWorked service a b (w ∷ []) → (SomeFull a.passes → SomeFull b.passes) → WasCut w.end
    → StoppedCleanly service old b
stopped_cut service old a b w (more, worked, all) one full cut = record {
  before = more;
  last = Some w;
  worked = worked_more service old a b more (w ∷ []) worked one;
  went_on = still a.passes b.passes full more all;
  stopped = cut;
}

pub stopped_went_on : (service : ServiceView) (old new : ShareView) → StoppedCleanly service old new
    → WentOn service old new
stopped_went_on service old new s = (s.before ++ option_to_list s.last, s.worked)

pub going_start : (service : ServiceView) (share : ShareView) → Going service share share
going_start service share = (
  [],
  worked_none service share share refl refl refl refl refl refl,
  All-nil (MayGoOn share.passes),
)

-- an upload that was drawn, lent and posted
pub step : (service : ServiceView) (a b : ShareView) (next : Done) (upload : ℕ) (file : List ℕ)
    → next.upload ≡ upload
    → b.drawer ≡ record a.drawer { seen = upload + 1; drawn = a.drawer.drawn ++ upload ∷ [] }
    → b.done ≡ a.done ++ next ∷ []
    → (did : (visits : List RunVisit)
    × HasVisited (shards_of service) a.passes b.passes a.totals b.totals visits
    × IsWorked service (worked next.upload file next.end visits))
    → b.run ≡ with_loads a.run (loads_from (origin_at service.uploads upload) file)
    → HasWorked service a b (worked next.upload file next.end did.0 ∷ [])
step service a b next upload file is drawer done did provided =
    worked_one service a b (worked next.upload file next.end did.0) did.2
    (ap (λ d. d.claims) drawer)
    (ap (λ d. d.drawn) drawer ∙ ap (λ (u : ℕ). a.drawer.drawn ++ u ∷ []) (sym is)) done did.1
    (provided ∙ ap (λ (u : ℕ). with_loads a.run (loads_from (origin_at service.uploads u) file))
    (sym is))
