-- Where the posted taps are: each in one entry of its shard's book, and the books have no other
-- entries.
use Rattle.fare_service.specs.{Runs.runs_of, Shares.Worked, Shares.all_visits}
use Rattle.histories.specs.{Entry.IsEntryOf, declared.entry.Entry.Entry}
use Rattle.std.specs.{List.flat_map, List.AllZip, Prelude.◌≡◌, Prelude.ℕ}
use Rattle.std.specs.Prelude.{◌<◌, ◌==◌, Bool, List, [], length, map, filter, take, All, count_by}
use Rattle.tap_views.specs.{Files.IsFile, Files.IsFaultAt, Layout.Tap, Shards.run_of}
use Rattle.tap_views.specs.{Shards.shard_of_token, declared.upload_end.UploadEnd.UploadEnd}
use Rattle.tap_views.specs.declared.upload_end.UploadEnd.TheVariants.{Posted, Refused, Cut, Undrawn}

-- the taps of an upload's batches in the order in which they are posted: batch by batch, and each
-- batch by increasing shard
abbrev pub in_posting_order : ℕ → List (List Tap) → List Tap
in_posting_order shards batches = flat_map (λ run. run.taps) (runs_of shards batches)

-- What was posted of an upload that ended so: all taps before its first fault, or, if it was cut,
-- the first of them in posting order, as many as the end says.
abbrev pub WerePostedOf : ℕ → List ℕ → UploadEnd → List Tap → Type 0
WerePostedOf shards file (Posted taps) posted =
    (batches : List (List Tap)) × IsFile file batches []
    × (posted ≡ in_posting_order shards batches) × (taps ≡ length posted)
WerePostedOf shards file (Refused taps offset fault) posted =
    (batches : List (List Tap)) × (rest : List ℕ) × IsFile file batches rest
    × IsFaultAt file rest offset fault
    × (posted ≡ in_posting_order shards batches) × (taps ≡ length posted)
WerePostedOf shards file (Cut taps) posted =
    (batches : List (List Tap)) × (rest : List ℕ) × IsFile file batches rest
    × (taps < length (in_posting_order shards batches))
    × (posted ≡ take taps (in_posting_order shards batches))
WerePostedOf shards file Undrawn posted = posted ≡ []

-- a tap of an upload
pub record Origin : Type 0 where
  pub upload : ℕ
  pub tap : Tap

-- the taps of one upload, in their order
abbrev pub of_upload : ℕ → List Origin → List Tap
of_upload upload origins = map (λ o. o.tap) (filter (λ o. o.upload == upload) origins)

-- the taps that were posted of an upload, in posting order
abbrev pub posted_of : ℕ → List Worked → List Tap
posted_of upload works =
    flat_map (λ v. v.taps) (all_visits (filter (λ w. w.upload == upload) works))

-- Each entry of a shard's book represents a tap of an upload, and has the fields of its bytes. Of
-- each upload these are exactly its posted taps of the shard, each once, in the order of the
-- upload.
pub record OccurOnce (shard shards : ℕ) (works : List Worked) (entries : List Entry) : Type 0 where
  pub origins : List Origin
  pub fields : AllZip (λ origin entry. IsEntryOf origin.tap entry) origins entries
  pub exactly : (upload : ℕ)
      → of_upload upload origins ≡ run_of shard shards (posted_of upload works)

-- The same taps in another order: those of each shard are in the same order, and of each kind
-- there are as many.
pub record IsReordered (shards : ℕ) (taps ordered : List Tap) : Type 0 where
  pub same : (shard : ℕ) → shard < shards
      → run_of shard shards ordered ≡ run_of shard shards taps
  pub within : All (λ tap. shard_of_token tap.token shards < shards) taps
  pub number : length ordered ≡ length taps
  pub counts : (kind : Tap → Bool) → count_by kind ordered ≡ count_by kind taps

-- the taps of the batches, in file order
abbrev pub in_file_order : List (List Tap) → List Tap
in_file_order batches = flat_map (λ batch. batch) batches
