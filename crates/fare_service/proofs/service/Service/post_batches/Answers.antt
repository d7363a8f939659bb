use Rattle.std.proofs.Common.{List, [], ◌++◌, ◌∷◌, ◌≤◌, ◌*◌, ◌<◌, ◌^◌, length, true, false, inl}
use Rattle.std.proofs.Common.{◌∙◌, sym, refl, subst, append-nil, arith}
use Rattle.fare_service.proofs.FullLemmas.{handed_on, reports_ok, the_error}
use Rattle.fare_service.proofs.PostedBatches.{done_room, posted_few, batches_more, batches_cut}
use Rattle.fare_service.proofs.{PostedBatches.cut_upload, TapCounts.batches_taps}
use Rattle.fare_service.proofs.VisitLemmas.{made_none}
use Rattle.fare_service.specs.ServiceView.{shards_of}
use Rattle.histories.specs.Sums.{sums_of}
use Rattle.tap_views.proofs.ParseLemmas.{read_end, read_on}
use Rattle.tap_views.specs.{Files.IsFile, Layout.Tap}
use Rattle.fare_service.proofs.service.Service.post_batches.Goals as goal

pub loop-batch-init : goal.loop-batch-init
loop-batch-init g c =
    record {
      may = tt;
      ends = tt;
      read = c.valid_batches-valid.ensures;
      passes = c.requires.passes;
      clock = refl;
      runs = refl;
      full = λ h. h;
      made = (
        [],
        made_none (shards_of c.args.self.now) c.args.posting.now.passes.items
            (sums_of c.args.posting.now.totals),
        refl,
      );
    }

pub post_batch-requires-clause-room : goal.post_batch-requires-clause-room
post_batch-requires-clause-room g c =
    let before = c.loop-batch.invariant in
    let done = c.loop-batch.yielded in
    let room : 24 * batches_taps done ≤ length c.args.file.now =
    done_room c.args.file.now done c.loop-batch.valid.batches before.read.rest
    before.read.is_file in
    let small : length c.args.file.now < 2 ^ 64 =
    omega (arith, c.bytes_in-bytes.ensures, c.bytes_in-bytes.type_inv) in
    let few = posted_few (shards_of c.args.self.now) c.args.posting.now.passes.items
    c.loop-batch.posting.passes.items (sums_of c.args.posting.now.totals)
    (sums_of c.loop-batch.posting.totals) before.made.0 c.args.file.now done true before.made.1
    before.made.2 room small in
    omega (arith, few, c.requires.room)

pub loop-batch-preserved : goal.loop-batch-preserved
loop-batch-preserved g c =
    let before = c.loop-batch.invariant in
    let done = c.loop-batch.yielded in
    let more = c.in_ok-post_batch.ensures in
    record {
      may = tt;
      ends = tt;
      read = read_on _ _ _ _ _ before.read c.in-Some.ensures.steps;
      passes = more.made.1.books ∙ before.passes;
      clock = more.clock ∙ before.clock;
      runs = more.runs ∙ before.runs;
      full = λ h. more.full (inl (before.full h));
      made = batches_more (shards_of c.args.self.now) c.args.posting.now.passes.items
          c.loop-batch.posting.passes.items c.post_batch.new.posting.passes.items
          (sums_of c.args.posting.now.totals) (sums_of c.loop-batch.posting.totals)
          (sums_of c.post_batch.new.posting.totals) done c.in-Some.batch before.made
          more.made;
    }

pub returns-in_err-post_batch-clause-made : goal.returns-in_err-post_batch-clause-made
returns-in_err-post_batch-clause-made g c =
    let before = c.loop-batch.invariant in
    let done = c.loop-batch.yielded in
    let batch = c.in-Some.batch in
    let more = c.next.new.self.batches in
    let read = read_on c.args.file.now done batch c.loop-batch.valid c.next.new.self before.read
    c.in-Some.ensures.steps in
    cut_upload c.from_residual.result (shards_of c.args.self.now) c.args.file.now
    c.args.posting.now.passes.items c.post_batch.new.posting.passes.items
    (sums_of c.args.posting.now.totals) (sums_of c.post_batch.new.posting.totals)
    ((done ++ batch ∷ []) ++ more) read.rest c.from_residual.ensures.0 read.is_file
    (batches_cut (shards_of c.args.self.now) c.args.posting.now.passes.items
    c.loop-batch.posting.passes.items c.post_batch.new.posting.passes.items
    (sums_of c.args.posting.now.totals) (sums_of c.loop-batch.posting.totals)
    (sums_of c.post_batch.new.posting.totals) done more batch before.made
    c.in_err-post_batch.ensures.made)

pub returns-in_err-post_batch-clause-few : goal.returns-in_err-post_batch-clause-few
returns-in_err-post_batch-clause-few g c =
    let before = c.loop-batch.invariant in
    let done = c.loop-batch.yielded in
    let batch = c.in-Some.batch in
    let more = c.next.new.self.batches in
    let read = read_on c.args.file.now done batch c.loop-batch.valid c.next.new.self before.read
    c.in-Some.ensures.steps in
    let cut = batches_cut (shards_of c.args.self.now) c.args.posting.now.passes.items
    c.loop-batch.posting.passes.items c.post_batch.new.posting.passes.items
    (sums_of c.args.posting.now.totals) (sums_of c.loop-batch.posting.totals)
    (sums_of c.post_batch.new.posting.totals) done more batch before.made
    c.in_err-post_batch.ensures.made in
    let F : List (List Tap) → Type 0 = λ bs. IsFile c.args.file.now bs read.rest in
    let all = (done ++ batch ∷ []) ++ more in
    let room : 24 * batches_taps all ≤ length c.args.file.now =
    done_room c.args.file.now all [] read.rest (subst F (sym (append-nil all)) read.is_file) in
    let small : length c.args.file.now < 2 ^ 64 =
    omega (arith, c.bytes_in-bytes.ensures, c.bytes_in-bytes.type_inv) in
    posted_few (shards_of c.args.self.now) c.args.posting.now.passes.items
    c.post_batch.new.posting.passes.items (sums_of c.args.posting.now.totals)
    (sums_of c.post_batch.new.posting.totals) cut.0 c.args.file.now all false cut.1 cut.2 room small

pub returns-clause-made : goal.returns-clause-made
returns-clause-made g c =
    let end = c.loop-batch.invariant in
    let read = read_end _ _ _ _ _ end.read c.in_default.ensures.steps c.fault.ensures in
    (c.loop-batch.yielded, read.rest, read.is_file, end.made, read.is_end)

pub returns-clause-few : goal.returns-clause-few
returns-clause-few g c =
    let end = c.loop-batch.invariant in
    let done = c.loop-batch.yielded in
    let room : 24 * batches_taps done ≤ length c.args.file.now =
    done_room c.args.file.now done c.loop-batch.valid.batches end.read.rest end.read.is_file in
    let small : length c.args.file.now < 2 ^ 64 =
    omega (arith, c.bytes_in-bytes.ensures, c.bytes_in-bytes.type_inv) in
    posted_few (shards_of c.args.self.now) c.args.posting.now.passes.items
    c.loop-batch.posting.passes.items (sums_of c.args.posting.now.totals)
    (sums_of c.loop-batch.posting.totals) end.made.0 c.args.file.now done true end.made.1 end.made.2
    room small

pub returns-in_err-post_batch-clause-full : goal.returns-in_err-post_batch-clause-full
returns-in_err-post_batch-clause-full g c =
    handed_on c.post_batch.result c.from_residual.result c.in_err-post_batch.field-0.0 _ _ _
    c.in_err-post_batch.was
    (the_error c.from_residual.result c.in_err-post_batch.field-0.0 c.from_residual.ensures.1)
    c.loop-batch.invariant.full c.post_batch.ensures.full

pub returns-clause-full : goal.returns-clause-full
returns-clause-full g c = reports_ok _ _ _ c.loop-batch.invariant.full
