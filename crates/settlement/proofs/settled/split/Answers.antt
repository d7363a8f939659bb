use Rattle.std.proofs.Common.{ap, map, ◌<◌, ◌∙◌, subst, sym}
use Rattle.settlement.proofs.{ReadUploads.joined_read, Splits.are_split, Splits.parts_runs}
use Rattle.settlement.specs.Reading.{AreRead}
use Rattle.std.proofs.lemmas.List.Elements.{All-map}
use Rattle.tap_parts.specs.{Canonical.HasTokenBytes, Parts.taps_at, Parts.taps_of_uploads}
use Rattle.tap_parts.specs.Ranges.{range_of_token}
use Rattle.tap_views.specs.Encoding.{fields_of}
use Rattle.world.specs.Run.{Calls}
use Rattle.settlement.proofs.settled.split.Goals as goal

pub pieces_of-requires : goal.pieces_of-requires
pieces_of-requires g c = (parts_runs c.in_ok-ranges.ranges c.in_ok-lists.ensures.holds.runs
    c.in_ok-lists.field-0.lists.items c.in_ok-lists.ensures.holds.each c.len-2.result
    c.len-2.ensures.number).0

pub returns : goal.returns
returns g c =
    let origin = g.U.Uploads.origin c.args.uploads.now in
    let run = c.in_ok-lists.ensures in
    let lists = c.in_ok-lists.field-0.lists.items in
    let pieces = c.in_ok-parts.ensures in
    let bounds = c.in_ok-ranges.ranges in
    let inside = parts_runs bounds run.holds.runs lists run.holds.each c.len-2.result
    c.len-2.ensures.number in (
      run.files,
      subst (λ n. AreRead origin 0 n run.files c.args.calls.now.run c.join.new.self.run)
          c.len.ensures
          (joined_read origin 0 c.len.result run.files c.args.calls.now.run
          c.in_ok-lists.field-0.calls.run c.join.new.self.run run.read
          (ap (λ (calls : Calls). calls.run) c.join.ensures)),
      are_split run.files c.in_ok-lists.field-0.ends.items c.in_ok-parts.parts.items run.taps bounds
          run.ended run.of_files
          (All-map HasTokenBytes fields_of (taps_of_uploads run.taps) run.tokens)
          (pieces.number ∙ c.len-2.ensures.number) (λ part within.
          let there = subst (λ n. part < n) pieces.number within in
          pieces.each part there ∙ inside.1 part there
          ∙ ap (λ taps. map fields_of (taps_at (range_of_token bounds) part taps))
          (sym run.holds.whole)),
    )
