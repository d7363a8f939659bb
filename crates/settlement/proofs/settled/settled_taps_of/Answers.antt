use Rattle.std.proofs.Common.{◌∙◌, flat_map, map, ap, subst, sym}
use Rattle.settlement.proofs.{Files.taps_in, OnlyTaps.own_runs, ReadUploads.joined_read}
use Rattle.settlement.proofs.SettledOrders.{own_early, own_its, own_settled}
use Rattle.settlement.specs.{Posted.only, Reading.AreRead}
use Rattle.std.proofs.lemmas.List.Elements.{All-map}
use Rattle.tap_parts.specs.{Canonical.HasTokenBytes, Canonical.IsCanonical, Parts.taps_of_uploads}
use Rattle.tap_views.specs.Encoding.{fields_of}
use Rattle.world.specs.Run.{Calls}
use Rattle.settlement.proofs.settled.settled_taps_of.Goals as goal

pub returns-clause-order : goal.returns-clause-order
returns-clause-order g c =
    let origin = g.U.Uploads.origin c.args.uploads.now in
    let token = c.args.token in
    let run = c.in_ok-lists.ensures in
    let lists = c.in_ok-lists.field-0.lists.items in (
      run.files,
      subst (λ n. AreRead origin 0 n run.files c.args.calls.now.run c.join.new.self.run)
          c.len.ensures
          (joined_read origin 0 c.len.result run.files c.args.calls.now.run
          c.in_ok-lists.field-0.calls.run c.join.new.self.run run.read
          (ap (λ (calls : Calls). calls.run) c.join.ensures)),
      run.ended,
      own_settled run.files token (flat_map taps_in lists) c.in_ok-taps.taps.items run.taps
          run.of_files
          (own_runs token run.holds.runs lists run.holds.each
          ∙ ap (λ taps. only token (map fields_of taps)) (sym run.holds.whole))
          (All-map HasTokenBytes fields_of (taps_of_uploads run.taps) run.tokens)
          (subst (λ ls. IsCanonical (flat_map taps_in ls) c.in_ok-taps.taps.items)
          c.deref.ensures.value c.in_ok-taps.ensures),
    )

pub returns-clause-early : goal.returns-clause-early
returns-clause-early g c =
    let (files, read, ended, settled) = returns-clause-order g c in
    own_early files c.args.token c.in_ok-taps.taps.items settled

pub returns-clause-its : goal.returns-clause-its
returns-clause-its g c =
    let (files, read, ended, settled) = returns-clause-order g c in
    own_its files c.args.token c.in_ok-taps.taps.items settled
