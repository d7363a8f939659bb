use Rattle.std.proofs.Common.{List, [], ◌++◌, map, ap, ◌∙◌, sym, refl, subst, append_assoc}
use Rattle.std.proofs.Common.{append-nil}
use Rattle.ledger_check.specs.Balances.{IsBalance}
use Rattle.std.proofs.lemmas.List.{map-append}
use Rattle.tap_views.proofs.ParseLemmas.{valid_taps, read_end, read_on, taps_more}
use Rattle.tap_views.specs.{Encoding.fields_of, Files.ValidBatchesView, Files.IsReadAs}
use Rattle.tap_views.specs.{Files.taps_of_batches, Layout.Tap, declared.encoder.TapFields.TapFields}
use Rattle.ledger_check.proofs.balance.Balance.add_upload.Goals as goal

pub loop-batch-init : goal.loop-batch-init
loop-batch-init c =
    let P : ValidBatchesView → Type 0 = λ g. IsReadAs c.args.upload.now g.batches g.fault in
    let Q : List TapFields → Type 0 = λ ts. IsBalance c.args.self.now ts [] in
    record {
      may = tt;
      ends = tt;
      read = subst P (sym c.into_iter-batch-iterator.ensures.into_iter_gives)
          c.valid_batches-batch-items.ensures;
      added = λ valid is. subst Q (sym (append-nil valid)) is;
    }

pub loop-batch-preserved : goal.loop-batch-preserved
loop-batch-preserved c =
    let done = c.loop-batch.yielded in
    let batch = c.in-Some.batch in
    record {
      may = tt;
      ends = tt;
      read = read_on _ _ _ _ _ c.loop-batch.invariant.read c.in-Some.ensures.steps;
      added = λ valid is.
          let before = map fields_of (taps_of_batches done) in
          let more = c.in_ok-add_batch.ensures (valid ++ before)
          (c.loop-batch.invariant.added valid is) in
          subst (λ (ts : List TapFields). IsBalance c.add_batch.new.self ts [])
          (append_assoc valid before (map fields_of batch)
          ∙ ap (λ (ts : List TapFields). valid ++ ts)
          (sym (map-append fields_of (taps_of_batches done) batch))
          ∙ ap (λ (ts : List Tap). valid ++ map fields_of ts) (sym (taps_more done batch))) more;
    }

pub returns : goal.returns
returns c =
    let end = c.loop-batch.invariant in
    let taps = taps_of_batches c.loop-batch.yielded in
    let read = read_end _ _ _ _ _ end.read c.in-None.ensures.steps refl in
    (map fields_of taps, (taps, valid_taps _ _ _ read, refl), end.added)
