use Rattle.std.proofs.Common.{◌≡◌, ◌+◌, ◌∙◌, ◌∷◌, ◌++◌, [], ℕ, List, Vec, Global, map, take, ap}
use Rattle.std.proofs.Common.{sym, subst, arith, length-append, refl, Bool}
use Rattle.settled_bills.proofs.Numbering.{traced_push, whole_push}
use Rattle.settled_bills.specs.Traces.{AreReadAs, valid_fields, is_whole, numbered}
use Rattle.settled_bills.specs.declared.trace.TracedTap.{TracedTap}
use Rattle.std.proofs.lemmas.List.{map-append, take_more}
use Rattle.std.specs.{List.list_all, Prelude.◌&&◌}
use Rattle.tap_views.proofs.Lists.{AllZip-append}
use Rattle.tap_views.specs.Files.{IsReadAs, ValidBatchesView}
use Rattle.settled_bills.proofs.trace.collected.Goals as goal

abbrev bytes_in : Vec ℕ Global → List ℕ
bytes_in upload = upload.items

pub loop-upload-init : goal.loop-upload-init
loop-upload-init c = record {
  readings = [];
  read = tt;
  added = c.new-taps.ensures.items;
  are = refl;
  count = refl;
}

pub loop-upload-preserved : goal.loop-upload-preserved
loop-upload-preserved c =
    let inv = c.loop-upload.invariant in
    let uploads = c.args.uploads.now in
    let at = c.loop-upload.upload-index in
    let upload = c.upload-item.result in
    let (reading, read, added, posted) = c.in_ok-posted.ensures in
    let more : take (at + 1) uploads ≡ take at uploads ++ upload ∷ [] =
    take_more uploads at upload c.loop-upload-test.true
    ∙ ap (λ (u : Vec ℕ Global). take at uploads ++ u ∷ []) (sym c.upload-item.is) in
    let files : map bytes_in (take (at + 1) uploads)
    ≡ map bytes_in (take at uploads) ++ c.deref.result.now ∷ [] =
    ap (map bytes_in) more ∙ map-append bytes_in (take at uploads) (upload ∷ [])
    ∙ ap (λ (b : List ℕ). map bytes_in (take at uploads) ++ b ∷ []) (sym c.deref.ensures.value) in
    record {
      readings = inv.readings ++ reading ∷ [];
      read = subst (λ (fs : List (List ℕ)). AreReadAs fs (inv.readings ++ reading ∷ [])) (sym files)
          (AllZip-append (λ (file : List ℕ) (r : ValidBatchesView). IsReadAs file r.batches r.fault)
          (map bytes_in (take at uploads)) inv.readings (c.deref.result.now ∷ []) (reading ∷ [])
          inv.read (read, tt));
      added = added ∙ ap
          (λ (ts : List TracedTap). ts ++ numbered c.loop-upload.number 1 (valid_fields reading))
          inv.added
          ∙ sym (traced_push 0 c.loop-upload.number inv.readings reading
          (omega (arith, inv.count)));
      are = c.both-whole.ensures ∙ ap (λ (b : Bool). b && c.in_ok-posted.posted) inv.are
          ∙ ap (λ (b : Bool). list_all is_whole inv.readings && b) posted
          ∙ sym (whole_push inv.readings reading);
      count = grind (arith, length-append);
    }
