use Rattle.std.proofs.Common.{◌++◌, ◌∷◌, [], ◌∙◌, ap, ap₂, map, sym, take}
use Rattle.fare_program.specs.Listing.{Reading}
use Rattle.std.proofs.lemmas.List.{map-append, take_more, Sums.fold-append}
use Rattle.fare_program.proofs.lister.listing_text.Goals as goal

pub loop-file-preserved : goal.loop-file-preserved
loop-file-preserved c =
    let (before, files, at) = c.loop-file.invariant in
    let (reading, file, next) = c.in_ok-list_upload.ensures in (
      before ++ reading ∷ [],
      map-append (λ (r : Reading). r.file) before (reading ∷ [])
          ∙ ap₂ (λ fs f. fs ++ f ∷ []) files
          (file ∙ c.deref.ensures.value ∙ ap (λ f. f.items) c.file-item.is)
          ∙ sym (ap (map (λ f. f.items))
          (take_more c.args.files.now c.loop-file.file-index c.file-item.result c.loop-file-test.true)
          ∙ map-append (λ f. f.items) (take c.loop-file.file-index c.args.files.now) _),
      rw fold-append (next _ at),
    )
