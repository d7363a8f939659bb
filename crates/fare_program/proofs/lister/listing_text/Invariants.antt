use Rattle.std.proofs.Common.{◌≡◌, List, fold, map, take}
use Rattle.fare_program.specs.Listing.{Reading, nothing, with_upload}
use Rattle.fare_program.specs.inside.Listing.{IsAt}
use Rattle.std.specs.Option.{option_copied}
use Rattle.fare_program.proofs.lister.listing_text.Given as goal

abbrev pub invariant-loop-file : goal.invariant-loop-file
invariant-loop-file l = (readings : List Reading)
    × (map (λ reading. reading.file) readings ≡ map (λ f. f.items) (take l.file-index l.files))
    × IsAt (option_copied l.table) l.lister
    (fold (with_upload (option_copied l.table)) nothing readings)
