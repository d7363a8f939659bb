use Rattle.std.proofs.Common.{All, take}
use Rattle.tap_views.specs.Files.{HasUniqueParse}
use Rattle.tap_views.proofs.laws.unique_parse_each.Given as goal

abbrev pub invariant-loop-upload : goal.invariant-loop-upload
invariant-loop-upload l =
    All (λ upload. HasUniqueParse upload.items) (take l.upload-index l.uploads)
