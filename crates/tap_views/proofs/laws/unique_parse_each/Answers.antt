use Rattle.std.proofs.Common.{All, List, Vec, Global, ℕ, subst, take_all}
use Rattle.std.proofs.lemmas.List.Elements.{All-map}
use Rattle.tap_views.specs.Files.{HasUniqueParse}
use Rattle.tap_views.proofs.laws.unique_parse_each.Goals as goal

pub returns : goal.returns
returns c =
    let A : List (Vec ℕ Global) → Type 0 = All (λ upload. HasUniqueParse upload.items) in
    All-map HasUniqueParse (λ upload. upload.items) c.args.uploads.now
    (subst A (take_all c.loop-upload.upload-index c.args.uploads.now c.loop-upload-test.false)
    c.loop-upload.invariant)
