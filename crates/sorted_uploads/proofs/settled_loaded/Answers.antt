-- The uploads were read as what they are.
use Rattle.std.proofs.Common.{ℕ, List, [], flat_map, get_or, length, map, subst}
use Rattle.settlement.specs.{Reading.AreRead, SettledTaps.AreSettledTaps}
use Rattle.settlement.specs.declared.settled.SettledTaps.{SettledTaps}
use Rattle.sorted_uploads.proofs.Loaded.{bytes_in, same_files}
use Rattle.std.proofs.lemmas.Result.{IfOk-weaker}
use Rattle.tap_views.specs.UploadEnds.{ArePlainEnds}
use Rattle.world.specs.Origins.{memory}
use Rattle.sorted_uploads.proofs.settled_loaded.Goals as goal

pub returns-clause-ended : goal.returns-clause-ended
returns-clause-ended g c =
    let uploads = c.args.uploads.now in
    let before = c.new.result.run in
    let after = c.settled_taps.new.calls.run in
    IfOk-weaker c.settled_taps.result
    (λ (made : SettledTaps). (files : List (List ℕ))
    × AreRead (λ upload. memory (get_or (map bytes_in uploads) upload [])) 0 (length uploads) files
    before after
    × ArePlainEnds files made.ends.items
    × AreSettledTaps files (flat_map (λ list. list.items) made.lists.items))
    (λ made. ArePlainEnds (map bytes_in uploads) made.ends.items)
    (λ made is. subst (λ fs. ArePlainEnds fs made.ends.items)
    (same_files uploads is.0 before after is.1) is.2)
    c.settled_taps.ensures

pub returns-clause-order : goal.returns-clause-order
returns-clause-order g c =
    let uploads = c.args.uploads.now in
    let before = c.new.result.run in
    let after = c.settled_taps.new.calls.run in
    IfOk-weaker c.settled_taps.result
    (λ (made : SettledTaps). (files : List (List ℕ))
    × AreRead (λ upload. memory (get_or (map bytes_in uploads) upload [])) 0 (length uploads) files
    before after
    × ArePlainEnds files made.ends.items
    × AreSettledTaps files (flat_map (λ list. list.items) made.lists.items))
    (λ made. AreSettledTaps (map bytes_in uploads) (flat_map (λ list. list.items) made.lists.items))
    (λ made is. subst (λ fs. AreSettledTaps fs (flat_map (λ list. list.items) made.lists.items))
    (same_files uploads is.0 before after is.1) is.3)
    c.settled_taps.ensures
