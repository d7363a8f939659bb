-- The taps of uploads have moments that a file can have.
use Rattle.std.proofs.Common.{ℕ, List, ◌∷◌, sym, subst, All, []}
use Rattle.std.proofs.lemmas.List.Elements.{All-nil, All-append}
use Rattle.tap_parts.proofs.Early.{Early, file_early}
use Rattle.tap_parts.specs.Parts.{taps_of_uploads}
use Rattle.tap_views.specs.{Files.AreValidTapsOfEach, Layout.Tap}

-- the taps of uploads have moments that fit
pub uploads_early : (uploads : List (List ℕ)) (taps : List (List Tap))
    → AreValidTapsOfEach uploads taps
    → All Early (taps_of_uploads taps)
uploads_early [] [] each = All-nil Early
uploads_early [] (t ∷ ts) each = absurd each
uploads_early (u ∷ us) [] each = absurd each
uploads_early (u ∷ us) (t ∷ ts) each =
    All-append Early t (taps_of_uploads ts)
    (subst (λ taps. All Early taps) (sym each.0.all)
    (file_early u each.0.batches each.0.rest each.0.is_file)) (uploads_early us ts each.1)
