-- The taps of a file have moments that a file can have.
use Rattle.std.proofs.Common.{ℕ, ◌<◌, List, [], ◌∷◌, flat_map, All}
use Rattle.std.specs.List.{AllByRecursion}
use Rattle.std.proofs.lemmas.List.Elements.{All-nil, All-cons, All-append}
use Rattle.tap_views.specs.Files.{IsFile}
use Rattle.tap_views.specs.Layout.{Tap, Layout, Tap1, Tap2, IsTapOf, num, moment_limit}

-- the tap's moment fits
abbrev pub Early : Tap → Type 0
Early tap = num tap.moment < moment_limit

tap_early : (layout : Layout) (tap : Tap) → IsTapOf layout tap → Early tap
tap_early Tap1 tap is = is.early
tap_early (Tap2 validator) tap is = is.0.early

batch_early : (layout : Layout) (taps : List Tap) → AllByRecursion (IsTapOf layout) taps
    → All Early taps
batch_early layout [] all = All-nil Early
batch_early layout (tap ∷ taps) all =
    All-cons Early tap taps (tap_early layout tap all.0) (batch_early layout taps all.1)

-- the taps of a file have moments that fit
pub file_early : (file : List ℕ) (batches : List (List Tap)) (rest : List ℕ)
    → IsFile file batches rest
    → All Early (flat_map (λ batch. batch) batches)
file_early file [] rest is = All-nil Early
file_early file (batch ∷ batches) rest is =
    let (front, back, one, spelled, more) = is in
    All-append Early batch (flat_map (λ (b : List Tap). b) batches)
    (batch_early one.0 batch one.1.each) (file_early back batches rest more)
