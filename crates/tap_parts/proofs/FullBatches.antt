-- Texts of batches, and one more.
use Rattle.std.proofs.Common.{ℕ, List, [], ◌∷◌, ◌++◌}
use Rattle.std.specs.List.{AllZip}
use Rattle.tap_views.specs.{Encoding.Encodes, declared.encoder.TapFields.TapFields}

pub zip_more : (texts : List (List ℕ)) (batches : List (List TapFields)) (text : List ℕ)
    (batch : List TapFields) → AllZip Encodes texts batches → Encodes text batch
    → AllZip Encodes (texts ++ text ∷ []) (batches ++ batch ∷ [])
zip_more [] [] text batch each encoded = (encoded, tt)
zip_more [] (first ∷ batches) text batch each encoded = absurd each
zip_more (first ∷ texts) [] text batch each encoded = absurd each
zip_more (first ∷ texts) (front ∷ batches) text batch each encoded =
    (each.0, zip_more texts batches text batch each.1 encoded)
