-- What stands before the rest of an upload.
use Rattle.std.proofs.Common.{◌≡◌, ℕ, ◌+◌, List, [], ◌∷◌, ◌++◌, length, refl, sym, ap, subst, ◌∙◌}
use Rattle.std.proofs.Common.{arith, append-nil, append_assoc, length-append}
use Rattle.std.specs.Prelude.{take}
use Rattle.tap_views.proofs.ParseLemmas.{no_bytes}
use Rattle.tap_views.specs.{Facts.IsValidPrefix, Files.IsFile, Layout.Tap}

-- the front of an upload: its batches
front_of : (upload : List ℕ) (batches : List (List Tap)) (rest : List ℕ)
    → IsFile upload batches rest → (front : List ℕ) × IsFile front batches []
    × (upload ≡ front ++ rest)
front_of upload [] rest is = ([], (refl, no_bytes), is.0)
front_of upload (batch ∷ batches) rest (first, back, is_batch, joined, is) =
    let (front, is_front, more) = front_of back batches rest is in (
      first ++ front,
      (first, front, is_batch, refl, is_front),
      joined ∙ ap (λ bytes. first ++ bytes) more ∙ sym (append_assoc first front rest),
    )

-- the bytes up to an offset are the front if the rest begins there
pub is_front : (upload : List ℕ) (batches : List (List Tap)) (rest : List ℕ) (offset : ℕ)
    → IsFile upload batches rest → offset + length rest ≡ length upload
    → IsValidPrefix upload (take offset upload)
is_front upload batches rest offset is position =
    let (front, is_front, joined) = front_of upload batches rest is in
    let sizes : offset ≡ length front =
    omega (arith, position, ap length joined, length-append front rest) in
    let same : take offset upload ≡ front =
    ap (λ n. take n upload) sizes
    ∙ (ap (λ bytes. take (length front) bytes) joined ∙ take_front front rest) in
    record {
      batches = batches;
      rest = rest;
      of_upload = is;
      of_front = subst (λ bytes. IsFile bytes batches []) (sym same) is_front;
      joined = joined ∙ ap (λ bytes. bytes ++ rest) (sym same);
    }
  where
    take_front : (front rest : List ℕ) → take (length front) (front ++ rest) ≡ front
    take_front [] rest = refl
    take_front (x ∷ front) rest = ap (λ bytes. x ∷ bytes) (take_front front rest)

-- an upload without a fault is its own front
pub whole_front : (upload : List ℕ) (batches : List (List Tap)) (rest : List ℕ)
    → IsFile upload batches rest → rest ≡ [] → IsValidPrefix upload upload
whole_front upload batches rest is none = record {
  batches = batches;
  rest = rest;
  of_upload = is;
  of_front = subst (λ bytes. IsFile upload batches bytes) none is;
  joined = sym (append-nil upload) ∙ ap (λ bytes. upload ++ bytes) (sym none);
}
