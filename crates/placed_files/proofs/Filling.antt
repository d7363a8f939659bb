-- Places that are filled by several reads.
use Rattle.std.proofs.Common.{◌≡◌, ℕ, zero, suc, ◌+◌, ◌≤◌, List, [], ◌∷◌, ◌++◌, length, take, drop}
use Rattle.std.proofs.Common.{sym, ap, ◌∙◌, arith, IfSome, Some, None, length-append}
use Rattle.placed_files.specs.{Placed.IsReadAt, inside.Started.IsStartedFrom}
use Rattle.std.proofs.lemmas.List.{take-append-drop, length-take-le, take-append-le, drop-drop}
use Rattle.std.proofs.lemmas.{List.length-drop, Slice.take-put_mid_below}
use Rattle.std.specs.Prelude.{Option}
use borrow.Rule.Slice.PartMut.{put_mid, post_of}

-- the first elements of two lists, if they reach past the first list
take_past : (us vs : List ℕ) (n m : ℕ) → m ≡ length us + n → take m (us ++ vs) ≡ us ++ take n vs
take_past [] vs n m e = ap (λ k. take k vs) (let same : m ≡ n = omega (arith, e) in same)
take_past (u ∷ us) vs n zero e = absurd (omega (arith, e))
take_past (u ∷ us) vs n (suc m) e =
    ap (λ l. u ∷ l) (take_past us vs n m (omega (arith, e)))

-- what was read is kept if the rest of the buffer is written
pub kept : (known : Option (List ℕ)) (offset at k : ℕ) (buffer part : List ℕ) → at ≤ length buffer
    → IfSome known (λ all. IsStartedFrom all offset buffer at)
    → IfSome known (λ all. IsStartedFrom all offset (put_mid at k buffer part) at)
kept None offset at k buffer part within started = started
kept (Some all) offset at k buffer part within started = record {
  within = started.within;
  same = take-put_mid_below at k buffer part at (omega arith) within ∙ started.same;
}

more : (all : List ℕ) (offset at k count : ℕ) (buffer part : List ℕ) → at ≤ length buffer
    → count ≤ length part → IsStartedFrom all offset buffer at
    → IsReadAt all (offset + at) part count
    → IsStartedFrom all offset (put_mid at k buffer part) (at + count)
more all offset at k count buffer part within few started read =
    let X = drop offset all in
    let on : drop at X ≡ drop (offset + at) all = drop-drop at offset all in
    let long = length-take-le at buffer within in
    let far = length-take-le at X started.within in
    let left = length-drop at X in
    let rest = ap length on in
    let some = read.within in
    let before = started.within in
    record {
      within = omega (arith, left, rest, some, before);
      same =
          take_past (take at buffer) (part ++ post_of at k buffer) count (at + count)
          (omega (arith, long))
          ∙ ap (λ l. take at buffer ++ l) (take-append-le count part (post_of at k buffer) few)
          ∙ ap (λ l. l ++ take count part) started.same
          ∙ ap (λ l. take at X ++ l) (read.same ∙ ap (take count) (sym on))
          ∙ sym (take_past (take at X) (drop at X) count (at + count) (omega (arith, far)))
          ∙ ap (take (at + count)) (take-append-drop at X);
    }

-- what was read now is added to it
pub grown : (known : Option (List ℕ)) (offset at k count : ℕ) (buffer part : List ℕ)
    → at ≤ length buffer → count ≤ length part
    → IfSome known (λ all. IsStartedFrom all offset buffer at)
    → IfSome known (λ all. IsReadAt all (offset + at) part count)
    → IfSome known (λ all. IsStartedFrom all offset (put_mid at k buffer part) (at + count))
grown None offset at k count buffer part within few started read = started
grown (Some all) offset at k count buffer part within few started read =
    more all offset at k count buffer part within few started read

-- a buffer whose rest is written stays as long
pub long_put : (at k : ℕ) (buffer part : List ℕ) → at ≤ length buffer → length part ≡ k
    → at + k ≡ length buffer → length (put_mid at k buffer part) ≡ length buffer
long_put at k buffer part within long whole =
    let front = length-take-le at buffer within in
    let first = length-append (take at buffer) (part ++ post_of at k buffer) in
    let second = length-append part (post_of at k buffer) in
    let past = length-drop k (drop at buffer) in
    let rest = length-drop at buffer in
    omega (arith, front, first, second, past, rest, long, whole, within)
