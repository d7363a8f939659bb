use Rattle.std.proofs.Common.{◌≡◌, ◌∙◌, ℕ, ◌+◌, ◌<◌, ◌≤◌, List, [], ◌∷◌, ◌++◌, ap, arith, length}
use Rattle.std.proofs.{Common.sym, Common.take, Math.ListN.length-set}
use Rattle.std.proofs.lemmas.List.{map-append, take_all, take_more, take_more_set}
use Rattle.std.specs.Prelude.{bit_xor, slice_index_or, slice_set}
use Rattle.tap_rows.specs.Keys.{masked}
use Rattle.tap_rows.proofs.agency.key.masked.Goals as goal

more : (mask : ℕ) (out block : List ℕ) (i : ℕ) → i < length out → i < length block
    → take i out ≡ masked mask (take i block)
    → take (i + 1) (slice_set out i (bit_xor (slice_index_or block i 0) mask))
    ≡ masked mask (take (i + 1) block)
more mask out block i there here done =
    take_more_set out i _ there
    ∙ (ap (λ xs. xs ++ bit_xor (slice_index_or block i 0) mask ∷ []) done
    ∙ (sym (map-append (λ byte. bit_xor byte mask) (take i block) (slice_index_or block i 0 ∷ []))
    ∙ ap (masked mask) (sym (take_more block i 0 here))))

all : (mask : ℕ) (out block : List ℕ) (i : ℕ) → length out ≤ i → length block ≤ i
    → take i out ≡ masked mask (take i block) → out ≡ masked mask block
all mask out block i short here done =
    sym (take_all i out short) ∙ (done ∙ ap (masked mask) (take_all i block here))

pub loop-index-preserved : goal.loop-index-preserved
loop-index-preserved c = (
  more c.args.mask c.loop-index.out c.args.block.now c.loop-index.index (omega arith)
      (omega arith) c.loop-index.invariant.0,
  omega (arith, length-set {A = ℕ}),
)

pub returns : goal.returns
returns c = all c.args.mask c.loop-index.out c.args.block.now c.loop-index.index (omega arith)
    (omega arith) c.loop-index.invariant.0
