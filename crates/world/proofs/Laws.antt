-- What reads, loads and writes after others leave.
use Rattle.std.proofs.Common.{append-nil, sym, ◌∙◌, ap, refl}
use Rattle.std.proofs.{Math.Seq.take-add, lemmas.Bool.ne_eqb, lemmas.List.append_assoc}
use Rattle.std.specs.Prelude.{◌≡◌, ℕ, ◌+◌, List, [], ◌++◌, take, drop}
use Rattle.world.specs.{Origins.with_loads, Run.Calls}
use Rattle.world.specs.Run.{Load, Run, after_read, nothing_yet, with_all, with_written}

pub written_twice : (r : Run) (p : List ℕ) (i n : ℕ)
    → with_written (with_written r (take i p)) (take n (drop i p)) ≡ with_written r (take (i + n) p)
written_twice r p i n =
    ap (λ xs. record r { written = xs })
    (append_assoc r.written (take i p) (take n (drop i p))
    ∙ ap (λ ys. r.written ++ ys) (sym (take-add i n p)))

pub no_loads : (r : Run) → with_loads r [] ≡ r
no_loads r = ap (λ xs. record r { loads = xs }) (append-nil r.loads)

pub more_loads : (r : Run) (xs ys : List Load)
    → with_loads (with_loads r xs) ys ≡ with_loads r (xs ++ ys)
more_loads r xs ys = ap (λ all. record r { loads = all }) (append_assoc r.loads xs ys)

-- the loads of a thread that did nothing else
pub joined_loads : (r : Run) (xs : List Load)
    → with_all r (with_loads nothing_yet xs) ≡ with_loads r xs
joined_loads r xs =
    rw (append-nil r.unread)
    (rw (append-nil r.too_long)
    (rw (append-nil r.written)
    (rw (append-nil r.said) (rw (append-nil r.made) (rw (append-nil r.unmade) refl)))))

-- A read behind the bytes that earlier reads gave.
pub read_more : (c : Calls) (room : List ℕ) (before : Load) (i n : ℕ) → (n ≡ 0 → ⊥)
    → c.reading ≡ record { name = before.name; bytes = take i room }
    → (after_read c (drop i room) n).reading
    ≡ record { name = before.name; bytes = take (i + n) room }
read_more c room before i n some e =
    rw (ne_eqb n 0 some)
    (ap (λ (x : Load). record { name = x.name; bytes = x.bytes ++ take n (drop i room) }) e
    ∙ ap (λ ys. record { name = before.name; bytes = ys }) (sym (take-add i n room)))
