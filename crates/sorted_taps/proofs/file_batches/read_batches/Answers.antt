use Rattle.std.proofs.Common.{◌≡◌, ◌<◌, ℕ, List, IfSome, None, refl, arith}
use Rattle.sorted_taps.proofs.{Known.known_map, ReadingOn.read_on, ReadingOn.read_fault}
use Rattle.sorted_taps.specs.declared.decoded_taps.Decoded.{Decoded}
use Rattle.sorted_taps.specs.inside.Decoding.{IsDecodedAt, IsReadOn}
use Rattle.std.proofs.lemmas.Result.{IfOk-from_err}
use Rattle.std.specs.Prelude.{Option}
use Rattle.tap_views.specs.declared.encoder.TapFields.{TapFields}
use Rattle.sorted_taps.proofs.file_batches.read_batches.Goals as goal

batches : (known : Option (List ℕ)) (offset room : ℕ) (taps : List TapFields) (decoded : Decoded)
    → 0 < room → (decoded.used ≡ 0 → decoded.fault ≡ None)
    → IfSome known (λ all. IsDecodedAt all offset room taps decoded)
    → IfSome known (λ all. IsReadOn all offset taps decoded.used)
batches known offset room taps decoded some sound at =
    known_map (λ all. IsDecodedAt all offset room taps decoded) _ known
    (λ all at. read_on all offset room taps decoded at some sound) at

pub returns-then-first-gt0-clause-batches : goal.returns-then-first-gt0-clause-batches
returns-then-first-gt0-clause-batches g c =
    let some = c.if-first-gt0.true in
    batches (g.F.Placed.bytes c.args.file.now) c.args.offset 14344 c.decode_at.new.taps.items
    c.in_ok-first.first (omega arith) (λ none. absurd (omega (arith, none, some)))
    c.in_ok-first.ensures.batches

pub returns-in-Some-clause-fault : goal.returns-in-Some-clause-fault
returns-in-Some-clause-fault g c =
    let taps = c.decode_at-2.new.taps.items in
    let decoded = c.in_ok-longer.longer in
    known_map (λ all. IsDecodedAt all c.args.offset 114696 taps decoded) _
    (g.F.Placed.bytes c.args.file.now)
    (λ all at. let (is, some) = read_fault all c.args.offset 114696 taps decoded at c.in-Some.fault
    (omega arith) c.if-longer-eq0.true c.in-Some.is in (refl, some, is))
    c.in_ok-longer.ensures.batches

pub returns-in_default-clause-batches : goal.returns-in_default-clause-batches
returns-in_default-clause-batches g c =
    let some = c.if-longer-eq0.false in
    batches (g.F.Placed.bytes c.args.file.now) c.args.offset 114696 c.decode_at-2.new.taps.items
    c.in_ok-longer.longer (omega arith) (λ none. absurd (omega (arith, none, some)))
    c.in_ok-longer.ensures.batches

pub returns-in_default-2-clause-batches : goal.returns-in_default-2-clause-batches
returns-in_default-2-clause-batches g c =
    batches (g.F.Placed.bytes c.args.file.now) c.args.offset 114696 c.decode_at-2.new.taps.items
    c.in_ok-longer.longer (omega arith) (λ none. c.in_default.is) c.in_ok-longer.ensures.batches

pub returns-in_err-longer-clause-batches : goal.returns-in_err-longer-clause-batches
returns-in_err-longer-clause-batches g c =
    IfOk-from_err c.from_residual-in_err-longer.result _ c.from_residual-in_err-longer.ensures.0
