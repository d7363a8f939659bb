use Rattle.std.proofs.Common.{◌≡◌, ◌+◌, ◌-◌, ◌<◌, ◌≤◌, ℕ, length, get_or, arith, ◌∙◌, sym, subst}
use Rattle.sorted_taps.proofs.{Known.known_map, Standing.out_of_order, Standing.run_passed}
use Rattle.sorted_taps.specs.{Merged.BeginsNotBefore, Readers.ahead}
use Rattle.sorted_taps.specs.{declared.reader.TapReader.TapReader, inside.Steps.IsMovedOn}
use Rattle.std.proofs.lemmas.List.{get_or_default, get_or-drop, length-drop}
use Rattle.tap_views.specs.declared.encoder.TapFields.{TapFields}
use Rattle.sorted_taps.proofs.reader.TapReader.pass.Goals as goal

-- the last of the taps that are passed
last_is : (reader : TapReader) (number : ℕ) (last d : TapFields) → 0 < number
    → number ≤ length (ahead reader)
    → last ≡ get_or reader.taps.items (reader.next + (number - 1)) last
    → get_or (ahead reader) (number - 1) d ≡ last
last_is reader number last d some within is =
    let long = length-drop reader.next reader.taps.items in
    get_or-drop reader.next reader.taps.items (number - 1) d
    ∙ get_or_default reader.taps.items (reader.next + (number - 1)) d last
    (omega (arith, long, some, within)) ∙ sym is

pub returns-clause-next : goal.returns-clause-next
returns-clause-next g c = λ d.
    subst (λ t. BeginsNotBefore t (ahead c.move_on.new.self))
    (sym (last_is c.args.self.now c.args.number c.index.result.now d c.requires.some
    c.requires.within c.index.ensures)) (c.is_before.ensures.no c.if-is_before.false)

pub returns-clause-kept : goal.returns-clause-kept
returns-clause-kept g c =
    let old = c.args.self.now in
    let mid = c.move_on.new.self in
    let number = c.args.number in
    known_map (λ all. IsMovedOn all old number mid) _ (g.F.Placed.bytes c.args.file.now)
    (λ all is. run_passed all old mid number c.in-Some.passed c.requires.some c.requires.within
    c.requires.order is (returns-clause-next g c) c.in-Some.ensures.1) c.in_ok-move_on.ensures.kept

pub returns-then-is_before-clause-fault : goal.returns-then-is_before-clause-fault
returns-then-is_before-clause-fault g c = λ one.
    let old = c.args.self.now in
    let mid = c.move_on.new.self in
    let some = c.requires.within in
    let tap = c.index.result.now in
    let number = c.in-Some.ensures.1 in
    let first : c.args.number - 1 ≡ 0 = omega (arith, one) in
    known_map (λ all. IsMovedOn all old c.args.number mid) _ (g.F.Placed.bytes c.args.file.now)
    (λ all is. out_of_order all old mid c.in-Some.passed tap (omega (arith, one, some))
    (subst (λ n. get_or (ahead old) n tap ≡ tap) first (last_is old c.args.number tap tap
    c.requires.some c.requires.within c.index.ensures))
    (subst (λ n. IsMovedOn all old n mid) one is)
    (c.is_before.ensures.yes c.if-is_before.true) (omega (arith, number, one)))
    c.in_ok-move_on.ensures.kept
