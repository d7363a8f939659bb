use Rattle.std.proofs.Common.{◌≡◌, ◌∙◌, ◌++◌, ◌∷◌, ◌-◌, [], List, ap, append_assoc, arith, drop}
use Rattle.std.proofs.Common.{length, length-append, length-drop, subst, sym, take, ℕ}
use Rattle.ledger_check.specs.Taps.{IsTapOfLine}
use Rattle.std.proofs.lemmas.List.{drop_at, take_all}
use Rattle.omny_audit.proofs.traced.put_fields.Goals as goal

-- what was appended, of the whole
tail : (old fields middle whole : List ℕ) (start : ℕ) → middle ≡ old ++ fields
    → whole ≡ middle ++ 10 ∷ [] → start ≡ length old
    → take (length whole - start) (drop start whole) ≡ fields ++ 10 ∷ []
tail old fields middle whole start is is_too same =
    take_all (length whole - start) (drop start whole) (omega (arith, length-drop start whole))
    ∙ ap (λ (t : List ℕ). drop start t) (is_too ∙ ap (λ (t : List ℕ). t ++ 10 ∷ []) is
    ∙ append_assoc old fields (10 ∷ [])) ∙ drop_at old (fields ++ 10 ∷ []) start (sym same)

pub tap_of_line-requires-clause-line : goal.tap_of_line-requires-clause-line
tap_of_line-requires-clause-line c = (
  c.args.fields.now,
  tail c.args.text.now.items c.args.fields.now _ _ c.len-start.result
      c.in_ok-extend_from_slice.ensures.items (c.deref.ensures.value ∙ c.in_ok-push.ensures.items)
      (omega (arith, c.args.text.now.ok.0, c.len-start.ensures)),
)

pub tap_of_line-requires-clause-short : goal.tap_of_line-requires-clause-short
tap_of_line-requires-clause-short c =
    let is = ap (λ (t : List ℕ). length t) (tail c.args.text.now.items c.args.fields.now _ _
    c.len-start.result c.in_ok-extend_from_slice.ensures.items
    (c.deref.ensures.value ∙ c.in_ok-push.ensures.items)
    (omega (arith, c.args.text.now.ok.0, c.len-start.ensures))) in
    let size = length-append c.args.fields.now (10 ∷ []) in
    omega (arith, c.requires, is, size)

pub returns-clause-tap : goal.returns-clause-tap
returns-clause-tap c = subst (λ (t : List ℕ). IsTapOfLine t c.in_ok-tap.tap)
    (tail c.args.text.now.items c.args.fields.now _ _ c.len-start.result
    c.in_ok-extend_from_slice.ensures.items (c.deref.ensures.value ∙ c.in_ok-push.ensures.items)
    (omega (arith, c.args.text.now.ok.0, c.len-start.ensures))) c.in_ok-tap.ensures
