-- The first difference of two texts.
use Rattle.std.proofs.Common.{◌≡◌, ◌∙◌, ◌==◌, ℕ, ◌+◌, Bool, true, false, List, [], ◌∷◌, ◌++◌}
use Rattle.std.proofs.Common.{Option, Some, None, refl, sym, ap, arith, length, ◌≤◌, ◌<◌}
use Rattle.std.proofs.Common.{if◌then◌else◌}
use Rattle.ledger_check.specs.Lines.{started_with, lines_of}
use Rattle.line_forms.specs.{FormLaws.after_complete, FormLaws.after_sound, Forms.after}
use Rattle.report_check.specs.Reports.{difference, rest_or}

-- the text of lines
joined : List (List ℕ) → List ℕ
joined [] = []
joined (line ∷ lines) = line ++ joined lines

started_joined : (byte : ℕ) (lines : List (List ℕ))
    → joined (started_with byte lines) ≡ byte ∷ joined lines
unfolding started_with joined
started_joined byte [] = refl
started_joined byte (line ∷ lines) = refl

joined_by : (byte : ℕ) (lines : List (List ℕ)) (b : Bool)
    → joined (if b then (byte ∷ []) ∷ lines else started_with byte lines) ≡ byte ∷ joined lines
unfolding joined
joined_by byte lines true = refl
joined_by byte lines false = started_joined byte lines

lines_joined : (text : List ℕ) → joined (lines_of text) ≡ text
unfolding lines_of joined
lines_joined [] = refl
lines_joined (byte ∷ text) =
    joined_by byte (lines_of text) (byte == 10) ∙ ap (λ (t : List ℕ). byte ∷ t) (lines_joined text)

none_step : (number : ℕ) (line text : List ℕ) (lines : List (List ℕ))
    → ((rest : List ℕ) → difference (number + 1) lines rest ≡ None → rest ≡ joined lines)
    → (o : Option (List ℕ)) → after line text ≡ o
    → rest_or number line (λ rest. difference (number + 1) lines rest) o ≡ None
    → text ≡ line ++ joined lines
none_step number line text lines more None is e = absurd (cc)
none_step number line text lines more (Some rest) is e =
    after_sound line text rest is ∙ ap (λ (t : List ℕ). line ++ t) (more rest e)

none_joined : (number : ℕ) (lines : List (List ℕ)) (text : List ℕ)
    → difference number lines text ≡ None → text ≡ joined lines
unfolding joined
none_joined number [] [] e = refl
none_joined number [] (byte ∷ text) e = absurd (cc)
none_joined number (line ∷ lines) text e =
    none_step number line text lines
    (λ rest none. none_joined (number + 1) lines rest none) (after line text) refl e

joined_none : (number : ℕ) (lines : List (List ℕ)) → difference number lines (joined lines) ≡ None
unfolding joined
joined_none number [] = refl
joined_none number (line ∷ lines) =
    ap (rest_or number line (λ rest. difference (number + 1) lines rest))
    (after_complete line (joined lines))
    ∙ joined_none (number + 1) lines

-- a text without a difference is the wanted one, and the wanted one has none
pub none_same : (text wanted : List ℕ) → difference 1 (lines_of wanted) text ≡ None → text ≡ wanted
none_same text wanted none = none_joined 1 (lines_of wanted) text none ∙ lines_joined wanted

pub same_none : (text wanted : List ℕ) → text ≡ wanted → difference 1 (lines_of wanted) text ≡ None
same_none text wanted same =
    ap (difference 1 (lines_of wanted)) (same ∙ sym (lines_joined wanted))
    ∙ joined_none 1 (lines_of wanted)

-- all lines stand before the rest
pub none_after : (number : ℕ) (left rest : List ℕ) → length left ≤ 0 → length rest ≤ 0
    → difference number (lines_of left) rest ≡ None
unfolding lines_of
none_after number [] [] gone none = refl
none_after number [] (byte ∷ rest) gone none = absurd (omega (arith, none))
none_after number (byte ∷ left) rest gone none = absurd (omega (arith, gone))

pub more_after : (number : ℕ) (left rest : List ℕ) → length left ≤ 0 → 0 < length rest
    → difference number (lines_of left) rest ≡ Some (number, None)
unfolding lines_of
more_after number [] [] gone some = absurd (omega (arith, some))
more_after number [] (byte ∷ rest) gone some = refl
more_after number (byte ∷ left) rest gone some = absurd (omega (arith, gone))
