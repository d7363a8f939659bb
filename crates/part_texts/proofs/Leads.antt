-- Runs over texts whose lines are known.
use Rattle.std.proofs.Common.{◌≡◌, ◌∙◌, ◌+◌, ◌==◌, ℕ, Bool, false, cond, List, [], ◌∷◌, ◌++◌}
use Rattle.std.proofs.Common.{length, Result, Ok, refl, sym, ap, arith, append_assoc, length-append}
use Rattle.std.specs.Prelude.{nat_lt}
use Rattle.std.proofs.lemmas.Bool.Decides.{nat_tests}
use Rattle.line_folds.specs.Folds.{bounded, lines_of, run, to_first}
use Rattle.report_texts.proofs.OneLine.{HasNoFeed, IsOneLine}

no_ten : (x : ℕ) → ¬ (x ≡ 10) → (x == 10) ≡ false
no_ten x other = grind (arith, nat_tests)

-- the line stands first
cut : (front text : List ℕ) → HasNoFeed front
    → lines_of (front ++ 10 ∷ text) ≡ (front ++ 10 ∷ []) ∷ lines_of text
cut [] text none = refl
cut (x ∷ front) text none =
    ap (λ b. cond b ((x ∷ []) ∷ lines_of (front ++ 10 ∷ text))
    (to_first x (lines_of (front ++ 10 ∷ text))))
    (no_ten x none.0)
    ∙ ap (to_first x) (cut front text none.1)

pub first_line : (most : ℕ) (line text : List ℕ) → IsOneLine most line
    → lines_of (line ++ text) ≡ line ∷ lines_of text
first_line most line text is =
    ap (λ (l : List ℕ). lines_of (l ++ text)) is.shown
    ∙ ap lines_of (append_assoc is.front (10 ∷ []) text)
    ∙ cut is.front text is.no_feed
    ∙ ap (λ (l : List ℕ). l ∷ lines_of text) (sym is.shown)

not_long : (line : List ℕ) → IsOneLine 1000 line → nat_lt 1024 (length line) ≡ false
not_long line is =
    let size : length line ≡ length is.front + 1 =
    ap length is.shown ∙ length-append is.front (10 ∷ []) in
    let s = is.short in grind (arith, nat_tests, size, s)

-- by the text the one state leads to the other
pub record Leads {S W : Type 0} (done : S → Bool) (long : W) (step : S → List ℕ → Result S W) (s : S)
    (text : List ℕ) (t : S) : Type 0 where
  pub on : (number : ℕ) (rest : List ℕ) → (next : ℕ)
      × (run done (bounded long step) number s (lines_of (text ++ rest))
      ≡ run done (bounded long step) next t (lines_of rest))

module _ {S W : Type 0} {done : S → Bool} {long : W} {step : S → List ℕ → Result S W} where
  pub by_nothing : {s : S} → Leads done long step s [] s
  by_nothing = record { on = λ number rest. (number, refl) }

  pub by_line : {s t : S} {line : List ℕ} → IsOneLine 1000 line → done s ≡ false
      → step s line ≡ Ok t → Leads done long step s line t
  by_line {s = s} {line = line} is goes taken = record {
    on = λ number rest. (
      number + 1,
      ap (run done (bounded long step) number s) (first_line 1000 line rest is)
          ∙ rw (goes, not_long line is, taken),
    );
  }

  pub by_both : {s t u : S} {a b : List ℕ} → Leads done long step s a t
      → Leads done long step t b u → Leads done long step s (a ++ b) u
  by_both {s = s} {a = a} {b = b} first second = record {
    on = λ number rest.
        let (next, one) = first.on number (b ++ rest) in
        let (last, two) = second.on next rest in (
          last,
          ap (λ (l : List ℕ). run done (bounded long step) number s (lines_of l))
              (append_assoc a b rest) ∙ one ∙ two,
        );
  }
