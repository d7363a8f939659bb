-- Texts that lack a byte, and texts split into lines.
use Rattle.std.proofs.Common.{◌≡◌, ◌≢◌, ℕ, ◌+◌, ◌<◌, Bool, true, cond, not, ◌&&◌, ◌==◌, List, []}
use Rattle.std.proofs.Common.{◌∷◌, ◌++◌, length, get_or, take, drop, refl, ap, ◌∙◌, subst, arith}
use Rattle.std.proofs.Common.{zero, suc, ◌-◌, take_all, length-drop, add-one}
use Rattle.std.proofs.lemmas.Bool.{and_parts, eqb-false, ne_eqb, not-true}
use Rattle.ledger_check.specs.Lines.{IsLine, Lacks, started_with, lines_of}

-- a test of a text that is written out
abbrev pub has_none : ℕ → List ℕ → Bool
has_none byte [] = true
has_none byte (other ∷ text) = not (other == byte) && has_none byte text

-- a text in which the test finds no such byte has none
pub lacks-tested : (byte : ℕ) (text : List ℕ) → has_none byte text ≡ true → Lacks byte text
lacks-tested byte [] is = tt
lacks-tested byte (other ∷ text) is =
    let parts = and_parts (not (other == byte)) (has_none byte text) is in
    (eqb-false other byte (not-true (other == byte) parts.0), lacks-tested byte text parts.1)

-- two texts without the byte, joined
pub lacks-append : (byte : ℕ) (a b : List ℕ) → Lacks byte a → Lacks byte b → Lacks byte (a ++ b)
lacks-append byte [] b la lb = lb
lacks-append byte (x ∷ a) b la lb = (la.0, lacks-append byte a b la.1 lb)

-- the end of a text without the byte
pub lacks-end : (byte : ℕ) (a b : List ℕ) → Lacks byte (a ++ b) → Lacks byte b
lacks-end byte [] b lacks = lacks
lacks-end byte (x ∷ a) b lacks = lacks-end byte a b lacks.1

-- and its front
pub lacks-start : (byte : ℕ) (a b : List ℕ) → Lacks byte (a ++ b) → Lacks byte a
lacks-start byte [] b lacks = tt
lacks-start byte (x ∷ a) b lacks = (lacks.0, lacks-start byte a b lacks.1)

-- a text that ends with the byte does not lack it
pub lacks-last : (byte : ℕ) (front text : List ℕ) → text ≡ front ++ byte ∷ [] → Lacks byte text → ⊥
lacks-last byte front text is lacks =
    (lacks-end byte front (byte ∷ []) (subst (Lacks byte) is lacks)).0 refl

pub lacks-reads : (byte : ℕ) (text : List ℕ) → ((k : ℕ) → k < length text → get_or text k 0 ≢ byte)
    → Lacks byte text
lacks-reads byte [] none = tt
lacks-reads byte (other ∷ text) none =
    (none 0 (omega arith), lacks-reads byte text (λ k within. none (suc k) (omega arith)))

-- no byte of a text without the byte is that byte
pub lacks-at : (byte : ℕ) (text : List ℕ) (k : ℕ) → Lacks byte text → 0 ≢ byte
    → get_or text k 0 ≢ byte
lacks-at byte [] k lacks zeros = zeros
lacks-at byte (other ∷ text) zero lacks zeros = lacks.0
lacks-at byte (other ∷ text) (suc k) lacks zeros = lacks-at byte text k lacks.1 zeros

-- a text has one first such byte
pub same_cut : (byte : ℕ) (a b c d : List ℕ) → Lacks byte a → Lacks byte c
    → a ++ byte ∷ b ≡ c ++ byte ∷ d → (a ≡ c) × (b ≡ d)
same_cut byte [] b [] d la lc is = (refl, cc)
same_cut byte [] b (x ∷ c) d la lc is = absurd (lc.0 (cc))
same_cut byte (x ∷ a) b [] d la lc is = absurd (la.0 (cc))
same_cut byte (x ∷ a) b (y ∷ c) d la lc is =
    let heads : x ≡ y = cc in
    let tails : a ++ byte ∷ b ≡ c ++ byte ∷ d = cc in
    let rest = same_cut byte a b c d la.1 lc.1 tails in
    let fronts : a ≡ c = rest.0 in
    (cc, rest.1)

-- what stands before the first such byte, and behind it
pub cut_at : (byte : ℕ) (text : List ℕ) (at : ℕ) → at < length text → get_or text at 0 ≡ byte
    → text ≡ take at text ++ byte ∷ drop (suc at) text
cut_at byte [] at within is = absurd (omega arith)
cut_at byte (x ∷ text) zero within is = ap (λ (b : ℕ). b ∷ text) is
cut_at byte (x ∷ text) (suc at) within is =
    ap (λ (t : List ℕ). x ∷ t) (cut_at byte text at (omega arith) is)

-- a byte before the lines of a text that does not end a line
begin : (byte : ℕ) (text : List ℕ) → byte ≢ 10
    → lines_of (byte ∷ text) ≡ started_with byte (lines_of text)
unfolding lines_of
begin byte text other =
    ap (λ (test : Bool). cond test ((byte ∷ []) ∷ lines_of text)
    (started_with byte (lines_of text)))
    (ne_eqb byte 10 other)

-- the first line of a text
pub lines-line : (front rest : List ℕ) → Lacks 10 front
    → lines_of (front ++ 10 ∷ rest) ≡ (front ++ 10 ∷ []) ∷ lines_of rest
unfolding lines_of started_with
lines-line [] rest lacks = refl
lines-line (byte ∷ front) rest lacks =
    begin byte (front ++ 10 ∷ rest) lacks.0
    ∙ ap (λ (ls : List (List ℕ)). started_with byte ls) (lines-line front rest lacks.1)

-- a text without a newline is one line
pub lines-part : (started : List ℕ) → Lacks 10 started → 0 < length started
    → lines_of started ≡ started ∷ []
unfolding lines_of started_with
lines-part [] lacks some = absurd (omega arith)
lines-part (byte ∷ []) lacks some = begin byte [] lacks.0
lines-part (byte ∷ next ∷ started) lacks some =
    begin byte (next ∷ started) lacks.0
    ∙ ap (λ (ls : List (List ℕ)). started_with byte ls)
    (lines-part (next ∷ started) lacks.1 (omega arith))

-- what a text begins with, its first line begins with
pub record Opens (started : List ℕ) (lines : List (List ℕ)) : Type 0 where
  pub rest : List ℕ
  pub after : List (List ℕ)
  pub is : lines ≡ (started ++ rest) ∷ after

started-open : (byte : ℕ) (lines : List (List ℕ)) → Opens (byte ∷ []) (started_with byte lines)
unfolding started_with
started-open byte [] = record { rest = []; after = []; is = refl }
started-open byte (line ∷ lines) = record { rest = line; after = lines; is = refl }

-- a line that has begun, before more text, is the first line
pub lines-open : (started more : List ℕ) → Lacks 10 started → 0 < length started
    → Opens started (lines_of (started ++ more))
unfolding started_with
lines-open [] more lacks some = absurd (omega arith)
lines-open (byte ∷ []) more lacks some =
    let opens = started-open byte (lines_of more) in
    record { rest = opens.rest; after = opens.after; is = begin byte more lacks.0 ∙ opens.is }
lines-open (byte ∷ next ∷ started) more lacks some =
    let opens = lines-open (next ∷ started) more lacks.1 (omega arith) in
    record {
      rest = opens.rest;
      after = opens.after;
      is = begin byte ((next ∷ started) ++ more) lacks.0
          ∙ ap (λ (ls : List (List ℕ)). started_with byte ls) opens.is;
    }

-- what stands before a place at which and before which no such byte is
pub first_lacks : (byte : ℕ) (text : List ℕ) (at : ℕ) → ((k : ℕ) → k < at → get_or text k 0 ≢ byte)
    → Lacks byte (take at text)
first_lacks byte text zero none = tt
first_lacks byte [] (suc at) none = tt
first_lacks byte (x ∷ text) (suc at) none =
    (none 0 (omega arith), first_lacks byte text at (λ k below. none (suc k) (omega arith)))

pub rest_is : (text : List ℕ) (at : ℕ)
    → take (length text - (at + 1)) (drop (at + 1) text) ≡ drop (suc at) text
rest_is text at =
    let next : at + 1 ≡ suc at = omega arith in
    take_all (length text - (at + 1)) (drop (at + 1) text)
    (omega (arith, length-drop (at + 1) text)) ∙ ap (λ (n : ℕ). drop n text) next

-- the line up to the first newline
pub line_is : (text : List ℕ) (at : ℕ) → at < length text → get_or text at 0 ≡ 10
    → ((k : ℕ) → k < at → get_or text k 0 ≢ 10)
    → IsLine (take (at + 1) text)
line_is text at within is none =
    record {
      front = take at text;
      lacks = first_lacks 10 text at none;
      shown =
          taken text at within is;
    }
  where
    taken : (text : List ℕ) (at : ℕ) → at < length text → get_or text at 0 ≡ 10
        → take (at + 1) text ≡ take at text ++ 10 ∷ []
    taken text at within is = rw add-one (more text at within is)
      where
        more : (text : List ℕ) (at : ℕ) → at < length text → get_or text at 0 ≡ 10
            → take (suc at) text ≡ take at text ++ 10 ∷ []
        more [] at within is = absurd (omega arith)
        more (x ∷ text) zero within is = ap (λ (b : ℕ). b ∷ []) is
        more (x ∷ text) (suc at) within is =
            ap (λ (t : List ℕ). x ∷ t) (more text at (omega arith) is)
