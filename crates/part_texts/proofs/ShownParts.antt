-- Texts of parts, as they are printed: their fronts are read, one after the other.
use Rattle.std.proofs.Common.{◌≡◌, ◌∙◌, ℕ, Bool, true, false, cond, List, [], ◌∷◌, ◌++◌, Ok, refl, ap, subst, map, length, append_assoc, append-nil, length-append, arith}
use Rattle.std.specs.Prelude.{◌==◌, flat_map, nat_eq}
use Rattle.std.proofs.lemmas.Bool.Decides.{nat_tests}
use Rattle.line_folds.specs.Folds.{lines_of, to_first}
use Rattle.part_texts.specs.Fronts.{FrontsView, no_sums}
use Rattle.part_texts.specs.Merged.{PartView, initial, is_none_left, left_of, lines_left, read_all}
use Rattle.part_texts.specs.Merged.{read_of}
use Rattle.part_texts.specs.inside.Shown.{are_next}
use Rattle.part_texts.specs.declared.fronts.Stage.TheVariants.{Head}

-- the lines of a text make the text
pub lines_joined : (text : List ℕ) → flat_map (λ l. l) (lines_of text) ≡ text
lines_joined [] = refl
lines_joined (byte ∷ text) = with_byte (byte == 10) (lines_of text) (lines_joined text)
  where
    with_byte : (b : Bool) (lines : List (List ℕ)) → flat_map (λ l. l) lines ≡ text
        → flat_map (λ l. l) (cond b ((byte ∷ []) ∷ lines) (to_first byte lines)) ≡ byte ∷ text
    with_byte true lines rest = ap (λ (l : List ℕ). byte ∷ l) rest
    with_byte false [] rest = ap (λ (l : List ℕ). byte ∷ l) rest
    with_byte false (line ∷ lines) rest = ap (λ (l : List ℕ). byte ∷ l) rest

one_more : (done : List PartView) (part : PartView) → nat_eq (length (done ++ part ∷ [])) 0 ≡ false
one_more done part = let n = length-append done (part ∷ []) in grind (arith, nat_tests, n)

pub none_left : {A B : Type 0} (f : A → B) (xs : List A) → is_none_left (map f xs) ≡ is_none_left xs
none_left f [] = refl
none_left f (x ∷ xs) = refl

-- Parts with these texts and these lines after their fronts, and what the parts so far come to.
module _ {P Q : Type 0} (text lines : P → List ℕ) (opening : ℕ → P → PartView)
    (IsNext : Bool → Bool → Q → P → Q → Type 0) (IsAfter : Q → FrontsView → Type 0) where
  -- the front of the part is read after these parts
  pub record IsFrontRead (position : ℕ) (first last : Bool) (s : FrontsView) (p : P) (after : Q) : Type 0
    where
      pub next : FrontsView
      pub number : ℕ
      pub now : IsAfter after next
      pub read : read_of false position 1 (record s {
        stage = Head;
        is_first = first;
        is_last = last;
        part = no_sums;
        so_far = no_sums;
      }) (lines_of (text p)) ≡ Ok (number, next, lines_of (lines p))
      pub is : left_of (number, next, lines_of (lines p)) ≡ opening number p

  abbrev pub are_opened : List P → List PartView → Type 0
  are_opened [] [] = Unit {0}
  are_opened [] (opened ∷ opens) = ⊥
  are_opened (p ∷ ps) [] = ⊥
  are_opened (p ∷ ps) (opened ∷ opens) =
      (number : ℕ) × (opened ≡ opening number p) × are_opened ps opens

  -- the fronts of the parts are read after those that were opened
  pub record AreFrontsRead (s : FrontsView) (done : List PartView) (parts : List P) (after : Q) : Type 0
    where
      pub next : FrontsView
      pub more : List PartView
      pub now : IsAfter after next
      pub opened : are_opened parts more
      pub read : read_all false s done (map initial (map text parts)) ≡ Ok (next, done ++ more)

  pub fronts_shown : ((position : ℕ) (first last : Bool) (s : FrontsView) (p : P) (before after : Q)
      → IsNext first last before p after → IsAfter before s → IsFrontRead position first last s p after)
      → (s : FrontsView) (done : List PartView) (parts : List P) (before after : Q)
      → are_next IsNext (nat_eq (length done) 0) before parts after → IsAfter before s
      → AreFrontsRead s done parts after
  fronts_shown one s done [] before after are now = record {
    next = s;
    more = [];
    now = subst (λ q. IsAfter q s) are now;
    opened = tt;
    read = rw append-nil;
  }
  fronts_shown one s done (p ∷ ps) before after (then, is, others) now =
      let front = one (length done) (nat_eq (length done) 0) (is_none_left ps) s p before then is now in
      let o = left_of (front.number, front.next, lines_of (lines p)) in
      let rest = fronts_shown one front.next (done ++ o ∷ []) ps then after
      (rw (one_more done o) others) front.now in
      record {
        next = rest.next;
        more = o ∷ rest.more;
        now = rest.now;
        opened = (front.number, front.is, rest.opened);
        read = rw (none_left initial (map text ps), none_left text ps, front.read)
            (rest.read ∙ ap (λ os. Ok (rest.next, os)) (append_assoc done (o ∷ []) rest.more));
      }

  pub left_shown : ((number : ℕ) (p : P) → (opening number p).lines ≡ lines_of (lines p))
      → (parts : List P) (opens : List PartView) → are_opened parts opens
      → lines_left opens ≡ flat_map lines parts
  left_shown shows [] [] are = refl
  left_shown shows [] (opened ∷ opens) are = absurd are
  left_shown shows (p ∷ ps) [] are = absurd are
  left_shown shows (p ∷ ps) (opened ∷ opens) (number, is, others) =
      rw (is, shows number p, lines_joined (lines p), left_shown shows ps opens others)
