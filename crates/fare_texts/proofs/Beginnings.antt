-- A text that goes out in pieces.
use Rattle.std.proofs.Common.{◌≡◌, ℕ, List, [], ◌++◌, ◌-◌, Option, refl, sym, ap, ◌∙◌, append_assoc}
use Rattle.std.proofs.Common.{append-nil, arith, drop, length, length-drop, subst, take, take_all}
use Rattle.fare_texts.specs.WrittenOut.{Begins, GoesOut}
use Rattle.std.proofs.KnownBytes.{Appends-kept, Appends-nil, Appends-trans}
use Rattle.std.proofs.lemmas.List.{take-append-drop}
use Rattle.std.specs.Io.KnownBytes.{Appends, Keeps}

-- ---- beginnings
pub begins_nothing : (o : Option (List ℕ)) (text : List ℕ) → Begins o o text
begins_nothing o text = record { front = []; rest = text; whole = refl; written = Appends-nil o }

pub begins_whole : (a b : Option (List ℕ)) (text : List ℕ) → Appends a b text → Begins a b text
begins_whole a b text written =
    record { front = text; rest = []; whole = sym (append-nil text); written = written }

-- a beginning of a text that goes on
pub begins_front : (a b : Option (List ℕ)) (x y : List ℕ) → Begins a b x → Begins a b (x ++ y)
begins_front a b x y started = record {
  front = started.front;
  rest = started.rest ++ y;
  whole = ap (λ text. text ++ y) started.whole ∙ append_assoc started.front started.rest y;
  written = started.written;
}

-- a whole text, and a beginning of the last one
pub begins_after : (a b c : Option (List ℕ)) (x y : List ℕ) → Appends a b x → Begins b c y
    → Begins a c (x ++ y)
begins_after a b c x y first next = record {
  front = x ++ next.front;
  rest = next.rest;
  whole = ap (λ text. x ++ text) next.whole ∙ sym (append_assoc x next.front next.rest);
  written = Appends-trans a b c x next.front first next.written;
}

-- a whole text, and a beginning of the next one
pub begins_more : (a b c : Option (List ℕ)) (x y z : List ℕ) → Appends a b x → Begins b c y
    → Begins a c (x ++ (y ++ z))
begins_more a b c x y z first next =
    begins_after a b c x (y ++ z) first (begins_front b c y z next)

pub begins_kept : (a b c : Option (List ℕ)) (text : List ℕ) → Begins a b text → Keeps b c
    → Begins a c text
begins_kept a b c text started kept = record {
  front = started.front;
  rest = started.rest;
  whole = started.whole;
  written = Appends-kept a b c started.front started.written kept;
}

-- a beginning of a text, and some bytes more of the rest
pub started_more : (text front rest left : List ℕ) (count : ℕ) → text ≡ front ++ rest
    → left ≡ take (length rest - count) (drop count rest)
    → text ≡ (front ++ take count rest) ++ left
started_more text front rest left count whole is =
    let all : take (length rest - count) (drop count rest) ≡ drop count rest =
    take_all (length rest - count) (drop count rest) (omega (arith, length-drop count rest)) in
    whole ∙ ap (λ (t : List ℕ). front ++ t) (sym (take-append-drop count rest))
    ∙ sym (append_assoc front (take count rest) (drop count rest))
    ∙ ap (λ (t : List ℕ). (front ++ take count rest) ++ t) (sym (is ∙ all))

-- ---- behind what waits
pub goes_nothing : (o : Option (List ℕ)) (waits : List ℕ) → GoesOut o waits o waits []
goes_nothing o waits = record { front = []; whole = append-nil waits; written = Appends-nil o }

-- one text after the other
pub goes_on : (a b c : Option (List ℕ)) (first next last x y : List ℕ) → GoesOut a first b next x
    → GoesOut b next c last y → GoesOut a first c last (x ++ y)
goes_on a b c first next last x y one other = record {
  front = one.front ++ other.front;
  whole = sym (append_assoc first x y) ∙ ap (λ t. t ++ y) one.whole
      ∙ append_assoc one.front next y ∙ ap (λ t. one.front ++ t) other.whole
      ∙ sym (append_assoc one.front other.front last);
  written = Appends-trans a b c one.front other.front one.written other.written;
}

-- a text that waits
pub goes_after : (o : Option (List ℕ)) (old new text : List ℕ) → new ≡ old ++ text
    → GoesOut o old o new text
goes_after o old new text grown = record { front = []; whole = sym grown; written = Appends-nil o }

-- the buffer grows
pub goes_grown : (a b : Option (List ℕ)) (old new longer x line : List ℕ) → GoesOut a old b new x
    → longer ≡ new ++ line → GoesOut a old b longer (x ++ line)
goes_grown a b old new longer x line gone grown =
    goes_on a b b old new longer x line gone (goes_after b new longer line grown)

-- some of what waits goes out
pub goes_passed : (a b c : Option (List ℕ)) (old new last x : List ℕ) → GoesOut a old b new x
    → GoesOut b new c last [] → GoesOut a old c last x
goes_passed a b c old new last x gone passed =
    subst (λ t. GoesOut a old c last t) (append-nil x)
    (goes_on a b c old new last x [] gone passed)

-- all that waited has gone out
pub goes_empty : (a b : Option (List ℕ)) (old new : List ℕ) → Appends a b old → new ≡ []
    → GoesOut a old b new []
goes_empty a b old new written empty =
    record { front = old; whole = ap (λ t. old ++ t) (sym empty); written = written }

-- and if a beginning of what waits goes out too
pub goes_then : (a b c : Option (List ℕ)) (old new x : List ℕ) → GoesOut a old b new x
    → Begins b c new → Begins a c (old ++ x)
goes_then a b c old new x gone started = record {
  front = gone.front ++ started.front;
  rest = started.rest;
  whole = gone.whole ∙ ap (λ t. gone.front ++ t) started.whole
      ∙ sym (append_assoc gone.front started.front started.rest);
  written = Appends-trans a b c gone.front started.front gone.written started.written;
}

-- and more of the text is to come
pub goes_then_on : (a b c : Option (List ℕ)) (old new x y : List ℕ) → GoesOut a old b new x
    → Begins b c new → Begins a c (old ++ (x ++ y))
goes_then_on a b c old new x y gone started =
    subst (λ t. Begins a c t) (append_assoc old x y)
    (begins_front a c (old ++ x) y (goes_then a b c old new x gone started))

-- and if a beginning of what waits and of a text behind it goes out
pub goes_begins : (a b c : Option (List ℕ)) (old new x y : List ℕ) → GoesOut a old b new x
    → Begins b c (new ++ y) → Begins a c (old ++ (x ++ y))
goes_begins a b c old new x y gone started = record {
  front = gone.front ++ started.front;
  rest = started.rest;
  whole = sym (append_assoc old x y) ∙ ap (λ t. t ++ y) gone.whole
      ∙ append_assoc gone.front new y ∙ ap (λ t. gone.front ++ t) started.whole
      ∙ sym (append_assoc gone.front started.front started.rest);
  written = Appends-trans a b c gone.front started.front gone.written started.written;
}

-- and more of the text is to come
pub goes_begins_on : (a b c : Option (List ℕ)) (old new x y z : List ℕ) → GoesOut a old b new x
    → Begins b c (new ++ y) → Begins a c (old ++ (x ++ (y ++ z)))
goes_begins_on a b c old new x y z gone started =
    goes_begins a b c old new x (y ++ z) gone
    (subst (λ t. Begins b c t) (append_assoc new y z) (begins_front b c (new ++ y) z started))

-- all that waited goes out, and then bytes
pub goes_through : (a b c : Option (List ℕ)) (old new x : List ℕ) → Appends a b old → new ≡ []
    → Appends b c x → GoesOut a old c new x
goes_through a b c old new x waited empty written = record {
  front = old ++ x;
  whole = sym (ap (λ t. (old ++ x) ++ t) empty ∙ append-nil (old ++ x));
  written = Appends-trans a b c old x waited written;
}

-- what waits goes out at last
pub goes_last : (a b c : Option (List ℕ)) (old new x : List ℕ) → GoesOut a old b new x
    → Appends b c new → Appends a c (old ++ x)
goes_last a b c old new x gone written =
    subst (λ t. Appends a c t) (sym gone.whole)
    (Appends-trans a b c gone.front new gone.written written)
