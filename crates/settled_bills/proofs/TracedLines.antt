-- Columns behind the lines of a text.
use Rattle.std.proofs.Common.{◌≡◌, ◌∙◌, ℕ, ◌+◌, ◌<◌, ◌==◌, false, List, [], ◌∷◌, ◌++◌, Option, refl}
use Rattle.std.proofs.Common.{sym, ap, subst, drop, take, get_or, append_assoc, append-nil, length}
use Rattle.fare_texts.proofs.Beginnings.{begins_front, goes_last, goes_passed, goes_then}
use Rattle.fare_texts.specs.{LedgerLines.head_text, WrittenOut.Begins, WrittenOut.GoesOut}
use Rattle.fare_texts.specs.declared.explainer.Explainer.{Explainer}
use Rattle.settled_bills.proofs.Joined.{around}
use Rattle.settled_bills.proofs.TapsExplained.{explained_lines, lines_front}
use Rattle.settled_bills.specs.Columns.{columns_by, head_columns, with_columns}
use Rattle.settled_bills.specs.{Traces.taps_of_trace, declared.trace.TracedTap.TracedTap}
use Rattle.settled_bills.specs.inside.{ExplainedTaps.Explains, ExplainedTaps.HaveLines, Puts.Puts}
use Rattle.std.proofs.lemmas.List.{map-append, take-append-drop, take_more}
use Rattle.std.specs.{Io.KnownBytes.Appends, Prelude.codes}
use Rattle.tap_views.specs.declared.encoder.TapFields.{TapFields}
use Rattle.tariffs.specs.Fares.{Fares}

pub no_columns : (text : List ℕ) → with_columns text [] ≡ text
no_columns [] = refl
no_columns (byte ∷ text) = refl

-- a byte that is no line feed stands where it stood
pub with_other : (byte : ℕ) (trailing : List ℕ) (columns : List (List ℕ)) → (byte == 10) ≡ false
    → with_columns (byte ∷ trailing) columns ≡ byte ∷ with_columns trailing columns
with_other byte trailing [] is = ap (λ (t : List ℕ). byte ∷ t) (sym (no_columns trailing))
with_other byte trailing (c ∷ columns) is = rw is refl

-- behind the head line, which takes the columns' names, are the lines with their columns
pub head_on : (lines : List ℕ) (columns : List (List ℕ))
    → with_columns (head_text ++ lines) (head_columns ∷ columns)
    ≡ (codes
    "token,line,moment,validator,mode,answer,cents,window_start,window_end,ride,reason,points_at"
    ++ codes ",class,upload,place\n") ++ with_columns lines columns
head_on lines columns = refl

-- if no tap is left, a line has no columns
pub none_left : (classes : ℕ → List ℕ → List ℕ) (rest : List ℕ) (taps : List TracedTap) → taps ≡ []
    → with_columns (10 ∷ rest) (columns_by classes taps)
    ≡ 10 ∷ with_columns rest (columns_by classes taps)
none_left classes rest [] is = ap (λ (t : List ℕ). 10 ∷ t) (sym (no_columns rest))
none_left classes rest (traced ∷ taps) is = cc

-- ---- lines that go out with their columns

-- The lines went out after what waited at first, with the columns of the first taps. Whatever text
-- comes next gets the columns of the taps that are left.
abbrev pub GoesWith : (ℕ → List ℕ → List ℕ) → List TracedTap → Option (List ℕ) → List ℕ
    → Option (List ℕ) → List ℕ → List TracedTap → List ℕ → Type 0
GoesWith classes trace begin waited out waits left lines =
    (rest : List ℕ) → GoesOut begin waited out (waits ++ with_columns rest (columns_by classes left))
    (with_columns (lines ++ rest) (columns_by classes trace))

-- more text waits
goes_longer : (a b : Option (List ℕ)) (old new more : List ℕ) → GoesOut a old b new []
    → GoesOut a (old ++ more) b (new ++ more) []
goes_longer a b old new more gone = record {
  front = gone.front;
  whole = append-nil (old ++ more)
      ∙ ap (λ (t : List ℕ). t ++ more) (sym (append-nil old) ∙ gone.whole)
      ∙ append_assoc gone.front new more;
  written = gone.written;
}

-- what waits goes out, and then lines are put
pub goes_put : (classes : ℕ → List ℕ → List ℕ) (trace left later : List TracedTap)
    (a b c : Option (List ℕ)) (waited waits passed put lines more : List ℕ)
    → GoesWith classes trace a waited b waits left lines → GoesOut b waits c passed []
    → Puts classes passed left more put later
    → GoesWith classes trace a waited c put later (lines ++ more)
goes_put classes trace left later a b c waited waits passed put lines more gone pass puts =
    λ rest.
    let columns = columns_by classes trace in
    let next = with_columns (more ++ rest) (columns_by classes left) in
    subst (λ (t : List ℕ). GoesOut a waited c (put ++ with_columns rest (columns_by classes later))
    (with_columns t columns)) (sym (append_assoc lines more rest))
    (subst (λ (t : List ℕ). GoesOut a waited c t (with_columns (lines ++ (more ++ rest)) columns))
    (puts rest)
    (goes_passed a b c waited (waits ++ next) (passed ++ next)
    (with_columns (lines ++ (more ++ rest)) columns) (gone (more ++ rest))
    (goes_longer b c waits passed next pass)))

-- the last lines go out
pub goes_all : (classes : ℕ → List ℕ → List ℕ) (trace left : List TracedTap)
    (a b c : Option (List ℕ)) (waited waits lines : List ℕ)
    → GoesWith classes trace a waited b waits left lines → Appends b c waits
    → Appends a c (waited ++ with_columns lines (columns_by classes trace))
goes_all classes trace left a b c waited waits lines gone written =
    subst (λ (t : List ℕ). Appends a c (waited ++ with_columns t (columns_by classes trace)))
    (append-nil lines)
    (goes_last a b c waited (waits ++ []) (with_columns (lines ++ []) (columns_by classes trace))
    (gone []) (subst (Appends b c) (sym (append-nil waits)) written))

-- ---- the taps of a trace
abbrev tap_in : TracedTap → TapFields
tap_in traced = traced.tap

-- what a write that failed left, after the lines of some taps
pub traced_started : (classes : ℕ → List ℕ → List ℕ) (trace left : List TracedTap) (fares : Fares)
    (old mid : Explainer) (i : ℕ) (a b c : Option (List ℕ)) (waited waits : List ℕ)
    → Explains fares old (taps_of_trace (take i trace)) mid
    (GoesWith classes trace a waited b waits left)
    → Begins b c waits
    → HaveLines fares old (taps_of_trace trace)
    (λ lines. Begins a c (waited ++ with_columns lines (columns_by classes trace)))
traced_started classes trace left fares old mid i a b c waited waits is started =
    lines_front fares old (taps_of_trace (take i trace)) (taps_of_trace (drop i trace))
    (taps_of_trace trace) (GoesWith classes trace a waited b waits left)
    (λ lines. Begins a c (waited ++ with_columns lines (columns_by classes trace)))
    (sym (map-append tap_in (take i trace) (drop i trace))
    ∙ ap taps_of_trace (take-append-drop i trace))
    (explained_lines fares old mid (taps_of_trace (take i trace))
    (GoesWith classes trace a waited b waits left) is)
    (λ l m gone. goes_then a b c waited (waits ++ with_columns m (columns_by classes left))
    (with_columns (l ++ m) (columns_by classes trace)) (gone m)
    (begins_front b c waits (with_columns m (columns_by classes left)) started))

-- one more
pub taps_more : (trace : List TracedTap) (i : ℕ) (d : TracedTap) → i < length trace
    → taps_of_trace (take i trace) ++ (get_or trace i d).tap ∷ []
    ≡ taps_of_trace (take (i + 1) trace)
taps_more trace i d within =
    sym (ap taps_of_trace (take_more trace i d within)
    ∙ map-append tap_in (take i trace) (get_or trace i d ∷ []))

-- those before one, that one, and those behind it
pub taps_at : (trace : List TracedTap) (i : ℕ) (d : TracedTap) → i < length trace
    → taps_of_trace (take i trace)
    ++ ((get_or trace i d).tap ∷ [] ++ taps_of_trace (drop (i + 1) trace)) ≡ taps_of_trace trace
taps_at trace i d within =
    sym (map-append tap_in (take i trace) (get_or trace i d ∷ drop (i + 1) trace))
    ∙ ap taps_of_trace (around trace i d within)
