-- A traced ledger, read piece by piece.
use Rattle.std.proofs.Common.{◌≡◌, ◌∙◌, inl, inr, ℕ, ◌<◌, ◌≤◌, Bool, false, true, List, []}
use Rattle.std.proofs.Common.{◌∷◌, ◌++◌, append-nil, length, Option, None, Some, refl}
use Rattle.std.proofs.Common.{◌==◌, sym, ap, subst, arith}
use Rattle.ledger_check.proofs.ColumnLemmas.{cut_long, untraced-append}
use Rattle.ledger_check.proofs.FullCheckLemmas.{split_line_at, split_part}
use Rattle.ledger_check.proofs.LineLemmas.{lacks-append, lines-part}
use Rattle.ledger_check.specs.Columns.{cut_line, read_as, traced_head, untraced_by, untraced_line}
use Rattle.ledger_check.specs.{Columns.untraced_lines, Lines.IsLine, Lines.Lacks, Lines.lines_of}
use Rattle.omny_audit.specs.Traced.{ReadLine, lines_read}
use Rattle.omny_audit.specs.declared.traced.{LinesRead.LinesRead, TracedPieces.TracedPieces}
use Rattle.omny_audit.specs.inside.Traced.{HasLines, HasReadAs, HasTraced, IsKeptOf, wanted_by}
use Rattle.omny_audit.specs.inside.Traced.{wrong_position_in}
use Rattle.std.proofs.lemmas.{Bool.eqb-true, List.nil_from_length, Slice.Eq.bytes_eq-Decides}
use Rattle.std.specs.{Prelude.is_some, Str.bytes_eq}
use Rattle.tap_views.specs.declared.encoder.TapFields.{TapFields}

-- ---- a line of which only some was kept
head_short : length traced_head ≤ 352
unfolding traced_head
head_short = omega arith

long_line : (line : List ℕ) → 352 < length line → untraced_line line ≡ 10 ∷ []
long_line line long =
    ap (untraced_by line) (cut_long line long) ∙ by_test (bytes_eq line traced_head) refl
  where
    by_test : (b : Bool) → bytes_eq line traced_head ≡ b → untraced_by line None ≡ 10 ∷ []
    by_test true same =
        let size = ap (λ (t : List ℕ). length t) ((bytes_eq-Decides line traced_head).0 same) in
        let short = head_short in absurd (omega (arith, long, size, short))
    by_test false same = rw same refl

pub kept_line : (kept whole : List ℕ) → IsKeptOf kept whole
    → (cut_line kept ≡ cut_line whole) × (untraced_line kept ≡ untraced_line whole)
kept_line kept whole (inl same) = (ap cut_line same, ap untraced_line same)
kept_line kept whole (inr (left, right)) = (
  cut_long kept left ∙ sym (cut_long whole right),
  long_line kept left ∙ sym (long_line whole right),
)

kept_none : (kept started : List ℕ) → IsKeptOf kept started → kept ≡ [] → started ≡ []
kept_none kept started (inl same) none = sym same ∙ none
kept_none kept started (inr (left, right)) none = absurd
    (omega (arith, left, ap (λ (l : List ℕ). length l) none))

kept_some : (kept started : List ℕ) → IsKeptOf kept started → 0 < length kept
    → 0 < length started
kept_some kept started (inl same) some = subst (λ (l : List ℕ). 0 < length l) same some
kept_some kept started (inr (left, right)) some = omega (arith, right)

-- ---- what is read in place of lines
pub untraced_more : (lines : List (List ℕ)) (line : List ℕ)
    → untraced_lines lines ++ untraced_line line ≡ untraced_lines (lines ++ line ∷ [])
untraced_more lines line = ap (λ (t : List ℕ). untraced_lines lines ++ t)
    (sym (append-nil (untraced_line line))) ∙ sym (untraced-append lines (line ∷ []))

-- no line has a wrong place
pub none_wrong : (uploads : Option (List (List TapFields))) → None ≡ wrong_position_in uploads []
none_wrong None = refl
none_wrong (Some uploads) = refl

module _ (trace after : TracedPieces) (file text : List ℕ) (read : List ReadLine)
    (is : HasTraced trace file text read) where
  -- a piece that ends no line
  pub traced_part : (piece : List ℕ) → Lacks 10 piece → after.so_far ≡ trace.so_far
      → IsKeptOf after.started.items (is.started ++ piece) → HasTraced after (file ++ piece) text read
  traced_part piece lacks same kept = record {
    lines = subst (λ (s : LinesRead). HasLines s text read) (sym same) is.lines;
    started = is.started ++ piece;
    kept = kept;
    lacks = lacks-append 10 is.started piece is.lacks lacks;
    split = split_part (lines_read read) file is.started piece is.split;
  }

  -- one line more was read
  pub took_line : (line text' : List ℕ) → IsLine line → after.started.items ≡ []
      → ((next : ReadLine) × (next.line ≡ is.started ++ line)
      × HasLines after.so_far text' (next ∷ read))
      → (read' : List ReadLine) × HasTraced after (file ++ line) text' read'
  took_line line text' ends none (next, same, has) = (
    next ∷ read,
    record {
      lines = has;
      started = [];
      kept = inl none;
      lacks = tt;
      split = λ more.
          split_line_at (lines_read read) file is.started line is.split is.lacks ends more
          ∙ ap (λ (l : List ℕ). (lines_read read ++ l ∷ []) ++ lines_of more) (sym same);
    },
  )

  pub nothing_started : trace.started.items ≡ [] → is.started ≡ []
  nothing_started none = kept_none trace.started.items is.started is.kept none

  -- the file has no more lines, or the one that its end cuts
  split_end : lines_of file ≡ lines_read read ++ lines_of is.started
  split_end = ap lines_of (sym (append-nil file)) ∙ is.split []
      ∙ ap (λ (t : List ℕ). lines_read read ++ lines_of t) (append-nil is.started)

  pub ended_whole : trace.started.items ≡ [] → lines_read read ≡ lines_of file
  unfolding lines_of
  ended_whole none = sym (split_end
      ∙ ap (λ (t : List ℕ). lines_read read ++ lines_of t) (nothing_started none)
      ∙ append-nil (lines_read read))

  pub ended_cut : (line : List ℕ) → 0 < length trace.started.items → line ≡ is.started
      → lines_read read ++ line ∷ [] ≡ lines_of file
  ended_cut line some same = ap (λ (l : List ℕ). lines_read read ++ l ∷ []) same
      ∙ sym (split_end ∙ ap (λ (ls : List (List ℕ)). lines_read read ++ ls)
      (lines-part is.started is.lacks (kept_some trace.started.items is.started is.kept some)))

pub with_text : (trace : TracedPieces) (file text text' : List ℕ) (read : List ReadLine)
    → text ≡ text' → HasTraced trace file text read → HasTraced trace file text' read
with_text trace file text text' read same is = rw (sym same) is

-- what is read of a file that goes on
pub reads_more : (trace : Option TracedPieces) (file reported : List ℕ)
    → HasReadAs trace false file reported → (more : List ℕ)
    → (rest : List ℕ) × (read_as (is_some (wanted_by trace)) (file ++ more) ≡ reported ++ rest)
reads_more None file reported is more = (more, ap (λ (t : List ℕ). t ++ more) (sym is))
reads_more (Some trace) file reported (read, is) more = (
  untraced_lines (lines_of (is.started ++ more)),
  ap untraced_lines (is.split more)
      ∙ untraced-append (lines_read read) (lines_of (is.started ++ more))
      ∙ ap (λ (t : List ℕ). t ++ untraced_lines (lines_of (is.started ++ more)))
      (sym is.lines.shown),
)

-- what a piece without bytes ends was read whole
pub read_whole : (trace : TracedPieces) (file piece text : List ℕ) (read : List ReadLine)
    → (length piece == 0) ≡ true → lines_read read ≡ lines_of file
    → HasLines trace.so_far text read
    → HasReadAs (Some trace) (length piece == 0) (file ++ piece) text
read_whole trace file piece text read empty split has =
    let none : piece ≡ [] = nil_from_length piece (eqb-true (length piece) 0 empty) in
    let all : file ++ piece ≡ file = ap (λ (t : List ℕ). file ++ t) none ∙ append-nil file in
    subst (λ (b : Bool). HasReadAs (Some trace) b (file ++ piece) text) (sym empty)
    (subst (λ (f : List ℕ). HasReadAs (Some trace) true f text) (sym all) (
      has.shown ∙ ap untraced_lines split,
      (read, record { split = split; are = has.are }, has.looked),
    ))
