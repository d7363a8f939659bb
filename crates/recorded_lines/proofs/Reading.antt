-- Streams that are read on.
use Rattle.std.proofs.Common.{◌≡◌, ◌<◌, ℕ, Bool, true, false, List, [], ◌∷◌, ◌++◌, length, drop}
use Rattle.std.proofs.Common.{Option, Some, None, Ok, Err, refl, sym, ap, subst, ◌∙◌, append_assoc}
use Rattle.std.proofs.Common.{◌⊎◌, inl, inr, if◌then◌else◌, arith}
use Rattle.line_folds.specs.Folds.{lines_of}
use Rattle.line_folds.specs.declared.reader.NextLine.TheVariants.{Whole, Long, End}
use Rattle.line_folds.specs.declared.reader.ReadFault.{ReadFault, TheVariants.Unread}
use Rattle.recorded_lines.proofs.Plain.{long_line, more_line, one_line}
use Rattle.recorded_lines.specs.Texts.{CanBe, Follows, HasReadLine, IsEndAt, calls_of, left}
use Rattle.recorded_lines.specs.{Texts.pending, Unread.IsUnread, declared.text.Lines.Lines}
use Rattle.recorded_lines.specs.inside.Taken.{HasReadOn, HasTaken, IsLine, ends_line}
use Rattle.std.proofs.Math.Seq.{drop-append_seam}
use Rattle.std.proofs.lemmas.{Bool.Decides.nat_tests, List.length-append, List.nil_from_length}
use Rattle.std.specs.Prelude.{is_some, nat_lt}
use Rattle.world.specs.{Loads.IsRefused, Run.Load, Run.Run, Run.nothing_yet, Run.with_load}
use Rattle.world.specs.{Streams.HasRead, Streams.IsWhole, declared.faults.LoadFault.LoadFault}
use Rattle.world.specs.declared.stream.{Opened.Opened, Stream.Stream}
use Rattle.world.specs.declared.faults.LoadFault.TheVariants as load

-- a stream that was read to its end has nothing left to be read
at_end : (s : Stream) (name : Option (List ℕ)) (bytes : List ℕ) → HasRead s name bytes
    → IsWhole s.trace → s.from ≡ None
at_end s name bytes has whole = by s.from refl
  where
    by : (from : Option Opened) → s.from ≡ from → s.from ≡ None
    by None is = is
    by (Some opened) is =
        let run = has.run ∙ ap (λ (from : Option Opened).
        if is_some from then nothing_yet else with_load nothing_yet name bytes) is in
        absurd (let e : [] ≡ s.trace.reading ∷ [] = sym (ap (λ (r : Run). r.loads) run) ∙ whole in cc)

-- The next piece follows what was read before.
pub read_on : (s s' : Stream) (piece whole : List ℕ)
    → HasRead s s.trace.reading.name s.trace.reading.bytes
    → HasRead s' s.trace.reading.name (s.trace.reading.bytes ++ piece)
    → (s.from ≡ None → (s' ≡ s) × (piece ≡ [])) → CanBe s'.trace whole
    → CanBe s.trace whole × (drop (length s.trace.reading.bytes) whole
    ≡ piece ++ drop (length s'.trace.reading.bytes) whole)
read_on s s' piece whole before after ended now = (
  record {
    more = piece ++ now.more;
    begins = begins;
    ends = λ is.
        let (same, none) = ended (at_end s _ _ before is) in
        ap (λ (l : List ℕ). l ++ now.more) none
        ∙ now.ends (subst (λ (x : Stream). IsWhole x.trace) (sym same) is);
  },
  ap (drop (length old)) begins ∙ drop-append_seam old (piece ++ now.more)
      ∙ ap (λ (l : List ℕ). piece ++ l) (sym (ap (drop (length new)) now.begins
      ∙ drop-append_seam new now.more)),
)
  where
    old : List ℕ
    old = s.trace.reading.bytes

    new : List ℕ
    new = s'.trace.reading.bytes

    begins : whole ≡ old ++ (piece ++ now.more)
    begins = now.begins ∙ ap (λ (x : Load). x.bytes ++ now.more) after.reading
        ∙ append_assoc old piece now.more

-- a read that failed gave nothing
pub read_none : (s s' : Stream) (whole : List ℕ)
    → HasRead s s.trace.reading.name s.trace.reading.bytes
    → s'.trace.reading
    ≡ record { name = s.trace.reading.name; bytes = s.trace.reading.bytes }
    → (s.from ≡ None → s' ≡ s) → CanBe s'.trace whole → CanBe s.trace whole
read_none s s' whole before same ended now = record {
  more = now.more;
  begins = now.begins ∙ ap (λ (x : Load). x.bytes ++ now.more) same;
  ends = λ is. now.ends (subst (λ (x : Stream). IsWhole x.trace)
      (sym (ended (at_end s _ _ before is))) is);
}

-- and is in the trace
pub is_unread : (s s' : Stream) (name : Option (List ℕ)) (bytes : List ℕ) (why : LoadFault)
    → HasRead s name bytes
    → (s'.trace.reading ≡ record { name = name; bytes = bytes })
    × IsRefused s.trace.run s'.trace.run name why
    → why ≡ load.Unread → s'.trace.run.unread ≡ s'.trace.reading.name ∷ []
is_unread s s' name bytes why before (same, refused) is =
    ap (λ (r : Run). r.unread)
    (subst (λ (w : LoadFault). IsRefused s.trace.run s'.trace.run name w) is refused)
    ∙ ap (λ (r : Run). r.unread ++ name ∷ []) before.run ∙ by s.from
    ∙ ap (λ (x : Load). x.name ∷ []) (sym same)
  where
    by : (from : Option Opened)
        → (if is_some from then nothing_yet else with_load nothing_yet name bytes).unread
        ++ name ∷ [] ≡ name ∷ []
    by None = refl
    by (Some opened) = refl

-- what was read so far
pub sound_now : (s : Stream) (name : Option (List ℕ)) (bytes : List ℕ) → HasRead s name bytes
    → HasRead s s.trace.reading.name s.trace.reading.bytes
sound_now s name bytes has = record {
  reading = refl;
  run = has.run ∙ ap (λ (x : Load).
      if is_some s.from then nothing_yet else with_load nothing_yet x.name x.bytes) (sym has.reading);
}

-- ---- the next line, of which this was taken so far
pub record IsAtLine (first now : Lines) (line : List ℕ) (is_whole : Bool) : Type 0 where
  pub follows : Follows first now
  pub is_line : IsLine line
  pub ends : ends_line line ≡ is_whole
  pub text : (whole : List ℕ) → CanBe (calls_of now) whole
      → left first whole ≡ line ++ left now whole

pub follows_self : (s : Lines) → Follows s s
follows_self s = record { name = refl; back = λ whole can. can }

pub at_line : (first : Lines) (line : List ℕ) → line ≡ [] → IsAtLine first first line false
at_line first line none = record {
  follows = follows_self first;
  is_line = subst IsLine (sym none) tt;
  ends = ap ends_line none;
  text = λ whole can. ap (λ (l : List ℕ). l ++ left first whole) (sym none);
}

pub follows_on : (first now next : Lines) → Follows first now → Follows now next
    → Follows first next
follows_on first now next before after = record {
  name = after.name ∙ before.name;
  back = λ whole can. before.back whole (after.back whole can);
}

-- what is taken is at hand: nothing is read
pub follows_same : (first now next : Lines) → Follows first now → next.stream ≡ now.stream
    → Follows first next
follows_same first now next before same = follows_on first now next before (record {
  name = ap (λ (s : Stream). s.trace.reading.name) same;
  back = λ whole can. subst (λ (s : Stream). CanBe s.trace whole) same can;
})

pub line_more : (first now next : Lines) (line line' : List ℕ) (is_whole : Bool)
    → IsAtLine first now line false → next.stream ≡ now.stream
    → HasTaken (pending now) (pending next) line line' is_whole
    → IsAtLine first next line' is_whole
line_more first now next line line' is_whole at same taken =
    let (is, ends) = more_line line taken.front at.is_line at.ends taken.is_line in
    record {
      follows = follows_same first now next at.follows same;
      is_line = rw taken.taken is;
      ends = rw taken.taken (ends ∙ taken.ends);
      text = λ whole can.
          let rest = drop (length (calls_of now).reading.bytes) whole in
          at.text whole (subst (λ (s : Stream). CanBe s.trace whole) same can)
          ∙ rw (taken.split, taken.taken) (simp append_assoc)
          ∙ ap (λ (s : Stream). line' ++ (pending next
          ++ drop (length s.trace.reading.bytes) whole)) (sym same);
    }

-- ---- the line that is read
pub not_read : (first now : Lines) (line : List ℕ) (why : ReadFault) → Follows first now
    → (why ≡ Unread → IsUnread (calls_of now)) → HasReadLine first now line (Err why)
not_read first now line why follows unread =
    record { follows = follows; next = λ whole. tt; ended = tt; unread = unread }

module _ {first now : Lines} {line : List ℕ} {is_whole : Bool} (at : IsAtLine first now line is_whole) where
  pub line_on : {next : Lines} {some : Bool} → HasReadOn now next (Ok some)
      → IsAtLine first next line is_whole
  line_on {next = next} on = record {
    follows = follows_on first now next at.follows on.follows;
    is_line = at.is_line;
    ends = at.ends;
    text = λ whole can. at.text whole (on.follows.back whole can)
        ∙ ap (λ (l : List ℕ). line ++ l) (on.left whole can);
  }

  pub read_long : nat_lt 1024 (length line) ≡ true → HasReadLine first now line (Ok Long)
  read_long long = record {
    follows = at.follows;
    next = λ whole can.
        let low : 1024 < length line = grind (arith, nat_tests) in
        let (more, lines, shown) = long_line line (left now whole) at.is_line (omega (arith, low)) in
        let size = length-append line more in
        let high : 1024 < length (line ++ more) = omega (arith, low, size) in
        (line ++ more, lines, ap lines_of (at.text whole can) ∙ shown, grind (arith, nat_tests));
    ended = λ is. absurd (cc);
    unread = tt;
  }

  none_left : IsEndAt now → (whole : List ℕ) → CanBe (calls_of now) whole → left now whole ≡ []
  none_left end whole can =
      ap (λ (l : List ℕ). l ++ drop (length (calls_of now).reading.bytes) whole) end.none
      ∙ ap (drop (length (calls_of now).reading.bytes)) can.begins
      ∙ drop-append_seam (calls_of now).reading.bytes can.more ∙ can.ends end.whole

  -- its line feed was taken, or nothing is left behind it
  pub read_one : nat_lt 1024 (length line) ≡ false
      → (is_whole ≡ true) ⊎ ((0 < length line) × IsEndAt now)
      → HasReadLine first now line (Ok Whole)
  read_one short end = record {
    follows = at.follows;
    next = λ whole can. (
      ap lines_of (at.text whole can) ∙ one_line line (left now whole) at.is_line (by whole can end),
      short,
    );
    ended = λ is. absurd (cc);
    unread = tt;
  }
    where
      by : (whole : List ℕ) → CanBe (calls_of now) whole
          → (is_whole ≡ true) ⊎ ((0 < length line) × IsEndAt now)
          → (ends_line line ≡ true) ⊎ ((0 < length line) × (left now whole ≡ []))
      by whole can (inl fed) = inl (at.ends ∙ fed)
      by whole can (inr (some, end)) = inr (some, none_left end whole can)

  pub read_none_left : IsEndAt now → length line ≡ 0 → HasReadLine first now line (Ok End)
  read_none_left end none = record {
    follows = at.follows;
    next = λ whole can. (
      at.text whole can ∙ ap (λ (l : List ℕ). l ++ left now whole) (nil_from_length line none)
          ∙ none_left end whole can,
      none_left end whole can,
    );
    ended = λ is. end;
    unread = tt;
  }
