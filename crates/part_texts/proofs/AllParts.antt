-- Parts that are read one after the other, and merged.
use Rattle.std.proofs.Common.{◌≡◌, ◌∙◌, ◌+◌, ◌<◌, ◌≤◌, ℕ, suc, zero, Bool, true, false, List, []}
use Rattle.std.proofs.Common.{◌∷◌, ◌++◌, Some, Result, Ok, Err, All, ap, append-nil, append_assoc}
use Rattle.std.proofs.Common.{arith, drop, get_or, length, length-take, map, refl, set, subst, sym}
use Rattle.std.proofs.Common.{take}
use Rattle.histories.specs.Sums.{sums_of}
use Rattle.part_texts.proofs.Parts.{all_initial, can_be_read, can_before, can_here, follow_length}
use Rattle.part_texts.proofs.Parts.{follow_on, follow_self, follow_set, view_at, views_length}
use Rattle.part_texts.proofs.Parts.{views_set}
use Rattle.part_texts.proofs.Written.{cut_on, written_more, written_none, written_on}
use Rattle.part_texts.specs.{FrontSteps.at_part, Fronts.FrontsView, Fronts.no_fronts}
use Rattle.part_texts.specs.Merged.{PartView, WrongLine, and_then, initial, is_none_left, left_of}
use Rattle.part_texts.specs.Merged.{lines_left, merge_of, merged, read_all, read_of, whole_front}
use Rattle.part_texts.specs.Reads.{HasStarted, IsFaultOf, Leaves, MergesAs, read_by}
use Rattle.part_texts.specs.declared.fault.MergeFault.{MergeFault}
use Rattle.part_texts.specs.declared.fault.MergeFault.TheVariants.{Line, Unread, Write, NoMemory}
use Rattle.part_texts.specs.declared.fronts.{Fronts.Fronts, Open.Open}
use Rattle.part_texts.specs.inside.Fronts.{fronts_view}
use Rattle.part_texts.specs.inside.Opened.{AreRead, IsInitial, IsPartFault, IsRead, all_copied}
use Rattle.part_texts.specs.inside.Opened.{copied, lines_at, view_of, views_of}
use Rattle.recorded_lines.specs.Texts.{CanBe, Follows, IsEndAt, IsFresh, calls_of}
use Rattle.recorded_lines.specs.declared.text.Lines.{Lines}
use Rattle.report_texts.specs.declared.wrong.Wrong.TheVariants.{Form}
use Rattle.std.proofs.lemmas.{Bool.Decides.nat_tests, List.drop-set-lt, List.drop_all}
use Rattle.std.proofs.lemmas.List.{drop_more, length-drop, length-set, take_all, take_more_set}
use Rattle.std.proofs.lemmas.List.Elements.{All-map, All-push, All-weaker}
use Rattle.std.specs.{List.AllZip, Prelude.nat_le, Prelude.slice_get}
use Rattle.world.specs.Run.{Calls, Run, with_written}
use Rattle.world.specs.{Streams.IsWhole, Writes.IsCut, declared.faults.WriteFault.WriteFault}

-- ---- faults
at_set : (from : List Lines) (i : ℕ) (one : Lines) → i < length from
    → slice_get (map calls_of (set from i one)) i ≡ Some (calls_of one)
at_set [] i one within = absurd (omega (arith, within))
at_set (x ∷ from) zero one within = refl
at_set (x ∷ from) (suc i) one within = at_set from i one (omega (arith, within))

-- the fault of a part is that of all
part_fault : {S T : Type 0} (said : Result S WrongLine) (next : S → Result T WrongLine)
    (whole : Result T WrongLine) (from : List Lines) (i : ℕ) (one : Lines) (fault : MergeFault)
    → i < length from → whole ≡ and_then said next → IsPartFault said i (calls_of one) fault
    → IsFaultOf whole (map calls_of (set from i one)) fault
part_fault said next whole from i one (Line text number why) within is wrong =
    is ∙ ap (λ r. and_then r next) wrong
part_fault said next whole from i one (Unread text) within is (at, unread) = (
  calls_of one,
  ap (slice_get (map calls_of (set from i one))) at ∙ at_set from i one within,
  unread,
)
part_fault said next whole from i one (Write why) within is wrong = tt
part_fault said next whole from i one NoMemory within is wrong = tt

fault_goes : {S T : Type 0} (said : Result S WrongLine) (next : S → Result T WrongLine)
    (whole : Result T WrongLine) (calls : List Calls) (fault : MergeFault)
    → whole ≡ and_then said next → IsFaultOf said calls fault → IsFaultOf whole calls fault
fault_goes said next whole calls (Line text number why) is wrong =
    is ∙ ap (λ r. and_then r next) wrong
fault_goes said next whole calls (Unread text) is wrong = wrong
fault_goes said next whole calls (Write why) is wrong = tt
fault_goes said next whole calls NoMemory is wrong = tt

-- ---- parts, one after the other
-- where the part stands among all parts
at_count : {A : Type 0} (position count : ℕ) (later : List A) → count ≡ (position + 1) + length later
    → nat_le count (position + 1) ≡ is_none_left later
at_count position count [] is = grind (arith, nat_tests, is)
at_count position count (one ∷ later) is = grind (arith, nat_tests, is)

no_view : PartView
no_view = initial []

-- The parts from this place on give what all of them give, and what was read is written, if it is
-- copied.
pub record IsAtPart (is_copied : Bool) (now : FrontsView) (parts parts' : List Open)
    (start from : List Lines) (i : ℕ) (before after : Run) : Type 0 where
  pub same : length parts' ≡ length start
  pub follow : AllZip Follows start from
  pub ended : is_copied ≡ true → All IsEndAt (take i from)
  pub text : List ℕ
  pub wrote : after ≡ with_written before text
  pub gives : (texts : List (List ℕ)) → AllZip CanBe (map calls_of from) texts
      → read_all is_copied no_fronts [] (views_of parts start texts)
      ≡ read_all is_copied now (take i (views_of parts' from texts))
      (drop i (views_of parts' from texts))
  pub lines : (texts : List (List ℕ)) → AllZip CanBe (map calls_of from) texts
      → all_copied is_copied (views_of parts start texts)
      ≡ text ++ all_copied is_copied (drop i (views_of parts' from texts))

pub none_read : (is_copied : Bool) (s : FrontsView) (parts : List Open) (from : List Lines) (r : Run)
    → length parts ≡ length from → s ≡ no_fronts
    → IsAtPart is_copied s parts parts from from 0 r r
none_read is_copied s parts from r same is = record {
  same = same;
  follow = follow_self from;
  ended = λ _ k d within. absurd (omega (arith, within));
  text = [];
  wrote = written_none r;
  gives = λ texts can. ap (λ f. read_all is_copied f [] (views_of parts from texts)) (sym is);
  lines = λ texts can. refl;
}

first_copied : (is_copied : Bool) (p : PartView) (later : List PartView)
    → all_copied is_copied (p ∷ later) ≡ copied is_copied p.lines ++ all_copied is_copied later
first_copied true p later = refl
first_copied false p later = refl

none_copied : (is_copied : Bool) → all_copied is_copied [] ≡ []
none_copied true = refl
none_copied false = refl

module _ {is_copied : Bool} {now : FrontsView} {parts parts' : List Open} {start from : List Lines}
    {i : ℕ} {before after : Run} {part : Open} (d : Lines)
    (at : IsAtPart is_copied now parts parts' start from i before after) (some : i < length start)
    (part_is : part ≡ get_or parts' i part) where
  few : length parts' ≡ length from
  few = at.same ∙ sym (follow_length start from at.follow)

  inside : i < length from
  inside = let l = follow_length start from at.follow in omega (arith, l, some)

  -- the part at the place, and those after it
  abbrev views : List (List ℕ) → List PartView
  views texts = views_of parts' from texts

  abbrev lines : List (List ℕ) → List (List ℕ)
  lines texts = lines_at (get_or from i d) (get_or texts i [])

  module _ {next : Lines} (on : Follows (get_or from i d) next) where
    ons : AllZip Follows from (set from i next)
    ons = follow_set from i next d inside on

    pub follow_next : AllZip Follows start (set from i next)
    follow_next = follow_on start from (set from i next) at.follow ons

    pub same_next : length parts' ≡ length (set from i next)
    same_next = few ∙ sym (length-set from i next)

    back : (texts : List (List ℕ)) → AllZip CanBe (map calls_of (set from i next)) texts
        → AllZip CanBe (map calls_of from) texts
    back texts can = can_before from (set from i next) texts ons can

    split : (texts : List (List ℕ)) → AllZip CanBe (map calls_of (set from i next)) texts
        → drop i (views texts) ≡ view_of part (lines texts) ∷ drop (i + 1) (views texts)
    split texts can =
        let l = views_length parts' from texts few (back texts can) in
        drop_more (views texts) i no_view (omega (arith, l, inside))
        ∙ ap (λ p. p ∷ drop (i + 1) (views texts))
        (view_at parts' from texts i part d no_view (omega (arith, few, inside)) few (back texts can)
        ∙ ap (λ p. view_of p (lines texts)) (sym part_is))

    by_lines : (texts : List (List ℕ)) → AllZip CanBe (map calls_of (set from i next)) texts
        → all_copied is_copied (views_of parts start texts)
        ≡ at.text ++ (copied is_copied (lines texts) ++ all_copied is_copied (drop (i + 1) (views texts)))
    by_lines texts can =
        at.lines texts (back texts can)
        ∙ ap (λ l. at.text ++ l) (ap (all_copied is_copied) (split texts can)
        ∙ first_copied is_copied (view_of part (lines texts)) (drop (i + 1) (views texts)))

    module _ {mid : FrontsView} (begins : mid
        ≡ at_part i (nat_le (length start) (i + 1)) part.stage (sums_of part.part) now) where
      by_part : (texts : List (List ℕ)) → AllZip CanBe (map calls_of (set from i next)) texts
          → read_all is_copied no_fronts [] (views_of parts start texts)
          ≡ and_then (read_of is_copied i part.number mid (lines texts)) (λ read.
          read_all is_copied read.1 (take i (views texts) ++ left_of read ∷ [])
          (drop (i + 1) (views texts)))
      by_part texts can =
          let l = views_length parts' from texts few (back texts can) in
          let f = follow_length start from at.follow in
          let number : length (take i (views texts)) ≡ i =
          (let t = length-take {A = PartView} in omega (arith, t, l, inside)) in
          let later : length start ≡ (i + 1) + length (drop (i + 1) (views texts)) =
          (let t = length-drop (i + 1) (views texts) in omega (arith, t, l, f, inside)) in
          at.gives texts (back texts can)
          ∙ rw (
            split texts can,
            number,
            ← (at_count i (length start) (drop (i + 1) (views texts)) later),
            ← begins,
          )

  pub one_read : {next : Lines} {mid then : FrontsView} {wrote : Run} {number : ℕ} (begins : mid
      ≡ at_part i (nat_le (length start) (i + 1)) part.stage (sums_of part.part) now) (left : Open)
      → IsRead is_copied (i, part.number) mid then (get_or from i d) next after wrote (Ok number)
      → ((lines : List (List ℕ)) → left_of (number, then, lines) ≡ view_of left lines)
      → IsAtPart is_copied then parts (set parts' i left) start (set from i next) (i + 1) before wrote
  one_read {next = next} {wrote = wrote} begins left (on, more, is, end, said) shown = record {
    same = length-set parts' i left ∙ at.same;
    follow = follow_next on;
    ended = λ copies. subst (All IsEndAt) (sym (take_more_set from i next inside))
        (All-push IsEndAt (take i from) next (at.ended copies) (end copies));
    text = at.text ++ more;
    wrote = written_on before after wrote at.text more at.wrote is;
    gives = λ texts can.
        let l = views_length parts' from texts few (back on texts can) in
        let (read, text) = said (get_or texts i []) (can_here from next texts i inside can) in
        by_part on begins texts can
        ∙ rw (
          read,
          shown (lines_at next (get_or texts i [])),
          ← (take_more_set (views texts) i (view_of left (lines_at next (get_or texts i [])))
              (omega (arith, l, inside))),
          passed texts,
          ← (views_set parts' from texts i left next),
        );
    lines = λ texts can.
        let (read, text) = said (get_or texts i []) (can_here from next texts i inside can) in
        by_lines on texts can
        ∙ rw (text, passed texts, ← (views_set parts' from texts i left next))
        (sym (append_assoc at.text more _));
  }
    where
      passed : (texts : List (List ℕ)) → drop (i + 1) (views texts)
          ≡ drop (i + 1) (set (views texts) i (view_of left (lines_at next (get_or texts i []))))
      passed texts = sym (drop-set-lt (i + 1) (views texts) i _ (omega arith))

  pub not_read : {next : Lines} {mid : FrontsView} (begins : mid
      ≡ at_part i (nat_le (length start) (i + 1)) part.stage (sums_of part.part) now)
      (then : FrontsView) (wrote : Run) (fault : MergeFault) (opens : List Open)
      → IsRead is_copied (i, part.number) mid then (get_or from i d) next after wrote (Err fault)
      → AreRead is_copied parts opens start (set from i next) before wrote (Err fault)
  not_read {next = next} begins then wrote fault opens (on, more, leaves, said) = (
    at.text ++ more,
    subst (λ r. Leaves fault r wrote)
        (ap (λ r. with_written r more) at.wrote ∙ written_more before at.text more) leaves,
    λ texts can.
        let (wrong, rest, text) = said (get_or texts i []) (can_here from next texts i inside can) in (
          part_fault _ _ _ from i next fault inside (by_part on begins texts can) wrong,
          rest ++ all_copied is_copied (drop (i + 1) (views texts)),
          by_lines on texts can ∙ rw text (simp append_assoc),
        ),
  )

pub all_read : {is_copied : Bool} {parts parts' : List Open} {start from : List Lines} {i : ℕ}
    {before after : Run} (fronts : Fronts)
    → IsAtPart is_copied (fronts_view fronts) parts parts' start from i before after → length start ≤ i
    → AreRead is_copied parts parts' start from before after (Ok fronts)
all_read {is_copied = is_copied} {parts' = parts'} {start = start} {from = from} {i = i} fronts at past =
    let f = follow_length start from at.follow in
    let few : length parts' ≡ length from = at.same ∙ sym f in (
      at.text,
      at.wrote,
      λ copies. subst (All IsEndAt) (take_all i from (omega (arith, f, past))) (at.ended copies),
      λ texts can.
          let l = views_length parts' from texts few can in
          let none = drop_all i (views_of parts' from texts) (omega (arith, l, f, past)) in (
            at.gives texts can
                ∙ ap (read_all is_copied (fronts_view fronts) (take i (views_of parts' from texts))) none
                ∙ ap (λ views. Ok (fronts_view fronts, views))
                (take_all i (views_of parts' from texts) (omega (arith, l, f, past))),
            at.lines texts can ∙ ap (λ l. at.text ++ l) (ap (all_copied is_copied) none
                ∙ none_copied is_copied) ∙ append-nil at.text,
          ),
    )

-- ---- the whole
ok_one : {A E : Type 0} {a b : A} → ◌≡◌ {A = Result A E} (Ok a) (Ok b) → a ≡ b
ok_one e = cc

pub nothing_started : (calls : List Calls) → HasStarted calls []
nothing_started calls texts can whole is = (whole, refl)

pub no_parts : (from : List Lines) (r : Run) → from ≡ []
    → MergesAs (map calls_of from) r r (Err (Line 0 1 Form))
no_parts from r none = (
  [],
  nothing_started (map calls_of from),
  written_none r,
  λ texts can. ap merge_of (no_texts texts (subst (λ f. AllZip CanBe (map calls_of f) texts) none can)),
)
  where
    no_texts : (texts : List (List ℕ)) → AllZip CanBe [] texts → texts ≡ []
    no_texts [] can = refl
    no_texts (text ∷ texts) can = absurd can

pub no_memory : (from : List Lines) (r : Run) → MergesAs (map calls_of from) r r (Err NoMemory)
no_memory from r = ([], nothing_started (map calls_of from), written_none r, λ texts can. tt)

merged_text : (s : FrontsView) (views : List PartView) (text : List ℕ)
    → merged (s, views) ≡ Ok text → text ≡ whole_front s ++ lines_left views
merged_text s views text ok = by (read_all true no_fronts [] views) ok
  where
    by : (said : Result (FrontsView × List PartView) WrongLine)
        → and_then said (λ end. Ok (whole_front s ++ lines_left views)) ≡ Ok text
        → text ≡ whole_front s ++ lines_left views
    by (Ok end) ok = sym (ok_one ok)
    by (Err wrong) ok = absurd (cc)

none_before : (a b : List ℕ) → [] ≡ a ++ b → a ≡ []
none_before [] b is = refl
none_before (x ∷ a) b is = absurd (cc)

-- the fronts are read, and nothing is written
module _ (start from : List Lines) (parts parts' : List Open) (r next : Run) (some : 0 < length start)
    (fresh : All IsFresh start) (none : All IsInitial parts) (same : length parts ≡ length start)
    (follow : AllZip Follows start from) where
  merge_is : (texts : List (List ℕ)) → AllZip CanBe (map calls_of from) texts
      → merge_of texts
      ≡ and_then (read_all false no_fronts [] (views_of parts start texts)) merged
  merge_is texts can =
      let before = can_before start from texts follow can in
      by start texts some before
      ∙ ap (λ views. and_then (read_all false no_fronts [] views) merged)
      (sym (all_initial parts start texts none same fresh before))
    where
      by : (start : List Lines) (texts : List (List ℕ)) → 0 < length start
          → AllZip CanBe (map calls_of start) texts
          → merge_of texts ≡ and_then (read_all false no_fronts [] (map initial texts)) merged
      by [] texts some can = absurd (omega (arith, some))
      by (one ∷ start) [] some can = absurd can
      by (one ∷ start) (text ∷ texts) some can = refl

  pub no_fronts_read : (fault : MergeFault) → AreRead false parts parts' start from r next (Err fault)
      → MergesAs (map calls_of from) r next (Err fault)
  no_fronts_read fault (text, leaves, said) =
      let (wrong, rest, is) = said (read_by (map calls_of from)) (can_be_read (map calls_of from)) in (
        [],
        nothing_started (map calls_of from),
        subst (λ t. Leaves fault (with_written r t) next) (none_before text rest is) leaves,
        λ texts can. fault_goes (read_all false no_fronts [] (views_of parts start texts)) merged
            (merge_of texts) (map calls_of from) fault (merge_is texts can) (said texts can).0,
      )

  module _ (fronts : Fronts) (read : AreRead false parts parts' start from r next (Ok fronts)) where
    nothing_written : next ≡ with_written r []
    nothing_written =
        let (text, is, ends, said) = read in
        is ∙ ap (with_written r)
        (sym (said (read_by (map calls_of from)) (can_be_read (map calls_of from))).1)

    pub still_no_memory : MergesAs (map calls_of from) r next (Err NoMemory)
    still_no_memory = ([], nothing_started (map calls_of from), nothing_written, λ texts can. tt)

    abbrev front : List ℕ
    front = whole_front (fronts_view fronts)

    whole_is : (texts : List (List ℕ)) → AllZip CanBe (map calls_of from) texts
        → merge_of texts ≡ merged (fronts_view fronts, views_of parts' from texts)
    whole_is texts can =
        let (text, is, ends, said) = read in
        merge_is texts can ∙ ap (λ r. and_then r merged) (said texts can).0

    pub front_cut : (now : Run) (why : WriteFault) → IsCut next now front why
        → MergesAs (map calls_of from) r now (Err (Write why))
    front_cut now why cut = (
      cut.front,
      λ texts can whole ok. (
        cut.rest ++ lines_left (views_of parts' from texts),
        merged_text (fronts_view fronts) (views_of parts' from texts) whole
            (sym (whole_is texts can) ∙ ok)
            ∙ ap (λ l. l ++ lines_left (views_of parts' from texts)) cut.whole
            ∙ append_assoc cut.front cut.rest (lines_left (views_of parts' from texts)),
      ),
      cut_on r next now [] front why nothing_written cut,
      λ texts can. tt,
    )

    module _ (end : List Lines) (opens : List Open) (now after : Run) (on : AllZip Follows from end)
        (wrote : now ≡ with_written next front) where
      written : now ≡ with_written r front
      written = written_on r next now [] front nothing_written wrote

      pub all_merged : (last : Fronts) → AreRead true parts' opens from end now after (Ok last)
          → MergesAs (map calls_of end) r after (Ok tt)
      all_merged last (text, more, ends, said) =
          let texts = read_by (map calls_of end) in
          let (sections, lines) = said texts (can_be_read (map calls_of end)) in (
            All-map IsWhole calls_of end (All-weaker IsEndAt (λ (l : Lines). IsWhole (calls_of l))
                (λ l end. end.whole) end (ends refl)),
            front ++ text,
            whole_is texts (can_before from end texts on (can_be_read (map calls_of end)))
                ∙ rw (sections, lines),
            written_on r now after front text written more,
          )

      pub not_merged : (fault : MergeFault) → AreRead true parts' opens from end now after (Err fault)
          → MergesAs (map calls_of end) r after (Err fault)
      not_merged fault (text, leaves, said) = (
        front ++ text,
        λ texts can whole ok.
            let (wrong, rest, lines) = said texts can in (
              rest,
              merged_text (fronts_view fronts) (views_of parts' from texts) whole
                  (sym (whole_is texts (can_before from end texts on can)) ∙ ok)
                  ∙ ap (λ l. front ++ l) lines ∙ sym (append_assoc front text rest),
            ),
        subst (λ x. Leaves fault x after) (ap (λ x. with_written x text) written
            ∙ written_more r front text) leaves,
        λ texts can. fault_goes (read_all true no_fronts [] (views_of parts' from texts))
            (λ last. Ok (front ++ lines_left (views_of parts' from texts))) (merge_of texts)
            (map calls_of end) fault (whole_is texts (can_before from end texts on can))
            (said texts can).0,
      )
