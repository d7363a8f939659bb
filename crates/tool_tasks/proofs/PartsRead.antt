-- Parts that are merged: what was read of them, and what is noted.
use Rattle.std.proofs.Common.{◌≡◌, ◌∙◌, ◌+◌, ◌<◌, ◌++◌, ◌∷◌, [], Bor, Err, List, Ok, Option}
use Rattle.std.proofs.Common.{Result, Some, ap, append-nil, arith, get_or, inr, length, map}
use Rattle.std.proofs.Common.{refl, suc, sym, take, zero, ℕ}
use Rattle.frame.specs.Names.{file_named}
use Rattle.part_texts.proofs.Parts.{can_be_read}
use Rattle.part_texts.specs.{Merged.merge_of, Reads.HasStarted, Reads.IsFaultOf, Reads.Leaves}
use Rattle.part_texts.specs.{Reads.MergesAs, Reads.read_by, declared.fault.MergeFault.MergeFault}
use Rattle.part_texts.specs.declared.fault.MergeFault.TheVariants.{Line, Unread, Write, NoMemory}
use Rattle.recorded_lines.specs.Texts.{CanBe, Follows, calls_of}
use Rattle.recorded_lines.specs.declared.text.Lines.{Lines}
use Rattle.std.proofs.lemmas.List.{map_push, take_more, Elements.All-head, Elements.All-tail}
use Rattle.std.specs.{List.AllZip, Prelude.All, Prelude.Contains, Prelude.Vec, Prelude.slice_get}
use Rattle.std.specs.declared.alloc.Global.{Global}
use Rattle.tool_tasks.proofs.Streaming.{all_read}
use Rattle.tool_tasks.specs.Merge.{AreOf, IsWrongPart, merge_stream}
use Rattle.tool_tasks.specs.{Streams.CanStop, Streams.with_stop, declared.stops.Halt.Halt}
use Rattle.tool_tasks.specs.inside.{Merge.IsNoted, Merge.names_of, Merge.why_of, Streams.IsStreamed}
use Rattle.world.specs.{Run.Calls, Run.Run, Run.with_written, Streams.IsWhole}

-- ---- names
abbrev word_in : Bor (List ℕ) → List ℕ
word_in word = word.now

-- one part more was opened
pub opened_more : (words : List (Bor (List ℕ))) (n : ℕ) (d : Bor (List ℕ)) (parts more : List Lines)
    (one : Lines) → n < length words → more ≡ parts ++ one ∷ []
    → names_of (map calls_of parts) ≡ map file_named (map word_in (take n words))
    → (calls_of one).reading.name ≡ file_named (get_or words n d).now
    → names_of (map calls_of more) ≡ map file_named (map word_in (take (n + 1) words))
opened_more words n d parts more one within pushed so_far name =
    ap (λ (ps : List Lines). names_of (map calls_of ps)) pushed
    ∙ ap names_of (map_push calls_of parts one)
    ∙ map_push (λ (c : Calls). c.reading.name) (map calls_of parts) (calls_of one)
    ∙ ap (λ names. names ++ (calls_of one).reading.name ∷ []) so_far
    ∙ ap (λ m. map file_named (map word_in (take n words)) ++ m ∷ []) name
    ∙ sym (ap (λ (ws : List (Bor (List ℕ))). map file_named (map word_in ws))
    (take_more words n d within)
    ∙ ap (map file_named) (map_push word_in (take n words) (get_or words n d))
    ∙ map_push file_named (map word_in (take n words)) (get_or words n d).now)

pub names_kept : (from now : List Lines) → AllZip Follows from now
    → names_of (map calls_of now) ≡ names_of (map calls_of from)
names_kept [] [] follow = refl
names_kept [] (y ∷ now) follow = absurd follow
names_kept (x ∷ from) [] follow = absurd follow
names_kept (x ∷ from) (y ∷ now) follow =
    ap (λ name. name ∷ names_of (map calls_of now)) follow.0.name
    ∙ ap (λ names. (calls_of x).reading.name ∷ names) (names_kept from now follow.1)

-- the calls at a place are of the word there
named_at : (words : List (List ℕ)) (calls : List Calls) (n : ℕ) (c : Calls) → AreOf words calls
    → slice_get calls n ≡ Some c → (name : List ℕ) × Contains words name
    × (c.reading.name ≡ file_named name) × Contains calls c
named_at words [] n c are is = absurd (cc)
named_at [] (x ∷ calls) n c are is = absurd (cc)
named_at (word ∷ words) (x ∷ calls) zero c are is =
    let same : x ≡ c = cc in (
      word,
      (0, omega arith, refl),
      ap (λ (y : Calls). y.reading.name) (sym same)
          ∙ (let first : x.reading.name ≡ file_named word = cc in first),
      (0, omega arith, same),
    )
named_at (word ∷ words) (x ∷ calls) (suc n) c are is =
    let rest : AreOf words calls = cc in
    let (name, (k, within, here), same, (i, inside, at)) = named_at words calls n c rest is in
    (name, (suc k, omega (arith, within), here), same, (suc i, omega (arith, inside), at))

-- what was read to its end can be nothing else
whole_read : (calls : List Calls) (texts : List (List ℕ)) → All IsWhole calls
    → AllZip CanBe calls texts → texts ≡ read_by calls
whole_read [] [] whole can = refl
whole_read [] (text ∷ texts) whole can = absurd can
whole_read (c ∷ calls) [] whole can = absurd can
whole_read (c ∷ calls) (text ∷ texts) whole can =
    ap (λ t. t ∷ texts) (all_read c text (All-head IsWhole c calls whole) can.0)
    ∙ ap (λ ts. c.reading.bytes ∷ ts)
    (whole_read calls texts (All-tail IsWhole c calls whole) can.1)

whole_started : (calls : List Calls) (text : List ℕ) → All IsWhole calls
    → merge_of (read_by calls) ≡ Ok text → HasStarted calls text
whole_started calls text whole merged = λ texts can all is.
    let same : Ok text ≡ Ok all =
    sym merged ∙ ap merge_of (sym (whole_read calls texts whole can)) ∙ is in
    ([], (let e : all ≡ text = cc in e) ∙ sym (append-nil text))

-- ---- how a run ends
module _ (words : List (List ℕ)) (calls : List Calls) (are : AreOf words calls) where
  can_stop : (fault : MergeFault) → ((texts : List (List ℕ)) → AllZip CanBe calls texts
      → IsFaultOf (merge_of texts) calls fault)
      → CanStop (IsWrongPart words calls) words calls (why_of fault)
  can_stop (Line part number why) said = (are, part, number, why, said)
  can_stop (Unread part) said =
      let (c, at, unread) = said (read_by calls) (can_be_read calls) in
      let (name, in_words, named, in_calls) = named_at words calls part c are at in
      (name, in_words, c, in_calls, unread ∙ ap (λ (n : Option (List ℕ)). n ∷ []) named)
  can_stop (Write fault) said = tt
  can_stop NoMemory said = tt

  left_by : (fault : MergeFault) (before after : Run) → Leaves fault before after
      → after ≡ with_stop before (why_of fault)
  left_by (Line part number why) before after is = is
  left_by (Unread part) before after is = is
  left_by (Write fault) before after is = is
  left_by NoMemory before after is = is

  pub merged : (run run' : Run) (done : Result Unit MergeFault) (result : Result (Vec ℕ Global) Halt)
      → MergesAs calls run run' done → IsNoted done result
      → IsStreamed (merge_stream words calls) run run' result
  merged run run' (Ok done) (Ok note) (whole, text, is, wrote) none =
      (text, wrote, inr (are, whole_started calls text whole is), (are, whole, is, none))
  merged run run' (Ok done) (Err halt) m bad = absurd bad
  merged run run' (Err fault) (Ok note) m bad = absurd bad
  merged run run' (Err fault) (Err halt) (text, has, leaves, said) same = (
    text,
    inr (are, has),
    rw same (can_stop fault said),
    rw same (left_by fault (with_written run text) run' leaves),
  )
