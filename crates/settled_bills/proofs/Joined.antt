-- Lists one behind the other, and taps between places of a list.
use Rattle.std.proofs.Common.{◌≡◌, ℕ, ◌+◌, ◌<◌, ◌≤◌, List, [], ◌∷◌, ◌++◌, All, Option, length, take}
use Rattle.std.proofs.Common.{drop, get_or, flat_map, refl, sym, ap, subst, ◌∙◌, append-nil}
use Rattle.std.proofs.Common.{add-one, drop-cons, Vec, Global}
use Rattle.fare_texts.proofs.Beginnings.{goes_begins, goes_on}
use Rattle.fare_texts.specs.WrittenOut.{Begins, GoesOut}
use Rattle.fare_texts.specs.declared.explainer.Explainer.{Explainer}
use Rattle.settled_bills.proofs.TapsExplained.{begins_longer, explains_then, lines_front}
use Rattle.settled_bills.proofs.TapsExplained.{lines_then, may_front, may_rest}
use Rattle.settled_bills.specs.inside.ExplainedTaps.{Explains, HaveLines, MayExplain}
use Rattle.settled_bills.specs.inside.WorkerSlots.{IsSoundList}
use Rattle.settlement.proofs.Nondecreasing.{nondecreasing_append}
use Rattle.settlement.specs.Nondecreasing.{TapsNondecreasingFrom, last_token}
use Rattle.std.proofs.lemmas.List.{take-append-drop, take-take, take_more, Concat.flat_map-append}
use Rattle.std.proofs.lemmas.{List.Edits.split_between, Slice.between_is}
use Rattle.std.specs.List.{between}
use Rattle.tap_views.proofs.Lists.{All-split}
use Rattle.tap_views.specs.{Layout.moment_limit, declared.encoder.TapFields.TapFields}
use Rattle.tariffs.specs.Fares.{Fares}

-- the elements before a place, the one there and those behind it
pub around : {X : Type 0} (xs : List X) (i : ℕ) (other : X) → i < length xs
    → take i xs ++ (get_or xs i other ∷ drop (i + 1) xs) ≡ xs
around {X} xs i other within =
    ap (λ (ys : List X). take i xs ++ ys) (sym (rw (add-one) (drop-cons xs i other within)))
    ∙ take-append-drop i xs

-- the taps of lists, one list behind the other
abbrev pub joined : List (Vec TapFields Global) → List TapFields
joined lists = flat_map (λ (list : Vec TapFields Global). list.items) lists

abbrev pub Early : TapFields → Type 0
Early tap = tap.moment < moment_limit

-- one list more
pub joined_more : (lists : List (Vec TapFields Global)) (position : ℕ)
    (other : Vec TapFields Global)
    → position < length lists
    → joined (take (position + 1) lists)
    ≡ joined (take position lists) ++ (get_or lists position other).items
joined_more lists position other within =
    let f : Vec TapFields Global → List TapFields = λ list. list.items in
    ap (flat_map f) (take_more lists position other within)
    ∙ flat_map-append f (take position lists) (get_or lists position other ∷ [])
    ∙ ap (λ ts. joined (take position lists) ++ ts) (append-nil (get_or lists position other).items)

-- the lists before one, that one and those behind it
pub joined_at : (lists : List (Vec TapFields Global)) (position : ℕ) (other : Vec TapFields Global)
    → position < length lists
    → joined (take position lists)
    ++ ((get_or lists position other).items ++ joined (drop (position + 1) lists))
    ≡ joined lists
joined_at lists position other within =
    let f : Vec TapFields Global → List TapFields = λ list. list.items in
    sym (flat_map-append f (take position lists)
    (get_or lists position other ∷ drop (position + 1) lists))
    ∙ ap (flat_map f) (around lists position other within)

-- ---- taps between two places
pub take_between : (taps : List TapFields) (begin end : ℕ) → begin ≤ end
    → take end taps ≡ take begin taps ++ between begin end taps
take_between taps begin end up =
    sym (take-append-drop begin (take end taps))
    ∙ ap (λ ts. ts ++ drop begin (take end taps)) (take-take begin end taps up)
    ∙ ap (λ ts. take begin taps ++ ts) (sym (between_is taps begin end))

-- those between two places of a sound list are sound
pub sound_between : (taps : List TapFields) (begin end : ℕ) → begin ≤ end → IsSoundList taps
    → IsSoundList (between begin end taps)
sound_between taps begin end up sound =
    let whole = sym (split_between taps begin end up) in
    let before = take begin taps in
    let here = between begin end taps in
    let trailing = drop end taps in
    let rest = nondecreasing_append sound.from before (here ++ trailing)
    (subst (TapsNondecreasingFrom sound.from) (sym whole) sound.nondecreasing) in
    record {
      early = (All-split Early here trailing (All-split Early before (here ++ trailing)
          (subst (λ (ts : List TapFields). All Early ts) (sym whole) sound.early)).1).0;
      from = last_token sound.from before;
      nondecreasing = (nondecreasing_append (last_token sound.from before) here trailing rest.1).0;
    }

-- ---- lines that go out, and those of the taps that come next
pub may_next : {fares : Fares} {old mid : Explainer} {done taps : List TapFields}
    {said : List ℕ → Type 0} (next later : List TapFields) → done ++ (next ++ later) ≡ taps
    → Explains fares old done mid said → MayExplain fares old taps → MayExplain fares mid next
may_next {fares} {old} {mid} {done} {taps} {said} next later whole so_far may =
    may_front fares mid next later (next ++ later) refl
    (may_rest fares old mid done (next ++ later) taps said whole may so_far)

pub gone_begins : (a b : Option (List ℕ)) (old new : List ℕ) → GoesOut a old b new [] → Begins a b old
gone_begins a b old new gone = record {
  front = gone.front;
  rest = new;
  whole = sym (append-nil old) ∙ gone.whole;
  written = gone.written;
}

pub explains_next : {fares : Fares} {old mid new : Explainer} {done next : List TapFields}
    {begin out after : Option (List ℕ)} {text waits left : List ℕ}
    → Explains fares old done mid (GoesOut begin text out waits)
    → Explains fares mid next new (GoesOut out waits after left)
    → Explains fares old (done ++ next) new (GoesOut begin text after left)
explains_next {fares} {old} {mid} {new} {done} {next} {begin} {out} {after} {text} {waits} {left}
    so_far is =
    explains_then fares old mid new done next (GoesOut begin text out waits)
    (GoesOut out waits after left) (GoesOut begin text after left) so_far is
    (λ l m. goes_on begin out after text waits left l m)

-- from one place to the next
pub explains_between : {fares : Fares} {old mid new : Explainer}
    {begin out after : Option (List ℕ)} {text waits left : List ℕ} (taps : List TapFields)
    (done to : ℕ) → done ≤ to
    → Explains fares old (take done taps) mid (GoesOut begin text out waits)
    → Explains fares mid (between done to taps) new (GoesOut out waits after left)
    → Explains fares old (take to taps) new (GoesOut begin text after left)
explains_between {fares} {old} {mid} {new} {begin} {out} {after} {text} {waits} {left} taps
    done to up so_far is =
    subst (λ (ts : List TapFields). Explains fares old ts new (GoesOut begin text after left))
    (sym (take_between taps done to up)) (explains_next so_far is)

pub started_next : {fares : Fares} {old mid : Explainer} {done taps : List TapFields}
    {begin out after : Option (List ℕ)} {text waits : List ℕ} (next later : List TapFields)
    → done ++ (next ++ later) ≡ taps
    → Explains fares old done mid (GoesOut begin text out waits)
    → HaveLines fares mid next (λ lines. Begins out after (waits ++ lines))
    → HaveLines fares old taps (λ lines. Begins begin after (text ++ lines))
started_next {fares} {old} {mid} {done} {taps} {begin} {out} {after} {text} {waits} next later
    whole so_far lines =
    lines_then fares old mid done (next ++ later) taps (GoesOut begin text out waits)
    (λ lines. Begins out after (waits ++ lines)) (λ lines. Begins begin after (text ++ lines))
    whole so_far
    (lines_front fares mid next later (next ++ later)
    (λ lines. Begins out after (waits ++ lines)) (λ lines. Begins out after (waits ++ lines)) refl
    lines (λ l m. begins_longer out after waits l m))
    (λ l m. goes_begins begin out after text waits l m)
