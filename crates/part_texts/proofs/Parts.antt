-- Parts that are read on, each at its place.
use Rattle.std.proofs.Common.{subst, ◌≡◌, ◌∙◌, ◌<◌, ℕ, suc, zero, All, List, [], ◌∷◌, ap, arith}
use Rattle.std.proofs.Common.{append-nil, get_or, get_or-set_same, length, map, refl, set, sym}
use Rattle.line_folds.specs.Folds.{lines_of}
use Rattle.part_texts.specs.Merged.{PartView, initial}
use Rattle.part_texts.specs.{Reads.read_by, declared.fronts.Open.Open}
use Rattle.part_texts.specs.inside.Opened.{IsInitial, lines_at, view_of, views_of}
use Rattle.recorded_lines.proofs.Reading.{follows_on, follows_self}
use Rattle.recorded_lines.specs.Texts.{CanBe, Follows, IsFresh, calls_of, left}
use Rattle.recorded_lines.specs.declared.text.Lines.{Lines}
use Rattle.std.proofs.lemmas.List.{length-set, Elements.All-head, Elements.All-tail}
use Rattle.std.proofs.lemmas.Slice.Zip.{AllZip-long}
use Rattle.std.specs.List.{AllZip}
use Rattle.world.specs.Run.{Calls}

-- ---- what the texts can be
pub follow_self : (from : List Lines) → AllZip Follows from from
follow_self [] = tt
follow_self (one ∷ from) = (follows_self one, follow_self from)

pub follow_on : (a b c : List Lines) → AllZip Follows a b → AllZip Follows b c
    → AllZip Follows a c
follow_on [] [] c first second = second
follow_on [] (y ∷ b) c first second = absurd first
follow_on (x ∷ a) [] c first second = absurd first
follow_on (x ∷ a) (y ∷ b) [] first second = absurd second
follow_on (x ∷ a) (y ∷ b) (z ∷ c) first second =
    (follows_on x y z first.0 second.0, follow_on a b c first.1 second.1)

-- one of them is read on
pub follow_set : (from : List Lines) (i : ℕ) (next d : Lines) → i < length from
    → Follows (get_or from i d) next → AllZip Follows from (set from i next)
follow_set [] i next d within after = absurd (omega (arith, within))
follow_set (one ∷ from) zero next d within after = (after, follow_self from)
follow_set (one ∷ from) (suc i) next d within after =
    (follows_self one, follow_set from i next d (omega (arith, within)) after)

pub follow_length : (a b : List Lines) → AllZip Follows a b → length b ≡ length a
follow_length a b follow = AllZip-long Follows a b follow

pub can_before : (a b : List Lines) (texts : List (List ℕ)) → AllZip Follows a b
    → AllZip CanBe (map calls_of b) texts → AllZip CanBe (map calls_of a) texts
can_before [] [] texts follow can = can
can_before [] (y ∷ b) texts follow can = absurd follow
can_before (x ∷ a) [] texts follow can = absurd follow
can_before (x ∷ a) (y ∷ b) [] follow can = absurd can
can_before (x ∷ a) (y ∷ b) (text ∷ texts) follow can =
    (follow.0.back text can.0, can_before a b texts follow.1 can.1)

-- what reads gave can be all
pub can_be_read : (calls : List Calls) → AllZip CanBe calls (read_by calls)
can_be_read [] = tt
can_be_read (c ∷ calls) = (
  record {
    more = [];
    begins = sym (append-nil c.reading.bytes);
    ends = λ whole. refl;
  },
  can_be_read calls,
)

-- what the text at a place can be
pub can_at : (from : List Lines) (texts : List (List ℕ)) (i : ℕ) (d : Lines) → i < length from
    → AllZip CanBe (map calls_of from) texts → CanBe (calls_of (get_or from i d)) (get_or texts i [])
can_at [] texts i d within can = absurd (omega (arith, within))
can_at (one ∷ from) [] i d within can = absurd can
can_at (one ∷ from) (text ∷ texts) zero d within can = can.0
can_at (one ∷ from) (text ∷ texts) (suc i) d within can =
    can_at from texts i d (omega (arith, within)) can.1

-- what the text of the part that was read on can be
pub can_here : (from : List Lines) (next : Lines) (texts : List (List ℕ)) (i : ℕ) → i < length from
    → AllZip CanBe (map calls_of (set from i next)) texts
    → CanBe (calls_of next) (get_or texts i [])
can_here from next texts i within can =
    subst (λ l. CanBe (calls_of l) (get_or texts i [])) (get_or-set_same from i next next within)
    (can_at (set from i next) texts i next
    (let l = length-set from i next in omega (arith, l, within)) can)

-- ---- parts, as far as they are read
pub views_length : (parts : List Open) (from : List Lines) (texts : List (List ℕ))
    → length parts ≡ length from → AllZip CanBe (map calls_of from) texts
    → length (views_of parts from texts) ≡ length from
views_length [] from texts same can = same
views_length (part ∷ parts) [] texts same can = absurd (omega (arith, same))
views_length (part ∷ parts) (one ∷ from) [] same can = absurd can
views_length (part ∷ parts) (one ∷ from) (text ∷ texts) same can =
    let l = views_length parts from texts (omega (arith, same)) can.1 in omega (arith, l)

-- the part at a place
pub view_at : (parts : List Open) (from : List Lines) (texts : List (List ℕ)) (i : ℕ) (part : Open)
    (one : Lines) (view : PartView) → i < length parts → length parts ≡ length from
    → AllZip CanBe (map calls_of from) texts
    → get_or (views_of parts from texts) i view
    ≡ view_of (get_or parts i part) (lines_at (get_or from i one) (get_or texts i []))
view_at [] from texts i part one view within same can = absurd (omega (arith, within))
view_at (p ∷ parts) [] texts i part one view within same can = absurd (omega (arith, same))
view_at (p ∷ parts) (f ∷ from) [] i part one view within same can = absurd can
view_at (p ∷ parts) (f ∷ from) (t ∷ texts) zero part one view within same can = refl
view_at (p ∷ parts) (f ∷ from) (t ∷ texts) (suc i) part one view within same can =
    view_at parts from texts i part one view (omega (arith, within)) (omega (arith, same)) can.1

-- it is read on
pub views_set : (parts : List Open) (from : List Lines) (texts : List (List ℕ)) (i : ℕ) (part : Open)
    (one : Lines) → views_of (set parts i part) (set from i one) texts
    ≡ set (views_of parts from texts) i (view_of part (lines_at one (get_or texts i [])))
views_set [] from texts i part one = refl
views_set (p ∷ parts) [] texts zero part one = refl
views_set (p ∷ parts) [] texts (suc i) part one = refl
views_set (p ∷ parts) (f ∷ from) [] zero part one = refl
views_set (p ∷ parts) (f ∷ from) [] (suc i) part one = refl
views_set (p ∷ parts) (f ∷ from) (t ∷ texts) zero part one = refl
views_set (p ∷ parts) (f ∷ from) (t ∷ texts) (suc i) part one =
    ap (λ views. view_of p (lines_at f t) ∷ views) (views_set parts from texts i part one)

-- nothing is read of any
pub all_initial : (parts : List Open) (from : List Lines) (texts : List (List ℕ)) → All IsInitial parts
    → length parts ≡ length from → All IsFresh from → AllZip CanBe (map calls_of from) texts
    → views_of parts from texts ≡ map initial texts
all_initial [] [] [] none same fresh can = refl
all_initial [] [] (text ∷ texts) none same fresh can = absurd can
all_initial [] (one ∷ from) texts none same fresh can = absurd (omega (arith, same))
all_initial (part ∷ parts) [] texts none same fresh can = absurd (omega (arith, same))
all_initial (part ∷ parts) (one ∷ from) [] none same fresh can = absurd can
all_initial (part ∷ parts) (one ∷ from) (text ∷ texts) none same fresh can =
    let is = All-head IsFresh one from fresh in
    let whole : left one text ≡ text = rw (is.none, is.unread) in
    ap (λ (p : PartView). record p { lines = lines_at one text } ∷ views_of parts from texts)
    (All-head IsInitial part parts none)
    ∙ ap (λ (t : List ℕ). record (initial []) { lines = lines_of t } ∷ views_of parts from texts) whole
    ∙ ap (λ views. initial text ∷ views) (all_initial parts from texts (All-tail IsInitial part parts none)
    (omega (arith, same)) (All-tail IsFresh one from fresh) can.1)
