-- Classes that are kept of riders.
use Rattle.std.proofs.Common.{◌≡◌, ◌∙◌, ℕ, List, Bool, true, false, Option, Some, None, refl, sym}
use Rattle.std.proofs.Common.{ap, subst, [], ◌∷◌, ◌++◌, ◌+◌, ◌<◌, All, add-one, arith, cond, drop}
use Rattle.std.proofs.Common.{get_or, inl, inr, length, map, suc, take, zero}
use Rattle.class_names.specs.Classes.{AreLaterTrees, class_of_token, first_class, tree_at}
use Rattle.class_names.specs.Names.{HasClasses, IsDatedOf, NamesOf, class_by, names_at, rider_by}
use Rattle.class_names.specs.declared.names.{ClassNames.ClassNames, DatedNames.DatedNames}
use Rattle.class_names.specs.declared.names.TextNames.{TextNames}
use Rattle.std.proofs.lemmas.{Bool.cases_lt, List.get_or-take, List.length-take, List.take_more}
use Rattle.std.proofs.lemmas.Option.{get_or_from_slice_get, slice_get_within}
use Rattle.std.specs.BTreeMap.{BTreeMap, is_at}
use Rattle.std.specs.{Cmp.Lexicographic.slice_cmp, List.AllZip, Map.lookup, Ordering.nat_cmp}
use Rattle.std.specs.Prelude.{is_some, nat_le, slice_get, option_map, if◌then◌else◌, string_bytes}
use Rattle.std.specs.{Prelude.String, declared.alloc.Global.Global}
use Rattle.tariffs.proofs.ByteLemmas.{same_bytes}
use Rattle.tariffs.specs.TableMeaning.{TableMeaning}
use Rattle.toml.specs.{Data.Members, Data.same_key, Parse.parse_document}

pub first_none : (o : Option (List ℕ)) → o ≡ first_class o None
first_none None = refl
first_none (Some c) = refl

pub first_some : (o x : Option (List ℕ)) → is_some o ≡ true → o ≡ first_class o x
first_some None x is = cc
first_some (Some c) x is = refl

pub first_first : (a b c : Option (List ℕ))
    → first_class (first_class a b) c ≡ first_class a (first_class b c)
first_first None b c = refl
first_first (Some a) b c = refl

map_some : {A : Type 0} (f : A → List ℕ) (o : Option A) → is_some o ≡ true
    → is_some (option_map f o) ≡ true
map_some f None is = cc
map_some f (Some a) is = refl

-- a token that is kept already keeps its class
pub kept_before : (riders : BTreeMap (List ℕ) (String Global)) (token other class : List ℕ)
    → is_some (lookup (is_at (slice_cmp nat_cmp token)) riders.entries) ≡ true
    → rider_by riders other
    ≡ first_class (rider_by riders other) (if same_key token other then Some class else None)
kept_before riders token other class is = by (same_key token other) refl
  where
    by : (b : Bool) → same_key token other ≡ b → rider_by riders other
        ≡ first_class (rider_by riders other) (if b then Some class else None)
    by true same =
        first_some (rider_by riders other) (Some class)
        (subst (λ t. is_some (rider_by riders t) ≡ true) (same_bytes token other same)
        (map_some string_bytes (lookup (is_at (slice_cmp nat_cmp token)) riders.entries) is))
    by false same = first_none (rider_by riders other)

-- a token that was not kept has the class that is put
pub kept_now : (old new : BTreeMap (List ℕ) (String Global)) (token other : List ℕ)
    (class : String Global)
    → is_some (lookup (is_at (slice_cmp nat_cmp token)) old.entries) ≡ false
    → lookup (is_at (slice_cmp nat_cmp other)) new.entries
    ≡ (if same_key token other then Some class
    else lookup (is_at (slice_cmp nat_cmp other)) old.entries)
    → rider_by new other ≡ first_class (rider_by old other)
    (if same_key token other then Some (string_bytes class) else None)
kept_now old new token other class free is = by (same_key token other) refl is
  where
    none_of : (o : Option (String Global)) → is_some o ≡ false → option_map string_bytes o ≡ None
    none_of None none = refl
    none_of (Some c) none = cc

    by : (b : Bool) → same_key token other ≡ b
        → lookup (is_at (slice_cmp nat_cmp other)) new.entries
        ≡ (if b then Some class else lookup (is_at (slice_cmp nat_cmp other)) old.entries)
        → rider_by new other ≡ first_class (rider_by old other)
        (if b then Some (string_bytes class) else None)
    by true same put =
        ap (option_map string_bytes) put
        ∙ ap (λ (o : Option (List ℕ)). first_class o (Some (string_bytes class)))
        (sym (none_of (lookup (is_at (slice_cmp nat_cmp other)) old.entries)
        (subst (λ t. is_some (lookup (is_at (slice_cmp nat_cmp t)) old.entries) ≡ false)
        (same_bytes token other same) free)))
    by false same put =
        ap (option_map string_bytes) put ∙ first_none (rider_by old other)

-- one text more
pub texts_more : (names : List DatedNames) (trees : List (ℕ × Members)) (next : DatedNames)
    (tree : ℕ × Members)
    → AllZip IsDatedOf names trees → IsDatedOf next tree
    → AllZip IsDatedOf (names ++ next ∷ []) (trees ++ tree ∷ [])
texts_more [] [] next tree are is = (is, tt)
texts_more [] (other ∷ trees) next tree are is = absurd are
texts_more (name ∷ names) [] next tree are is = absurd are
texts_more (name ∷ names) (other ∷ trees) next tree (first, rest) is =
    (first, texts_more names trees next tree rest is)

valid_names : (names : TextNames) (later : List DatedNames) (tree : Members)
    (trees : List (ℕ × Members)) (moment : ℕ)
    → NamesOf names tree → AllZip IsDatedOf later trees
    → NamesOf (names_at names later moment) (tree_at tree trees moment)
valid_names names [] tree [] moment of_first are = of_first
valid_names names [] tree (other ∷ trees) moment of_first are = absurd are
valid_names names (next ∷ later) tree [] moment of_first are = absurd are
valid_names names (next ∷ later) tree (other ∷ trees) moment of_first (is, are) =
    rw (is.0) (either (nat_le other.0 moment)
    (valid_names next.names later other.1 trees moment is.1 are))
  where
    either : (b : Bool)
        → NamesOf (names_at next.names later moment) (tree_at other.1 trees moment)
        → NamesOf (cond b (names_at next.names later moment) names)
        (cond b (tree_at other.1 trees moment) tree)
    either true trailing = trailing
    either false trailing = of_first

-- the class that is kept for a token at a moment is the one of the text that is valid then
pub class_kept : (names : ClassNames) (tree : Members) (later : List (ℕ × Members))
    → HasClasses names tree later → (moment : ℕ) (token : List ℕ)
    → class_of_token (tree_at tree later moment) token ≡ Some (class_by names moment token)
class_kept names tree later has moment token =
    valid_names names.first names.later.items tree later moment has.of_first has.of_later token

-- one tree more
pub trees_more : (dated : List (ℕ × TableMeaning)) (texts : List (List ℕ))
    (trees : List (ℕ × Members)) (next : ℕ × TableMeaning) (text : List ℕ) (tree : Members)
    → AreLaterTrees dated texts trees → parse_document text ≡ Some tree
    → AreLaterTrees (dated ++ next ∷ []) (texts ++ text ∷ []) (trees ++ (next.0, tree) ∷ [])
trees_more [] [] [] next text tree are is = (refl, is, tt)
trees_more [] [] (t ∷ ts) next text tree are is = absurd are
trees_more [] (x ∷ xs) [] next text tree are is = absurd are
trees_more [] (x ∷ xs) (t ∷ ts) next text tree are is = absurd are
trees_more (d ∷ ds) [] [] next text tree are is = absurd are
trees_more (d ∷ ds) [] (t ∷ ts) next text tree are is = absurd are
trees_more (d ∷ ds) (x ∷ xs) [] next text tree are is = absurd are
trees_more (d ∷ ds) (x ∷ xs) (t ∷ ts) next text tree (one, two, rest) is =
    (one, two, trees_more ds xs ts next text tree rest is)

-- the trees of the tables before one, and its own
pub next_trees : (dated : List (ℕ × TableMeaning)) (texts : List (List ℕ))
    (trees : List (ℕ × Members)) (position : ℕ) (next : ℕ × TableMeaning) (text : List ℕ)
    (tree : Members)
    → slice_get dated position ≡ Some next → slice_get texts position ≡ Some text
    → AreLaterTrees (take position dated) (take position texts) trees
    → parse_document text ≡ Some tree
    → AreLaterTrees (take (position + 1) dated) (take (position + 1) texts)
    (trees ++ (next.0, tree) ∷ [])
next_trees dated texts trees position next text tree at holds are is =
    subst (λ (ds : List (ℕ × TableMeaning)). AreLaterTrees ds (take (position + 1) texts)
    (trees ++ (next.0, tree) ∷ []))
    (ap (λ n. take position dated ++ n ∷ [])
    (sym (get_or_from_slice_get dated position next next at))
    ∙ sym (take_more dated position next (slice_get_within dated position next at)))
    (subst (λ (ts : List (List ℕ)). AreLaterTrees (take position dated ++ next ∷ []) ts
    (trees ++ (next.0, tree) ∷ []))
    (ap (λ t. take position texts ++ t ∷ [])
    (sym (get_or_from_slice_get texts position text text holds))
    ∙ sym (take_more texts position text (slice_get_within texts position text holds)))
    (trees_more (take position dated) (take position texts) trees next text tree are is))

-- what stands at a place of a list is got there of what is made of each
pub at_position : {A B : Type 0} (f : A → B) (xs : List A) (position : ℕ) (x : A)
    → position < length xs
    → x ≡ get_or xs position x → slice_get (map f xs) position ≡ Some (f x)
at_position f [] position x within is = absurd (omega (arith, within))
at_position f (one ∷ xs) zero x within is = ap (λ y. Some (f y)) (sym is)
at_position f (one ∷ xs) (suc position) x within is =
    at_position f xs position x (omega (arith, within)) is

-- the same behind the first one
pub after_first : {B : Type 0} (xs : List B) (position : ℕ) (x : B)
    → slice_get xs (position + 1) ≡ Some x → slice_get (drop 1 xs) position ≡ Some x
after_first [] position x is = absurd (cc)
after_first (one ∷ xs) position x is = rw (add-one) at is

-- what holds of the first texts, and of the next one
pub plain_more : (P : List ℕ → Type 0) (texts : List (List ℕ)) (position : ℕ) (text : List ℕ)
    → slice_get texts position ≡ Some text
    → ((k : ℕ) (d : List ℕ) → k < position → P (get_or texts k d)) → P text
    → (k : ℕ) (d : List ℕ) → k < position + 1 → P (get_or texts k d)
plain_more P texts position text at before is k d below =
    elim (cases_lt k position) [
      | inl less ↦ before k d less
      | inr more ↦ subst P
          (sym (get_or_from_slice_get texts position text d at)
          ∙ ap (λ (n : ℕ). get_or texts n d) (omega (arith, more, below))) is
    ]

-- each text before a place is plain
pub plain_before : (P : List ℕ → Type 0) (texts : List (List ℕ)) (position : ℕ)
    → ((k : ℕ) (d : List ℕ) → k < position → P (get_or texts k d)) → All P (take position texts)
plain_before P texts position before k d below =
    let less : k < position = omega (arith, below, length-take position texts) in
    subst P (sym (get_or-take position texts k d less)) (before k d less)
