-- The value of a key of a table of the text.
use Rattle.std.proofs.Common.{◌≡◌, ◌⊎◌, ℕ, Bool, true, false, List, Option, Some}
use Rattle.std.proofs.Common.{cond, refl, sym, ap, ◌∙◌, inl, inr, Ordering, Less, Equal, Greater}
use Rattle.std.specs.Cmp.Lexicographic.{slice_cmp}
use Rattle.std.specs.Ordering.{is_eq, match_ordering, nat_cmp}
use Rattle.toml.specs.Data.{Data, Members, get_member, member}
use Rattle.tariffs.proofs.ByteLemmas.{is_itself, same_bytes}

-- the value at a key is the first member's, if the keys are the same, else one of the others
pub choice : (r : Ordering) (o : Option Data) (value : Data)
    → match_ordering r o (Some value) o ≡ cond (is_eq r) (Some value) o
choice Less o value = refl
choice Equal o value = refl
choice Greater o value = refl

-- the first member's key has its value
pub member-here : (key : List ℕ) (value : Data) (more : Members)
    → get_member key (member key value more) ≡ Some value
member-here key value more =
    choice (slice_cmp nat_cmp key key) (get_member key more) value
    ∙ ap (λ b. cond b (Some value) (get_member key more)) (is_itself key)

-- another key than the first member's has its value among the others
pub member-later : (key first : List ℕ) (value : Data) (more : Members)
    → is_eq (slice_cmp nat_cmp key first) ≡ false
    → get_member key (member first value more) ≡ get_member key more
member-later key first value more other =
    choice (slice_cmp nat_cmp key first) (get_member key more) value
    ∙ ap (λ b. cond b (Some value) (get_member key more)) other

-- if a key has a value
pub Found : (key first : List ℕ) (value found : Data) (more : Members) → Type 0
Found key first value found more =
    ((key ≡ first) × (value ≡ found))
    ⊎ ((is_eq (slice_cmp nat_cmp key first) ≡ false) × (get_member key more ≡ Some found))

found_if : (key first : List ℕ) (value found : Data) (more : Members) (b : Bool)
    → is_eq (slice_cmp nat_cmp key first) ≡ b
    → cond b (Some value) (get_member key more) ≡ Some found → Found key first value found more
unfolding Found
found_if key first value found more true same is = inl (same_bytes key first same, cc)
found_if key first value found more false other is = inr (other, is)

pub member-found : (key first : List ℕ) (value found : Data) (more : Members)
    → get_member key (member first value more) ≡ Some found
    → ((key ≡ first) × (value ≡ found))
    ⊎ ((is_eq (slice_cmp nat_cmp key first) ≡ false) × (get_member key more ≡ Some found))
unfolding Found
member-found key first value found more is =
    found_if key first value found more (is_eq (slice_cmp nat_cmp key first)) refl
    (sym (choice (slice_cmp nat_cmp key first) (get_member key more) value) ∙ is)
