-- A line has at most one cut into three fields, and a field's text stands for at most one value.
use Rattle.std.proofs.Common.{◌≡◌, ℕ, suc, ◌+◌, ◌-◌, ◌<◌, List, [], ◌∷◌, ◌++◌, length, refl, sym}
use Rattle.std.proofs.Common.{ap, subst, ◌∙◌, arith, length-append, inl, inr}
use Rattle.std.specs.Prelude.{codes, slice_index, MatchOption, None, Option, Some}
use Rattle.std.proofs.Math.Seq.{get_or-append_seam}
use Rattle.tap_rows.specs.Fields.{HasNoComma, AreFields, FieldRepresents, FieldRepresentsSome}
use Rattle.tap_rows.specs.TapTables.{IsHead}

-- no comma in what follows the first byte
trailing : (x : ℕ) (xs : List ℕ) → HasNoComma (x ∷ xs) → HasNoComma xs
trailing x xs none = λ k d h. none (suc k) d (omega arith)

-- a text with a comma has one
pub has_comma : (a b : List ℕ) → ¬ (HasNoComma (a ++ 44 ∷ b))
has_comma [] b none = none 0 0 (omega arith) refl
has_comma (x ∷ a) b none = has_comma a b (trailing x (a ++ 44 ∷ b) none)

-- the first comma stands at one place
pub split_once : (a b c d : List ℕ) → HasNoComma a → HasNoComma c → a ++ 44 ∷ b ≡ c ++ 44 ∷ d
    → (a ≡ c) × (b ≡ d)
split_once [] b [] d none none' e = (refl, cc)
split_once [] b (y ∷ c) d none none' e = absurd (none' 0 0 (omega arith) (cc))
split_once (x ∷ a) b [] d none none' e = absurd (none 0 0 (omega arith) (cc))
split_once (x ∷ a) b (y ∷ c) d none none' e =
    let tails : a ++ 44 ∷ b ≡ c ++ 44 ∷ d = cc in
    let (front, back) = split_once a b c d (trailing x a none) (trailing y c none') tails in
    let first : x ≡ y = cc in
    (ap (λ z. z ∷ a) first ∙ ap (λ zs. y ∷ zs) front, back)

pub one_fields : (line t v m t' v' m' : List ℕ) → AreFields line t v m → AreFields line t' v' m'
    → (t ≡ t') × (v ≡ v') × (m ≡ m')
one_fields line t v m t' v' m' is other =
    let (token, rest) = split_once t (v ++ 44 ∷ m) t' (v' ++ 44 ∷ m') is.no_comma_first
    other.no_comma_first (sym is.joined ∙ other.joined) in
    let (validator, moment) = split_once v m v' m' is.no_comma_second other.no_comma_second rest in
    (token, validator, moment)

-- no comma, no fields
pub no_first : (line : List ℕ) → HasNoComma line → (t v m : List ℕ) → ¬ (AreFields line t v m)
no_first line none t v m is = has_comma t (v ++ 44 ∷ m) (subst HasNoComma is.joined none)

-- one comma, no fields
pub no_second : (line token rest : List ℕ) → HasNoComma token → line ≡ token ++ 44 ∷ rest
    → HasNoComma rest → (t v m : List ℕ) → ¬ (AreFields line t v m)
no_second line token rest first joined none t v m is =
    let (_, same) = split_once token rest t (v ++ 44 ∷ m) first is.no_comma_first
    (sym joined ∙ is.joined) in
    has_comma v m (subst HasNoComma same none)

-- a comma in what stands behind the second one, no fields
pub no_third : (line token rest validator moment : List ℕ) → HasNoComma token
    → line ≡ token ++ 44 ∷ rest → HasNoComma validator → rest ≡ validator ++ 44 ∷ moment
    → ¬ (HasNoComma moment) → (t v m : List ℕ) → ¬ (AreFields line t v m)
no_third line token rest validator moment first joined second more some t v m is =
    let (_, same) = split_once token rest t (v ++ 44 ∷ m) first is.no_comma_first
    (sym joined ∙ is.joined) in
    let (_, last) = split_once validator moment v m second is.no_comma_second (sym more ∙ same) in
    some (subst HasNoComma (sym last) is.no_comma_third)

-- ---- values
-- what stands before a last byte
before_last : (v w : List ℕ) → v ++ 34 ∷ [] ≡ w ++ 34 ∷ [] → v ≡ w
before_last [] [] e = refl
before_last [] (y ∷ w) e = absurd (omega (arith, ap length e, length-append w (34 ∷ [])))
before_last (x ∷ v) [] e = absurd (omega (arith, ap length e, length-append v (34 ∷ [])))
before_last (x ∷ v) (y ∷ w) e =
    let tails : v ++ 34 ∷ [] ≡ w ++ 34 ∷ [] = cc in
    let first : x ≡ y = cc in
    ap (λ z. z ∷ v) first ∙ ap (λ zs. y ∷ zs) (before_last v w tails)

-- a field's text stands for one value at most
pub one_value : (text value other : List ℕ) → FieldRepresents text value
    → FieldRepresents text other
    → value ≡ other
one_value text value other (inl is) (inl also) = sym is.same ∙ also.same
one_value text value other (inl is) (inr also) = absurd (is.unquoted (other ++ 34 ∷ []) also)
one_value text value other (inr is) (inl also) = absurd (also.unquoted (value ++ 34 ∷ []) is)
one_value text value other (inr is) (inr also) =
    let tails : value ++ 34 ∷ [] ≡ other ++ 34 ∷ [] = cc in
    before_last value other tails

-- a text that begins with a quote and stands for a value ends with another quote
pub ends_quoted : (text value : List ℕ) → 0 < length text → slice_index text 0 ≡ 34
    → FieldRepresents text value
    → (0 < length text - 1) × (slice_index text (length text - 1) ≡ 34)
ends_quoted [] value some quote holds = absurd (omega (arith, some))
ends_quoted (x ∷ text) value some quote (inl is) =
    absurd (is.unquoted text (ap (λ z. z ∷ text) quote))
ends_quoted (x ∷ text) value some quote (inr is) =
    let size : length (x ∷ text) ≡ length value + 2 =
    ap length is ∙ ap suc (length-append value (34 ∷ [])) ∙ omega arith in
    let at : length (x ∷ text) - 1 ≡ suc (length value) = omega (arith, size) in
    let last : slice_index (34 ∷ (value ++ 34 ∷ [])) (suc (length value)) ≡ 34 =
    get_or-append_seam value 34 [] 0 in (
      omega (arith, at),
      ap (λ k. slice_index (x ∷ text) k) at
          ∙ ap (λ bytes. slice_index bytes (suc (length value))) is ∙ last,
    )

-- what is found in the value is determined by the text
reported : {A : Type 0} (P : List ℕ → A → Type 0) (text value : List ℕ) (found : Option A)
    → FieldRepresents text value
    → MatchOption found ((one : A) → ¬ (P value one)) (λ one. P value one)
    → MatchOption found ((one : A) → ¬ (FieldRepresentsSome (λ v. P v one) text))
    (λ one. FieldRepresentsSome (λ v. P v one) text)
reported {A = A} P text value None holds none = nothing_reported
  where
    nothing_reported : (one : A) → ¬ (FieldRepresentsSome (λ v. P v one) text)
    nothing_reported one (other, also, is) =
        none one (subst (λ v. P v one) (one_value text other value also holds) is)
reported P text value (Some one) holds is = (value, holds, is)

-- nothing is found in a text that stands for no value
unreported : {A : Type 0} (P : List ℕ → A → Type 0) (text : List ℕ)
    → ((value : List ℕ) → ¬ (FieldRepresents text value)) → (one : A)
    → ¬ (FieldRepresentsSome (λ v. P v one) text)
unreported P text none one (value, holds, is) = none value holds

-- what is found in the value of a field, if it has one, is determined by its text
pub reported_of : {A V : Type 0} (P : List ℕ → A → Type 0) (now : V → List ℕ) (text : List ℕ)
    (value : Option V) (found : Option A)
    → MatchOption value ((v : List ℕ) → ¬ (FieldRepresents text v))
    (λ v. FieldRepresents text (now v))
    → MatchOption value (found ≡ None)
    (λ v. MatchOption found ((one : A) → ¬ (P (now v) one)) (λ one. P (now v) one))
    → MatchOption found ((one : A) → ¬ (FieldRepresentsSome (λ v. P v one) text))
    (λ one. FieldRepresentsSome (λ v. P v one) text)
reported_of P now text None found none is =
    subst (λ o. MatchOption o ((one : _) → ¬ (FieldRepresentsSome (λ v. P v one) text))
    (λ one. FieldRepresentsSome (λ v. P v one) text)) (sym is) (unreported P text none)
reported_of P now text (Some value) found holds is = reported P text (now value) found holds is

-- the names that stand in the fields of a head line
pub names_of : (line token validator moment : List ℕ) → AreFields line token validator moment
    → IsHead line
    → FieldRepresents token (codes "token") × FieldRepresents validator (codes "validator")
    × FieldRepresents moment (codes "moment")
names_of line token validator moment fields is =
    let (t, v, m) = one_fields line is.token_text is.validator_text is.moment_text token validator
    moment is.fields fields in (
      subst (λ text. FieldRepresents text (codes "token")) t is.token,
      subst (λ text. FieldRepresents text (codes "validator")) v is.validator,
      subst (λ text. FieldRepresents text (codes "moment")) m is.moment,
    )
