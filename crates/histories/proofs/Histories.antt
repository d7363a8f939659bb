-- One entry more: the taps of its token, the legality of the history, and the accounts.
use Rattle.std.proofs.Common.{◌≡◌, ℕ, true, false, cond, List, [], ◌∷◌, ◌++◌, length, map, Option}
use Rattle.std.proofs.Common.{Some, None, refl, sym, ap, subst, ◌∙◌, ◌⊎◌, inl, inr, ⊎_elim, arith}
use Rattle.account_rule.specs.declared.tap.TapIn.{TapIn}
use Rattle.histories.specs.Entry.{is_of, own, tap_of, taps_of, mode_of_position}
use Rattle.histories.specs.{History.IsReplied, History.IsLegal, declared.entry.Entry.Entry}
use Rattle.std.proofs.lemmas.List.{length-append, map-append, append-nil, append_assoc}
use Rattle.std.proofs.lemmas.List.Elements.{filter-append}
use Rattle.std.specs.{List.filter, Option.option_map}
use Rattle.tap_views.specs.declared.token.Token.{Token}
use Rattle.tariffs.specs.{Fares.Fares, Fares.mode_at, declared.mode.Mode.Mode}

-- a list with one element at its end, cut before some element: it is the last one, or it stands
-- before the end
snoc_cases : {X : Type 0} (xs : List X) (x : X) (before : List X) (y : X) (after : List X)
    → xs ++ x ∷ [] ≡ before ++ y ∷ after
    → ((xs ≡ before) × (x ≡ y)) ⊎ ((rest : List X) × (xs ≡ before ++ y ∷ rest))
snoc_cases [] x [] y after e = inl (refl, cc)
snoc_cases [] x (b ∷ before) y after e = let long = simp length-append at (ap length e) in
    absurd (omega arith)
snoc_cases (z ∷ xs) x [] y after e = let same : z ≡ y = cc in inr (xs, ap (λ w. w ∷ xs) same)
snoc_cases {X = X} (z ∷ xs) x (b ∷ before) y after e =
    let same : z ≡ b = cc in
    let rest : xs ++ x ∷ [] ≡ before ++ y ∷ after = cc in
    ⊎_elim
    (λ (last : (xs ≡ before) × (x ≡ y)). let one : xs ≡ before = last.0 in inl ((cc), last.1))
    (λ (inner : (rest : List X) × (xs ≡ before ++ y ∷ rest)). let one : xs ≡ before ++ y ∷ inner.0 =
    inner.1 in inr (inner.0, (cc)))
    (snoc_cases xs x before y after rest)

-- a legal history stays legal with an entry that has the rule's reply
pub legal-push : (table : Fares) (entries : List Entry) (entry : Entry) → IsLegal table entries
    → IsReplied table entries entry → IsLegal table (entries ++ entry ∷ [])
legal-push table entries entry legal replied = record {
  each = λ before other after e.
      ⊎_elim
      (λ (last : (entries ≡ before) × (entry ≡ other)). subst
      (λ (xs : List Entry). IsReplied table xs other) last.0
      (subst (λ (x : Entry). IsReplied table entries x) last.1 replied))
      (λ (inner : (rest : List Entry) × (entries ≡ before ++ other ∷ rest)). legal.each before other
      inner.0 inner.1)
      (snoc_cases entries entry before other after e);
}

-- the token's taps after one entry more
pub taps-push : (table : Fares) (token : Token) (entries : List Entry) (entry : Entry)
    → taps_of table token (entries ++ entry ∷ [])
    ≡ cond (is_of token entry) (taps_of table token entries ++ tap_of table entry ∷ [])
    (taps_of table token entries)
unfolding taps_of own
taps-push table token entries entry =
    ap (λ (es : List Entry). map (tap_of table) es)
    (filter-append (is_of token) entries (entry ∷ []))
    ∙ map-append (tap_of table) (filter (is_of token) entries) (filter (is_of token) (entry ∷ []))
    ∙ elim (is_of token entry) as (λ b. map (tap_of table) (filter (is_of token) entries) ++ map
    (tap_of table) (cond b (entry ∷ []) [])
    ≡ cond b (map (tap_of table) (filter (is_of token) entries) ++ tap_of table entry ∷ [])
    (map (tap_of table) (filter (is_of token) entries))) [
      | true ↦ refl
      | false ↦ append-nil (map (tap_of table) (filter (is_of token) entries))
    ]

-- the mode that the table has for a validator, as the account rule takes it
pub mode_at_position : (mode : Option Mode) (position : Option ℕ)
    → option_map (λ m. m.position) mode ≡ position
    → mode ≡ option_map mode_of_position position
mode_at_position None position is = ap (λ (p : Option ℕ). option_map mode_of_position p) is
mode_at_position (Some mode) position is = ap (λ (p : Option ℕ). option_map mode_of_position p) is

-- the tap that the account rule is given is the entry's
pub tap_of-post : (table : Fares) (entry : Entry) (mode : Option Mode)
    → option_map (λ m. m.position) mode ≡ mode_at table entry.moment entry.validator
    → tap_of table entry ≡ record { moment = entry.moment; mode = mode }
unfolding tap_of
tap_of-post table entry mode is_mode =
    sym (ap (λ (m : Option Mode). tap_in entry.moment m) (mode_at_position mode _ is_mode))
  where
    tap_in : ℕ → Option Mode → TapIn
    tap_in moment m = record { moment = moment; mode = m }

-- a history without entries is legal
pub legal-none : (table : Fares) → IsLegal table []
legal-none table = record {
  each = λ before entry after e. let long = simp length-append at (ap length e) in
      absurd (omega arith);
}

-- the beginning of a legal history is legal
pub legal-front : (table : Fares) (before after : List Entry) → IsLegal table (before ++ after)
    → IsLegal table before
legal-front table before after legal = record {
  each = λ front entry rest is.
      legal.each front entry (rest ++ after)
      (ap (λ (es : List Entry). es ++ after) is ∙ append_assoc front (entry ∷ rest) after);
}
