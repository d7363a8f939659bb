-- Reports of parts as they follow one another: what proofs alone cite.
use Rattle.histories.specs.Sums.{Sums}
use Rattle.part_texts.specs.Fronts.{is_above, may_end, may_follow, no_sums, starts, sums_within}
use Rattle.part_texts.specs.{Fronts.taps_before, Fronts.with_validator, Merged.is_none_left}
use Rattle.part_texts.specs.Shown.{PartReport, SpanFits, sum_up}
use Rattle.report_texts.specs.Numbers.{AreCounts, IsTokenSum, IsValidatorSum}
use Rattle.report_texts.specs.Report.{report}
use Rattle.sorted_taps.specs.declared.positions.{FileSpan.FileSpan, Position.Position}
use Rattle.std.specs.List.{AllByRecursion}
use Rattle.std.specs.Prelude.{◌≡◌, ◌+◌, ◌<◌, ◌^◌, ◌||◌, ℕ, Bool, true, false, List, [], ◌∷◌, ◌++◌}
use Rattle.std.specs.Prelude.{Option, Some, None, flat_map, length, map, nat_eq}
use Rattle.tap_views.specs.declared.{token.Token.Token, upload_end.UploadEnd.TheVariants.Posted}

-- the spans, one after the other, join the ends of the parts before: these are the ends after them
abbrev pub are_joined : Bool → Bool → List (Option Position) → List FileSpan → List (Option Position)
    → Type 0
are_joined first last ends [] all = ends ≡ all
are_joined first last ends (span ∷ spans) all =
    (rest : List (Option Position)) × (starts first ends ≡ Some (span.from, rest))
    × (may_end last span.to ≡ true) × are_joined first last (rest ++ span.to ∷ []) spans all

-- the sums of keys, one after the other, after some: no more taps than any run has
abbrev pub adds_to : {K : Type 0} → Sums → List (K × Sums) → Sums → Type 0
adds_to sum [] all = sum ≡ all
adds_to sum (one ∷ more) all =
    (next : Sums) × (sums_within sum one.1 ≡ Some next) × adds_to next more all

-- the validators, one after the other, added to those that are there
abbrev pub are_added : List (ℕ × Sums) → List (ℕ × Sums) → List (ℕ × Sums) → Type 0
are_added list [] all = list ≡ all
are_added list (one ∷ more) all =
    (next : List (ℕ × Sums)) × (with_validator list one ≡ Some next) × are_added next more all

-- each validator is above the one before
abbrev pub are_increasing : Option ℕ → List (ℕ × Sums) → Type 0
are_increasing last [] = Unit {0}
are_increasing last (one ∷ more) = (is_above last one.0 ≡ true) × are_increasing (Some one.0) more

-- each token is above the one before
abbrev pub are_tokens_increasing : Option Token → List (Token × Sums) → Type 0
are_tokens_increasing last [] = Unit {0}
are_tokens_increasing last (one ∷ more) = (may_follow true last one.0 ≡ true) × are_tokens_increasing (Some one.0) more

-- the token that no later part may have, nor one below it
abbrev pub last_of : Option Token → List (Token × Sums) → Option Token
last_of last [] = last
last_of last (one ∷ more) = last_of (Some one.0) more

-- the numbers of the report fit, and it adds up
pub record IsRight (p : PartReport) : Type 0 where
  pub files : length p.spans < 2 ^ 64
  pub spans : AllByRecursion SpanFits p.spans
  pub uploads : length p.taps ≡ length p.spans
  pub posted : sum_up p.taps ≡ p.totals.taps
  pub totals : AreCounts p.totals
  pub validators_number : length p.validators < 2 ^ 64
  pub validators : AllByRecursion IsValidatorSum p.validators
  pub validators_increase : are_increasing None p.validators
  pub validators_add : adds_to no_sums p.validators p.totals
  pub tokens_number : length p.tokens < 2 ^ 64
  pub tokens : AllByRecursion IsTokenSum p.tokens
  pub tokens_add : adds_to no_sums p.tokens p.totals

-- the taps of uploads, one after the other, added to those of the parts before
abbrev pub are_posted_to : Bool → List ℕ → ℕ → List ℕ → List ℕ → ℕ → Type 0
are_posted_to first taps posted [] all sum = (taps ≡ all) × (posted ≡ sum)
are_posted_to first taps posted (n ∷ ns) all sum =
    (before : ℕ) × (rest : List ℕ) × (taps_before first taps ≡ Some (before, rest))
    × (n < 2 ^ 64) × (before + n < 2 ^ 64) × (posted + n < 2 ^ 64)
    × are_posted_to first (rest ++ (before + n) ∷ []) (posted + n) ns all sum

-- what the parts so far add up to
pub record SoFar : Type 0 where
  -- where their taps end in each file
  pub ends : List (Option Position)
  -- how many taps they have of each upload
  pub taps : List ℕ
  pub totals : Sums
  pub validators : List (ℕ × Sums)
  pub tokens : ℕ
  -- the token that no later part may have, nor one below it
  pub last : Option Token

abbrev pub nothing_so_far : SoFar
nothing_so_far = record {
  ends = [];
  taps = [];
  totals = no_sums;
  validators = [];
  tokens = 0;
  last = None;
}

-- the part follows those so far, which are none if it is the first one, and its sums are added
pub record IsNextPart (first final : Bool) (before : SoFar) (p : PartReport) (after : SoFar) : Type 0
  where
    pub right : IsRight p
    pub files : (first || nat_eq (length p.spans) (length before.ends)) ≡ true
    pub joined : are_joined first final before.ends p.spans after.ends
    pub posted : are_posted_to first before.taps 0 p.taps after.taps p.totals.taps
    pub totals : sums_within before.totals p.totals ≡ Some after.totals
    pub validators : are_added before.validators p.validators after.validators
    pub number : before.tokens + length p.tokens < 2 ^ 64
    pub tokens : after.tokens ≡ before.tokens + length p.tokens
    pub increase : are_tokens_increasing before.last p.tokens
    pub last_is : after.last ≡ last_of before.last p.tokens

-- the parts follow, one after the other: each after those so far, and whether it is first and last
abbrev pub are_next : {P Q : Type 0} → (Bool → Bool → Q → P → Q → Type 0) → Bool → Q → List P → Q
    → Type 0
are_next IsNext first before [] after = before ≡ after
are_next {Q = Q} IsNext first before (p ∷ ps) after =
    (next : Q) × IsNext first (is_none_left ps) before p next × are_next IsNext false next ps after

-- the tokens of all parts
abbrev pub tokens_of : List PartReport → List (Token × Sums)
tokens_of parts = flat_map (λ part. part.tokens) parts

-- the report of the whole
abbrev pub whole_text : SoFar → List PartReport → List ℕ
whole_text all parts =
    report (map Posted all.taps) all.totals all.validators (tokens_of parts)
