-- What private functions say of parts.
use Rattle.histories.specs.Sums.{Sums, sums_of}
use Rattle.part_texts.specs.Fronts.{FrontsView, with_validator}
use Rattle.part_texts.specs.declared.fronts.{Fronts.Fronts, Refusal.Refusal}
use Rattle.part_texts.specs.declared.fronts.Refusal.TheVariants.{NoMemory, Wrong}
use Rattle.report_texts.specs.declared.wrong.Wrong.{Wrong as AWrong}
use Rattle.std.specs.Prelude.{◌≡◌, ⊤, ℕ, Bool, true, false, List, Result, Ok, Err, Some, None, map}

-- what the parts say, as the program has it
abbrev pub shown_sums : {K T : Type 0} → (T → Sums) → List (K × T) → List (K × Sums)
shown_sums show list = map (λ entry. (entry.0, show entry.1)) list

abbrev pub fronts_view : Fronts → FrontsView
fronts_view fronts = record {
  stage = fronts.stage;
  is_first = fronts.is_first;
  is_last = fronts.is_last;
  is_ledger = fronts.is_ledger;
  ends = fronts.ends.items;
  taps = fronts.taps.items;
  part = sums_of fronts.part;
  so_far = sums_of fronts.so_far;
  totals = sums_of fronts.totals;
  validators = shown_sums sums_of fronts.validators.entries;
  tokens = fronts.tokens;
  last = fronts.last;
}

-- the validator's sums are added, if they fit
abbrev pub IsWith : List (ℕ × Sums) → List (ℕ × Sums) → ℕ × Sums → Bool → Type 0
IsWith old new sum true = with_validator old sum ≡ Some new
IsWith old new sum false = with_validator old sum ≡ None

-- what is taken is what the step says
abbrev pub TakesAs : Result FrontsView AWrong → FrontsView → Result Unit Refusal → Type 0
TakesAs said new (Ok taken) = said ≡ Ok new
TakesAs said new (Err (Wrong why)) = said ≡ Err why
TakesAs said new (Err NoMemory) = ⊤
