-- How a run ends that was stopped.
use Rattle.std.proofs.Common.{◌≡◌, ◌∙◌, ◌++◌, ℕ, List, [], Contains, Option, ap, append-nil}
use Rattle.std.proofs.Common.{append_assoc, ◌∷◌, inl, inr, map, refl, subst}
use Rattle.frame.proofs.Giving.{part_self}
use Rattle.frame.specs.{Given.Given, Given.IsPart, Given.LoadsFiles, Given.gave, Outcome.IsHalted}
use Rattle.frame.specs.Outcome.{rule_of}
use Rattle.frame.specs.Outsides.{IsStoppedIn, Leaves, LeavesBy, LeavesFiles, Stops}
use Rattle.frame.specs.declared.outside.Outside.{Outside, TheVariants.NoMemory, TheVariants.Unmade}
use Rattle.frame.specs.declared.outside.Outside.TheVariants.{Unread, Untraced, Unwritten, Wrong}
use Rattle.std.proofs.lemmas.List.{map-append}
use Rattle.world.specs.{Origins.with_loads, Run.Load, Run.Run, Run.with_cut}
use Rattle.world.specs.declared.faults.WriteFault.{WriteFault}

-- what is said of a wrong file may say less
pub leaves_weaker : {t u : Type 0} → (t → u) → (words : List (List ℕ)) (why : Outside)
    (before after : Run) → LeavesBy t words why before after → LeavesBy u words why before after
leaves_weaker f words (Unread why) before after leaves = leaves
leaves_weaker f words (Unwritten why) before after leaves = leaves
leaves_weaker f words (Unmade why is_partial) before after leaves = leaves
leaves_weaker f words Wrong before after leaves = (f leaves.0, leaves.1)
leaves_weaker f words Untraced before after leaves = leaves
leaves_weaker f words NoMemory before after leaves = leaves

pub stops_weaker : {t u : Type 0} → (t → u) → (why : Outside) → Stops t why → Stops u why
stops_weaker f why stops = λ words run. leaves_weaker f words why run run (stops words run)

-- the same, of more files
pub leaves_files_weaker : {t u : Type 0} → (t → u) → (ns ms : List (Option (List ℕ)))
    → ((n : Option (List ℕ)) → Contains ns n → Contains ms n) → (why : Outside)
    (before after : Run) → LeavesFiles t ns why before after → LeavesFiles u ms why before after
leaves_files_weaker f ns ms among (Unread why) before after (n, is, refused) =
    (n, among n is, refused)
leaves_files_weaker f ns ms among (Unwritten why) before after leaves = leaves
leaves_files_weaker f ns ms among (Unmade why is_partial) before after leaves = leaves
leaves_files_weaker f ns ms among Wrong before after leaves = (f leaves.0, leaves.1)
leaves_files_weaker f ns ms among Untraced before after leaves = leaves
leaves_files_weaker f ns ms among NoMemory before after leaves = leaves

-- ---- after loads
pub loads_more : (start old new : Run) (loads more : List Load) → old ≡ with_loads start loads
    → new ≡ with_loads old more → new ≡ with_loads start (loads ++ more)
loads_more start old new loads more is then = then ∙ ap (λ r. with_loads r more) is
    ∙ ap (λ xs. record start { loads = xs }) (append_assoc start.loads loads more)

pub one_loaded : (names : List (Option (List ℕ))) (loads : List Load) (files : List (List ℕ))
    (load : Load) → LoadsFiles names loads files
    → LoadsFiles (names ++ load.name ∷ []) (loads ++ load ∷ []) (files ++ load.bytes ∷ [])
one_loaded names loads files load all = record {
  named = map-append (λ (l : Load). l.name) loads _ ∙ ap (λ ns. ns ++ load.name ∷ []) all.named;
  bytes = map-append (λ (l : Load). l.bytes) loads _ ∙ ap (λ fs. fs ++ load.bytes ∷ []) all.bytes;
}

abbrev pub loaded_of : List Load → Given
loaded_of loads = record { loads = loads; text = []; note = []; files = [] }

pub gave_loads : (r : Run) (loads : List Load) → with_loads r loads ≡ gave r (loaded_of loads)
gave_loads r loads = rw (append-nil r.written, append-nil r.said, append-nil r.made) refl

module _ (right : Given → ℕ → Type 0) (wrong : List Load → Type 0)
    (words : List (List ℕ)) where
  pub halted_by : (start mid new : Run) (loads : List Load) (why : Outside)
      → mid ≡ with_loads start loads → LeavesBy (wrong loads) words why mid new
      → IsHalted (rule_of right wrong words) start new why
  halted_by start mid new loads why is leaves = record {
    part = loaded_of loads;
    partial = inl refl;
    leaves = subst (λ r. LeavesBy (wrong loads) words why r new) (is ∙ gave_loads start loads)
        leaves;
  }

  pub halted_loading : (start mid new : Run) (loads : List Load) (why : Outside)
      → mid ≡ with_loads start loads → Leaves words why mid new
      → IsHalted (rule_of right wrong words) start new why
  halted_loading start mid new loads why is leaves = halted_by start mid new loads why is
      (leaves_weaker (λ none. absurd none) words why mid new leaves)

  -- ---- what is right is whole
  pub halted_in : (start new : Run) (whole : Given) (status : ℕ) (why : Outside)
      → right whole status → IsStoppedIn words start new whole why
      → IsHalted (rule_of right wrong words) start new why
  halted_in start new whole status why is s = record {
    part = s.part;
    partial = inr (whole, status, is, s.is_part);
    leaves = leaves_weaker (λ none. absurd none) words why (gave start s.part) new s.leaves;
  }

-- ---- one step after another
abbrev pub IsGrowing : (Given → Given) → Type 0
IsGrowing more = (part g : Given) → IsPart part g → IsPart part (more g)

-- what stopped a step stopped what was to follow, too
pub stopped_early : (words : List (List ℕ)) (start new : Run) (g : Given) (more : Given → Given)
    (why : Outside) → IsGrowing more → IsStoppedIn words start new g why
    → IsStoppedIn words start new (more g) why
stopped_early words start new g more why grows s = record {
  part = s.part;
  is_part = grows s.part g s.is_part;
  leaves = s.leaves;
}

-- the flush failed after all was given
pub stopped_flush : (words : List (List ℕ)) (start old new : Run) (g : Given) (why : WriteFault)
    → old ≡ gave start g → new ≡ with_cut old why → IsStoppedIn words start new g (Unwritten why)
stopped_flush words start old new g why is cut = record {
  part = g;
  is_part = part_self g;
  leaves = cut ∙ ap (λ r. with_cut r why) is;
}
