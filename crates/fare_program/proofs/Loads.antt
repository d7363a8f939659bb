-- Files that were loaded.
use Rattle.std.proofs.Common.{◌≡◌, ◌<◌, ◌∙◌, ℕ, List, [], ◌∷◌, ◌++◌, length, map, ap, arith, sym}
use Rattle.std.proofs.Common.{Bor, Err, Global, None, Ok, Option, Result, Some, Vec, refl, subst}
use Rattle.fare_program.specs.FilesLoaded.{names_to_load}
use Rattle.frame.specs.{Given.LoadsFiles, Outsides.LeavesFiles}
use Rattle.frame.specs.declared.outside.Outside.TheVariants.{Unread}
use Rattle.std.proofs.lemmas.{List.map-append, Simd.map-map}
use Rattle.std.specs.Prelude.{Contains, IfErr, IfOk, OnOk}
use Rattle.world.proofs.Laws.{more_loads}
use Rattle.world.specs.{Loads.IsRefused, Origins.with_loads, Run.Load, Run.Run, Run.with_load}
use Rattle.world.specs.declared.faults.LoadFault.{LoadFault, TheVariants.NoMemory}

pub names_to_load_are : (names : List (Bor (List ℕ))) → 0 < length names
    → map (λ n. Some n.now) names ≡ names_to_load (map (λ n. n.now) names)
names_to_load_are [] some = absurd (omega arith)
names_to_load_are (n ∷ names) some =
    sym (map-map (λ (x : List ℕ). Some x) (λ (w : Bor (List ℕ)). w.now) (n ∷ names))

-- standard input was loaded
pub input_read : (names : List (Bor (List ℕ))) (file : Vec ℕ Global) (old new : List (Vec ℕ Global))
    → length names ≡ 0 → old ≡ [] → new ≡ old ++ file ∷ []
    → LoadsFiles (names_to_load (map (λ n. n.now) names))
    (record { name = None; bytes = file.items } ∷ []) (map (λ f. f.items) new)
input_read [] file old new unnamed none pushed = record {
  named = refl;
  bytes = ap (map (λ (f : Vec ℕ Global). f.items))
      (sym (pushed ∙ ap (λ fs. fs ++ file ∷ []) none));
}
input_read (n ∷ names) file old new unnamed none pushed = absurd (omega (arith, unnamed))

-- A file was refused, or there was no memory to keep it.
pub refused_one : (start old new : Run) (loads : List Load) (names : List (Option (List ℕ)))
    (name : Option (List ℕ)) (r : Result (Vec ℕ Global) LoadFault) (fault : LoadFault)
    → Contains names name → old ≡ with_loads start loads
    → IfOk r (λ bytes. new ≡ with_load old name bytes.items) → IfErr r (IsRefused old new name)
    → IfErr r (λ why. fault ≡ why) → OnOk r (fault ≡ NoMemory)
    → (all : List Load) × LeavesFiles ⊥ names (Unread fault) (with_loads start all) new
refused_one start old new loads names name (Ok bytes) fault named is loaded refused same full =
    let load : Load = record { name = name; bytes = bytes.items } in (
      loads ++ load ∷ [],
      (
        name,
        named,
        subst (λ (f : LoadFault). IsRefused (with_loads start (loads ++ load ∷ [])) new name f)
            (sym full) (loaded ∙ (ap (λ (before : Run). with_loads before (load ∷ [])) is
            ∙ more_loads start loads (load ∷ []))),
      ),
    )
refused_one start old new loads names name (Err why) fault named is loaded refused same full = (
  loads,
  (
    name,
    named,
    subst (λ (f : LoadFault). IsRefused (with_loads start loads) new name f) (sym same)
        (subst (λ (before : Run). IsRefused before new name why) is refused),
  ),
)
