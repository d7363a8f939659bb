-- Files that were read ahead, and the loads by which they were.
use Rattle.std.proofs.Common.{◌≡◌, ◌∙◌, ◌+◌, ◌<◌, ◌++◌, ◌∷◌, [], ℕ, zero, suc, List, Bor}
use Rattle.std.proofs.Common.{Some, All, length, map, flat_map, arith, ap, ap₂, get_or, refl, sym}
use Rattle.fare_program.specs.FilesLoaded.{LoadsDrawn, load_at, names_to_load, text_at}
use Rattle.frame.specs.Given.{LoadsFiles}
use Rattle.fare_program.specs.inside.PostedFiles.{AreProvided, unless_memory}
use Rattle.fare_service.proofs.UploadFileSource.{provided_number}
use Rattle.fare_service.specs.{Headline.loads_at, Lending.IsOutside, Lending.origin_at}
use Rattle.fare_service.specs.Shares.{file_at}
use Rattle.settlement.specs.Reading.{loads_in_order}
use Rattle.std.proofs.lemmas.List.{length-map, Elements.All-head, Elements.All-tail}
use Rattle.world.proofs.Laws.{joined_loads}
use Rattle.world.specs.Origins.{IsFrom, IsProvided, Origin, anywhere, file, loads_from, memory}
use Rattle.world.specs.{Origins.nowhere, Origins.with_loads, Run.Load, Run.Run, Run.with_all}

-- ---- uploads under the names that are asked for
abbrev names_in : List (Bor (List ℕ)) → List (List ℕ)
names_in words = map (λ w. w.now) words

pub name_there : (words : List (Bor (List ℕ))) (position : ℕ) (none : Bor (List ℕ))
    → position < length words → text_at (names_in words) position ≡ (get_or words position none).now
name_there [] position none few = absurd (omega (arith, few))
name_there (w ∷ words) zero none few = refl
name_there (w ∷ words) (suc position) none few = name_there words position none (omega (arith, few))

-- the upload of this number is under its name
pub named_at : (named : List ℕ → Origin) (words : List (Bor (List ℕ))) (position : ℕ)
    → position < length words
    → origin_at (map (λ w. named w.now) words) position ≡ named (text_at (names_in words) position)
named_at named [] position few = absurd (omega (arith, few))
named_at named (w ∷ words) zero few = refl
named_at named (w ∷ words) (suc position) few = named_at named words position (omega (arith, few))

pub outside_provided : (origin : Origin) (old new : Run) (bytes : List ℕ)
    → IsProvided origin old new bytes → IsProvided (unless_memory origin) old new bytes
outside_provided (memory known) old new bytes provided =
    record { from = tt; loads = provided.loads }
outside_provided nowhere old new bytes provided = provided
outside_provided (file name) old new bytes provided = provided
outside_provided anywhere old new bytes provided = provided

pub is_outside : (origin : Origin) → IsOutside (unless_memory origin)
is_outside nowhere = tt
is_outside (memory known) = tt
is_outside (file name) = tt
is_outside anywhere = tt

-- ---- files of the system
pub to_load : (names : List (List ℕ)) → 0 < length names → names_to_load names ≡ map Some names
to_load [] some = absurd (omega (arith, some))
to_load (name ∷ names) some = refl

module _ (origin : List ℕ → Origin) (of_system : (name : List ℕ) → origin name ≡ file name) where
  -- the loads by number are those by name
  bytes_in_order : (name_of : ℕ → List ℕ) (start : ℕ) (files : List (List ℕ))
      → map (λ load. load.bytes) (loads_in_order (λ number. origin (name_of number)) start files)
      ≡ files
  bytes_in_order name_of start [] = refl
  bytes_in_order name_of start (bytes ∷ files) =
      rw of_system (ap (λ fs. bytes ∷ fs) (bytes_in_order name_of (suc start) files))

  names_in_order : (name_of : ℕ → List ℕ) (start : ℕ) (names files : List (List ℕ))
      → length files ≡ length names
      → ((position : ℕ) → position < length names
      → name_of (start + position) ≡ text_at names position)
      → map (λ load. load.name) (loads_in_order (λ number. origin (name_of number)) start files)
      ≡ map Some names
  names_in_order name_of start [] [] same named = refl
  names_in_order name_of start [] (bytes ∷ files) same named = absurd (omega (arith, same))
  names_in_order name_of start (name ∷ names) [] same named = absurd (omega (arith, same))
  names_in_order name_of start (name ∷ names) (bytes ∷ files) same named =
      let first : start ≡ start + 0 = omega arith in
      rw of_system (ap₂ (λ (n : List ℕ) ns. Some n ∷ ns) (ap name_of first ∙ named 0 (omega arith))
      (names_in_order name_of (suc start) names files (omega (arith, same))
      (λ position within.
      let next : suc start + position ≡ start + suc position = omega arith in
      ap name_of next ∙ named (suc position) (omega (arith, within)))))

  abbrev origins : List (Bor (List ℕ)) → List Origin
  origins words = map (λ w. unless_memory (origin w.now)) words

  -- what was lent is a file of the system
  named_from : (words : List (Bor (List ℕ))) (position : ℕ) (bytes : List ℕ)
      → IsFrom (origin_at (origins words) position) bytes
      → origin_at (origins words) position ≡ file (text_at (names_in words) position)
  named_from [] position bytes from = absurd from
  named_from (w ∷ words) zero bytes from = ap unless_memory (of_system w.now)
  named_from (w ∷ words) (suc position) bytes from = named_from words position bytes from

  as_drawn : (words : List (Bor (List ℕ))) (files : List (List ℕ)) (drawn : List ℕ)
      → All (λ position. IsFrom (origin_at (origins words) position) (file_at files position)) drawn
      → flat_map (loads_at (origins words) files) drawn ≡ map (load_at (names_in words) files) drawn
  as_drawn words files [] from = refl
  as_drawn words files (position ∷ drawn) from =
      let From : ℕ → Type 0 =
      λ p. IsFrom (origin_at (origins words) p) (file_at files p) in
      ap₂ (λ (o : Origin) (more : List Load). loads_from o (file_at files position) ++ more)
      (named_from words position _ (All-head From position drawn from))
      (as_drawn words files drawn (All-tail From position drawn from))

  module _ (words : List (Bor (List ℕ))) (files : List (List ℕ)) where
    pub read_files : 0 < length words → length files ≡ length words
        → LoadsFiles (names_to_load (names_in words))
        (loads_in_order (λ number. origin (text_at (names_in words) number)) 0 files) files
    read_files some same =
        let named = length-map words (λ (w : Bor (List ℕ)). w.now) in
        rw (to_load (names_in words) (omega (arith, some, named))) (record {
          named = names_in_order (text_at (names_in words)) 0 (names_in words) files
              (omega (arith, same, named))
              (λ position within.
              let here : 0 + position ≡ position = omega arith in
              ap (text_at (names_in words)) here);
          bytes = bytes_in_order (text_at (names_in words)) 0 files;
        })

    pub drawn_files : (old new : Run) (drawn : List ℕ)
        → (provided : AreProvided (origins words) files drawn old new)
        → LoadsDrawn (names_in words) (flat_map (loads_at (origins words) files) drawn) files drawn
    drawn_files old new drawn provided = record {
      number = provided_number (origins words) files provided.provided
          ∙ length-map words (λ (w : Bor (List ℕ)). unless_memory (origin w.now))
          ∙ sym (length-map words (λ (w : Bor (List ℕ)). w.now));
      all = as_drawn words files drawn provided.loaded.from;
    }

-- the loads by which uploads were lent, and nothing else was done
pub provided_loads : (uploads : List Origin) (files : List (List ℕ)) (drawn : List ℕ) (old new : Run)
    → AreProvided uploads files drawn old new
    → new ≡ with_loads old (flat_map (loads_at uploads files) drawn)
provided_loads uploads files drawn old new provided =
    provided.appended ∙ ap (with_all old) provided.loaded.loads ∙ joined_loads old _
