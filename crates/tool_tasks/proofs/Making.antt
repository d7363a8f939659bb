-- Uploads that are sorted or merged: what was loaded, and what is made of them.
use Rattle.std.proofs.Common.{◌≡◌, ◌∙◌, ◌++◌, ◌∷◌, ◌<◌, ◌+◌, [], Bor, ℕ, List, None, Option, Some}
use Rattle.std.proofs.Common.{append-nil, ap, arith, get_or, length, map, refl, sym, take, unwrap_or}
use Rattle.std.proofs.lemmas.List.{map-append, map_push, take_more}
use Rattle.frame.proofs.Outcomes.{one_loaded}
use Rattle.frame.specs.{Given.load_of, Names.file_named}
use Rattle.report_texts.specs.Report.{upload_lines}
use Rattle.tap_views.specs.declared.upload_end.UploadEnd.{UploadEnd}
use Rattle.world.proofs.Laws.{more_loads}
use Rattle.world.specs.Run.{Load, Named, Run, with_load}
use Rattle.tool_words.specs.Request.{SortRequest}
use Rattle.tool_tasks.specs.Files.{named_files}
use Rattle.tool_tasks.specs.declared.prepared.NewFile.{NewFile}
use Rattle.tool_tasks.specs.inside.Prepared.{IsNamedIn, files_in, known_file}
use Rattle.tool_tasks.specs.inside.{Loads.LoadsAll, Sort.sorted_given}

-- the upload of this number was loaded, after those before it
pub loads_next : (words : List (Bor (List ℕ))) (n : ℕ) (d : Bor (List ℕ)) (old mid new : Run)
    (texts : List (List ℕ)) (bytes : List ℕ) → n < length words
    → LoadsAll (map (λ w. w.now) (take n words)) old mid texts
    → new ≡ with_load mid (file_named (get_or words n d).now) bytes
    → LoadsAll (map (λ w. w.now) (take (n + 1) words)) old new (texts ++ bytes ∷ [])
loads_next words n d old mid new texts bytes within all is =
    let word = (get_or words n d).now in
    let load = load_of word bytes in
    record {
      loads = all.loads ++ load ∷ [];
      are = rw (
        take_more words n d within,
        map_push (λ (w : Bor (List ℕ)). w.now) (take n words) (get_or words n d),
        map_push file_named (map (λ w. w.now) (take n words)) word,
      ) (one_loaded _ all.loads texts load all.are);
      all = is ∙ ap (λ r. with_load r (file_named word) bytes) all.all
          ∙ more_loads old all.loads (load ∷ []);
    }

-- ---- what is made
-- what is given of uploads that ended so, with their file
pub ends_given : (request : SortRequest) (ends : List UploadEnd) (loads : List Load)
    (note text file : List ℕ) (first : Option NewFile) (known : Option (List ℕ)) → text ≡ []
    → files_in first ≡ named_files request.ends (upload_lines 0 ends) → known ≡ Some file
    → record {
      loads = loads;
      text = text;
      note = note;
      files = (files_in first ++ []) ++ known_file request.out known;
    } ≡ sorted_given request loads note ends file
ends_given request ends loads note text file first known none is whole =
    rw (none, whole, append-nil (files_in first), is) refl

abbrev name_in : List Named → List ℕ
name_in [] = []
name_in (file ∷ files) = file.name

pub first_named : (out : List ℕ) (ends : Option (List ℕ)) (uploads : List (List ℕ)) (lines : List ℕ)
    (file : Option NewFile) → files_in file ≡ named_files ends lines
    → IsNamedIn (out ∷ unwrap_or ends out ∷ uploads) file
first_named out ends uploads lines None is = tt
first_named out None uploads lines (Some file) is = absurd (cc)
first_named out (Some name) uploads lines (Some file) is = (1, omega arith, sym (ap name_in is))
