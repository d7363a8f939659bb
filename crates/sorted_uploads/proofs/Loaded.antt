-- Uploads that are loaded are read as what they are.
use Rattle.std.proofs.Common.{◌≡◌, ℕ, List, [], Vec, Global, get_or, length, map, subst, sym}
use Rattle.settlement.proofs.LoadedFiles.{loaded_files}
use Rattle.settlement.specs.Reading.{AreRead}
use Rattle.std.proofs.lemmas.List.{length-map}
use Rattle.world.specs.{Origins.memory, Run.Run}

-- the bytes of an upload
abbrev pub bytes_in : Vec ℕ Global → List ℕ
bytes_in upload = upload.items

pub same_files : (uploads : List (Vec ℕ Global)) (files : List (List ℕ))
    (r s : Run) → AreRead (λ upload. memory (get_or (map bytes_in uploads) upload [])) 0
    (length uploads) files r s → files ≡ map bytes_in uploads
same_files uploads files r s read =
    loaded_files (map bytes_in uploads) files r s
    (subst (λ n. AreRead (λ upload. memory (get_or (map bytes_in uploads) upload [])) 0 n files r s)
    (sym (length-map uploads bytes_in)) read)
