-- A file, read batch by batch.
use Rattle.std.proofs.Common.{◌≡◌, ℕ, ◌+◌, ◌*◌, ◌≤◌, List, [], ◌∷◌, ◌++◌, length, flat_map, None}
use Rattle.std.proofs.Common.{Option, Some, refl, sym, ◌∙◌, ap, subst, append_assoc, append-nil}
use Rattle.std.proofs.{Common.arith, Common.length-append, lemmas.Grind.flat_map-append}
use Rattle.std.proofs.lemmas.List.Elements.{All-head, All-tail}
use Rattle.std.specs.{List.AllByRecursion, Prelude.All}
use Rattle.tap_views.specs.Files.{IsFile, taps_of_batches, AreValidTaps, AreValidTapsOfEach}
use Rattle.tap_views.specs.Files.{HasNoBatch, HasUniqueParse, GivesBatch, ValidBatchesView}
use Rattle.tap_views.specs.Files.{IsReadAs}
use Rattle.tap_views.specs.Layout.{Tap, Layout, Tap1, Tap2, IsBatch, IsTapOf, spelling}
use Rattle.tap_views.specs.declared.fault.LayoutFault.{LayoutFault}

-- the rest of an upload is no longer than the upload
pub rest_short : (file : List ℕ) (batches : List (List Tap)) (rest : List ℕ)
    → IsFile file batches rest → length rest ≤ length file
rest_short file [] rest is = omega (arith, ap length is.0)
rest_short file (batch ∷ batches) rest (front, back, is_batch, whole, is) =
    omega (arith, ap length whole, length-append front back, rest_short back batches rest is)

spelled_room : (layout : Layout) (taps : List Tap) → AllByRecursion (IsTapOf layout) taps
    → 24 * length taps ≤ length (flat_map (spelling layout) taps)
spelled_room layout [] each = omega arith
spelled_room Tap1 (tap ∷ taps) each =
    simp length-append (
    omega (
      arith,
      spelled_room Tap1 taps each.1,
      each.0.token,
      each.0.validator,
      each.0.moment,
    ))
spelled_room (Tap2 validator) (tap ∷ taps) each =
    simp length-append (
    omega (arith, spelled_room (Tap2 validator) taps each.1, each.0.0.token, each.0.0.moment))

-- a batch has 24 bytes at least for each tap, behind a header of 8 at least
pub batch_room : (front : List ℕ) (taps : List Tap) → IsBatch front taps
    → 24 * length taps + 8 ≤ length front
batch_room front taps (Tap1, batch) =
    let size = simp length-append at (ap length batch.spelled) in
    omega (arith, size, batch.wide, spelled_room Tap1 taps batch.each)
batch_room front taps (Tap2 validator, batch) =
    let size = simp length-append at (ap length batch.spelled) in
    omega (arith, size, batch.wide, spelled_room (Tap2 validator) taps batch.each)

-- no bytes begin with no batch
pub no_bytes : HasNoBatch []
no_bytes front rest taps batch whole =
    omega (arith, batch_room front taps batch, ap length whole, length-append front rest)

-- a file has fewer taps than bytes, and fewer batches
pub few : (file : List ℕ) (batches : List (List Tap)) (rest : List ℕ) → IsFile file batches rest
    → length (taps_of_batches batches) + 2 * length batches ≤ length file
few file [] rest is = omega arith
few file (batch ∷ batches) rest (front, back, is_batch, whole, is) =
    omega (
      arith,
      ap length whole,
      length-append front back,
      length-append batch (taps_of_batches batches),
      batch_room front batch is_batch,
      few back batches rest is,
    )

-- one batch more, and its taps
pub taps_more : (done : List (List Tap)) (batch : List Tap)
    → taps_of_batches (done ++ batch ∷ []) ≡ taps_of_batches done ++ batch
taps_more [] batch = append-nil batch
taps_more (first ∷ done) batch =
    ap (λ taps. first ++ taps) (taps_more done batch)
    ∙ sym (append_assoc first (taps_of_batches done) batch)

-- a file has room for a batch that was read and for its taps, behind those that were read before
pub read_room : (file : List ℕ) (done more : List (List Tap)) (rest : List ℕ) (batch : List Tap)
    → IsFile file ((done ++ batch ∷ []) ++ more) rest
    → (length (taps_of_batches done) + length batch ≤ length file) × (length done + 1 ≤ length file)
read_room file done more rest batch is =
    let fits = few file ((done ++ batch ∷ []) ++ more) rest is in
    let taps = ap length (flat_map-append (λ (b : List Tap). b) (done ++ batch ∷ []) more) in
    let first = ap length (taps_more done batch) in
    let all = length-append (taps_of_batches (done ++ batch ∷ [])) (taps_of_batches more) in
    let both = length-append (taps_of_batches done) batch in
    let number = length-append (done ++ batch ∷ []) more in
    let one = length-append done (batch ∷ []) in (
      omega (arith, fits, taps, first, all, both),
      omega (arith, fits, number, one),
    )

-- the first batch of those that were left was read
pub read_on : (file : List ℕ) (done : List (List Tap)) (batch : List Tap)
    (left now : ValidBatchesView) → IsReadAs file (done ++ left.batches) left.fault
    → GivesBatch left (Some batch) now
    → IsReadAs file ((done ++ batch ∷ []) ++ now.batches) now.fault
read_on file done batch left now read step =
    let P : ValidBatchesView → Type 0 = λ g. IsReadAs file (done ++ g.batches) g.fault in
    let Q : List (List Tap) → Type 0 = λ bs. IsReadAs file bs now.fault in
    subst Q (sym (append_assoc done (batch ∷ []) now.batches)) (subst P step read)

-- no batch was left: all were read, and the fault is the one behind them
pub read_end : (file : List ℕ) (done : List (List Tap)) (left now : ValidBatchesView)
    (fault : Option (ℕ × LayoutFault)) → IsReadAs file (done ++ left.batches) left.fault
    → GivesBatch left None now → fault ≡ now.fault → IsReadAs file done fault
read_end file done left now fault read (none, same) is =
    let P : List (List Tap) → Type 0 = λ bs. IsReadAs file bs left.fault in
    let Q : Option (ℕ × LayoutFault) → Type 0 = IsReadAs file done in
    subst Q (sym (is ∙ ap (λ g. g.fault) same))
    (subst P (ap (λ bs. done ++ bs) none ∙ append-nil done) read)

-- the taps of the batches that an upload is read as are its good taps
pub valid_taps : (file : List ℕ) (batches : List (List Tap)) (fault : Option (ℕ × LayoutFault))
    → IsReadAs file batches fault → AreValidTaps file (taps_of_batches batches)
valid_taps file batches fault read = record {
  batches = batches;
  rest = read.rest;
  is_file = read.is_file;
  all = refl;
}

-- an upload has room for the batch that was read and for its taps, behind those before
pub room_on : (file : List ℕ) (done : List (List Tap)) (batch : List Tap)
    (left now : ValidBatchesView) → IsReadAs file (done ++ left.batches) left.fault
    → GivesBatch left (Some batch) now
    → (length (taps_of_batches done) + length batch ≤ length file) × (length done + 1 ≤ length file)
room_on file done batch left now read step =
    let more = read_on file done batch left now read step in
    read_room file done now.batches more.rest batch more.is_file

-- the taps of one file more
pub each_more : (files : List (List ℕ)) (taps : List (List Tap)) (file : List ℕ) (more : List Tap)
    → AreValidTapsOfEach files taps → AreValidTaps file more
    → AreValidTapsOfEach (files ++ file ∷ []) (taps ++ more ∷ [])
each_more [] [] file more each has = (has, tt)
each_more [] (ts ∷ taps) file more each has = absurd each
each_more (f ∷ files) [] file more each has = absurd each
each_more (f ∷ files) (ts ∷ taps) file more each has =
    (each.0, each_more files taps file more each.1 has)

-- files with one reading have one list of taps each
pub one_list : (files : List (List ℕ)) (taps others : List (List Tap)) → All HasUniqueParse files
    → AreValidTapsOfEach files taps → AreValidTapsOfEach files others → taps ≡ others
one_list [] [] [] cuts each other = refl
one_list [] [] (o ∷ others) cuts each other = absurd other
one_list [] (t ∷ taps) others cuts each other = absurd each
one_list (file ∷ files) [] others cuts each other = absurd each
one_list (file ∷ files) (t ∷ taps) [] cuts each other = absurd other
one_list (file ∷ files) (t ∷ taps) (o ∷ others) cuts each other =
    let same = All-head HasUniqueParse file files cuts each.0.batches other.0.batches each.0.rest
    other.0.rest each.0.is_file other.0.is_file in
    let here : t ≡ o = each.0.all ∙ ap taps_of_batches same.0 ∙ sym other.0.all in
    ap (λ x. x ∷ taps) here
    ∙ ap (λ xs. o ∷ xs) (one_list files taps others (All-tail HasUniqueParse file files cuts) each.1
    other.1)
