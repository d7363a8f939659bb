-- What a reader of bytes is given: there is one list of items for all bytes, and it is the file's
-- batches and its end.
use Rattle.std.proofs.Common.{◌≡◌, ℕ, zero, suc, ◌+◌, ◌-◌, ◌*◌, ◌<◌, ◌≤◌, List, [], ◌∷◌, ◌++◌}
use Rattle.std.proofs.Common.{length, map, drop, Ok, Err, None, Some, refl, sym, ap, subst, ◌∙◌}
use Rattle.std.proofs.Common.{inl, inr, append-nil, arith}
use Rattle.std.proofs.lemmas.List.{length-append, length-drop, drop-drop, append_cancel_right}
use Rattle.std.proofs.lemmas.List.{nil_from_length}
use Rattle.tap_views.proofs.Deciding.{same_fault, decided, Found}
use Rattle.tap_views.proofs.{Finding.first_fault-none, Finding.first_fault-some, Grammar.begins}
use Rattle.tap_views.proofs.{Grammar.no_row, ParseLemmas.no_bytes, ParseLemmas.rest_short}
use Rattle.tap_views.specs.Faults.{header, width, layout_in, count_in, size_in, IsFault}
use Rattle.tap_views.specs.Files.{HasNoBatch, IsFile, Item, IsEnd, IsParse, IsReadAs}
use Rattle.tap_views.specs.Files.{IsEndAfterBatches}
use Rattle.tap_views.specs.Layout.{Tap, Layout, Tap1, Tap2, magic, IsBatch}
use Rattle.tap_views.specs.{declared.fault.LayoutFault.LayoutFault, inside.Faults.AllEarly}
use Rattle.tap_views.specs.inside.Readings.{found_fault, first_taps, items_within, items_from}
use Rattle.tap_views.specs.inside.Readings.{batches_among, fault_among, valid_among, valid_from}

-- ---- one batch
length-magic : (layout : Layout) → length (magic layout) ≡ 4
length-magic Tap1 = refl
length-magic (Tap2 all) = refl

-- no batch is empty
pub batch_some : (front : List ℕ) (taps : List Tap) → IsBatch front taps → 0 < length front
batch_some front taps (layout, batch) =
    omega (
      arith,
      ap length batch.spelled,
      simp length-append at (ap length batch.spelled),
      length-magic layout,
    )

pub one_batch : (bytes front front' rest rest' : List ℕ) (taps taps' : List Tap)
    → IsBatch front taps → bytes ≡ front ++ rest
    → IsBatch front' taps' → bytes ≡ front' ++ rest' → (taps ≡ taps') × (rest ≡ rest')
    × (front ≡ front')
one_batch bytes front front' rest rest' taps taps' batch is batch' is' =
    let begin = begins batch.0 front taps rest bytes batch.1 is in
    let begin' = begins batch'.0 front' taps' rest' bytes batch'.1 is' in
    let number : length taps ≡ length taps' = sym begin.count ∙ begin'.count in
    let same_taps : taps ≡ taps' = sym begin.cut_again ∙ rw number begin'.cut_again in
    let same_rest : rest ≡ rest' = sym begin.left ∙ rw number begin'.left in
    let joined : front ++ rest ≡ front' ++ rest =
    sym is ∙ is' ∙ ap (λ (xs : List ℕ). front' ++ xs) (sym same_rest) in
    (same_taps, same_rest, append_cancel_right front front' rest joined)

-- bytes with a fault begin with no batch
pub no_batch : (bytes : List ℕ) (fault : LayoutFault) → IsFault bytes fault → HasNoBatch bytes
no_batch bytes fault is front rest taps batch whole =
    no_row bytes taps rest fault (begins batch.0 front taps rest bytes batch.1 whole) is.holds

-- ---- the items that are given of bytes at an offset
abbrev pub Gives : ℕ → List ℕ → List Item → Type 0
Gives offset bytes [] = bytes ≡ []
Gives offset bytes (Ok taps ∷ items) =
    (front : List ℕ) × (back : List ℕ) × IsBatch front taps × (bytes ≡ front ++ back)
    × Gives (offset + length front) back items
Gives offset bytes (Err stop ∷ items) =
    (stop.0 ≡ offset) × ¬ (bytes ≡ []) × IsFault bytes stop.1 × (items ≡ [])

-- there is one such list at most
pub unique_parse : (offset : ℕ) (bytes : List ℕ) (xs ys : List Item) → Gives offset bytes xs
    → Gives offset bytes ys → xs ≡ ys
unique_parse offset bytes [] [] gives gives' = refl
unique_parse offset bytes [] (Ok taps ∷ ys) gives gives' =
    absurd (omega (
      arith,
      batch_some gives'.0 taps gives'.2,
      ap length gives,
      ap length gives'.3,
      length-append gives'.0 gives'.1,
    ))
unique_parse offset bytes [] (Err stop ∷ ys) gives gives' = absurd (gives'.1 gives)
unique_parse offset bytes (Ok taps ∷ xs) [] gives gives' =
    absurd (omega (
      arith,
      batch_some gives.0 taps gives.2,
      ap length gives',
      ap length gives.3,
      length-append gives.0 gives.1,
    ))
unique_parse offset bytes (Ok taps ∷ xs) (Ok taps' ∷ ys) gives gives' =
    let same = one_batch bytes gives.0 gives'.0 gives.1 gives'.1 taps taps' gives.2 gives.3 gives'.2
    gives'.3 in
    let P : List ℕ → Type 0 = λ front. Gives (offset + length front) gives.1 ys in
    let Q : List ℕ → Type 0 = λ back. Gives (offset + length gives'.0) back ys in
    let more : xs ≡ ys = unique_parse (offset + length gives.0) gives.1 xs ys gives.4
    (subst P (sym same.2) (subst Q (sym same.1) gives'.4)) in
    rw (same.0, more) refl
unique_parse offset bytes (Ok taps ∷ xs) (Err stop ∷ ys) gives gives' =
    absurd (no_batch bytes stop.1 gives'.2 gives.0 gives.1 taps gives.2 gives.3)
unique_parse offset bytes (Err stop ∷ xs) [] gives gives' = absurd (gives.1 gives')
unique_parse offset bytes (Err stop ∷ xs) (Ok taps ∷ ys) gives gives' =
    absurd (no_batch bytes stop.1 gives.2 gives'.0 gives'.1 taps gives'.2 gives'.3)
unique_parse offset bytes (Err stop ∷ xs) (Err stop' ∷ ys) gives gives' =
    let position : stop.0 ≡ stop'.0 = gives.0 ∙ sym gives'.0 in
    let fault : stop.1 ≡ stop'.1 = same_fault bytes stop.1 stop'.1 gives.2 gives'.2 in
    rw (gives.3, gives'.3, position, fault) refl

-- and there is one
sound_taps : (bytes front rest : List ℕ) (taps : List Tap) → IsBatch front taps
    → bytes ≡ front ++ rest
    → (found_fault bytes ≡ None) × (first_taps bytes ≡ taps) × (drop (size_in bytes) bytes ≡ rest)
    × (size_in bytes ≡ length front)
sound_taps bytes front rest taps batch is =
    let begin = begins batch.0 front taps rest bytes batch.1 is in
    let P : ℕ → Type 0 = λ n. AllEarly bytes n in
    let number : count_in bytes ≡ length taps = begin.count in
    let trailing : drop (size_in bytes) bytes ≡ rest =
    sym (drop-drop (width (layout_in bytes) * count_in bytes) (header (layout_in bytes)) bytes)
    ∙ rw number begin.left in (
      first_fault-none bytes (λ fault. no_row bytes taps rest fault begin)
          (subst P (sym number) begin.early),
      rw number begin.cut_again,
      trailing,
      omega (
        arith,
        ap length is,
        length-append front rest,
        ap length trailing,
        length-drop (size_in bytes) bytes,
        begin.long,
      ),
    )

gives_within : (fuel offset : ℕ) (bytes : List ℕ) → length bytes ≤ fuel
    → Gives offset bytes (items_within fuel offset bytes)
gives_within zero offset bytes within = nil_from_length bytes (omega (arith, within))
gives_within (suc fuel) offset [] within = refl
gives_within (suc fuel) offset (byte ∷ more) within =
    go (λ at back less. gives_within fuel at back less) (decided (byte ∷ more))
  where
    go : ((at : ℕ) (back : List ℕ) → length back ≤ fuel → Gives at back (items_within fuel at back))
        → Found (byte ∷ more)
        → Gives offset (byte ∷ more) (items_within (suc fuel) offset (byte ∷ more))
    go again (inl found) =
        let front = found.0 in
        let rest = found.2 in
        let is = sound_taps (byte ∷ more) front rest found.1 found.3 found.4 in
        let less : length rest ≤ fuel =
        omega (
          arith,
          within,
          batch_some front found.1 found.3,
          ap length found.4,
          length-append front rest,
        ) in
        rw (is.0, is.1, is.2, is.3)
        (front, rest, found.3, found.4, again (offset + length front) rest less)
    go again (inr found) = rw (first_fault-some (byte ∷ more) found.0 found.1)
        (refl, (λ none. cc), found.1, refl)

pub gives_items : (offset : ℕ) (bytes : List ℕ) → Gives offset bytes (items_from offset bytes)
gives_items offset bytes = gives_within (length bytes) offset bytes (omega arith)

-- ---- what a step gives
items-batch : (offset : ℕ) (bytes front rest : List ℕ) (taps : List Tap) → IsBatch front taps
    → bytes ≡ front ++ rest
    → items_from offset bytes ≡ Ok taps ∷ items_from (offset + length front) rest
items-batch offset bytes front rest taps batch is =
    unique_parse offset bytes _ _ (gives_items offset bytes)
    (front, rest, batch, is, gives_items (offset + length front) rest)

-- the offset goes on by the bytes that were taken
pub step-batch : (offset : ℕ) (bytes front rest : List ℕ) (taps : List Tap) → IsBatch front taps
    → bytes ≡ front ++ rest
    → items_from offset bytes ≡ Ok taps ∷ items_from (offset + (length bytes - length rest)) rest
step-batch offset bytes front rest taps batch is =
    let taken : length front ≡ length bytes - length rest =
    omega (arith, ap length is, length-append front rest) in
    items-batch offset bytes front rest taps batch is
    ∙ ap (λ (n : ℕ). Ok taps ∷ items_from (offset + n) rest) taken

pub step-none : (offset : ℕ) → items_from offset [] ≡ []
step-none offset = unique_parse offset [] _ _ (gives_items offset []) refl

pub step-fault : (offset : ℕ) (bytes : List ℕ) (fault : LayoutFault) → ¬ (bytes ≡ [])
    → IsFault bytes fault
    → items_from offset bytes ≡ Err (offset, fault) ∷ items_from offset []
step-fault offset bytes fault some is =
    unique_parse offset bytes _ _ (gives_items offset bytes) (refl, some, is, refl)
    ∙ ap (λ (xs : List Item). Err (offset, fault) ∷ xs) (sym (step-none offset))

-- ---- the items are the file's batches and its end
record IsReadFrom (offset : ℕ) (file : List ℕ) (items : List Item) : Type 0 where
  pub batches : List (List Tap)
  pub rest : List ℕ
  pub last : List Item
  pub is_file : IsFile file batches rest
  pub is_end : IsEnd (offset + (length file - length rest)) rest last
  pub given : items ≡ map Ok batches ++ last

end_of : (offset : ℕ) (bytes : List ℕ) (stop : ℕ × LayoutFault) → stop.0 ≡ offset → ¬ (bytes ≡ [])
    → IsFault bytes stop.1
    → IsEnd (offset + (length bytes - length bytes)) bytes (Err stop ∷ [])
end_of offset [] stop position some is = absurd (some refl)
end_of offset (byte ∷ bytes) stop position some is =
    let here : stop.0 ≡ offset + (length (byte ∷ bytes) - length (byte ∷ bytes)) =
    omega (arith, position) in
    (stop.1, is, ap (λ (n : ℕ). Err (n, stop.1) ∷ []) here)

read_from : (offset : ℕ) (bytes : List ℕ) (items : List Item) → Gives offset bytes items
    → IsReadFrom offset bytes items
read_from offset bytes [] gives = record {
  batches = [];
  rest = [];
  last = [];
  is_file = (gives, no_bytes);
  is_end = refl;
  given = refl;
}
read_from offset bytes (Ok taps ∷ items) gives =
    let more = read_from (offset + length gives.0) gives.1 items gives.4 in
    let position : offset + length gives.0 + (length gives.1 - length more.rest)
    ≡ offset + (length bytes - length more.rest) =
    omega (
      arith,
      rest_short gives.1 more.batches more.rest more.is_file,
      ap length gives.3,
      length-append gives.0 gives.1,
    ) in
    let P : ℕ → Type 0 = λ n. IsEnd n more.rest more.last in
    record {
      batches = taps ∷ more.batches;
      rest = more.rest;
      last = more.last;
      is_file = (gives.0, gives.1, gives.2, gives.3, more.is_file);
      is_end = subst P position more.is_end;
      given = ap (λ (xs : List Item). Ok taps ∷ xs) more.given;
    }
read_from offset bytes (Err stop ∷ items) gives = record {
  batches = [];
  rest = bytes;
  last = Err stop ∷ [];
  is_file = (refl, no_batch bytes stop.1 gives.2);
  is_end = end_of offset bytes stop gives.0 gives.1 gives.2;
  given = ap (λ (xs : List Item). Err stop ∷ xs) gives.3;
}

pub is_parse : (file : List ℕ) → IsParse file (items_from 0 file)
is_parse file =
    let is = read_from 0 file (items_from 0 file) (gives_items 0 file) in
    let start : 0 + (length file - length is.rest) ≡ length file - length is.rest = omega arith in
    let P : ℕ → Type 0 = λ n. IsEnd n is.rest is.last in
    record {
      batches = is.batches;
      rest = is.rest;
      last = is.last;
      is_file = is.is_file;
      is_end = subst P start is.is_end;
      given = is.given;
    }

-- ---- a file has one cut
pub one_list_of_batches : (file : List ℕ) (xs ys : List (List Tap)) (r s : List ℕ)
    → IsFile file xs r
    → IsFile file ys s → (xs ≡ ys) × (r ≡ s)
one_list_of_batches file [] [] r s is is' = (refl, sym is.0 ∙ is'.0)
one_list_of_batches file [] (y ∷ ys) r s is is' =
    absurd (is.1 is'.0 is'.1 y is'.2 (sym is.0 ∙ is'.3))
one_list_of_batches file (x ∷ xs) [] r s is is' = absurd (is'.1 is.0 is.1 x is.2 (sym is'.0 ∙ is.3))
one_list_of_batches file (x ∷ xs) (y ∷ ys) r s is is' =
    let same = one_batch file is.0 is'.0 is.1 is'.1 x y is.2 is.3 is'.2 is'.3 in
    let P : List ℕ → Type 0 = λ back. IsFile back ys s in
    let more = one_list_of_batches is.1 xs ys r s is.4 (subst P (sym same.1) is'.4) in
    (rw (same.0, more.0) refl, more.1)

-- ---- the good batches, and the fault behind them
among : (batches : List (List Tap)) (last : List Item)
    → (batches_among (map Ok batches ++ last) ≡ batches ++ batches_among last)
    × (fault_among (map Ok batches ++ last) ≡ fault_among last)
among [] last = (refl, refl)
among (batch ∷ batches) last =
    (ap (λ bs. batch ∷ bs) (among batches last).0, (among batches last).1)

end_among : (file rest : List ℕ) (last : List Item) → length rest ≤ length file
    → IsEnd (length file - length rest) rest last
    → (batches_among last ≡ []) × IsEndAfterBatches file rest (fault_among last)
end_among file [] last short is = rw is (refl, refl)
end_among file (byte ∷ bytes) last short (fault, is, given) = rw given (
  refl,
  record {
    some_byte = omega arith;
    is_fault = is;
    holds_at = omega (arith, short);
  },
)

pub is_read_as : (file : List ℕ)
    → IsReadAs file (valid_from 0 file).batches (valid_from 0 file).fault
is_read_as file =
    let r = is_parse file in
    let all = among r.batches r.last in
    let end = end_among file r.rest r.last (rest_short file r.batches r.rest r.is_file) r.is_end in
    let batches : (valid_from 0 file).batches ≡ r.batches =
    ap batches_among r.given ∙ (all.0
    ∙ (ap (λ bs. r.batches ++ bs) end.0 ∙ append-nil r.batches)) in
    let fault : (valid_from 0 file).fault ≡ fault_among r.last =
    ap fault_among r.given ∙ all.1 in
    record {
      rest = r.rest;
      is_file = subst (λ bs. IsFile file bs r.rest) (sym batches) r.is_file;
      is_end = subst (IsEndAfterBatches file r.rest) (sym fault) end.1;
    }

-- a batch that the bytes begin with is the first of those that are left
pub valid-batch : (offset : ℕ) (bytes front rest : List ℕ) (taps : List Tap) → IsBatch front taps
    → bytes ≡ front ++ rest → valid_from offset bytes
    ≡ (let now = valid_from (offset + (length bytes - length rest)) rest in
    record now { batches = taps ∷ now.batches })
valid-batch offset bytes front rest taps batch is =
    ap valid_among (step-batch offset bytes front rest taps batch is)

-- bytes with a fault have no batch left, and that fault if there are any bytes
pub valid-fault : (offset : ℕ) (bytes : List ℕ) (fault : LayoutFault) → ¬ (bytes ≡ [])
    → IsFault bytes fault → (valid_from offset bytes).fault ≡ Some (offset, fault)
valid-fault offset bytes fault some is =
    ap fault_among (step-fault offset bytes fault some is)

pub valid-none : (offset : ℕ) (bytes : List ℕ) (fault : LayoutFault) → IsFault bytes fault
    → (valid_from offset bytes).batches ≡ []
valid-none offset [] fault is = ap batches_among (step-none offset)
valid-none offset (byte ∷ bytes) fault is =
    ap batches_among (step-fault offset (byte ∷ bytes) fault (λ none. cc) is)
