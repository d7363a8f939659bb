-- Uploads that were read one after another, and what is kept of them.
use Rattle.std.proofs.Common.{◌≡◌, ℕ, suc, ◌+◌, ◌-◌, ◌<◌, ◌≤◌, List, ◌∷◌, ◌++◌, All, length, get_or}
use Rattle.std.proofs.Common.{[], ap, ◌∙◌, sym, subst, arith, inl, inr, length-append, append-nil}
use Rattle.std.proofs.Common.{append_assoc}
use Rattle.settlement.specs.{Reading.AreRead, Reading.loads_in_order, inside.Taken.AreInRuns}
use Rattle.settlement.specs.inside.Taken.{AreTaken, HasToken, IsUploadTaken}
use Rattle.std.proofs.lemmas.{Bool.cases_lt, List.get_or_append_left, List.get_or-append-add}
use Rattle.std.proofs.lemmas.List.{Concat.flat_map-append, Elements.All-append, Elements.All-nil}
use Rattle.std.specs.Prelude.{◌⊎◌}
use Rattle.tap_parts.specs.Parts.{taps_of_uploads}
use Rattle.tap_views.proofs.Lists.{AllZip-append}
use Rattle.tap_views.specs.{Files.AreValidTaps, Layout.Tap, UploadEnds.IsPlainEnd}
use Rattle.tap_views.specs.declared.upload_end.UploadEnd.{UploadEnd}
use Rattle.world.proofs.Laws.{joined_loads, more_loads, no_loads}
use Rattle.world.specs.Origins.{IsFrom, IsProvided, Origin, loads_from, with_loads}
use Rattle.world.specs.Run.{Run, nothing_yet, with_all}

loads_append : (origin : ℕ → Origin) (start : ℕ) (xs ys : List (List ℕ))
    → loads_in_order origin start (xs ++ ys)
    ≡ loads_in_order origin start xs ++ loads_in_order origin (start + length xs) ys
loads_append origin start [] ys =
    let same : start ≡ start + 0 = omega arith in ap (λ n. loads_in_order origin n ys) same
loads_append origin start (x ∷ xs) ys =
    let same : suc start + length xs ≡ start + suc (length xs) = omega arith in
    let one = loads_from (origin start) x in
    ap (λ zs. one ++ zs)
    (loads_append origin (suc start) xs ys
    ∙ ap (λ n. loads_in_order origin (suc start) xs ++ loads_in_order origin n ys) same)
    ∙ sym (append_assoc one (loads_in_order origin (suc start) xs)
    (loads_in_order origin (start + suc (length xs)) ys))

pub none_read : (origin : ℕ → Origin) (start : ℕ) (r : Run) → AreRead origin start start [] r r
none_read origin start r = record {
  number = omega arith;
  each = λ at below. absurd (omega (arith, below));
  loads = sym (no_loads r);
}

-- the files of two runs, one after the other
pub both_read : (origin : ℕ → Origin) (start middle end : ℕ) (front back : List (List ℕ))
    (r s t : Run) → AreRead origin start middle front r s → AreRead origin middle end back s t
    → AreRead origin start end (front ++ back) r t
both_read origin start middle end front back r s t one other = record {
  number = omega (arith, one.number, other.number, length-append front back);
  each = λ at below. by_position at below (cases_lt at (length front));
  loads = other.loads
      ∙ ap (λ x. with_loads x (loads_in_order origin middle back)) one.loads
      ∙ more_loads r (loads_in_order origin start front) (loads_in_order origin middle back)
      ∙ ap (λ n. with_loads r
      (loads_in_order origin start front ++ loads_in_order origin n back)) (sym one.number)
      ∙ ap (with_loads r) (sym (loads_append origin start front back));
}
  where
    by_position : (at : ℕ) → at < length (front ++ back) → (at < length front) ⊎ (length front ≤ at)
        → IsFrom (origin (start + at)) (get_or (front ++ back) at [])
    by_position at below (inl before) =
        subst (IsFrom (origin (start + at))) (sym (get_or_append_left front back [] at before))
        (one.each at before)
    by_position at below (inr past) =
        let k = at - length front in
        let here : length front + k ≡ at = omega (arith, past) in
        let there : middle + k ≡ start + at = omega (arith, past, one.number) in
        let inside : k < length back = omega (arith, past, below, length-append front back) in
        let same : get_or (front ++ back) at [] ≡ get_or back k [] =
        ap (λ n. get_or (front ++ back) n []) (sym here) ∙ get_or-append-add front back k [] in
        subst (λ n. IsFrom (origin n) (get_or (front ++ back) at [])) there
        (subst (IsFrom (origin (middle + k))) (sym same) (other.each k inside))

-- one file more
pub one_read : (origin : ℕ → Origin) (upload : ℕ) (bytes : List ℕ) (r s : Run)
    → IsProvided (origin upload) r s bytes → AreRead origin upload (upload + 1) (bytes ∷ []) r s
one_read origin upload bytes r s provided = record {
  number = omega arith;
  each = λ at below.
      let first : 0 ≡ at = omega (arith, below) in
      let same : upload ≡ upload + 0 = omega arith in
      subst (λ n. IsFrom (origin (upload + n)) (get_or (bytes ∷ []) n [])) first
      (subst (λ n. IsFrom (origin n) bytes) same provided.from);
  loads = provided.loads
      ∙ ap (with_loads r) (sym (append-nil (loads_from (origin upload) bytes)));
}

-- the files that a thread read, once its calls are joined
pub joined_read : (origin : ℕ → Origin) (start end : ℕ) (files : List (List ℕ)) (r s t : Run)
    → AreRead origin start end files nothing_yet s → t ≡ with_all r s
    → AreRead origin start end files r t
joined_read origin start end files r s t read joined = record {
  number = read.number;
  each = read.each;
  loads = joined ∙ ap (with_all r) read.loads
      ∙ joined_loads r (loads_in_order origin start files);
}

-- ---- what is kept
pub none_taken : (origin : ℕ → Origin) (start : ℕ) (said : List Tap → Type 0) (r : Run) → said []
    → AreTaken origin start start said [] r r
none_taken origin start said r holds = record {
  files = [];
  read = none_read origin start r;
  taps = [];
  of_files = tt;
  ended = tt;
  tokens = All-nil HasToken;
  holds = holds;
}

-- uploads, and then more of them
both_taken : (origin : ℕ → Origin) (start middle end : ℕ) (one other both : List Tap → Type 0)
    (ends more : List UploadEnd) (r s t : Run) → AreTaken origin start middle one ends r s
    → AreTaken origin middle end other more s t
    → ((xs ys : List Tap) → one xs → other ys → both (xs ++ ys))
    → AreTaken origin start end both (ends ++ more) r t
both_taken origin start middle end one other both ends more r s t front back join =
    let whole = flat_map-append (λ (upload : List Tap). upload) front.taps back.taps in
    record {
      files = front.files ++ back.files;
      read = both_read origin start middle end front.files back.files r s t front.read back.read;
      taps = front.taps ++ back.taps;
      of_files = AllZip-append AreValidTaps front.files front.taps back.files back.taps
          front.of_files back.of_files;
      ended = AllZip-append IsPlainEnd front.files ends back.files more front.ended back.ended;
      tokens = subst (All HasToken) (sym whole)
          (All-append HasToken (taps_of_uploads front.taps) (taps_of_uploads back.taps)
          front.tokens back.tokens);
      holds = subst both (sym whole)
          (join (taps_of_uploads front.taps) (taps_of_uploads back.taps) front.holds back.holds);
    }

-- one upload more
pub upload_taken : {K : Type 0} (keeps : List Tap → K → Type 0) (origin : ℕ → Origin)
    (start upload : ℕ) (old new : K) (ends : List UploadEnd) (end : UploadEnd) (r s t : Run)
    → AreTaken origin start upload (λ taps. keeps taps old) ends r s
    → IsUploadTaken keeps (origin upload) old new end s t
    → AreTaken origin start (upload + 1) (λ taps. keeps taps new) (ends ++ end ∷ []) r t
upload_taken keeps origin start upload old new ends end r s t front taken =
    let kept = taken.kept in
    both_taken origin start upload (upload + 1) (λ taps. keeps taps old) (λ taps. taps ≡ kept.taps)
    (λ taps. keeps taps new) ends (end ∷ []) r s t front (record {
      files = taken.file ∷ [];
      read = one_read origin upload taken.file s t taken.provided;
      taps = kept.taps ∷ [];
      of_files = (kept.of_upload, tt);
      ended = (kept.ended, tt);
      tokens = subst (All HasToken) (sym (append-nil kept.taps)) taken.tokens;
      holds = append-nil kept.taps;
    })
    (λ xs ys before same. subst (λ zs. keeps (xs ++ zs) new) (sym same) (kept.added xs before))

-- what one thread kept
pub run_taken : {K : Type 0} (keeps : List Tap → K → Type 0) (origin : ℕ → Origin)
    (start end : ℕ) (kept : K) (ends : List UploadEnd) (r s : Run)
    → AreTaken origin start end (λ taps. keeps taps kept) ends r s
    → AreTaken origin start end (AreInRuns keeps (kept ∷ [])) ends r s
run_taken keeps origin start end kept ends r s is = record {
  files = is.files;
  read = is.read;
  taps = is.taps;
  of_files = is.of_files;
  ended = is.ended;
  tokens = is.tokens;
  holds = record {
    runs = taps_of_uploads is.taps ∷ [];
    whole = sym (append-nil (taps_of_uploads is.taps));
    each = (is.holds, tt);
  };
}

-- what two threads kept
pub joined_taken : {K : Type 0} (keeps : List Tap → K → Type 0) (origin : ℕ → Origin)
    (start middle end : ℕ) (kept more : List K) (ends later : List UploadEnd) (r s t : Run)
    → AreTaken origin start middle (AreInRuns keeps kept) ends nothing_yet r
    → AreTaken origin middle end (AreInRuns keeps more) later nothing_yet s → t ≡ with_all r s
    → AreTaken origin start end (AreInRuns keeps (kept ++ more)) (ends ++ later) nothing_yet t
joined_taken keeps origin start middle end kept more ends later r s t front back joined =
    both_taken origin start middle end (AreInRuns keeps kept) (AreInRuns keeps more)
    (AreInRuns keeps (kept ++ more)) ends later nothing_yet r t front (record {
      files = back.files;
      read = joined_read origin middle end back.files r s t back.read joined;
      taps = back.taps;
      of_files = back.of_files;
      ended = back.ended;
      tokens = back.tokens;
      holds = back.holds;
    })
    (λ xs ys one other. record {
      runs = one.runs ++ other.runs;
      whole = ap (λ zs. zs ++ ys) one.whole ∙ ap (λ zs. taps_of_uploads one.runs ++ zs) other.whole
          ∙ sym (flat_map-append (λ (run : List Tap). run) one.runs other.runs);
      each = AllZip-append keeps one.runs kept other.runs more one.each other.each;
    })
