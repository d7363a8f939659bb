-- An upload that is read in pieces: what its first bytes are, of which the batches were added.
use Rattle.std.proofs.Common.{◌≡◌, ℕ, ◌+◌, ◌≤◌, List, [], ◌∷◌, ◌++◌, All, None, Option, Some, ap}
use Rattle.std.proofs.Common.{append-nil, append_assoc, arith, length, length-append, refl, subst}
use Rattle.std.proofs.Common.{sym, ◌∙◌}
use Rattle.settlement.specs.inside.Taken.{HasToken, HasValidTokens, IsUploadKept, end_at, used_in}
use Rattle.std.proofs.lemmas.List.{Concat.flat_map-append, Elements.All-append, Elements.All-nil}
use Rattle.tap_views.proofs.{ParseLemmas.few, ParseLemmas.no_bytes, Reading.one_list_of_batches}
use Rattle.tap_views.specs.Files.{IsEndAfterBatches, IsFile, taps_of_batches}
use Rattle.tap_views.specs.{Layout.Tap, UploadEnds.end_by, UploadEnds.taps_of_end}
use Rattle.tap_views.specs.declared.{fault.LayoutFault.LayoutFault, upload_end.UploadEnd.UploadEnd}

-- Bytes that are these batches: a file that begins with them begins with these.
abbrev pub AreInFront : List ℕ → List (List Tap) → Type 0
AreInFront bytes batches =
    (more : List ℕ) (others : List (List Tap)) (rest : List ℕ) → IsFile more others rest
    → IsFile (bytes ++ more) (batches ++ others) rest

-- the bytes before a file's rest
in_front : (file : List ℕ) (batches : List (List Tap)) (rest : List ℕ) → IsFile file batches rest
    → (front : List ℕ) × (file ≡ front ++ rest) × AreInFront front batches
in_front file [] rest is = ([], is.0, λ more others left file. file)
in_front file (batch ∷ batches) rest (first, back, is_batch, joined, is) =
    let (front, cut, before) = in_front back batches rest is in (
      first ++ front,
      joined ∙ ap (λ bytes. first ++ bytes) cut ∙ sym (append_assoc first front rest),
      λ more others left file. (
        first,
        front ++ more,
        is_batch,
        append_assoc first front more,
        before more others left file,
      ),
    )

-- The first bytes of an upload are batches of so many taps, which were added to what is kept.
pub record ArePassed {K : Type 0} (keeps : List Tap → K → Type 0) (old new : K) (bytes : List ℕ)
    (taps : ℕ) : Type 0 where
  pub batches : List (List Tap)
  pub front : AreInFront bytes batches
  pub number : taps ≡ length (taps_of_batches batches)
  pub added : (before : List Tap) → keeps before old
      → keeps (before ++ taps_of_batches batches) new
  pub tokens : All HasToken (taps_of_batches batches)

pub none_passed : {K : Type 0} (keeps : List Tap → K → Type 0) (old : K)
    → ArePassed keeps old old [] 0
none_passed keeps old = record {
  batches = [];
  front = λ more others rest file. file;
  number = refl;
  added = λ before kept. subst (λ taps. keeps taps old) (sym (append-nil before)) kept;
  tokens = All-nil HasToken;
}

-- there are no more taps than bytes
pub few_passed : {K : Type 0} (keeps : List Tap → K → Type 0) (old new : K) (bytes : List ℕ)
    (taps : ℕ) → ArePassed keeps old new bytes taps → taps ≤ length bytes
few_passed keeps old new bytes taps passed =
    let file = passed.front [] [] [] (refl, no_bytes) in
    let fits = subst (λ batches. length (taps_of_batches batches) ≤ length (bytes ++ []))
    (append-nil passed.batches) (omega (arith, few _ _ _ file)) in
    omega (arith, fits, passed.number, ap length (append-nil bytes))

taps_by : (taps : ℕ) (fault : Option (ℕ × LayoutFault)) → taps_of_end (end_by taps fault) ≡ taps
taps_by taps None = refl
taps_by taps (Some (offset, fault)) = refl

used_by : (file front rest : List ℕ) (taps : ℕ) (fault : Option (ℕ × LayoutFault))
    → IsEndAfterBatches file rest fault → file ≡ front ++ rest
    → used_in (length file) (end_by taps fault) ≡ length front
used_by file front rest taps None is cut =
    omega (arith, ap length cut, length-append front rest, ap length is)
used_by file front rest taps (Some (offset, fault)) is cut =
    omega (arith, ap length cut, length-append front rest, is.holds_at)

-- how a file ends whose last piece ends so
end_after : (bytes piece rest : List ℕ) (taps offset : ℕ) (fault : Option (ℕ × LayoutFault))
    (more : ℕ) → IsEndAfterBatches piece rest fault
    → offset ≡ length bytes + used_in (length piece) (end_by more fault)
    → (whole : Option (ℕ × LayoutFault)) × IsEndAfterBatches (bytes ++ piece) rest whole
    × (end_at taps offset (end_by more fault) ≡ end_by taps whole)
end_after bytes piece rest taps offset None more is same = (None, is, refl)
end_after bytes piece rest taps offset (Some (at, fault)) more is same = (
  Some (offset, fault),
  record {
    some_byte = is.some_byte;
    is_fault = is.is_fault;
    holds_at = omega (arith, same, is.holds_at, length-append bytes piece);
  },
  refl,
)

-- a piece was added
module _ {K : Type 0} (keeps : List Tap → K → Type 0) (old was new : K) (bytes piece : List ℕ)
    (taps : ℕ) (end : UploadEnd) (passed : ArePassed keeps old was bytes taps)
    (kept : IsUploadKept keeps piece was new end) (valid : HasValidTokens piece) where
  abbrev batches : List (List Tap)
  batches = kept.ended.batches

  of_piece : kept.taps ≡ taps_of_batches batches
  of_piece = kept.of_upload.all
      ∙ ap taps_of_batches (one_list_of_batches piece kept.of_upload.batches batches
      kept.of_upload.rest kept.ended.rest kept.of_upload.is_file kept.ended.is_file).0

  whole : taps_of_batches (passed.batches ++ batches)
      ≡ taps_of_batches passed.batches ++ taps_of_batches batches
  whole = flat_map-append (λ (batch : List Tap). batch) passed.batches batches

  number : taps + taps_of_end end ≡ length (taps_of_batches (passed.batches ++ batches))
  number =
      omega (
        arith,
        passed.number,
        ap taps_of_end kept.ended.ended,
        taps_by (length (taps_of_batches batches)) kept.ended.fault,
        ap length whole,
        length-append (taps_of_batches passed.batches) (taps_of_batches batches),
      )

  added : (before : List Tap) → keeps before old
      → keeps (before ++ taps_of_batches (passed.batches ++ batches)) new
  added before kept_before =
      subst (λ ts. keeps ts new)
      (append_assoc before (taps_of_batches passed.batches) kept.taps
      ∙ ap (λ ts. before ++ (taps_of_batches passed.batches ++ ts)) of_piece
      ∙ ap (λ ts. before ++ ts) (sym whole))
      (kept.added (before ++ taps_of_batches passed.batches) (passed.added before kept_before))

  tokens : All HasToken (taps_of_batches (passed.batches ++ batches))
  tokens = subst (All HasToken) (sym whole)
      (All-append HasToken (taps_of_batches passed.batches) (taps_of_batches batches) passed.tokens
      (subst (All HasToken) of_piece (valid kept.taps kept.of_upload)))

  -- the batches of the piece were passed too, and its rest is left
  pub piece_passed : (front : List ℕ) × (piece ≡ front ++ kept.ended.rest)
      × (used_in (length piece) end ≡ length front)
      × ArePassed keeps old new (bytes ++ front) (taps + taps_of_end end)
  piece_passed =
      let (front, cut, before) = in_front piece batches kept.ended.rest kept.ended.is_file in (
        front,
        cut,
        ap (used_in (length piece)) kept.ended.ended
            ∙ used_by piece front kept.ended.rest (length (taps_of_batches batches))
            kept.ended.fault kept.ended.is_fault cut,
        record {
          batches = passed.batches ++ batches;
          front = λ more others rest file.
              subst (λ bs. IsFile ((bytes ++ front) ++ more) bs rest)
              (sym (append_assoc passed.batches batches others))
              (subst (λ b. IsFile b (passed.batches ++ (batches ++ others)) rest)
              (sym (append_assoc bytes front more))
              (passed.front (front ++ more) (batches ++ others) rest
              (before more others rest file)));
          number = number;
          added = added;
          tokens = tokens;
        },
      )

  -- the piece is the last one
  pub last_kept : (offset : ℕ) → offset ≡ length bytes + used_in (length piece) end
      → (all : IsUploadKept keeps (bytes ++ piece) old new
      (end_at (taps + taps_of_end end) offset end)) × All HasToken all.taps
  last_kept offset position =
      let file = passed.front piece batches kept.ended.rest kept.ended.is_file in
      let more = length (taps_of_batches batches) in
      let (fault, is_fault, ended) = end_after bytes piece kept.ended.rest (taps + taps_of_end end)
      offset kept.ended.fault more kept.ended.is_fault
      (position ∙ ap (λ e. length bytes + used_in (length piece) e) kept.ended.ended) in (
        record {
          taps = taps_of_batches (passed.batches ++ batches);
          of_upload = record {
            batches = passed.batches ++ batches;
            rest = kept.ended.rest;
            is_file = file;
            all = refl;
          };
          ended = record {
            batches = passed.batches ++ batches;
            rest = kept.ended.rest;
            fault = fault;
            is_file = file;
            is_fault = is_fault;
            ended = ap (end_at (taps + taps_of_end end) offset) kept.ended.ended ∙ ended
                ∙ ap (λ n. end_by n fault) number;
          };
          added = added;
        },
        tokens,
      )

-- a piece has no more taps than bytes
pub few_kept : {K : Type 0} (keeps : List Tap → K → Type 0) (old new : K) (piece : List ℕ)
    (end : UploadEnd) → IsUploadKept keeps piece old new end → taps_of_end end ≤ length piece
few_kept keeps old new piece end kept =
    omega (
      arith,
      few piece kept.ended.batches kept.ended.rest kept.ended.is_file,
      ap taps_of_end kept.ended.ended,
      taps_by (length (taps_of_batches kept.ended.batches)) kept.ended.fault,
    )

-- and its valid batches have no more bytes
pub used_kept : {K : Type 0} (keeps : List Tap → K → Type 0) (old new : K) (piece : List ℕ)
    (end : UploadEnd) → IsUploadKept keeps piece old new end
    → used_in (length piece) end ≤ length piece
used_kept keeps old new piece end kept =
    let (front, cut, before) = in_front piece kept.ended.batches kept.ended.rest
    kept.ended.is_file in
    omega (
      arith,
      ap (used_in (length piece)) kept.ended.ended,
      used_by piece front kept.ended.rest (length (taps_of_batches kept.ended.batches))
          kept.ended.fault kept.ended.is_fault cut,
      ap length cut,
      length-append front kept.ended.rest,
    )
