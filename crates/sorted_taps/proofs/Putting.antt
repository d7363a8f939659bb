-- Taps that are written in batches of 512.
use Rattle.std.proofs.Common.{◌≡◌, ℕ, ◌+◌, ◌<◌, ◌≤◌, List, [], ◌∷◌, ◌++◌, flat_map, length, refl}
use Rattle.std.proofs.Common.{sym, ap, subst, ◌∙◌, arith, append-nil, append_assoc, take, get_or}
use Rattle.std.proofs.Common.{Ok, Err}
use Rattle.sorted_taps.specs.Written.{AreBatchesOf, AreFilled, IsWritten}
use Rattle.sorted_taps.specs.inside.Waiting.{HasPut, IsBatchWritten, MayWait}
use Rattle.std.proofs.KnownBytes.{Appends-nil, Appends-trans}
use Rattle.std.proofs.lemmas.List.{flat_map_more, take_more, Concat.flat_map-append}
use Rattle.std.specs.{List.AllByRecursion, Prelude.IfErr, Prelude.Option, Prelude.Result}
use Rattle.tap_parts.proofs.FullBatches.{zip_more}
use Rattle.tap_views.proofs.Texts.{more_text, no_text}
use Rattle.tap_views.specs.{Encoding.Encodes, Files.IsFileOf, declared.encoder.TapFields.TapFields}

abbrev IsFull : List TapFields → Type 0
IsFull batch = length batch ≡ 512

abbrev joined : List (List TapFields) → List TapFields
joined batches = flat_map (λ batch. batch) batches

-- one full batch more
full_more : (batches : List (List TapFields)) (batch : List TapFields)
    → AllByRecursion (λ (one : List TapFields). length one ≡ 512) batches → length batch ≡ 512
    → AllByRecursion (λ (one : List TapFields). length one ≡ 512) (batches ++ batch ∷ [])
full_more [] batch full last = (last, tt)
full_more (first ∷ batches) batch full last = (full.0, full_more batches batch full.1 last)

filled_whole : (batches : List (List TapFields)) → AllByRecursion IsFull batches → AreFilled batches
filled_whole [] full = tt
filled_whole (first ∷ batches) full =
    let size : length first ≡ 512 = full.0 in
    (omega (arith, size), omega (arith, size), λ more. size, filled_whole batches full.1)

filled_more : (batches : List (List TapFields)) (batch : List TapFields)
    → AllByRecursion IsFull batches → 0 < length batch → length batch ≤ 512
    → AreFilled (batches ++ batch ∷ [])
filled_more [] batch full some most = (some, most, λ more. absurd (omega (arith, more)), tt)
filled_more (first ∷ batches) batch full some most =
    let size : length first ≡ 512 = full.0 in (
      omega (arith, size),
      omega (arith, size),
      λ more. size,
      filled_more batches batch full.1 some most,
    )

joined_more : (batches : List (List TapFields)) (batch : List TapFields)
    → joined (batches ++ batch ∷ []) ≡ joined batches ++ batch
joined_more batches batch =
    flat_map-append (λ (one : List TapFields). one) batches (batch ∷ [])
    ∙ ap (λ end. joined batches ++ end) (append-nil batch)

-- a batch more
batches_more : (bytes text : List ℕ) (batches : List (List TapFields)) (batch : List TapFields)
    → AreBatchesOf bytes batches → Encodes text batch
    → AreBatchesOf (bytes ++ text) (batches ++ batch ∷ [])
batches_more bytes text batches batch are encoded = record {
  texts = are.texts ++ text ∷ [];
  each = zip_more are.texts batches text batch are.each encoded;
  all_bytes = ap (λ b. b ++ text) are.all_bytes
      ∙ sym (flat_map-append (λ (one : List ℕ). one) are.texts (text ∷ [])
      ∙ ap (λ end. flat_map (λ one. one) are.texts ++ end) (append-nil text));
}

pub may_wait_none : (waiting : List TapFields) → waiting ≡ [] → MayWait waiting
may_wait_none waiting none =
    let size = ap length none in
    record {
      most = omega (arith, size);
      early = λ k d inside. absurd (omega (arith, inside, size));
    }

-- the taps of one list more
pub list_more : {X : Type 0} (items : X → List TapFields) (lists : List X) (i : ℕ) (d : X)
    → i < length lists
    → flat_map items (take i lists) ++ items (get_or lists i d)
    ≡ flat_map items (take (i + 1) lists)
list_more items lists i d inside =
    flat_map_more items [] (take i lists) (get_or lists i d)
    ∙ ap (λ front. flat_map items front) (sym (take_more lists i d inside))

-- what holds after any fault
pub if_any : {T E : Type 0} (Q : E → Type 0) (result : Result T E) → ((fault : E) → Q fault)
    → IfErr result Q
if_any Q (Ok value) holds = tt
if_any Q (Err fault) holds = holds fault

-- at the begin nothing is written, and no tap waits
pub put_none : (old : Option (List ℕ)) → HasPut old old [] []
put_none old = record {
  part = record {
    text = [];
    batches = [];
    are = record { texts = []; each = tt; all_bytes = refl };
    full = tt;
    appended = Appends-nil old;
  };
  reads = no_text;
  all_taps = refl;
}

-- the taps that waited were written as a full batch
pub put_batch : (old here there : Option (List ℕ)) (taps waiting : List TapFields)
    → HasPut old here taps waiting → length waiting ≡ 512 → IsBatchWritten here there waiting
    → HasPut old there taps []
put_batch old here there taps waiting put full (text, encoded, appended) =
    let part = put.part in
    record {
      part = record {
        text = part.text ++ text;
        batches = part.batches ++ waiting ∷ [];
        are = batches_more part.text text part.batches waiting part.are encoded;
        full = full_more part.batches waiting part.full full;
        appended = Appends-trans old here there part.text text part.appended appended;
      };
      reads = subst (λ taps. IsFileOf (part.text ++ text) taps)
          (sym (joined_more part.batches waiting))
          (more_text part.text text (joined part.batches) waiting put.reads encoded);
      all_taps = put.all_taps ∙ sym (joined_more part.batches waiting)
          ∙ sym (append-nil (joined (part.batches ++ waiting ∷ [])));
    }

-- one tap more waits
pub put_tap : (old new : Option (List ℕ)) (taps waiting more : List TapFields) (tap : TapFields)
    → HasPut old new taps waiting → more ≡ waiting ++ tap ∷ []
    → HasPut old new (taps ++ tap ∷ []) more
put_tap old new taps waiting more tap put is = record {
  part = put.part;
  reads = put.reads;
  all_taps = ap (λ l. l ++ tap ∷ []) put.all_taps
      ∙ append_assoc (joined put.part.batches) waiting (tap ∷ [])
      ∙ ap (λ l. joined put.part.batches ++ l) (sym is);
}

-- the same under other names
pub put_same : (old here out : Option (List ℕ)) (taps waiting pending : List TapFields)
    → out ≡ here → pending ≡ waiting → HasPut old here taps waiting → HasPut old out taps pending
put_same old here out taps waiting pending same is put =
    subst (λ o. HasPut old o taps pending) (sym same)
    (subst (λ l. HasPut old here taps l) (sym is) put)

-- no tap waits
pub written_whole : (old new : Option (List ℕ)) (taps waiting : List TapFields)
    → HasPut old new taps waiting → waiting ≡ [] → IsWritten old new taps
written_whole old new taps waiting put none =
    let all : taps ≡ joined put.part.batches =
    put.all_taps ∙ ap (λ l. joined put.part.batches ++ l) none ∙ append-nil (joined put.part.batches) in
    record {
      file = put.part.text;
      is_file = record {
        reads = subst (λ taps. IsFileOf put.part.text taps) (sym all) put.reads;
        batches = put.part.batches;
        are = put.part.are;
        all_taps = all;
        filled = filled_whole put.part.batches put.part.full;
      };
      appended = put.part.appended;
    }

-- the taps that waited were written as the last batch
pub written_more : (old here there : Option (List ℕ)) (taps waiting : List TapFields)
    → HasPut old here taps waiting → 0 < length waiting → length waiting ≤ 512
    → IsBatchWritten here there waiting → IsWritten old there taps
written_more old here there taps waiting put some most (text, encoded, appended) =
    let all : taps ≡ joined (put.part.batches ++ waiting ∷ []) =
    put.all_taps ∙ sym (joined_more put.part.batches waiting) in
    record {
      file = put.part.text ++ text;
      is_file = record {
        reads = subst (λ taps. IsFileOf (put.part.text ++ text) taps) (sym put.all_taps)
            (more_text put.part.text text (joined put.part.batches) waiting put.reads encoded);
        batches = put.part.batches ++ waiting ∷ [];
        are = batches_more put.part.text text put.part.batches waiting put.part.are encoded;
        all_taps = all;
        filled = filled_more put.part.batches waiting put.part.full some most;
      };
      appended = Appends-trans old here there put.part.text text put.part.appended appended;
    }
