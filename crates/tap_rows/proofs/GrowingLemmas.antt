-- An upload that grows by a batch at a time.
use Rattle.std.proofs.Common.{◌≡◌, ◌∙◌, ◌<◌, ℕ, zero, suc, List, [], ◌∷◌, ◌++◌, All, ap, append-nil}
use Rattle.std.proofs.Common.{append_assoc, arith, length, length-append, subst, sym}
use Rattle.std.specs.Prelude.{slice_index_or}
use Rattle.tap_rows.specs.{declared.growing.Growing.Growing, inside.Growing.IsGrown}
use Rattle.tap_views.proofs.Texts.{more_text, no_text}
use Rattle.tap_views.specs.Encoding.{AreEncodable, Encodes}
use Rattle.tap_views.specs.{Files.IsFileOf, declared.encoder.TapFields.TapFields}

-- no tap waits, and there is room
none_wait : (waiting : List TapFields) → waiting ≡ [] → AreEncodable (λ tap. tap.moment) waiting
none_wait waiting none = (
  omega (arith, ap length none),
  λ k d within. absurd (omega (arith, within, ap length none)),
)

pub grown_first : (growing : Growing) → growing.upload.items ≡ [] → growing.waiting.items ≡ []
    → IsGrown growing []
grown_first growing none empty = record {
  done = [];
  upload = subst (λ file. IsFileOf file []) (sym none) no_text;
  room = none_wait growing.waiting.items empty;
  all = sym empty;
}

-- those that waited are in the upload
pub grown_batch : (old new : Growing) (taps : List TapFields) (batch : List ℕ) → IsGrown old taps
    → new.upload.items ≡ old.upload.items ++ batch → Encodes batch old.waiting.items
    → new.waiting.items ≡ [] → IsGrown new taps
grown_batch old new taps batch is put encodes empty = record {
  done = is.done ++ old.waiting.items;
  upload = subst (λ file. IsFileOf file (is.done ++ old.waiting.items)) (sym put)
      (more_text old.upload.items batch is.done old.waiting.items is.upload encodes);
  room = none_wait new.waiting.items empty;
  all = is.all ∙ sym (append-nil (is.done ++ old.waiting.items))
      ∙ ap (λ ts. (is.done ++ old.waiting.items) ++ ts) (sym empty);
}

-- one early tap more
early_push : (taps : List TapFields) (tap : TapFields)
    → All (λ tap. tap.moment < 4102444800000) taps → tap.moment < 4102444800000
    → (k : ℕ) (d : TapFields) → k < length (taps ++ tap ∷ [])
    → (slice_index_or (taps ++ tap ∷ []) k d).moment < 4102444800000
early_push [] tap all is zero d within = is
early_push [] tap all is (suc k) d within = absurd (omega (arith, within))
early_push (first ∷ taps) tap all is zero d within = all 0 d (omega arith)
early_push (first ∷ taps) tap all is (suc k) d within =
    early_push taps tap (λ j e inside. all (suc j) e (omega (arith, inside))) is k d
    (omega (arith, within))

-- one tap more waits
pub grown_tap : (old new : Growing) (taps : List TapFields) (tap : TapFields) → IsGrown old taps
    → length old.waiting.items < 4096 → tap.moment < 4102444800000
    → new.upload.items ≡ old.upload.items → new.waiting.items ≡ old.waiting.items ++ tap ∷ []
    → IsGrown new (taps ++ tap ∷ [])
grown_tap old new taps tap is room early same pushed = record {
  done = is.done;
  upload = subst (λ file. IsFileOf file is.done) (sym same) is.upload;
  room = subst (AreEncodable (λ tap. tap.moment)) (sym pushed) (
    omega (arith, room, length-append old.waiting.items (tap ∷ [])),
    early_push old.waiting.items tap is.room.1 early,
  );
  all = ap (λ ts. ts ++ tap ∷ []) is.all ∙ append_assoc is.done old.waiting.items (tap ∷ [])
      ∙ ap (λ ts. is.done ++ ts) (sym pushed);
}

-- if none waits, all are in the upload
pub grown_whole : (growing : Growing) (taps : List TapFields) → IsGrown growing taps
    → growing.waiting.items ≡ [] → IsFileOf growing.upload.items taps
grown_whole growing taps is none =
    subst (IsFileOf growing.upload.items) (sym (is.all ∙ ap (λ ts. is.done ++ ts) none
    ∙ append-nil is.done)) is.upload
