-- One upload more is decoded.
use Rattle.std.proofs.Common.{◌≡◌, ◌∙◌, ◌+◌, ◌<◌, ℕ, Bor, List, [], ◌∷◌, ◌++◌, Option, ap}
use Rattle.std.proofs.Common.{append-nil, append_assoc, drop, flat_map, get_or, length, map, inl}
use Rattle.std.proofs.Common.{inr, refl, subst, sym}
use Rattle.frame.proofs.Giving.{gave_load, part_text, stopped_at}
use Rattle.frame.proofs.Outcomes.{stopped_early}
use Rattle.frame.specs.Given.{Given, gave, load_of, with_loads, with_text}
use Rattle.frame.specs.{Names.file_named, Outcome.IsHalted, Outsides.IsStoppedIn, Outsides.StopsIn}
use Rattle.frame.specs.declared.outside.Outside.{Outside, TheVariants.NoMemory}
use Rattle.std.proofs.{Math.Bool.and-true, lemmas.List.drop_more}
use Rattle.std.proofs.lemmas.List.{map-append, Concat.flat_map-append, Folds.list_all-append}
use Rattle.std.specs.Prelude.{◌&&◌, is_none}
use Rattle.tap_rows.specs.{Decoded.IsDecoded, TapTables.head}
use Rattle.tap_views.specs.declared.fault.LayoutFault.{LayoutFault}
use Rattle.tool_tasks.specs.Decode.{Decoded, are_whole, decode_rule, decoding_of, words_of}
use Rattle.tool_tasks.specs.inside.Decode.{StopsDecoding, with_decoded}
use Rattle.world.specs.Run.{Run, with_load}

-- ---- one more
-- of the bytes that were loaded, and the rows that are written
abbrev pub decoded_of : (word upload bytes piece rows : List ℕ) (fault : Option (ℕ × LayoutFault))
    → bytes ≡ upload → piece ≡ rows → IsDecoded bytes rows fault → Decoded
decoded_of word upload bytes piece rows fault same also is = record {
  word = word;
  upload = upload;
  rows = piece;
  fault = fault;
  is_decoded = rw (← same, also) is;
}

pub decoding_push : (decoded : List Decoded) (one : Decoded) (note : List ℕ)
    → with_decoded (decoding_of decoded note) one ≡ decoding_of (decoded ++ one ∷ []) note
decoding_push decoded one note =
    rw (
      map-append (λ (d : Decoded). load_of d.word d.upload) decoded (one ∷ []),
      flat_map-append (λ (d : Decoded). d.rows) decoded (one ∷ []),
      append-nil one.rows,
      append_assoc (head ++ 10 ∷ []) (flat_map (λ (d : Decoded). d.rows) decoded) one.rows,
    ) refl

pub whole_push : (decoded : List Decoded) (one : Decoded)
    → are_whole (decoded ++ one ∷ []) ≡ (are_whole decoded && is_none one.fault)
whole_push decoded one =
    list_all-append (λ (d : Decoded). is_none d.fault) decoded (one ∷ [])
    ∙ ap (λ b. are_whole decoded && b) (and-true (is_none one.fault))

-- the words of one more, and the rest
pub words_push : (words : List (Bor (List ℕ))) (n : ℕ) (d : Bor (List ℕ)) (decoded : List Decoded)
    (one : Decoded) → n < length words
    → map (λ w. w.now) words ≡ words_of decoded ++ map (λ w. w.now) (drop n words)
    → one.word ≡ (get_or words n d).now
    → map (λ w. w.now) words
    ≡ words_of (decoded ++ one ∷ []) ++ map (λ w. w.now) (drop (n + 1) words)
words_push words n d decoded one within are is =
    let rest = map (λ w. w.now) (drop (n + 1) words) in
    are ∙ ap (λ (ws : List (Bor (List ℕ))). words_of decoded ++ map (λ w. w.now) ws)
    (drop_more words n d within)
    ∙ ap (λ w. words_of decoded ++ w ∷ rest) (sym is)
    ∙ sym (append_assoc (words_of decoded) (one.word ∷ []) rest)
    ∙ ap (λ ws. ws ++ rest) (sym (map-append (λ (o : Decoded). o.word) decoded (one ∷ [])))

-- ---- stops
-- it was loaded, and an allocation failed
pub stopped_loaded : (words : List (List ℕ)) (old new : Run) (one : Decoded)
    → new ≡ with_load old (file_named one.word) one.upload
    → StopsIn words old new (λ g. with_decoded g one) NoMemory
stopped_loaded words old new one loaded start g is =
    let g' = with_loads g (load_of one.word one.upload ∷ []) in
    stopped_early words start new g' (λ g. with_text g one.rows) NoMemory
    (λ part g is_part. part_text part g one.rows is_part)
    (stopped_at words start new new g' NoMemory
    (gave_load old new start g (file_named one.word) one.upload loaded is) refl)

-- a part of what the first uploads are decoded to was given
pub halted_part : (words : List (List ℕ)) (start new : Run) (decoded : List Decoded) (note : List ℕ)
    (rest : List (List ℕ)) (why : Outside) → words ≡ words_of decoded ++ rest
    → IsStoppedIn words start new (decoding_of decoded note) why
    → IsHalted (decode_rule words) start new why
halted_part words start new decoded note rest why named s = record {
  part = s.part;
  partial = record {
    decoded = decoded;
    rest = rest;
    named = named;
    note = note;
    is_part = s.is_part;
  };
  leaves = s.leaves;
}

-- it came when one more was decoded
pub halted_one : (words : List (Bor (List ℕ))) (start mid new : Run) (n : ℕ) (d : Bor (List ℕ))
    (decoded : List Decoded) (note : List ℕ) (why : Outside) → n < length words
    → map (λ w. w.now) words ≡ words_of decoded ++ map (λ w. w.now) (drop n words)
    → mid ≡ gave start (decoding_of decoded note)
    → StopsDecoding (map (λ w. w.now) words) (get_or words n d).now mid new why
    → IsHalted (decode_rule (map (λ w. w.now) words)) start new why
halted_one words start mid new n d decoded note why within are is (inl leaves) =
    halted_part (map (λ w. w.now) words) start new decoded note (map (λ w. w.now) (drop n words)) why
    are (stopped_at (map (λ w. w.now) words) start mid new (decoding_of decoded note) why is leaves)
halted_one words start mid new n d decoded note why within are is (inr (one, word, stops)) =
    halted_part (map (λ w. w.now) words) start new (decoded ++ one ∷ []) note
    (map (λ w. w.now) (drop (n + 1) words)) why (words_push words n d decoded one within are word)
    (subst (λ (whole : Given). IsStoppedIn (map (λ w. w.now) words) start new whole why)
    (decoding_push decoded one note) (stops start (decoding_of decoded note) is))
