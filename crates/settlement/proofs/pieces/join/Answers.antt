use Rattle.std.proofs.Common.{◌≡◌, ℕ, ◌<◌, ◌≤◌, ◌+◌, List, ◌∷◌, ◌++◌, length, get_or, map, set, sym}
use Rattle.std.proofs.Common.{[], ap, ◌∙◌, arith, append_assoc, inl, inr, length-append}
use Rattle.settlement.proofs.Files.{taps_in}
use Rattle.std.proofs.lemmas.Bool.{cases_lt}
use Rattle.std.proofs.lemmas.List.{get_or_default, get_or-set_same, get_or-set_other, length-set}
use Rattle.std.proofs.lemmas.List.{get_or_append_left, get_or-append-add, length-map, map-append}
use Rattle.std.specs.{Prelude.◌⊎◌, Vec.Iter.into_iter_items}
use Rattle.tap_views.specs.declared.encoder.TapFields.{TapFields}
use Rattle.settlement.proofs.pieces.join.Goals as goal

pub loop-piece-preserved : goal.loop-piece-preserved
loop-piece-preserved c =
    let inv = c.loop-piece.invariant in
    let steps = c.in-Some.ensures.steps in
    let piece = c.in-Some.piece in
    let yielded = c.loop-piece.yielded in
    let now = c.loop-piece.parts in
    let old = c.args.parts.now in
    let at = c.loop-piece.position in
    let pushed = c.push.new.self in
    let target = c.index-parts-position.result in
    let within : at < length now =
    omega (
      arith,
      inv.number,
      c.requires,
      inv.position,
      ap length inv.left,
      ap length (sym steps.0),
      length-append yielded
          (into_iter_items c.loop-piece.piece-iterator),
    ) in
    let was : get_or now at target ≡ get_or old at [] =
    get_or_default now at target [] within ∙ inv.rest at (omega arith) in
    let ys = map taps_in yielded in
    let more : map taps_in (yielded ++ piece ∷ []) ≡ ys ++ piece.items ∷ [] =
    map-append taps_in yielded (piece ∷ []) in
    let of_piece : get_or (ys ++ piece.items ∷ []) at [] ≡ piece.items =
    ap (λ n. get_or (ys ++ piece.items ∷ []) n []) (let e : at
    ≡ length ys + 0 = omega (arith, inv.position, length-map yielded taps_in) in
    e) ∙ get_or-append-add ys (piece.items ∷ []) 0 [] in
    record {
      may = tt;
      ends = tt;
      left = append_assoc yielded (piece ∷ []) (into_iter_items c.next.new.self)
          ∙ ap (λ us. yielded ++ us) (sym steps.0) ∙ inv.left;
      left_len = omega (arith, steps.1, inv.left_len, ap length steps.0);
      position = omega (arith, inv.position, length-append yielded (piece ∷ []));
      number = length-set now at pushed ∙ inv.number;
      joined = λ part below.
          by_position part (cases_lt part at) below (get_or-set_same now at pushed [] within)
          (c.in_ok-push.ensures ∙ ap (λ ts. ts ++ piece.items) was) of_piece
          ∙ ap (λ (ts : List (List TapFields)). get_or old part [] ++ get_or ts part []) (sym more);
      rest = λ part above. get_or-set_other now at part pushed [] (λ e. omega (arith, e, above))
          ∙ inv.rest part (omega (arith, above));
    }
  where
    by_position : (part : ℕ) → (part < c.loop-piece.position) ⊎ (c.loop-piece.position ≤ part)
        → part < c.loop-piece.position + 1
        → get_or (set c.loop-piece.parts c.loop-piece.position c.push.new.self)
        c.loop-piece.position []
        ≡ c.push.new.self
        → c.push.new.self ≡ get_or c.args.parts.now c.loop-piece.position
        [] ++ c.in-Some.piece.items
        → get_or (map taps_in c.loop-piece.yielded ++ c.in-Some.piece.items ∷ [])
        c.loop-piece.position
        []
        ≡ c.in-Some.piece.items
        → get_or (set c.loop-piece.parts c.loop-piece.position c.push.new.self) part []
        ≡ get_or c.args.parts.now part []
        ++ get_or (map taps_in c.loop-piece.yielded ++ c.in-Some.piece.items ∷ []) part []
    by_position part (inl less) below there pushed of_piece =
        get_or-set_other c.loop-piece.parts c.loop-piece.position part c.push.new.self [] (λ e.
        omega (arith, e, less))
        ∙ c.loop-piece.invariant.joined part less
        ∙ ap (λ ts. get_or c.args.parts.now part [] ++ ts)
        (sym (get_or_append_left (map taps_in c.loop-piece.yielded) (c.in-Some.piece.items ∷ []) []
        part
        (omega (
          arith,
          less,
          c.loop-piece.invariant.position,
          length-map c.loop-piece.yielded taps_in,
        ))))
    by_position part (inr above) below there pushed of_piece =
        let e : part ≡ c.loop-piece.position = omega (arith, above, below) in
        ap (λ n. get_or (set c.loop-piece.parts c.loop-piece.position c.push.new.self) n []) e
        ∙ there ∙ pushed
        ∙ ap (λ ts. get_or c.args.parts.now c.loop-piece.position [] ++ ts) (sym of_piece)
        ∙ ap (λ n. get_or c.args.parts.now n []
        ++ get_or (map taps_in c.loop-piece.yielded ++ c.in-Some.piece.items ∷ []) n []) (sym e)
