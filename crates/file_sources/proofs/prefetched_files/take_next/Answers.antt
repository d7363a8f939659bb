use Rattle.std.proofs.Common.{◌≡◌, ◌∙◌, ◌<◌, ◌-◌, ◌∷◌, [], length, arith, Bool, true, false, not}
use Rattle.std.proofs.Common.{ap, ap₂, sym, refl, List, string_bytes, slice_index_or, unwrap_or}
use Rattle.std.proofs.{Common.vec_len, Common.length-append, Math.Seq.get_or-append_seam}
use Rattle.std.proofs.lemmas.{Bool.Decides.Decides-eqb, Slice.Eq.slice_eq-Decides}
use Rattle.world.specs.declared.loaded.Loaded.{Loaded}
use Rattle.file_sources.proofs.prefetched_files.take_next.Goals as goal

not_false : (b : Bool) → false ≡ not b → true ≡ b
not_false true e = refl
not_false false e = sym e

-- the file that was looked at is the one that was taken
pub returns : goal.returns
returns c =
    let ahead = c.args.ahead.now.items in
    let next = c.in_ok-next.next in
    let found = c.in_ok-last.ensures.item.3 in
    let some : 0 < vec_len c.args.ahead.now = rw (← c.deref.ensures.len) found.0 in
    let seen : c.in_ok-last.field-0.now ≡ slice_index_or ahead (vec_len c.args.ahead.now - 1) next =
    found.1 next ∙ ap₂ (λ files n. slice_index_or files (n - 1) next) c.deref.ensures.value
    c.deref.ensures.len in
    let taken : next ≡ slice_index_or ahead (vec_len c.args.ahead.now - 1) next =
    ap (λ o. unwrap_or o next) (c.in_ok-next.ensures.value next some) in
    let name : c.as_str.result.now ≡ c.args.name.now =
    (slice_eq-Decides Decides-eqb _ _ true (not_false _ c.if-ne.ensures)).0 refl in (
      c.in_ok-next.ensures.items,
      ap (λ f. string_bytes f.name) (taken ∙ sym seen)
          ∙ (ap string_bytes (sym c.name.ensures) ∙ (sym c.as_str.ensures.value ∙ name)),
    )
