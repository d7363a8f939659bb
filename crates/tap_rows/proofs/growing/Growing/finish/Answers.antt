use Rattle.std.proofs.Common.{◌≡◌, ◌∙◌, [], ap, arith, subst, sym, vec_items, vec_len}
use Rattle.std.proofs.lemmas.{Bool.eqb-true, List.nil_from_length}
use Rattle.tap_rows.proofs.GrowingLemmas.{grown_whole}
use Rattle.tap_views.specs.Files.{IsFileOf}
use Rattle.tap_rows.proofs.growing.Growing.finish.Goals as goal

pub returns-then-is_empty : goal.returns-then-is_empty
returns-then-is_empty c = λ taps is.
    let zero : vec_len c.args.self.waiting ≡ 0 =
    eqb-true _ 0 (sym c.is_empty.ensures ∙ c.if-is_empty.true) in
    let size = c.args.self.waiting.ok.0 in
    let none : c.args.self.waiting.items ≡ [] =
    nil_from_length c.args.self.waiting.items (omega (arith, zero, size)) in
    subst (λ file. IsFileOf file taps) (sym (ap vec_items c.into_upload.ensures))
    (grown_whole c.args.self taps is none)

pub returns : goal.returns
returns c = λ taps is.
    subst (λ file. IsFileOf file taps) (sym (ap vec_items c.into_upload-2.ensures))
    (grown_whole c.put_waiting.new.self taps (c.in_ok-put_waiting.ensures.grown taps is)
    c.in_ok-put_waiting.ensures.empty)
