use Rattle.std.proofs.Common.{◌++◌, List, ℕ, ap, append-nil, string_bytes, sym, take, ◌∙◌, ◌∷◌, []}
use Rattle.fare_texts.specs.ExplainedJson.{dated_json, later_json}
use Rattle.std.proofs.lemmas.List.{flat_map_more, take_more}
use Rattle.std.proofs.lemmas.Option.{slice_get_within, get_or_from_slice_get}
use Rattle.std.specs.List.{flat_map}
use Rattle.tariffs.specs.{TableMeaning.TableMeaning, declared.terms.Terms.Terms}
use Rattle.fare_texts.proofs.explained.json.write_later.Goals as goal

pub loop-position-init : goal.loop-position-init
loop-position-init c = sym (append-nil (string_bytes c.args.text.now))

pub loop-position-preserved : goal.loop-position-preserved
loop-position-preserved c =
    let later = c.args.table.now.later in
    let position = c.loop-position.position in
    let next : ℕ × TableMeaning = (c.later-from.result.0, c.later-from.result.1.now.meaning) in
    let line = later_json c.args.clock.now c.args.token.now in
    let start = string_bytes c.args.text.now in
    let at = c.later-from.ensures in
    c.in_ok-write_dated.ensures
    ∙ ap (λ (t : Terms). string_bytes c.loop-position.text
    ++ dated_json c.args.clock.now next.0 t)
    c.terms_of.ensures.terms
    ∙ ap (λ (t : List ℕ). t ++ line next) c.loop-position.invariant
    ∙ flat_map_more line start (take position later) next
    ∙ ap (λ (ns : List (ℕ × TableMeaning)). start ++ flat_map line ns)
    (ap (λ n. take position later ++ n ∷ []) (sym (get_or_from_slice_get later position next next at))
    ∙ sym (take_more later position next (slice_get_within later position next at)))
