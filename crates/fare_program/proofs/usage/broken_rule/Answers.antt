use Rattle.std.proofs.Common.{◌≡◌, ◌∙◌, ◌==◌, Bor, List, None, Option, Some, ap, length, not}
use Rattle.std.proofs.Common.{option_map, refl, sym, ℕ}
use Rattle.fare_program.specs.{Usage.rules_by, inside.Options.request_of}
use Rattle.program_manners.specs.TableViews.{names_of}
use Rattle.std.proofs.lemmas.List.{length-map}
use Rattle.std.specs.{List.list_all, Prelude.is_some}
use Rattle.fare_program.proofs.usage.broken_rule.Goals as goal

mapped : {A B : Type 0} (f : A → B) (x : Option A) → is_some x ≡ is_some (option_map f x)
mapped f None = refl
mapped f (Some x) = refl

pub returns : goal.returns
returns c =
    let options = c.args.options.now in
    let table = c.is_some-table.ensures ∙ mapped names_of options.table in
    let token = c.is_some-token.ensures ∙ mapped (λ t. t.now) options.token in
    let range = c.is_some-range.ensures ∙ mapped (λ t. t.now) options.tokens in
    let file = ap not (c.is_empty-file.ensures
    ∙ ap (λ (names : List (Bor (List ℕ))). length names == 0) c.as_slice.ensures.value
    ∙ ap (λ n. n == 0) (sym (length-map options.files.items (λ f. f.now)))) in
    c.first_broken.ensures ∙ (λ i. list_all (λ kept. kept)
    (rules_by (table i) (token i) (file i) (range i) (request_of options)))
