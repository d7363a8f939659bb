-- Files that are loaded by their words.
use Rattle.std.proofs.Common.{◌≡◌, ◌<◌, ◌∷◌, ◌++◌, [], Bor, ℕ, List, ap, get_or, length, map}
use Rattle.std.proofs.Common.{subst, sym, unwrap_or}
use Rattle.frame.specs.{Outsides.Leaves, declared.outside.Outside.Outside}
use Rattle.std.proofs.{Math.ListN.get_or-map, lemmas.List.length-map}
use Rattle.std.proofs.lemmas.List.Elements.{Contains-append_right, Contains-get_or}
use Rattle.std.specs.Prelude.{Contains}
use Rattle.tool_tasks.specs.{Sort.names_of, inside.Loads.StopsLoading}
use Rattle.tool_words.specs.Request.{SortRequest}
use Rattle.world.specs.{Origins.with_loads, Run.Load, Run.Run}

-- ---- one load after another
pub stops_after : (names : List (List ℕ)) (start mid new : Run) (xs : List Load) (why : Outside)
    → mid ≡ with_loads start xs → Leaves names why mid new → StopsLoading names why start new
stops_after names start mid new xs why was leaves =
    (xs, subst (λ r. Leaves names why r new) was leaves)

-- ---- words

pub word_contained : (words : List (Bor (List ℕ))) (number : ℕ) (d : Bor (List ℕ))
    → number < length words → Contains (map (λ w. w.now) words) (get_or words number d).now
word_contained words number d within =
    let text = λ (w : Bor (List ℕ)). w.now in
    subst (Contains (map text words)) (get_or-map text words number d)
    (Contains-get_or (map text words) number d.now
    (subst (λ n. number < n) (sym (length-map words text)) within))

-- the word of an upload is one of the words
pub upload_named : (request : SortRequest) (words : List (Bor (List ℕ)))
    → request.uploads ≡ map (λ w. w.now) words → (word : List ℕ)
    → Contains (map (λ w. w.now) words) word → Contains (names_of request) word
upload_named request words are word has =
    Contains-append_right (request.out ∷ unwrap_or request.ends request.out ∷ []) request.uploads word
    (subst (λ (ws : List (List ℕ)). Contains ws word) (sym are) has)
