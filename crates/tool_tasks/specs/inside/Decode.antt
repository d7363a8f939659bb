-- What one more upload adds: what private functions alone cite.
use Rattle.frame.specs.Given.{Given, load_of, with_loads, with_text}
use Rattle.frame.specs.{Outsides.Leaves, Outsides.StopsIn, declared.outside.Outside.Outside}
use Rattle.std.specs.Prelude.{◌≡◌, ◌⊎◌, ℕ, List, [], ◌∷◌}
use Rattle.tool_tasks.specs.Decode.{Decoded}
use Rattle.world.specs.Run.{Run}

abbrev pub with_decoded : Given → Decoded → Given
with_decoded g one = with_text (with_loads g (load_of one.word one.upload ∷ [])) one.rows

-- the upload of the word was not loaded, or this came when it was
abbrev pub StopsDecoding : List (List ℕ) → List ℕ → Run → Run → Outside → Type 0
StopsDecoding words word old new why = Leaves words why old new
    ⊎ ((one : Decoded) × (one.word ≡ word) × StopsIn words old new (λ g. with_decoded g one) why)
