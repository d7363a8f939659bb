-- A writer that writes a text in another form.
use Rattle.std.specs.Prelude.{ℕ, List, Option, None, Some}
use Rattle.text_forms.specs.declared.shape.Shape.{Shape}

-- what is known, if the text is written as it is
abbrev pub if_text : Option Shape → Option (List ℕ) → Option (List ℕ)
if_text None known = known
if_text (Some shape) known = None
