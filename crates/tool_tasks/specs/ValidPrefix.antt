-- What `uploads --good-part` makes: of the words of its upload and of its file.
use Rattle.frame.specs.{Given.Given, Given.file_of, Given.load_of, Outcome.Rule, Outcome.rule_of}
use Rattle.std.specs.Prelude.{◌≡◌, ℕ, List, [], ◌∷◌, if◌then◌else◌, is_none}
use Rattle.tap_views.specs.{Facts.AreFacts, Facts.IsValidPrefix, declared.facts.Facts.Facts}
use Rattle.tool_words.specs.Request.{ValidPrefixRequest}

-- The upload was loaded, and the file was made of its batches before its first layout fault. Nothing
-- is said of the text and of the note.
pub record HasValidPrefix (request : ValidPrefixRequest) (given : Given) (status : ℕ)
    : Type 0 where
  pub upload : List ℕ
  pub loaded : given.loads ≡ load_of request.upload upload ∷ []
  pub file : List ℕ
  pub valid : IsValidPrefix upload file
  pub made : given.files ≡ file_of request.out file ∷ []
  pub facts : Facts
  pub are_facts : AreFacts upload facts
  pub status_is : status ≡ (if is_none facts.fault then 0 else 1)

-- THE rule of `uploads --good-part`
abbrev pub valid_prefix_rule : ValidPrefixRequest → Rule
valid_prefix_rule request =
    rule_of (HasValidPrefix request) (λ loads. ⊥) (request.upload ∷ request.out ∷ [])
