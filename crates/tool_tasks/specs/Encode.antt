-- What `encode` does: of the word of its tap table.
use Rattle.frame.specs.{Given.Given, Given.load_of, Outcome.Rule, Outcome.rule_of}
use Rattle.std.specs.Prelude.{◌≡◌, ◌≢◌, ℕ, List, [], ◌∷◌}
use Rattle.tap_rows.specs.TapTables.{IsEncoded, IsRowsFault}
use Rattle.tap_rows.specs.declared.fault.RowsFault.{RowsFault, TheVariants.NoMemory}
use Rattle.world.specs.Run.{Load}

-- The file that the word names was read to its end. What is written is the upload of exactly the taps
-- of the table.
pub record EncodesTable (word : List ℕ) (given : Given) (status : ℕ) : Type 0 where
  pub text : List ℕ
  pub loaded : given.loads ≡ load_of word text ∷ []
  pub encoded : IsEncoded text given.text
  pub files : given.files ≡ []
  pub success : status ≡ 0

-- It was read to its end, and is no tap table, by its head or by its first line that is no row.
pub record IsNoTapTable (word : List ℕ) (loads : List Load) : Type 0 where
  pub text : List ℕ
  pub loaded : loads ≡ load_of word text ∷ []
  pub fault : RowsFault
  pub seen : fault ≢ NoMemory
  pub wrong : IsRowsFault text fault

-- THE rule of `encode`
abbrev pub encode_rule : List ℕ → Rule
encode_rule word = rule_of (EncodesTable word) (IsNoTapTable word) (word ∷ [])
