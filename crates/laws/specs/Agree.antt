-- What two settled runs print of the same taps.
use Rattle.report_texts.specs.Report.{uploads_section}
use Rattle.std.specs.Prelude.{◌≡◌, ◌++◌, ℕ, Bool, true, false, List, Option, Some, None}
use Rattle.tap_views.specs.UploadEnds.{ArePlainEnds}
use Rattle.tap_views.specs.declared.{token.Token.Token, upload_end.UploadEnd.UploadEnd}

-- both texts are the same after the lines of their uploads
pub record DifferInUploads (uploads others : List (List ℕ)) (text other : List ℕ) : Type 0 where
  pub ends : List UploadEnd
  pub other_ends : List UploadEnd
  pub of_uploads : ArePlainEnds uploads ends
  pub of_others : ArePlainEnds others other_ends
  pub rest : List ℕ
  pub text_is : text ≡ uploads_section ends ++ rest
  pub other_is : other ≡ uploads_section other_ends ++ rest

-- The two texts are the same: ledgers, if requested, else statements of this token.
-- Without a token they are reports, and the same after the lines of their uploads.
abbrev pub TextsAgree : Bool → Option Token → List (List ℕ) → List (List ℕ) → List ℕ → List ℕ
    → Type 0
TextsAgree true token files others text other = text ≡ other
TextsAgree false None files others text other = DifferInUploads files others text other
TextsAgree false (Some token) files others text other = text ≡ other
