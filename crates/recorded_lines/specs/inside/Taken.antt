-- What is at hand of the next line.
use Rattle.line_folds.specs.declared.reader.ReadFault.{ReadFault, TheVariants.Unread}
use Rattle.recorded_lines.specs.Texts.{CanBe, Follows, IsEndAt, calls_of, left}
use Rattle.recorded_lines.specs.{Unread.IsUnread, declared.text.Lines.Lines}
use Rattle.std.specs.Prelude.{◌≡◌, ◌==◌, ⊤, ℕ, Bool, false, List, [], ◌∷◌, ◌++◌, IfErr, IfOk}
use Rattle.std.specs.Prelude.{Result}

-- no byte but the last is a line feed
abbrev pub IsLine : List ℕ → Type 0
IsLine [] = ⊤
IsLine (byte ∷ []) = ⊤
IsLine (byte ∷ other ∷ more) = ((byte == 10) ≡ false) × IsLine (other ∷ more)

-- the last byte is a line feed
abbrev pub ends_line : List ℕ → Bool
ends_line [] = false
ends_line (byte ∷ []) = byte == 10
ends_line (byte ∷ other ∷ more) = ends_line (other ∷ more)

-- the bytes through the first line feed were taken; or all, of which none is one
pub record HasTaken (before after line line' : List ℕ) (is_whole : Bool) : Type 0 where
  pub front : List ℕ
  pub is_line : IsLine front
  pub ends : ends_line front ≡ is_whole
  pub split : before ≡ front ++ after
  pub taken : line' ≡ line ++ front
  pub all : is_whole ≡ false → after ≡ []

-- it was read on once: if that gave no bytes, the text has ended
pub record HasReadOn (old new : Lines) (result : Result Bool ReadFault) : Type 0 where
  pub follows : Follows old new
  pub left : (whole : List ℕ) → IfOk result (λ some. CanBe (calls_of new) whole
      → left old whole ≡ left new whole)
  pub ended : IfOk result (λ some. some ≡ false → IsEndAt new)
  pub unread : IfErr result (λ why. why ≡ Unread → IsUnread (calls_of new))
